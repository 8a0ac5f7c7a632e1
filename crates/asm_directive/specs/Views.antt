-- How the code's values are seen.
use Rattle.std.specs.Prelude.{ℕ, List, Option}
use Rattle.std.specs.Option.{option_map}
use Rattle.std.specs.Borrow.{Bor}
use Rattle.std.specs.Ordering.{nat_cmp}
use Rattle.std.specs.Cmp.Lexicographic.{slice_cmp}
use Rattle.std.specs.BTreeMap.{get_by}
use Rattle.asm_directive.specs.declared.names.NameMap.{NameMap}
use Rattle.asm_directive.specs.declared.statements.Statement as declared_statement
use Rattle.asm_directive.specs.declared.forms.ParameterMap.{ParameterMap}
use Rattle.asm_directive.specs.declared.forms.Mark.{Mark}
use Rattle.asm_directive.specs.declared.forms.Opening.{Opening}
use Rattle.asm_directive.specs.declared.forms.NamedMacro.{NamedMacro}
use Rattle.asm_directive.specs.Names.{Names}
use Rattle.asm_directive.specs.Statements.{Statement}
use Rattle.asm_directive.specs.Directives.{Parameters, LineMark, Head, Named}

-- what names stand for
unfoldable pub names_of : {T : Type 0} → NameMap T → Names T
names_of map name = get_by (λ key. slice_cmp nat_cmp name key.now) map.map

abbrev pub parameters_of : ParameterMap → Parameters
parameters_of parameters = record { count = parameters.count; place = names_of parameters.places }

abbrev pub parameters_if : Option ParameterMap → Option Parameters
parameters_if parameters = option_map parameters_of parameters

abbrev pub statement_of : declared_statement.Statement → Statement
statement_of statement = record { directive = statement.directive; tokens = statement.tokens.now }

abbrev pub name_of : Option (Bor (List ℕ)) → Option (List ℕ)
name_of name = option_map (λ bytes. bytes.now) name

abbrev pub line_mark_of : Option Mark → Option LineMark
line_mark_of mark = option_map (λ said. record { number = said.number; name = said.name }) mark

abbrev pub head_of : Option Opening → Option Head
head_of opening = option_map (λ said. record { parameters = parameters_of said.parameters; body = said.body.now }) opening

abbrev pub named_of : Option NamedMacro → Option Named
named_of named =
    option_map (λ said. record { name = said.name.now; parameters = parameters_if said.parameters; body = said.body.now }) named

-- What is read and put out has the form of tokens and one of these positions: files.
use Rattle.std.proofs.Common.{◌≡◌, ℕ, zero, suc, ◌+◌, ◌-◌, ◌≤◌, min, ◌&&◌, ◌||◌, ◌==◌, Bool, true, false, List, [], ◌∷◌, All, Option, Some, None, is_some, Result, Ok, inl, inr, refl, bytes_eq, if◌then◌else◌, not, arith}
use Rattle.std.specs.List.{before_first}
use Rattle.std.specs.Option.{option_map}
use Rattle.std.proofs.lemmas.Bool.{cases_Bool}
use Rattle.std.proofs.lemmas.List.Elements.{All-nil, All-cons, All-head, All-tail, All-map, All-take, All-from_recursion}
use Rattle.goasm_base.specs.declared.pos.Pos.{Pos}
use Rattle.goasm_base.specs.Lines.{last_line}
use Rattle.goasm_base.specs.Numbers.{number_of}
use Rattle.asm_lex.specs.declared.token.Kind.TheVariants as kinds
use Rattle.asm_lex.specs.declared.token.Token.{Token}
use Rattle.asm_lex.specs.Numbers.{number_value}
use Rattle.asm_macro.specs.declared.mapping.Mapping.{Mapping}
use Rattle.asm_macro.specs.declared.condition.Condition.{Condition}
use Rattle.asm_macro.specs.declared.refusal.MacroNo.{MacroNo}
use Rattle.asm_directive.specs.declared.keyword.Keyword.{Keyword}
use Rattle.asm_directive.specs.declared.keyword.Keyword.TheVariants as keywords
use Rattle.asm_macro.specs.declared.built_in.BuiltIn.{BuiltIn}
use Rattle.asm_macro.specs.declared.built_in.BuiltIn.TheVariants.{Textflag, Funcdata}
use Rattle.asm_macro.specs.declared.built_in.Row.{Row}
use Rattle.asm_directive.specs.Names.{Names, with_name}
use Rattle.asm_directive.specs.Tokens.{is_word, is_end, is_newline, is_sign, opening, closing, comma}
use Rattle.asm_macro.specs.Definitions.{Definition, Definitions, definition_by}
use Rattle.asm_macro.specs.Refusals.{◌>>=◌}
use Rattle.asm_macro.specs.Places.{RefusedAt}
use Rattle.asm_macro.specs.Uses.{placed_at, expand_statement}
use Rattle.asm_directive.specs.Statements.{Statement, statements_of, rest_of}
use Rattle.asm_directive.specs.Directives.{keyword_of, Head, Words, with_word, words_in, are_distinct, head_by, head_in, Named, LineMark, with_head, definition_behind, definition_in, name_in, quoted_in, mark_in}
use Rattle.asm_macro.specs.Conditions.{is_taken, counted_condition, uncounted_condition, conditions_after_else, conditions_after_endif}
use Rattle.asm_macro.specs.Positions.{mapped_pos, mapping_from}
use Rattle.asm_macro.specs.BuiltIn.{built_in_named, textflag, funcdata, rows_of, is_defined_by, row_definition, with_rows}
use Rattle.asm_macro.specs.Files.{Context, State, Place, Step, Inclusion, Inner, top, step_at, with_conditions, with_definitions, define, undefine, count_use, include_built_in, include_named, include, open_condition, balanced_place, mapped_place, mark, is_empty, execute, skip, read_directive, placed_in, read_plain, end_line, read_statement, end_file, read_entered, read_statements, read_file}
use Rattle.asm_macro.proofs.RefusalLemmas.{Holds, holds_then, holds_either}
use Rattle.asm_macro.proofs.FormLemmas.{IsFormed, Formed, IsSound, Sound, LastEnd, Ready, FormedDefinitions, GoodWork, placed_sound, is_end_from, ready_goes, run_sound}
use Rattle.asm_macro.proofs.FormStatements.{formed_of, AreGood, AreEnded, GoodStatement, statements_good}

-- what a `#define` says

abbrev GoodHead : Option Head → Type 0
GoodHead None = Unit {0}
GoodHead (Some head) = Formed head.body

abbrev GoodWords : Option Words → Type 0
GoodWords None = Unit {0}
GoodWords (Some words) = Formed words.rest

with_word_good : (name : List ℕ) (words : Option Words) → GoodWords words → GoodWords (option_map (with_word name) words)
with_word_good name None good = tt
with_word_good name (Some words) good = good

words_good : (tokens : List Token) → Formed tokens → GoodWords (words_in tokens)
unfolding words_in
words_good [] formed = tt
words_good (word ∷ []) formed = tt
words_good (word ∷ next ∷ tokens) formed =
    let rest : Formed tokens = All-tail IsFormed next tokens (All-tail IsFormed word (next ∷ tokens) formed) in
    holds_either GoodWords (is_word word) _ _
    (holds_either GoodWords (is_sign closing next) _ _ rest
    (holds_either GoodWords (is_sign comma next) _ _ (with_word_good word.text (words_in tokens) (words_good tokens rest)) tt)) tt

head_by_good : (words : Option Words) → GoodWords words → GoodHead (head_by words)
head_by_good None good = tt
head_by_good (Some words) good = holds_either GoodHead (are_distinct words.names) _ _ good tt

head_in_good : (tokens : List Token) → Formed tokens → GoodHead (head_in tokens)
unfolding head_in
head_in_good [] formed = tt
head_in_good (token ∷ tokens) formed =
    holds_either GoodHead (is_sign closing token) _ _ (All-tail IsFormed token tokens formed)
    (head_by_good (words_in (token ∷ tokens)) (words_good (token ∷ tokens) formed))

abbrev GoodNamed : Option Named → Type 0
GoodNamed None = Unit {0}
GoodNamed (Some named) = Formed named.body

with_head_good : (name : List ℕ) (head : Option Head) → GoodHead head → GoodNamed (with_head name head)
with_head_good name None good = tt
with_head_good name (Some head) good = good

behind_named_good : (name : List ℕ) (tokens : List Token) → Formed tokens → GoodNamed (definition_behind name tokens)
unfolding definition_behind
behind_named_good name [] formed = formed
behind_named_good name (token ∷ tokens) formed =
    holds_either GoodNamed (is_sign opening token && token.glued) _ _
    (with_head_good name (head_in tokens) (head_in_good tokens (All-tail IsFormed token tokens formed))) formed

definition_good : (tokens : List Token) → Formed tokens → GoodNamed (definition_in tokens)
unfolding definition_in
definition_good [] formed = tt
definition_good (name ∷ tokens) formed =
    holds_either GoodNamed (is_word name) _ _ (behind_named_good name.text tokens (All-tail IsFormed name tokens formed)) tt

-- macros in force

pub GoodMacro : Option Definition → Type 0
GoodMacro value = (definition : Definition) → value ≡ Some definition → Formed definition.body

pub named_good : (definitions : Definitions) (name : List ℕ) (value : Option Definition)
    → FormedDefinitions definitions → GoodMacro value → FormedDefinitions (with_name definitions name value)
unfolding with_name GoodMacro
named_good definitions name value all one = λ other. holds_either GoodMacro (bytes_eq name other) value (definitions other) one (all other)

pub some_good : (definition : Definition) → Formed definition.body → GoodMacro (Some definition)
unfolding GoodMacro
some_good definition formed = λ other is. let same : definition ≡ other = cc in rw (← same) formed

none_good : GoodMacro None
unfolding GoodMacro
none_good = λ other is. cc

-- a source's state, of which there may be so many tokens with those that may still be made

pub record GoodState (P : Pos → Type 0) (most : ℕ) (state : State) : Type 0 where
  pub macros : FormedDefinitions state.definitions
  pub work : GoodWork P most state.work

abbrev pub StateOrRefusal : (Pos → Type 0) → ℕ → Result State MacroNo → Type 0
StateOrRefusal P most answer = Holds (GoodState P most) (RefusedAt P) answer

with_macros : (P : Pos → Type 0) (most : ℕ) (state : State) (definitions : Definitions)
    → GoodState P most state → FormedDefinitions definitions → GoodState P most (with_definitions state definitions)
with_macros P most state definitions good all = record { macros = all; work = good.work }

define_good : (P : Pos → Type 0) (most : ℕ) (pos : Pos) (named : Option Named) (state : State)
    → P pos → GoodNamed named → GoodState P most state → StateOrRefusal P most (define pos named state)
unfolding define
define_good P most pos None state here body good = here
define_good P most pos (Some named) state here body good =
    holds_either (StateOrRefusal P most) (is_some (state.definitions named.name)) _ _ here
    (with_macros P most state _ good (named_good state.definitions named.name (Some (definition_by named)) good.macros (some_good (definition_by named) body)))

undefine_good : (P : Pos → Type 0) (most : ℕ) (pos : Pos) (name : Option (List ℕ)) (state : State)
    → P pos → GoodState P most state → StateOrRefusal P most (undefine pos name state)
unfolding undefine
undefine_good P most pos None state here good = here
undefine_good P most pos (Some name) state here good = with_macros P most state _ good (named_good state.definitions name None good.macros none_good)

count_use_good : (P : Pos → Type 0) (most levels : ℕ) (pos : Pos) (state : State)
    → P pos → GoodState P most state → StateOrRefusal P most (count_use levels pos state)
count_use_good P most levels pos state here good =
    holds_either (StateOrRefusal P most) (levels == 0) _ _ here
    (holds_either (StateOrRefusal P most) (state.work.uses == 0) _ _ here
    (record { macros = good.macros; work = record { made = record { out = good.work.made.out; count = good.work.made.count }; ends = good.work.ends } }))

-- the built-in files

GoodRow : Row → Type 0
GoodRow row = Formed row.body

textflag_good : All GoodRow textflag
unfolding textflag GoodRow number_value number_of
textflag_good =
    let one : (value : ℕ) (text : List ℕ) → number_value text ≡ Some value → Formed (record { pos = record { file = 0; line = 1 }; glued = false; kind = kinds.Number value; text = text } ∷ [])
    = λ value text is. All-cons IsFormed (record { pos = record { file = 0; line = 1 }; glued = false; kind = kinds.Number value; text = text }) [] is (All-nil IsFormed) in
    All-from_recursion GoodRow textflag (one _ _ refl, (one _ _ refl, (one _ _ refl, (one _ _ refl, (one _ _ refl, (one _ _ refl, (one _ _ refl, (one _ _ refl, (one _ _ refl, (one _ _ refl, (one _ _ refl, (one _ _ refl, tt))))))))))))

funcdata_good : All GoodRow funcdata
unfolding funcdata GoodRow
funcdata_good = All-from_recursion GoodRow funcdata (All-nil IsFormed, (All-nil IsFormed, (All-nil IsFormed, tt)))

rows_good : (built_in : BuiltIn) → All GoodRow (rows_of built_in)
rows_good Textflag = textflag_good
rows_good Funcdata = funcdata_good

abbrev pub MacrosOrRefusal : (Pos → Type 0) → Result Definitions MacroNo → Type 0
MacrosOrRefusal P answer = Holds FormedDefinitions (RefusedAt P) answer

row_by : (P : Pos → Type 0) (built_in : BuiltIn) (pos : Pos) (definitions : Definitions) (row : Row) (rows : List Row) (there : Option Definition)
    → definitions row.name ≡ there → P pos
    → MacrosOrRefusal P (with_rows built_in pos (with_name definitions row.name (Some (row_definition built_in row))) rows)
    → MacrosOrRefusal P (with_rows built_in pos definitions rows)
    → MacrosOrRefusal P (with_rows built_in pos definitions (row ∷ rows))
unfolding with_rows
row_by P built_in pos definitions row rows None is here new old = rw (is, with_rows) new
row_by P built_in pos definitions row rows (Some definition) is here new old =
    elim (cases_Bool (is_defined_by built_in definition.origin)) [
      | inl same ↦ rw (is, same, with_rows) old
      | inr other ↦ rw (is, other, with_rows) here
    ]

with_rows_good : (P : Pos → Type 0) (built_in : BuiltIn) (pos : Pos) (definitions : Definitions) (rows : List Row)
    → P pos → FormedDefinitions definitions → All GoodRow rows → MacrosOrRefusal P (with_rows built_in pos definitions rows)
unfolding with_rows GoodRow
with_rows_good P built_in pos definitions [] here all rows = all
with_rows_good P built_in pos definitions (row ∷ more) here all rows =
    row_by P built_in pos definitions row more (definitions row.name) refl here
    (with_rows_good P built_in pos (with_name definitions row.name (Some (row_definition built_in row))) more here
    (named_good definitions row.name (Some (row_definition built_in row)) all (some_good (row_definition built_in row) (All-head GoodRow row more rows)))
    (All-tail GoodRow row more rows))
    (with_rows_good P built_in pos definitions more here all (All-tail GoodRow row more rows))

include_built_in_good : (P : Pos → Type 0) (most levels : ℕ) (pos : Pos) (state : State) (named : Option BuiltIn)
    → P pos → GoodState P most state → StateOrRefusal P most (include_built_in levels pos state named)
unfolding include_built_in
include_built_in_good P most levels pos state None here good = here
include_built_in_good P most levels pos state (Some built_in) here good =
    holds_then (GoodState P most) (GoodState P most) (RefusedAt P) (count_use levels pos state)
    (λ counted. with_rows built_in pos counted.definitions (rows_of built_in) >>= λ definitions. Ok (with_definitions counted definitions))
    (count_use_good P most levels pos state here good)
    (λ counted good. holds_then FormedDefinitions (GoodState P most) (RefusedAt P) (with_rows built_in pos counted.definitions (rows_of built_in))
    (λ definitions. Ok (with_definitions counted definitions))
    (with_rows_good P built_in pos counted.definitions (rows_of built_in) here good.macros (rows_good built_in))
    (λ definitions all. with_macros P most counted definitions good all))

-- the files of a build

-- each line of the file, up to the greatest one, is one of these positions
abbrev pub AreLinesOf : (Pos → Type 0) → ℕ → Type 0
AreLinesOf P file = (line : ℕ) → line ≤ last_line → P (record { file = file; line = line })

unfoldable pub GoodFiles : (Pos → Type 0) → Names (List Token) → Type 0
GoodFiles P files = (name : List ℕ) (tokens : List Token) → files name ≡ Some tokens → AreGood P tokens

unfoldable pub GoodNumbers : (Pos → Type 0) → Names ℕ → Type 0
GoodNumbers P files = (name : List ℕ) (number : ℕ) → files name ≡ Some number → AreLinesOf P number

pub record GoodContext (P : Pos → Type 0) (context : Context) : Type 0 where
  pub includes : GoodFiles P context.includes
  pub files : GoodNumbers P context.files

abbrev GoodEntered : (Pos → Type 0) → Option (List Token) → Type 0
GoodEntered P None = Unit {0}
GoodEntered P (Some tokens) = AreGood P tokens

pub record GoodInclusion (P : Pos → Type 0) (most : ℕ) (inclusion : Inclusion) : Type 0 where
  pub here : GoodState P most inclusion.state
  pub next : GoodEntered P inclusion.entered

include_named_good : (P : Pos → Type 0) (most levels : ℕ) (pos : Pos) (name : List ℕ) (state : State) (given : Option (List Token))
    → P pos → GoodEntered P given → GoodState P most state → Holds (GoodInclusion P most) (RefusedAt P) (include_named levels pos name state given)
unfolding include_named
include_named_good P most levels pos name state (Some tokens) here given good =
    holds_then (GoodState P most) (GoodInclusion P most) (RefusedAt P) (count_use levels pos state) (λ counted. Ok (record { state = counted; entered = Some tokens }))
    (count_use_good P most levels pos state here good) (λ counted good. record { here = good; next = given })
include_named_good P most levels pos name state None here given good =
    holds_then (GoodState P most) (GoodInclusion P most) (RefusedAt P) (include_built_in levels pos state (built_in_named name)) (λ defined. Ok (record { state = defined; entered = None }))
    (include_built_in_good P most levels pos state (built_in_named name) here good) (λ defined good. record { here = good; next = tt })

entered_by : (P : Pos → Type 0) (given : Option (List Token)) → ((tokens : List Token) → given ≡ Some tokens → AreGood P tokens) → GoodEntered P given
entered_by P None all = tt
entered_by P (Some tokens) all = all tokens refl

include_good : (P : Pos → Type 0) (most : ℕ) (context : Context) (levels : ℕ) (pos : Pos) (name : Option (List ℕ)) (state : State)
    → P pos → GoodContext P context → GoodState P most state → Holds (GoodInclusion P most) (RefusedAt P) (include context levels pos name state)
unfolding include GoodFiles
include_good P most context levels pos None state here files good = here
include_good P most context levels pos (Some name) state here files good =
    include_named_good P most levels pos name state (context.includes name) here (entered_by P (context.includes name) (files.includes name)) good

-- a place in a file

abbrev pub GoodMapping : (Pos → Type 0) → Option Mapping → Type 0
GoodMapping P None = Unit {0}
GoodMapping P (Some mapping) = AreLinesOf P mapping.file

abbrev GoodConditions : (Pos → Type 0) → List Condition → Type 0
GoodConditions P conditions = All (λ condition. P condition.pos) conditions

pub record GoodPlace (P : Pos → Type 0) (place : Place) : Type 0 where
  pub mapping : GoodMapping P place.mapping
  pub conditions : GoodConditions P place.conditions

abbrev PlaceOrRefusal : (Pos → Type 0) → Result Place MacroNo → Type 0
PlaceOrRefusal P answer = Holds (GoodPlace P) (RefusedAt P) answer

moved_in : (P : Pos → Type 0) (mapping : Option Mapping) (pos : Pos) → GoodMapping P mapping → P pos → P (mapped_pos mapping pos)
unfolding mapped_pos
moved_in P None pos good here = here
moved_in P (Some mapping) pos good here = good (min (mapping.number + (pos.line - mapping.line - 1)) last_line) (omega arith)

more_conditions : (P : Pos → Type 0) (place : Place) (condition : Condition)
    → GoodPlace P place → P condition.pos → GoodPlace P (with_conditions place (condition ∷ place.conditions))
more_conditions P place condition good here = record {
  mapping = good.mapping;
  conditions = All-cons (λ condition. P condition.pos) condition place.conditions here good.conditions;
}

open_condition_good : (P : Pos → Type 0) (wanted : Bool) (pos : Pos) (name : Option (List ℕ)) (definitions : Definitions) (place : Place)
    → P pos → GoodPlace P place → PlaceOrRefusal P (open_condition wanted pos name definitions place)
unfolding open_condition
open_condition_good P wanted pos None definitions place here good = here
open_condition_good P wanted pos (Some name) definitions place here good =
    more_conditions P place (counted_condition pos (if wanted then is_some (definitions name) else not (is_some (definitions name)))) good here

abbrev ConditionsIf : (Pos → Type 0) → Option (List Condition) → Type 0
ConditionsIf P None = Unit {0}
ConditionsIf P (Some conditions) = GoodConditions P conditions

after_else_good : (P : Pos → Type 0) (alone : Bool) (conditions : List Condition) → GoodConditions P conditions → ConditionsIf P (conditions_after_else alone conditions)
unfolding conditions_after_else
after_else_good P alone [] all = tt
after_else_good P alone (condition ∷ conditions) all =
    holds_either (ConditionsIf P) (condition.has_else || (condition.counts && not alone)) None (Some (record {
      pos = condition.pos;
      counts = condition.counts;
      taken = condition.counts && not condition.taken;
      has_else = true;
    } ∷ conditions)) tt
    (All-cons (λ condition. P condition.pos) (record { pos = condition.pos; counts = condition.counts; taken = condition.counts && not condition.taken; has_else = true }) conditions
    (All-head (λ condition. P condition.pos) condition conditions all) (All-tail (λ condition. P condition.pos) condition conditions all))

after_endif_good : (P : Pos → Type 0) (alone : Bool) (conditions : List Condition) → GoodConditions P conditions → ConditionsIf P (conditions_after_endif alone conditions)
unfolding conditions_after_endif
after_endif_good P alone [] all = tt
after_endif_good P alone (condition ∷ conditions) all =
    holds_either (ConditionsIf P) (condition.counts && not alone) None (Some conditions) tt (All-tail (λ condition. P condition.pos) condition conditions all)

balanced_good : (P : Pos → Type 0) (pos : Pos) (place : Place) (conditions : Option (List Condition))
    → P pos → GoodPlace P place → ConditionsIf P conditions → PlaceOrRefusal P (balanced_place pos place conditions)
balanced_good P pos place None here good all = here
balanced_good P pos place (Some conditions) here good all = record { mapping = good.mapping; conditions = all }

mapped_good : (P : Pos → Type 0) (place : Place) (number line : ℕ) (file : Option ℕ)
    → GoodPlace P place → ((found : ℕ) → file ≡ Some found → AreLinesOf P found) → GoodPlace P (mapped_place place number line file)
unfolding mapping_from
mapped_good P place number line None good all = good
mapped_good P place number line (Some file) good all = record { mapping = all file refl; conditions = good.conditions }

mark_good : (P : Pos → Type 0) (context : Context) (pos : Pos) (line : ℕ) (said : Option LineMark) (place : Place)
    → P pos → GoodContext P context → GoodPlace P place → PlaceOrRefusal P (mark context pos line said place)
unfolding mark GoodNumbers
mark_good P context pos line None place here files good = here
mark_good P context pos line (Some said) place here files good =
    mapped_good P place said.number line (context.files said.name) good (files.files said.name)

-- a statement

pub record GoodStep (P : Pos → Type 0) (most : ℕ) (step : Step) : Type 0 where
  pub place : GoodPlace P step.place
  pub here : GoodState P most step.state
  pub next : GoodEntered P step.entered

abbrev StepOrRefusal : (Pos → Type 0) → ℕ → Result Step MacroNo → Type 0
StepOrRefusal P most answer = Holds (GoodStep P most) (RefusedAt P) answer

state_step : (P : Pos → Type 0) (most : ℕ) (place : Place) (answer : Result State MacroNo)
    → GoodPlace P place → StateOrRefusal P most answer → StepOrRefusal P most (answer >>= λ after. step_at place after)
state_step P most place answer there good =
    holds_then (GoodState P most) (GoodStep P most) (RefusedAt P) answer (λ after. step_at place after) good
    (λ state good. record { place = there; here = good; next = tt })

place_step : (P : Pos → Type 0) (most : ℕ) (state : State) (answer : Result Place MacroNo)
    → GoodState P most state → PlaceOrRefusal P answer → StepOrRefusal P most (answer >>= λ after. step_at after state)
place_step P most state answer here good =
    holds_then (GoodPlace P) (GoodStep P most) (RefusedAt P) answer (λ after. step_at after state) good
    (λ place good. record { place = good; here = here; next = tt })

execute_good : (P : Pos → Type 0) (most : ℕ) (context : Context) (levels : ℕ) (pos : Pos) (line : ℕ) (words : List Token) (place : Place) (state : State) (keyword : Keyword)
    → P pos → GoodContext P context → Formed words → GoodPlace P place → GoodState P most state
    → StepOrRefusal P most (execute context levels pos line words place state keyword)
unfolding execute
execute_good P most context levels pos line words place state keywords.Define here files formed there good =
    state_step P most place (define pos (definition_in words) state) there (define_good P most pos (definition_in words) state here (definition_good words formed) good)
execute_good P most context levels pos line words place state keywords.Undef here files formed there good =
    state_step P most place (undefine pos (name_in words) state) there (undefine_good P most pos (name_in words) state here good)
execute_good P most context levels pos line words place state keywords.Include here files formed there good =
    holds_then (GoodInclusion P most) (GoodStep P most) (RefusedAt P) (include context levels pos (quoted_in words) state)
    (λ inclusion. Ok (record { place = place; state = inclusion.state; entered = inclusion.entered }))
    (include_good P most context levels pos (quoted_in words) state here files good)
    (λ inclusion good. record { place = there; here = good.here; next = good.next })
execute_good P most context levels pos line words place state keywords.Ifdef here files formed there good =
    place_step P most state (open_condition true pos (name_in words) state.definitions place) good (open_condition_good P true pos (name_in words) state.definitions place here there)
execute_good P most context levels pos line words place state keywords.Ifndef here files formed there good =
    place_step P most state (open_condition false pos (name_in words) state.definitions place) good (open_condition_good P false pos (name_in words) state.definitions place here there)
execute_good P most context levels pos line words place state keywords.Else here files formed there good =
    place_step P most state (balanced_place pos place (conditions_after_else (is_empty words) place.conditions)) good
    (balanced_good P pos place (conditions_after_else (is_empty words) place.conditions) here there (after_else_good P (is_empty words) place.conditions there.conditions))
execute_good P most context levels pos line words place state keywords.Endif here files formed there good =
    place_step P most state (balanced_place pos place (conditions_after_endif (is_empty words) place.conditions)) good
    (balanced_good P pos place (conditions_after_endif (is_empty words) place.conditions) here there (after_endif_good P (is_empty words) place.conditions there.conditions))
execute_good P most context levels pos line words place state keywords.Line here files formed there good =
    place_step P most state (mark context pos line (mark_in words) place) good (mark_good P context pos line (mark_in words) place here files there)
execute_good P most context levels pos line words place state keywords.Other here files formed there good = here

skip_good : (P : Pos → Type 0) (pos : Pos) (words : List Token) (place : Place) (keyword : Keyword)
    → P pos → GoodPlace P place → PlaceOrRefusal P (skip pos words place keyword)
unfolding skip
skip_good P pos words place keywords.Define here there = there
skip_good P pos words place keywords.Undef here there = there
skip_good P pos words place keywords.Include here there = there
skip_good P pos words place keywords.Ifdef here there = more_conditions P place (uncounted_condition pos) there here
skip_good P pos words place keywords.Ifndef here there = more_conditions P place (uncounted_condition pos) there here
skip_good P pos words place keywords.Else here there =
    balanced_good P pos place (conditions_after_else (is_empty words) place.conditions) here there (after_else_good P (is_empty words) place.conditions there.conditions)
skip_good P pos words place keywords.Endif here there =
    balanced_good P pos place (conditions_after_endif (is_empty words) place.conditions) here there (after_endif_good P (is_empty words) place.conditions there.conditions)
skip_good P pos words place keywords.Line here there = there
skip_good P pos words place keywords.Other here there = there

directive_good : (P : Pos → Type 0) (most : ℕ) (context : Context) (levels : ℕ) (pos : Pos) (line : ℕ) (words : List Token) (place : Place) (state : State) (keyword : Keyword)
    → P pos → GoodContext P context → Formed words → GoodPlace P place → GoodState P most state
    → StepOrRefusal P most (read_directive context levels pos line words place state keyword)
unfolding read_directive
directive_good P most context levels pos line words place state keyword here files formed there good =
    holds_either (StepOrRefusal P most) (is_taken place.conditions) _ _
    (execute_good P most context levels pos line words place state keyword here files formed there good)
    (place_step P most state (skip pos words place keyword) good (skip_good P pos words place keyword here there))

kind_at : (pos : Pos) (levels : ℕ) (token : Token) → token.kind ≡ kinds.End → is_end (placed_at pos levels token).token ≡ true
unfolding placed_at
kind_at pos levels token is = is_end_from (record token { pos = pos }) is

last_end : (mapping : Option Mapping) (levels : ℕ) (tokens : List Token) → AreEnded tokens → LastEnd (placed_in mapping levels tokens)
last_end mapping levels [] ended = absurd ended
last_end mapping levels (token ∷ []) ended = kind_at (mapped_pos mapping token.pos) levels token ended
last_end mapping levels (token ∷ next ∷ tokens) ended = last_end mapping levels (next ∷ tokens) ended

placed_ready : (P : Pos → Type 0) (mapping : Option Mapping) (levels : ℕ) (tokens : List Token)
    → GoodMapping P mapping → Sound P tokens → AreEnded tokens → Ready P (placed_in mapping levels tokens)
placed_ready P mapping levels tokens good sound ended = record {
  forms = All-map (λ placed. IsSound P placed.token) (λ token. placed_at (mapped_pos mapping token.pos) levels token) tokens
      (λ k d inside. placed_sound P _ levels _ (moved_in P mapping _ good (sound k d inside).place) (sound k d inside).form);
  last = last_end mapping levels tokens ended;
}

plain_good : (P : Pos → Type 0) (most levels : ℕ) (pos : Pos) (tokens : List Token) (place : Place) (state : State)
    → P pos → Sound P tokens → AreEnded tokens → GoodPlace P place → GoodState P most state → StepOrRefusal P most (read_plain levels pos tokens place state)
unfolding read_plain
plain_good P most levels pos tokens place state here sound ended there good =
    holds_either (StepOrRefusal P most) (is_taken place.conditions) _ _
    (holds_then (GoodWork P most) (GoodStep P most) (RefusedAt P) (expand_statement state.definitions pos (placed_in place.mapping levels tokens) state.work)
    (λ work. step_at place (record { definitions = state.definitions; work = work }))
    (run_sound P most state.work.uses state.definitions pos None (placed_in place.mapping levels tokens) state.work here good.macros
    (ready_goes P (placed_in place.mapping levels tokens) state.work.out (placed_ready P place.mapping levels tokens there.mapping sound ended)) good.work.made)
    (λ work made. record { place = there; here = record { macros = good.macros; work = made }; next = tt }))
    (record { place = there; here = good; next = tt })

rest_formed : (words : List Token) → Formed words → Formed (rest_of words)
rest_formed [] formed = formed
rest_formed (word ∷ words) formed = All-tail IsFormed word words formed

statement_good : (P : Pos → Type 0) (most : ℕ) (context : Context) (levels : ℕ) (is_directive : Bool) (tokens : List Token) (place : Place) (state : State)
    → GoodContext P context → Sound P tokens → (is_directive ≡ false → AreEnded tokens) → GoodPlace P place → GoodState P most state
    → StepOrRefusal P most (read_statement context levels is_directive tokens place state)
unfolding read_statement
statement_good P most context levels true [] place state files sound ends there good = record { place = there; here = good; next = tt }
statement_good P most context levels false [] place state files sound ends there good = record { place = there; here = good; next = tt }
statement_good P most context levels true (first ∷ tokens) place state files sound ends there good =
    let words : List Token = before_first is_newline tokens in
    directive_good P most context levels (mapped_pos place.mapping first.pos) (end_line first (first ∷ tokens)) (rest_of words) place state (keyword_of words)
    (moved_in P place.mapping first.pos there.mapping (All-head (IsSound P) first tokens sound).place) files
    (rest_formed words (All-take IsFormed _ tokens (formed_of P tokens (All-tail (IsSound P) first tokens sound)))) there good
statement_good P most context levels false (first ∷ tokens) place state files sound ends there good =
    plain_good P most levels (mapped_pos place.mapping first.pos) (first ∷ tokens) place state
    (moved_in P place.mapping first.pos there.mapping (All-head (IsSound P) first tokens sound).place) sound (ends refl) there good

-- a file

end_good : (P : Pos → Type 0) (most : ℕ) (conditions : List Condition) (state : State)
    → GoodConditions P conditions → GoodState P most state → StateOrRefusal P most (end_file conditions state)
end_good P most [] state all good = good
end_good P most (condition ∷ conditions) state all good = All-head (λ condition. P condition.pos) condition conditions all

Reads : (Pos → Type 0) → ℕ → Inner → Type 0
Reads P most inner = (tokens : List Token) (state : State) → AreGood P tokens → GoodState P most state → StateOrRefusal P most (inner tokens state)

entered_good : (P : Pos → Type 0) (most : ℕ) (inner : Inner) (entered : Option (List Token)) (state : State)
    → Reads P most inner → GoodEntered P entered → GoodState P most state → StateOrRefusal P most (read_entered inner entered state)
unfolding Reads
entered_good P most inner None state reads whole good = good
entered_good P most inner (Some tokens) state reads whole good = reads tokens state whole good

statements_read : (P : Pos → Type 0) (most : ℕ) (inner : Inner) (context : Context) (levels : ℕ) (statements : List Statement) (place : Place) (state : State)
    → Reads P most inner → GoodContext P context → All (GoodStatement P) statements → GoodPlace P place → GoodState P most state
    → StateOrRefusal P most (read_statements inner context levels statements place state)
unfolding read_statements
statements_read P most inner context levels [] place state reads files all there good = end_good P most place.conditions state there.conditions good
statements_read P most inner context levels (statement ∷ statements) place state reads files all there good =
    let first : GoodStatement P statement = All-head (GoodStatement P) statement statements all in
    holds_then (GoodStep P most) (GoodState P most) (RefusedAt P) (read_statement context levels statement.directive statement.tokens place state)
    (λ step. read_entered inner step.entered step.state >>= λ after. read_statements inner context levels statements step.place after)
    (statement_good P most context levels statement.directive statement.tokens place state files first.sound first.ends there good)
    (λ step made. holds_then (GoodState P most) (GoodState P most) (RefusedAt P) (read_entered inner step.entered step.state)
    (λ after. read_statements inner context levels statements step.place after)
    (entered_good P most inner step.entered step.state reads made.next made.here)
    (λ after good. statements_read P most inner context levels statements step.place after reads files (All-tail (GoodStatement P) statement statements all) made.place good))

top_good : (P : Pos → Type 0) → GoodPlace P top
top_good P = record { mapping = tt; conditions = All-nil (λ condition. P condition.pos) }

pub file_good : (P : Pos → Type 0) (most levels : ℕ) (context : Context) (tokens : List Token) (state : State)
    → GoodContext P context → AreGood P tokens → GoodState P most state → StateOrRefusal P most (read_file levels context tokens state)
unfolding read_file Reads
file_good P most zero context tokens state files whole good =
    statements_read P most (λ tokens state. Ok state) context zero (statements_of tokens) top state (λ tokens state whole good. good) files (statements_good P tokens whole) (top_good P) good
file_good P most (suc levels) context tokens state files whole good =
    statements_read P most (read_file levels context) context (suc levels) (statements_of tokens) top state
    (λ tokens state whole good. file_good P most levels context tokens state files whole good) files (statements_good P tokens whole) (top_good P) good

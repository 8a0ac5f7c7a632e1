-- What comes of a build.
use Rattle.std.proofs.Common.{◌≡◌, ℕ, ◌+◌, List, Result, Ok, Err, IfOk, IfErr, refl, ap, ◌∙◌}
use Rattle.asm_lex.specs.declared.token.Token.{Token}
use Rattle.asm_lex.specs.declared.token.Tokens.{Tokens}
use Rattle.asm_macro.specs.declared.refusal.MacroNo.{MacroNo}
use Rattle.asm_macro.specs.declared.limits.Limits.{Limits}
use Rattle.asm_macro.specs.declared.files.Environment.{Environment}
use Rattle.asm_directive.specs.Names.{Names, nothing}
use Rattle.asm_macro.specs.Definitions.{Definitions}
use Rattle.asm_macro.specs.Files.{Context}
use Rattle.asm_directive.specs.LineNames.{line_names_of}
use Rattle.asm_macro.specs.Builds.{greatest_file, numbered, included, defined, expand_sources, context_for, expansion, limits, Done, Refused, outcome, outcome_of}
use Rattle.asm_directive.specs.Views.{names_of}
use Rattle.asm_macro.specs.Views.{files_in, context_of}

pub ok_then : {A B : Type 0} (P Q : A → Type 0) (answer : Result A B) → ((x : A) → P x → Q x) → IfOk answer P → IfOk answer Q
ok_then P Q (Ok x) step holds = step x holds
ok_then P Q (Err fault) step holds = tt

pub err_then : {A B : Type 0} (P Q : B → Type 0) (answer : Result A B) → ((x : B) → P x → Q x) → IfErr answer P → IfErr answer Q
err_then P Q (Ok x) step holds = tt
err_then P Q (Err fault) step holds = step fault holds

made : Names (List Token) → Names ℕ → Context
made includes files = record { includes = includes; files = files }

pub context_is : (environment : Environment) (sources : List Tokens) (includes defines : List (List ℕ × Tokens))
    → files_in environment.includes ≡ included nothing includes
    → names_of environment.files ≡ numbered (greatest_file sources includes defines + 1) (line_names_of sources includes)
    → context_of environment ≡ context_for sources includes defines
unfolding context_of made
context_is environment sources includes defines one other =
    ap (λ files. made files (names_of environment.files)) one ∙ ap (made (included nothing includes)) other

pub expansion_is : (limits : Limits) (sources : List Tokens) (includes defines : List (List ℕ × Tokens)) (context : Context) (definitions : Definitions)
    → context ≡ context_for sources includes defines → defined nothing defines ≡ Ok definitions
    → expansion limits sources includes defines ≡ expand_sources limits.nesting context definitions limits.tokens limits.uses sources
unfolding expansion
expansion_is limits sources includes defines context definitions is given = rw (is, given) refl

pub outcome_done : (sources : List Tokens) (includes defines : List (List ℕ × Tokens)) (all : List Tokens)
    → expansion limits sources includes defines ≡ Ok all → outcome_of sources includes defines ≡ Done all
unfolding outcome_of
outcome_done sources includes defines all is = ap outcome is

pub outcome_refused : (sources : List Tokens) (includes defines : List (List ℕ × Tokens)) (fault : MacroNo)
    → expansion limits sources includes defines ≡ Err fault → outcome_of sources includes defines ≡ Refused fault
unfolding outcome_of
outcome_refused sources includes defines fault is = ap outcome is

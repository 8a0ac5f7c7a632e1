-- What is read and put out has the form of tokens and one of these positions: builds.
use Rattle.std.proofs.Common.{◌≡◌, ℕ, ◌≤◌, List, [], ◌∷◌, length, All, Option, Some, is_some, Result, Ok, bytes_eq, arith, if◌then◌else◌}
use Rattle.std.proofs.lemmas.List.Elements.{All-nil, All-cons, All-head, All-tail, All-take}
use Rattle.std.proofs.lemmas.List.Sums.{sum_by-cons}
use Rattle.goasm_base.specs.declared.pos.Pos.{Pos}
use Rattle.asm_lex.specs.declared.token.Token.{Token}
use Rattle.asm_lex.specs.declared.token.Tokens.{Tokens}
use Rattle.asm_lex.specs.Form.{AreTokens}
use Rattle.asm_macro.specs.declared.refusal.MacroNo.{MacroNo}
use Rattle.asm_macro.specs.declared.limits.Limits.{Limits}
use Rattle.asm_directive.specs.Names.{Names, nothing, with_name}
use Rattle.asm_macro.specs.Definitions.{Definitions}
use Rattle.asm_macro.specs.Refusals.{◌>>=◌}
use Rattle.asm_macro.specs.Places.{RefusedAt}
use Rattle.asm_macro.specs.Files.{Context, State, define, include, read_file}
use Rattle.asm_directive.specs.LineNames.{token_count}
use Rattle.asm_macro.specs.Builds.{included, value_definition, first_pos, defined, start_state, expand_sources, context_for, expansion}
use Rattle.asm_macro.proofs.RefusalLemmas.{Holds, holds_then, holds_either}
use Rattle.asm_macro.proofs.FormLemmas.{IsFormed, Formed, IsSound, Sound, FormedDefinitions}
use Rattle.asm_macro.proofs.FormStatements.{formed_of, AreGood}
use Rattle.asm_macro.proofs.FormFiles.{named_good, some_good, GoodState, MacrosOrRefusal, AreLinesOf, GoodFiles, GoodNumbers, GoodContext, file_good}

-- the tokens stand at these positions
abbrev pub StandAt : (Pos → Type 0) → Tokens → Type 0
StandAt P tokens = All (λ token. P token.pos) tokens.list

-- tokens of a file that a build is made of
pub record IsGoodFile (P : Pos → Type 0) (tokens : Tokens) : Type 0 where
  pub form : AreTokens tokens
  pub file : AreLinesOf P tokens.file
  pub places : StandAt P tokens

sound_both : (P : Pos → Type 0) (tokens : List Token) → Formed tokens → All (λ token. P token.pos) tokens → Sound P tokens
sound_both P tokens formed places = λ k d inside. record { form = formed k d inside; place = places k d inside }

pub good_file : (P : Pos → Type 0) (tokens : Tokens) → IsGoodFile P tokens → AreGood P tokens.list
good_file P tokens good = record { sound = sound_both P tokens.list good.form.forms good.places; ends = good.form.ended }

Good : (Pos → Type 0) → Option (List Token) → Type 0
Good P given = (tokens : List Token) → given ≡ Some tokens → AreGood P tokens

put_files : (P : Pos → Type 0) (files : Names (List Token)) (name : List ℕ) (tokens : List Token)
    → GoodFiles P files → AreGood P tokens → GoodFiles P (with_name files name (Some tokens))
unfolding with_name GoodFiles Good
put_files P files name tokens all good = λ other.
    holds_either (Good P) (bytes_eq name other) (Some tokens) (files other) (λ found is. let same : tokens ≡ found = cc in rw (← same) good) (all other)

pub included_good : (P : Pos → Type 0) (files : Names (List Token)) (includes : List (List ℕ × Tokens))
    → GoodFiles P files → All (λ include. IsGoodFile P include.1) includes → GoodFiles P (included files includes)
unfolding included
included_good P files [] all good = all
included_good P files (include ∷ includes) all good =
    included_good P (if is_some (files include.0) then files else with_name files include.0 (Some include.1.list)) includes
    (holds_either (GoodFiles P) (is_some (files include.0)) files (with_name files include.0 (Some include.1.list)) all
    (put_files P files include.0 include.1.list all (good_file P include.1 (All-head (λ include. IsGoodFile P include.1) include includes good))))
    (All-tail (λ include. IsGoodFile P include.1) include includes good)

pub no_files : (P : Pos → Type 0) → GoodFiles P nothing
unfolding GoodFiles
no_files P = λ name tokens is. cc

first_in : (P : Pos → Type 0) (file : ℕ) (tokens : List Token) → AreLinesOf P file → All (λ token. P token.pos) tokens → P (first_pos file tokens)
first_in P file [] here all = here 1 (omega arith)
first_in P file (token ∷ tokens) here all = All-head (λ token. P token.pos) token tokens all

pub defined_good : (P : Pos → Type 0) (definitions : Definitions) (defines : List (List ℕ × Tokens))
    → FormedDefinitions definitions → All (λ define. IsGoodFile P define.1) defines → MacrosOrRefusal P (defined definitions defines)
unfolding defined
defined_good P definitions [] all good = all
defined_good P definitions (define ∷ defines) all good =
    let first : IsGoodFile P define.1 = All-head (λ define. IsGoodFile P define.1) define defines good in
    holds_either (MacrosOrRefusal P) (is_some (definitions define.0)) _ _ (first_in P define.1.file define.1.list first.file first.places)
    (defined_good P (with_name definitions define.0 (Some (value_definition define.1))) defines
    (named_good definitions define.0 (Some (value_definition define.1)) all
    (some_good (value_definition define.1) (All-take IsFormed _ define.1.list first.form.forms)))
    (All-tail (λ define. IsGoodFile P define.1) define defines good))

-- the results of a build
pub record GoodResults (P : Pos → Type 0) (most : ℕ) (all : List Tokens) : Type 0 where
  pub forms : All AreTokens all
  pub places : All (StandAt P) all
  pub count : token_count all ≤ most

abbrev pub ResultsOrRefusal : (Pos → Type 0) → ℕ → Result (List Tokens) MacroNo → Type 0
ResultsOrRefusal P most answer = Holds (GoodResults P most) (RefusedAt P) answer

more_results : (P : Pos → Type 0) (most file : ℕ) (state : State) (others : List Tokens)
    → GoodState P most state → GoodResults P state.work.room others → GoodResults P most (record { file = file; list = state.work.out } ∷ others)
more_results P most file state others good rest =
    let tokens : Tokens = record { file = file; list = state.work.out } in
    record {
      forms = All-cons AreTokens tokens others (record { forms = formed_of P state.work.out good.work.made.out; ended = good.work.ends }) rest.forms;
      places = All-cons (StandAt P) tokens others (λ k d inside. (good.work.made.out k d inside).place) rest.places;
      count = omega (arith, good.work.made.count, rest.count, sum_by-cons (λ tokens. length tokens.list) tokens others);
    }

start_good : (P : Pos → Type 0) (definitions : Definitions) (room uses : ℕ) → FormedDefinitions definitions → GoodState P room (start_state definitions room uses)
start_good P definitions room uses all = record {
  macros = all;
  work = record { made = record { out = All-nil (IsSound P); count = omega arith }; ends = tt };
}

sources_good : (P : Pos → Type 0) (nesting : ℕ) (context : Context) (definitions : Definitions) (room uses : ℕ) (sources : List Tokens)
    → GoodContext P context → FormedDefinitions definitions → All (IsGoodFile P) sources
    → ResultsOrRefusal P room (expand_sources nesting context definitions room uses sources)
unfolding expand_sources
sources_good P nesting context definitions room uses [] files all good = record { forms = All-nil AreTokens; places = All-nil (StandAt P); count = omega arith }
sources_good P nesting context definitions room uses (tokens ∷ sources) files all good =
    holds_then (GoodState P room) (GoodResults P room) (RefusedAt P) (read_file nesting context tokens.list (start_state definitions room uses))
    (λ state. expand_sources nesting context definitions state.work.room state.work.uses sources >>= λ others. Ok (record { file = tokens.file; list = state.work.out } ∷ others))
    (file_good P room nesting context tokens.list (start_state definitions room uses) files (good_file P tokens (All-head (IsGoodFile P) tokens sources good)) (start_good P definitions room uses all))
    (λ state made. holds_then (GoodResults P state.work.room) (GoodResults P room) (RefusedAt P) (expand_sources nesting context definitions state.work.room state.work.uses sources)
    (λ others. Ok (record { file = tokens.file; list = state.work.out } ∷ others))
    (sources_good P nesting context definitions state.work.room state.work.uses sources files all (All-tail (IsGoodFile P) tokens sources good))
    (λ others rest. more_results P room tokens.file state others made rest))

pub expansion_good : (P : Pos → Type 0) (limits : Limits) (sources : List Tokens) (includes defines : List (List ℕ × Tokens))
    → GoodNumbers P (context_for sources includes defines).files
    → All (IsGoodFile P) sources → All (λ include. IsGoodFile P include.1) includes → All (λ define. IsGoodFile P define.1) defines
    → ResultsOrRefusal P limits.tokens (expansion limits sources includes defines)
unfolding expansion
expansion_good P limits sources includes defines numbers one two three =
    holds_then FormedDefinitions (GoodResults P limits.tokens) (RefusedAt P) (defined nothing defines)
    (λ definitions. expand_sources limits.nesting (context_for sources includes defines) definitions limits.tokens limits.uses sources)
    (defined_good P nothing defines (λ name definition is. cc) three)
    (λ definitions all. sources_good P limits.nesting (context_for sources includes defines) definitions limits.tokens limits.uses sources
    (record { includes = included_good P nothing includes (no_files P) two; files = numbers }) all one)

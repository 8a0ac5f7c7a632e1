-- Loops over the files of a build.
use Rattle.std.proofs.Common.{◌≡◌, ℕ, suc, ◌+◌, ◌<◌, Bool, true, false, max, List, [], ◌∷◌, ◌++◌, drop, length, get_or, Option, Some, None, is_some, Result, Ok, Err, if◌then◌else◌, refl, sym, ap, ◌∙◌, add-one, drop-cons, append_assoc, append-nil, ◌≤◌}
use Rattle.std.specs.Option.{option_map}
use Rattle.std.proofs.lemmas.List.{drop_all}
use Rattle.asm_lex.specs.declared.token.Token.{Token}
use Rattle.asm_lex.specs.declared.token.Tokens.{Tokens}
use Rattle.asm_macro.specs.declared.files.Included.{Included}
use Rattle.asm_macro.specs.declared.macros.Macro.{Macro}
use Rattle.asm_directive.specs.declared.names.NameMap.{NameMap}
use Rattle.asm_macro.specs.declared.refusal.MacroNo.{MacroNo}
use Rattle.asm_directive.specs.Names.{Names, with_name}
use Rattle.asm_macro.specs.Definitions.{Definitions}
use Rattle.asm_macro.specs.Refusals.{◌>>=◌}
use Rattle.asm_macro.specs.Files.{Context, State, read_file}
use Rattle.asm_macro.specs.Builds.{greatest, included, defined, value_definition, start_state, expand_sources}
use Rattle.asm_directive.specs.Views.{names_of}
use Rattle.asm_macro.specs.Views.{definition_of, macros_in, files_in, file_in}
use Rattle.asm_macro.proofs.MacroNameLemmas.{map_name}

pub greatest_append : (most : ℕ) (one other : List ℕ) → greatest most (one ++ other) ≡ greatest (greatest most one) other
greatest_append most [] other = refl
greatest_append most (file ∷ one) other = greatest_append (max most file) one other

pub greatest_all : (most sources includes defines : ℕ) (a b c : List ℕ)
    → sources ≡ greatest most a → includes ≡ greatest sources b → defines ≡ greatest includes c
    → defines ≡ greatest most (a ++ (b ++ c))
greatest_all most sources includes defines a b c one two three =
    three ∙ ap (λ n. greatest n c) two ∙ ap (λ n. greatest (greatest n b) c) one
    ∙ sym (greatest_append (greatest most a) b c) ∙ sym (greatest_append most a (b ++ c))

some_map : {S T : Type 0} (f : S → T) (value : Option S) → is_some (option_map f value) ≡ is_some value
some_map f (Some value) = refl
some_map f None = refl

-- a name that no earlier line defines
pub given_next : (before after : NameMap Macro) (defines : List (List ℕ × Tokens)) (index : ℕ) (item : List ℕ × Tokens) (macro : Macro) (whole : Result Definitions MacroNo)
    → index < length defines → item ≡ get_or defines index item
    → is_some (names_of before item.0) ≡ false → definition_of macro ≡ value_definition item.1
    → names_of after ≡ with_name (names_of before) item.0 (Some macro)
    → defined (macros_in before) (drop index defines) ≡ whole → defined (macros_in after) (drop (index + 1) defines) ≡ whole
unfolding defined
given_next before after defines index item macro whole inside is none made puts known =
    let first : drop index defines ≡ item ∷ drop (index + 1) defines
    = drop-cons defines index item inside ∙ ap (λ here. here ∷ drop (suc index) defines) (sym is) ∙ ap (λ next. item ∷ drop next defines) (sym (add-one index)) in
    let free : is_some (macros_in before item.0) ≡ false = some_map definition_of (names_of before item.0) ∙ none in
    let same : macros_in after ≡ with_name (macros_in before) item.0 (Some (value_definition item.1))
    = ap (λ (names : Names Macro). (λ (name : List ℕ). option_map definition_of (names name))) puts
    ∙ map_name definition_of (names_of before) item.0 (Some macro)
    ∙ ap (λ definition. with_name (macros_in before) item.0 (Some definition)) made in
    let step : defined (with_name (macros_in before) item.0 (Some (value_definition item.1))) (drop (index + 1) defines) ≡ whole
    = rw free at (rw first at known) in
    ap (λ definitions. defined definitions (drop (index + 1) defines)) same ∙ step

-- a file that is included, where no earlier one has its name
chosen_file : (there : Bool) (before after : Names Included) (name : List ℕ) (file : Included)
    → after ≡ (if there then before else with_name before name (Some file))
    → (λ (other : List ℕ). file_in (after other))
    ≡ (if there then (λ (other : List ℕ). file_in (before other)) else with_name (λ (other : List ℕ). file_in (before other)) name (Some file.tokens.now))
chosen_file true before after name file puts =
    ap (λ (names : Names Included). (λ (other : List ℕ). file_in (names other))) puts
chosen_file false before after name file puts =
    ap (λ (names : Names Included). (λ (other : List ℕ). file_in (names other))) puts
    ∙ map_name (λ included. included.tokens.now) before name (Some file)

next_file : (files : Names (List Token)) (item : List ℕ × Tokens) → Names (List Token)
next_file files item = if is_some (files item.0) then files else with_name files item.0 (Some item.1.list)

pub included_next : (before after : NameMap Included) (includes : List (List ℕ × Tokens)) (index : ℕ) (item : List ℕ × Tokens) (file : Included) (whole : Names (List Token))
    → index < length includes → item ≡ get_or includes index item → file.tokens.now ≡ item.1.list
    → names_of after ≡ (if is_some (names_of before item.0) then names_of before else with_name (names_of before) item.0 (Some file))
    → included (files_in before) (drop index includes) ≡ whole → included (files_in after) (drop (index + 1) includes) ≡ whole
unfolding included next_file
included_next before after includes index item file whole inside is list puts known =
    let first : drop index includes ≡ item ∷ drop (index + 1) includes
    = drop-cons includes index item inside ∙ ap (λ here. here ∷ drop (suc index) includes) (sym is) ∙ ap (λ next. item ∷ drop next includes) (sym (add-one index)) in
    let step : included (next_file (files_in before) item) (drop (index + 1) includes) ≡ whole
    = sym (ap (λ files. included (files_in before) files) first) ∙ known in
    let same : files_in after ≡ next_file (files_in before) item
    = chosen_file (is_some (names_of before item.0)) (names_of before) (names_of after) item.0 file puts
    ∙ ap (λ (there : Bool). if there then files_in before else with_name (files_in before) item.0 (Some file.tokens.now)) (sym (some_map (λ included. included.tokens.now) (names_of before item.0)))
    ∙ ap (λ (named : List Token). if is_some (files_in before item.0) then files_in before else with_name (files_in before) item.0 (Some named)) list in
    ap (λ files. included files (drop (index + 1) includes)) same ∙ step

first_left : {T : Type 0} (items : List T) (index : ℕ) (item : T) → index < length items → item ≡ get_or items index item
    → drop index items ≡ item ∷ drop (index + 1) items
first_left items index item inside is =
    drop-cons items index item inside ∙ ap (λ here. here ∷ drop (suc index) items) (sym is) ∙ ap (λ next. item ∷ drop next items) (sym (add-one index))

-- the results that are there, before those that come
abbrev pub with_front : List Tokens → Result (List Tokens) MacroNo → Result (List Tokens) MacroNo
with_front front answer = answer >>= λ others. Ok (front ++ others)

one_more : (front : List Tokens) (next : Tokens) (answer : Result (List Tokens) MacroNo)
    → with_front front (answer >>= λ others. Ok (next ∷ others)) ≡ with_front (front ++ next ∷ []) answer
one_more front next (Ok others) = ap Ok (sym (append_assoc front (next ∷ []) others))
one_more front next (Err fault) = refl

-- a source that is expanded, and one that is refused
pub sources_next : (nesting : ℕ) (context : Context) (definitions : Definitions) (room uses : ℕ) (done after sources : List Tokens) (index : ℕ) (item : Tokens) (state : State)
    → index < length sources → item ≡ get_or sources index item
    → read_file nesting context item.list (start_state definitions room uses) ≡ Ok state
    → after ≡ done ++ record { file = item.file; list = state.work.out } ∷ []
    → with_front done (expand_sources nesting context definitions room uses (drop index sources))
    ≡ with_front after (expand_sources nesting context definitions state.work.room state.work.uses (drop (index + 1) sources))
unfolding expand_sources
sources_next nesting context definitions room uses done after sources index item state inside is reads adds =
    ap (λ rest. with_front done (expand_sources nesting context definitions room uses rest)) (first_left sources index item inside is)
    ∙ rw (reads, adds) (one_more done (record { file = item.file; list = state.work.out }) (expand_sources nesting context definitions state.work.room state.work.uses (drop (index + 1) sources)))

pub sources_refused : (nesting : ℕ) (context : Context) (definitions : Definitions) (room uses : ℕ) (done sources : List Tokens) (index : ℕ) (item : Tokens) (fault : MacroNo)
    → index < length sources → item ≡ get_or sources index item
    → read_file nesting context item.list (start_state definitions room uses) ≡ Err fault
    → with_front done (expand_sources nesting context definitions room uses (drop index sources)) ≡ Err fault
unfolding expand_sources
sources_refused nesting context definitions room uses done sources index item fault inside is reads =
    ap (λ rest. with_front done (expand_sources nesting context definitions room uses rest)) (first_left sources index item inside is)
    ∙ rw reads refl

pub sources_end : (nesting : ℕ) (context : Context) (definitions : Definitions) (room uses : ℕ) (done sources : List Tokens) (index : ℕ) → length sources ≤ index
    → with_front done (expand_sources nesting context definitions room uses (drop index sources)) ≡ Ok done
unfolding expand_sources
sources_end nesting context definitions room uses done sources index spent = rw (drop_all index sources spent) (ap Ok (append-nil done))

pub sources_begin : (answer : Result (List Tokens) MacroNo) → with_front [] answer ≡ answer
sources_begin (Ok others) = refl
sources_begin (Err fault) = refl

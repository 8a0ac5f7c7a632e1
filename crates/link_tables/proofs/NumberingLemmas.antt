-- The names of the files of lines, numbered in their order.
use Rattle.std.proofs.Common.{◌≡◌, ℕ, suc, ◌+◌, ◌<◌, ◌≤◌, List, [], ◌∷◌, ◌++◌, length, drop, get_or, refl, sym, ap, ◌∙◌, add-one}
use Rattle.std.specs.List.{flat_map}
use Rattle.std.proofs.Math.Seq.{drop-cons}
use Rattle.std.proofs.lemmas.List.{drop_all}
use Rattle.asm_target.specs.declared.body.Line.{Line}
use Rattle.link_tables.specs.declared.func_lines.FuncLines.{FuncLines}
use Rattle.link_tables.specs.UsedNames.{with_name, used_after}
use Rattle.link_tables.specs.Files.{file_name, FileNames}
use Rattle.link_tables.specs.Table.{names_of_lines, names_in}

-- the files of the lines below an index are numbered
pub record Numbered {Instr : Type 0} (old now : FileNames) (lines : List (Line Instr)) (index : ℕ) : Type 0 where
  pub build : now.build ≡ old.build
  pub told : used_after now.used (names_of_lines old.build (drop index lines)) ≡ used_after old.used (names_of_lines old.build lines)

pub line_next : {Instr : Type 0} (old now next : FileNames) (lines : List (Line Instr)) (index : ℕ) (d line : Line Instr)
    → index < length lines → line ≡ get_or lines index d → Numbered old now lines index
    → next.build ≡ now.build → next.used ≡ with_name now.used (file_name now.build line.pos.file) → Numbered old next lines (index + 1)
unfolding used_after
line_next {Instr = Instr} old now next lines index d line inside line-is numbered build-is used-is =
    let told : used_after (with_name now.used (file_name old.build (get_or lines index d).pos.file)) (names_of_lines old.build (drop (suc index) lines))
    ≡ used_after old.used (names_of_lines old.build lines) = rw (drop-cons lines index d) at numbered.told in
    let used : next.used ≡ with_name now.used (file_name old.build (get_or lines index d).pos.file)
    = used-is ∙ ap (λ (build : List (List ℕ)). with_name now.used (file_name build line.pos.file)) numbered.build
    ∙ ap (λ (l : Line Instr). with_name now.used (file_name old.build l.pos.file)) line-is in
    rw add-one (record { build = build-is ∙ numbered.build; told = rw used told })

pub all_lines : {Instr : Type 0} (old now : FileNames) (lines : List (Line Instr)) (index : ℕ)
    → length lines ≤ index → Numbered old now lines index → now.used ≡ used_after old.used (names_of_lines old.build lines)
unfolding used_after
all_lines old now lines index past numbered = rw (drop_all index lines past) at numbered.told

pub used_after-append : (names one other : List (List ℕ)) → used_after names (one ++ other) ≡ used_after (used_after names one) other
unfolding used_after
used_after-append names [] other = refl
used_after-append names (next ∷ one) other = used_after-append (with_name names next) one other

-- and those of the functions below an index
pub record Counted {Instr : Type 0} (old now : FileNames) (funcs : List (FuncLines Instr)) (index : ℕ) : Type 0 where
  pub build : now.build ≡ old.build
  pub told : used_after now.used (flat_map (names_in old.build) (drop index funcs)) ≡ used_after old.used (flat_map (names_in old.build) funcs)

pub func_next : {Instr : Type 0} (old now next : FileNames) (funcs : List (FuncLines Instr)) (index : ℕ) (d func : FuncLines Instr)
    → index < length funcs → func ≡ get_or funcs index d → Counted old now funcs index
    → next.build ≡ now.build → next.used ≡ used_after now.used (names_in now.build func) → Counted old next funcs (index + 1)
unfolding used_after
func_next {Instr = Instr} old now next funcs index d func inside func-is counted build-is used-is =
    let told : used_after now.used (names_in old.build (get_or funcs index d) ++ flat_map (names_in old.build) (drop (suc index) funcs))
    ≡ used_after old.used (flat_map (names_in old.build) funcs) = rw (drop-cons funcs index d) at counted.told in
    let used : next.used ≡ used_after now.used (names_in old.build (get_or funcs index d))
    = used-is ∙ ap (λ (build : List (List ℕ)). used_after now.used (names_in build func)) counted.build
    ∙ ap (λ (f : FuncLines Instr). used_after now.used (names_in old.build f)) func-is in
    rw add-one (record {
      build = build-is ∙ counted.build;
      told = ap (λ (names : List (List ℕ)). used_after names (flat_map (names_in old.build) (drop (suc index) funcs))) used
          ∙ sym (used_after-append now.used (names_in old.build (get_or funcs index d)) (flat_map (names_in old.build) (drop (suc index) funcs))) ∙ told;
    })

pub all_funcs : {Instr : Type 0} (old now : FileNames) (funcs : List (FuncLines Instr)) (index : ℕ)
    → length funcs ≤ index → Counted old now funcs index → now.used ≡ used_after old.used (flat_map (names_in old.build) funcs)
unfolding used_after
all_funcs old now funcs index past counted = rw (drop_all index funcs past) at counted.told

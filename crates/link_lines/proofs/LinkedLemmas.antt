-- What is told of a sound function can be told by a function table.
use Rattle.std.proofs.Common.{◌≡◌, ◌<◌, ◌≤◌, ◌-◌, ◌%◌, ◌^◌, ℕ, length, List, All, Option, sym, subst, arith}
use Rattle.std.specs.Prelude.{IfSome}
use Rattle.std.specs.List.{slice_get}
use Rattle.std.proofs.lemmas.Option.{slice_get-get_or}
use Rattle.asm_parse.specs.Placed.{IsIn}
use Rattle.asm_target.specs.declared.body.Line.{Line}
use Rattle.asm_target.proofs.PlaceLemmas.{fit_at, item_at}
use Rattle.unit_listing.specs.Kit.{Kit}
use Rattle.unit_listing.proofs.FunctionLemmas.{KitLaws}
use Rattle.unit_listing.proofs.PlacedLemmas.{body_in}
use Rattle.link_build.specs.declared.build.Build.{Build}
use Rattle.link_build.specs.Functions.{IsSound, Seen}
use Rattle.link_tables.specs.declared.func_lines.FuncLines.{FuncLines}
use Rattle.link_tables.specs.Rows.{HaveBytes, IsPlaced, IsTellable}
use Rattle.link_tables.specs.Table.{IsLinked}
use Rattle.link_lines.specs.Told.{AreToldBy, IsToldBy}
use Rattle.link_lines.proofs.DepthLemmas.{depths_small, first_small}
use Rattle.link_lines.proofs.PlaceLemmas.{as_many, lines_have_bytes, short, some_lines, whole_end, whole_places}

module _ {Instr : Type 0} (kit : Kit Instr) (laws : KitLaws kit) (build : Build) where
  module _ (func : Seen Instr) (sound : IsSound kit build func) where
    -- a function with a unit of so many symbols
    abbrev symbols : ℕ
    symbols = length func.unit.symbols

    tellable : All (IsTellable (length build.files)) func.part.laid.body.code
    tellable = λ number d below.
        let here : IsIn (length build.files) _ =
        body_in kit (length build.files) func.part.function.now sound.placed func.part.laid.body sound.laid.rewritten number d below in
        record {
          in_files = here.file;
          small_depth = depths_small kit func.part.function.now func.part.laid.body sound.laid.rewritten number d below;
          small_line = here.line;
        }

    module _ (entry : ℕ) (lines : FuncLines Instr) (told : IsToldBy func entry lines) where
      placed : IsPlaced kit.quantum (length build.files) lines
      placed =
          let function = func.part.function.now in
          let laid = func.part.laid in
          let places : HaveBytes lines.places.now laid.sizes.length
          = subst (λ (places : List ℕ). HaveBytes places laid.sizes.length) (sym told.places) (lines_have_bytes kit laws symbols function sound.form laid sound.laid) in
          let code : (P : List (Line Instr) → Type 0) → P laid.body.code → P lines.lines.now = λ P holds. subst P (sym told.code) holds in
          record {
            some = code (λ code. 0 < length code) (some_lines kit laws symbols function sound.form laid sound.laid);
            count = code (λ code. length lines.places.now ≡ length code)
                (subst (λ (places : List ℕ). length places ≡ length laid.body.code) (sym told.places) (as_many kit laws symbols function sound.form laid sound.laid));
            bytes = subst (λ (end : ℕ). HaveBytes lines.places.now end) (sym told.long) places;
            short = subst (λ (n : ℕ). n < 2 ^ 32) (sym told.long) (short kit laws symbols function sound.form laid sound.laid);
            whole = subst (All (λ (place : ℕ). place % kit.quantum ≡ 0)) (sym told.places) (whole_places kit laws symbols function sound.form laid sound.laid);
            end = subst (λ (n : ℕ). n % kit.quantum ≡ 0) (sym told.long) (whole_end kit laws symbols function sound.form laid sound.laid);
            lines = code (All (IsTellable (length build.files))) tellable;
            first = code (λ code. IfSome (slice_get code 0) (λ line. line.depth ≤ 2 ^ 31 - 2)) (first_small kit function laid.body sound.laid.rewritten);
          }

      pub linked : entry < 2 ^ 32 → IsLinked kit.quantum (length build.files) lines
      linked small = record {
        placed = placed;
        entry = subst (λ (n : ℕ). n < 2 ^ 32) (sym told.begins) small;
        args = subst (λ (args : Option ℕ). IfSome args (λ size. size < 2 ^ 31)) (sym told.args) sound.form.arguments;
        start_line = (let line = sound.placed.pos.line in omega (arith, told.start_line, line));
      }

  pub all_linked : (funcs : List (Seen Instr)) (entries : List ℕ) (all : List (FuncLines Instr)) → All (IsSound kit build) funcs
      → length entries ≡ length funcs → All (λ entry. entry < 2 ^ 32) entries → AreToldBy funcs entries all
      → All (IsLinked kit.quantum (length build.files)) all
  all_linked funcs entries all sound count small told = λ number d below.
      let func = item_at funcs number (omega (arith, below, told.as_many)) in
      let entry = item_at entries number (omega (arith, below, told.as_many, count)) in
      linked func.0 (fit_at (IsSound kit build) funcs number func.0 sound func.1) entry.0 _
      (told.each number entry.0 func.0 _ func.1 entry.1 (slice_get-get_or all number d below))
      (fit_at (λ (entry : ℕ). entry < 2 ^ 32) entries number entry.0 small entry.1)

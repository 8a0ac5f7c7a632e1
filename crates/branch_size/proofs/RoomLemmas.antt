-- The bytes of a function with every branch in its long form.
use Rattle.std.proofs.Common.{◌≡◌, ℕ, zero, suc, ◌+◌, ◌<◌, ◌≤◌, ◌^◌, List, [], ◌∷◌, ◌++◌, Some, length, take, map, refl, sym, ◌∙◌, ap, inl, inr, arith, add-one}
use Rattle.std.specs.List.{slice_get}
use Rattle.std.specs.Option.{option_map}
use Rattle.std.proofs.lemmas.List.{take_more, take_all, map-append}
use Rattle.std.proofs.lemmas.Option.{slice_get-map, slice_get_cases}
use Rattle.asm_target.specs.declared.body.Line.{Line}
use Rattle.asm_target.specs.declared.frame.Guard.{Guard}
use Rattle.asm_target.specs.Aiming.{Aiming, bytes_of, most_bytes}
use Rattle.asm_target.specs.Goals.{longest, picked}
use Rattle.asm_target.specs.InstructionSet.{InstructionSet}
use Rattle.asm_target.proofs.LongestLemmas.{most_append, most_one}
use Rattle.least_forms.specs.Problem.{HasRoom, all_long, place}
use Rattle.branch_size.specs.Rows.{problem_of, row_of, rows_of, width_in}
use Rattle.branch_size.specs.Sizing.{branches_of}
use Rattle.branch_size.proofs.SizeLemmas.{count_is}

module _ {Instr : Type 0} (set : InstructionSet Instr) (fits : Instr → Type 0) (aiming : Aiming Instr) (quantum : ℕ)
    (guard : Guard Instr) (code : List (Line Instr)) where
  longest_more : (lines : List (Line Instr)) (line : Line Instr)
      → longest set aiming (lines ++ line ∷ []) ≡ longest set aiming lines + bytes_of set (aiming.forms line.instr 1)
  longest_more lines line =
      ap (most_bytes set aiming) (map-append picked lines (line ∷ []))
      ∙ most_append set aiming (map picked lines) (picked line ∷ [])
      ∙ ap (λ n. longest set aiming lines + n) (most_one set aiming (picked line))

  width_at : (k : ℕ) (line : Line Instr) → slice_get code k ≡ Some line
      → width_in (slice_get (rows_of set aiming guard code) k) 1 ≡ bytes_of set (aiming.forms line.instr 1)
  width_at k line is =
      ap (λ row. width_in row 1)
      (slice_get-map (row_of set aiming guard code) code k ∙ ap (option_map (row_of set aiming guard code)) is)

  -- where a line begins in the longest code
  place_long : (k : ℕ) → k ≤ length code
      → place (branches_of set fits aiming quantum guard code) all_long k ≡ longest set aiming (take k code)
  unfolding place problem_of
  place_long zero most = refl
  place_long (suc k) most = elim (slice_get_cases code k).1 [
    | inl some ↦
        let line = some.0 in
        let more : take (suc k) code ≡ take k code ++ line ∷ []
        = ap (λ n. take n code) (sym (add-one k)) ∙ take_more code k line (omega arith) ∙ ap (λ item. take k code ++ item ∷ []) some.3 in
        let before = place_long k (omega arith) in
        rw more (rw (longest_more (take k code) line) (rw (width_at k line some.2, before) refl))
    | inr none ↦ let past = none.0 in absurd (omega arith)
  ]

  -- where they are fewer than 2^32 there is room
  pub has_room : longest set aiming code < 2 ^ 32 → HasRoom (branches_of set fits aiming quantum guard code)
  has_room few =
      let p = branches_of set fits aiming quantum guard code in
      let same : place p all_long p.count ≡ longest set aiming code
      = ap (place p all_long) (count_is set fits aiming quantum guard code) ∙ place_long (length code) (omega arith)
      ∙ ap (longest set aiming) (take_all (length code) code (omega arith)) in
      rw same few

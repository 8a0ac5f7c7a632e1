-- What an image tells of the addresses of an instruction.
use Rattle.std.proofs.Common.{◌≡◌, ℕ, zero, suc, pos, ℤ, ◌+◌, ◌-◌, ◌≤◌, ◌<◌, true, false, List, [], ◌∷◌, Option, Some, None, IsSome, length, map, take, drop, refl, sym, ap, ◌∙◌, subst, arith, inl, inr, add-one, length-append}
use Rattle.std.specs.List.{flat_map, slice_get}
use Rattle.std.proofs.lemmas.Bool.{cases_lt}
use Rattle.std.proofs.lemmas.Bool.Decides.{nat_tests}
use Rattle.std.proofs.lemmas.Option.{get_or_from_slice_get, slice_get-map, slice_get_within}
use Rattle.asm_target.specs.declared.body.Placed.{Placed}
use Rattle.elf_image.specs.Contents.{table_in, text_in}
use Rattle.goasm_base.specs.Refusals.{first_below}
use Rattle.goasm_base.proofs.RefusalLemmas.{below_found, below_next, below_zero}
use Rattle.pclntab.specs.Func.{HasPc, depth_at, end_of, file_at, func_at, has_pc, index_if, line_at, named_by, numbered_from}
use Rattle.pclntab.specs.Places.{depth_field, entry_offset, file_field, func_count, line_field, unit_field}
use Rattle.pclntab.specs.Table.{HasOrder}
use Rattle.pclntab.specs.Words.{u32_at}
use Rattle.pcvalue.specs.declared.answer.Answer.TheVariants.{Value}
use Rattle.pcvalue.specs.Cover.{AnswersPlaces}
use Rattle.image_model.specs.Listed.{Listed}
use Rattle.image_model.proofs.FindLemmas.{map_some}
use Rattle.image_rules.specs.Functions.{IsFunction, NamesFile, ends_from}
use Rattle.image_rules.specs.Machine.{Machine}
use Rattle.image_rules.specs.Parts.{count_in, entry_in, offset_in, own_bytes}
use Rattle.unwind.proofs.SpanLemmas.{most, span, told_over}

take_most : {A : Type 0} (n : ℕ) (xs : List A) → length (take n xs) ≤ n
take_most {A} zero xs = omega arith
take_most {A} (suc n) [] = omega arith
take_most {A} (suc n) (x ∷ xs) = (let rest = take_most n xs in omega arith)

none_below : {A : Type 0} (at : ℕ → Option A) (count : ℕ) → ((index : ℕ) → index < count → at index ≡ None) → first_below count at ≡ None
none_below at zero none = below_zero at
none_below at (suc count) none =
    rw (← add-one) (below_next at count (none_below at count (λ index inside. none index (omega arith))) (none count (omega arith)))

-- entries rise
rising : (table : List ℕ) (index later : ℕ) → HasOrder table → index ≤ later → later < func_count table
    → entry_offset table index ≤ entry_offset table later
rising table index zero order before within =
    let same : index ≡ 0 = omega arith in
    rw same (omega arith)
rising table index (suc later) order before within =
    elim (cases_lt index (suc later)) as (λ _. entry_offset table index ≤ entry_offset table (suc later)) [
      | inl earlier ↦
          let there = rising table index later order (omega arith) (omega arith) in
          let next = order later (omega arith) in
          let here : later + 1 ≡ suc later = omega arith in
          let last : entry_offset table later ≤ entry_offset table (suc later) = rw here at next in
          omega arith
      | inr past ↦
          let same : index ≡ suc later = omega arith in
          rw same (omega arith)
    ]

-- an address of a function is found in it
pub found_in : (table : List ℕ) (pc index : ℕ) → HasOrder table → index < func_count table → HasPc table index pc → func_at table pc ≡ Some index
unfolding func_at
found_in table pc index order inside has =
    let from = has.from in
    let before = has.before in
    let here : has_pc table pc index ≡ true = grind (arith, nat_tests) in
    below_found (index_if table pc) index (func_count table) index inside
    (none_below (index_if table pc) index (λ other less.
    let rises : entry_offset table (other + 1) ≤ entry_offset table index = rising table (other + 1) index order (omega arith) inside in
    let behind : end_of table other ≤ pc = omega arith in
    let off : has_pc table pc other ≡ false = grind (arith, nat_tests) in
    rw off refl))
    (rw here refl)

-- What is told of each address from the first byte of an instruction to its last
pub record IsStretch (bytes : List ℕ) (index first past depth : ℕ) : Type 0 where
  pub inside : index < count_in bytes
  pub has : (place : ℕ) → first ≤ place → place < past → HasPc (table_in bytes) index place
  pub found : (place : ℕ) → first ≤ place → place < past → func_at (table_in bytes) place ≡ Some index
  pub depths : (place : ℕ) → first ≤ place → place < past → depth_at (table_in bytes) index place ≡ Value (pos depth)
  pub line : ℕ
  pub lines : (place : ℕ) → first ≤ place → place < past → line_at (table_in bytes) index place ≡ Value (pos line)
  pub file : List ℕ
  pub files : (place : ℕ) → first ≤ place → place < past → file_at (table_in bytes) index place ≡ Some file

is_there : {A : Type 0} (found : Option A) → IsSome found → (x : A) × (found ≡ Some x)
is_there (Some x) some = (x, refl)
is_there None some = absurd (cc)

module _ {Instr : Type 0} (machine : Machine Instr) (answers : AnswersPlaces) (bytes : List ℕ) (order : HasOrder (table_in bytes)) (index : ℕ) (listed : Listed Instr)
    (inside : index < count_in bytes) (is : IsFunction machine bytes index listed) where
  -- the function's instructions end before the next function begins
  size : length (flat_map machine.set.spelling is.code) ≤ offset_in bytes (suc index) - offset_in bytes index
  size =
      let whole : length (own_bytes bytes index) ≡ length (flat_map machine.set.spelling is.code) + length is.is_code.rest =
      ap (λ (own : List ℕ). length own) is.is_code.listing.whole
      ∙ length-append (flat_map machine.set.spelling is.code) is.is_code.rest in
      let own = take_most (offset_in bytes (suc index) - offset_in bytes index) (drop (offset_in bytes index) (text_in bytes)) in
      omega arith

  has_place : (past place : ℕ) → past ≤ length (flat_map machine.set.spelling is.code) → entry_in bytes index ≤ place
      → place < entry_in bytes index + past → HasPc (table_in bytes) index place
  has_place past place short low high =
      let next : offset_in bytes (suc index) ≡ entry_offset (table_in bytes) (index + 1) =
      ap (offset_in bytes) (let same : suc index ≡ index + 1 = omega arith in same) in
      let own = size in
      record { from = low; before = omega arith }

  named : (number : ℤ) (k : ℕ) → slice_get is.tables.files k ≡ Some number → NamesFile machine bytes index number
  named number k here =
      let less = slice_get_within is.tables.files k number here in
      subst (NamesFile machine bytes index) (get_or_from_slice_get is.tables.files k number number here) (is.tables.named k number less)

  depth_here : (value : ℤ) (k : ℕ) → slice_get (map pos listed.depths) k ≡ Some value
      → (depth : ℕ) × (slice_get listed.depths k ≡ Some depth) × (pos depth ≡ value)
  depth_here value k here = map_some pos (slice_get listed.depths k) value (sym (slice_get-map pos listed.depths k) ∙ here)

  pub stretch : (k : ℕ) (one : Placed Instr) → slice_get listed.code k ≡ Some one
      → (depth : ℕ) × (slice_get listed.depths k ≡ Some depth) × IsStretch bytes index one.at (one.at + one.len) depth
  stretch k one here =
      let entry : ℕ = entry_in bytes index in
      let ends : List ℕ = ends_from machine.set 0 is.code in
      let start : entry ≡ entry + 0 = omega arith in
      let spans = span machine.set entry 0 entry is.code k one start
      (subst (λ (code : List (Placed Instr)). slice_get code k ≡ Some one) is.placed here) in
      let short = most machine.set entry 0 is.code k spans.past spans.ends_there in
      let depth = told_over answers (table_in bytes) index (depth_field (table_in bytes) index) entry ends (map pos listed.depths) k
      spans.first spans.past refl is.tables.depth spans.begins spans.ends_there in
      let line = told_over answers (table_in bytes) index (line_field (table_in bytes) index) entry ends (map pos is.tables.lines) k
      spans.first spans.past refl is.tables.line spans.begins spans.ends_there in
      let file = told_over answers (table_in bytes) index (file_field (table_in bytes) index) entry ends is.tables.files k
      spans.first spans.past refl is.tables.file spans.begins spans.ends_there in
      let level = depth_here depth.value k depth.here in
      let number = map_some pos (slice_get is.tables.lines k) line.value (sym (slice_get-map pos is.tables.lines k) ∙ line.here) in
      let name = is_there (numbered_from (table_in bytes) (u32_at (table_in bytes) (unit_field (table_in bytes) index)) file.value)
      (named file.value k file.here) in
      let at : one.at ≡ entry + spans.first = spans.at in
      let end : one.at + one.len ≡ entry + spans.past = spans.end in
      let has : (place : ℕ) → one.at ≤ place → place < one.at + one.len → HasPc (table_in bytes) index place =
      λ place low high. has_place spans.past place (omega arith) (omega arith) (omega arith) in (
        level.0,
        level.1,
        record {
          inside = inside;
          has = has;
          found = λ place low high. found_in (table_in bytes) place index order inside (has place low high);
          depths = λ place low high. depth.tells place (omega arith) (omega arith) ∙ ap Value (sym level.2);
          line = number.0;
          lines = λ place low high. line.tells place (omega arith) (omega arith) ∙ ap Value (sym number.2);
          file = name.0;
          files = λ place low high.
              ap (named_by (table_in bytes) (u32_at (table_in bytes) (unit_field (table_in bytes) index)))
              (file.tells place (omega arith) (omega arith))
              ∙ name.1;
        },
      )

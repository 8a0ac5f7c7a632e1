-- The function that an offset belongs to is the one that the table finds.
use Rattle.std.proofs.Common.{◌≡◌, ℕ, zero, suc, ◌+◌, ◌-◌, ◌≤◌, ◌<◌, ◌^◌, true, false, List, length, drop, Option, Some, None, refl, ap, ◌∙◌, subst, arith, inl, inr, add-one, length-drop}
use Rattle.std.specs.List.Sorted.{IsNonDecreasing}
use Rattle.std.proofs.lemmas.Bool.{cases_lt}
use Rattle.std.proofs.lemmas.Bool.Decides.{nat_tests}
use Rattle.std.proofs.lemmas.Grind.{get_or_default_zero}
use Rattle.elf_image.specs.Contents.{table_in, text_address, text_in}
use Rattle.elf_image.specs.Layout.{sizes_in}
use Rattle.goasm_base.specs.Refusals.{first_below}
use Rattle.goasm_base.proofs.RefusalLemmas.{below_found, below_next, below_zero}
use Rattle.image_check.specs.Kept.{AreEntries}
use Rattle.image_check.proofs.PlaceLemmas.{take_within}
use Rattle.image_marks.specs.Buckets.{IsOwner}
use Rattle.image_rules.specs.Machine.{Machine}
use Rattle.image_rules.specs.Parts.{HasProfile, count_in, offset_in}
use Rattle.pclntab.specs.Func.{end_of, entry_of, func_at, has_pc, index_if}

none_below : {A : Type 0} (at : ℕ → Option A) (count : ℕ) → ((index : ℕ) → index < count → at index ≡ None) → first_below count at ≡ None
none_below at zero none = below_zero at
none_below at (suc count) none =
    rw (← add-one) (below_next at count (none_below at count (λ index inside. none index (omega arith))) (none count (omega arith)))

-- a function that begins behind an address, or ends before or at it, isn't found for it
begins_behind : (table : List ℕ) (pc index : ℕ) → pc < entry_of table index → index_if table pc index ≡ None
begins_behind table pc index behind =
    let test : has_pc table pc index ≡ false = grind (arith, nat_tests) in
    rw test refl

ends_before : (table : List ℕ) (pc index : ℕ) → end_of table index ≤ pc → index_if table pc index ≡ None
ends_before table pc index before =
    let test : has_pc table pc index ≡ false = grind (arith, nat_tests) in
    rw test refl

has_here : (table : List ℕ) (pc index : ℕ) → entry_of table index ≤ pc → pc < end_of table index → index_if table pc index ≡ Some index
has_here table pc index from before =
    let test : has_pc table pc index ≡ true = grind (arith, nat_tests) in
    rw test refl

module _ {Instr : Type 0} (machine : Machine Instr) (bytes : List ℕ) (profile : HasProfile bytes machine) where
  rises_by : (index n : ℕ) → index + n < count_in bytes → offset_in bytes index ≤ offset_in bytes (index + n)
  rises_by index zero inside =
      let same : index ≡ index + zero = omega arith in
      subst (λ (k : ℕ). offset_in bytes index ≤ offset_in bytes k) same (omega arith)
  rises_by index (suc n) inside =
      let before = rises_by index n (omega arith) in
      let rise = profile.rises (index + n) (omega arith) in
      let next : suc (index + n) ≡ index + suc n = omega arith in
      subst (λ (k : ℕ). offset_in bytes index ≤ offset_in bytes k) next (omega arith)

  rises : (index later : ℕ) → index ≤ later → later < count_in bytes → offset_in bytes index ≤ offset_in bytes later
  rises index later before inside =
      let same : index + (later - index) ≡ later = omega arith in
      subst (λ (k : ℕ). offset_in bytes index ≤ offset_in bytes k) same (rises_by index (later - index) (omega arith))

  ends_inside : (index : ℕ) → index < count_in bytes → offset_in bytes (index + 1) ≤ length (text_in bytes)
  ends_inside index inside =
      elim (cases_lt (index + 1) (count_in bytes)) as (λ _. offset_in bytes (index + 1) ≤ length (text_in bytes)) [
        | inl more ↦ (let less = profile.inside (index + 1) more in omega arith)
        | inr last ↦
            (let same : index + 1 ≡ count_in bytes = omega arith in
            let past : offset_in bytes (index + 1) ≡ length (text_in bytes) = ap (offset_in bytes) same ∙ profile.past in
            omega arith)
      ]

  text_size : length (text_in bytes) ≤ length bytes
  text_size =
      let most = take_within (sizes_in bytes).text (drop 4096 bytes) in
      omega (arith, length-drop 4096 bytes)

  pub offsets_fit : length bytes < 2 ^ 32 → (index : ℕ) → index < count_in bytes → offset_in bytes index < 2 ^ 32
  offsets_fit short index inside = (let less = profile.inside index inside in omega (arith, text_size))

  -- no function has an address outside the text
  pub none_before : (pc : ℕ) → pc < text_address → func_at (table_in bytes) pc ≡ None
  unfolding func_at
  none_before pc before =
      none_below (index_if (table_in bytes) pc) (count_in bytes) (λ index inside.
      let start = profile.start in
      begins_behind (table_in bytes) pc index (omega arith))

  pub none_past : (pc : ℕ) → text_address + length (text_in bytes) ≤ pc → func_at (table_in bytes) pc ≡ None
  unfolding func_at
  none_past pc past =
      none_below (index_if (table_in bytes) pc) (count_in bytes) (λ index inside.
      let start = profile.start in
      let end = ends_inside index inside in
      ends_before (table_in bytes) pc index (omega arith))

  module _ (entries : List ℕ) (are : AreEntries bytes entries) where
    pub ordered : IsNonDecreasing entries
    ordered i j d before inside =
        let first : i < count_in bytes = omega (arith, are.count) in
        let second : j < count_in bytes = omega (arith, are.count) in
        let one = get_or_default_zero entries i d (omega arith) in
        let other = get_or_default_zero entries j d inside in
        omega (arith, rises i j before second, are.each i first, are.each j second)

    -- the owner of an offset of the text has its address, and no function before it does
    pub owner_found : (offset number : ℕ) → IsOwner entries offset number → offset < length (text_in bytes)
        → func_at (table_in bytes) (text_address + offset) ≡ Some number
    unfolding func_at
    owner_found offset number owner inside =
        let known : number < count_in bytes = (let less = owner.inside in omega (arith, are.count)) in
        let start = profile.start in
        let low : offset_in bytes number ≤ offset = (let least = owner.low in omega (arith, are.each number known)) in
        below_found (index_if (table_in bytes) (text_address + offset)) number (count_in bytes) number known
        (none_below (index_if (table_in bytes) (text_address + offset)) number (λ index before.
        let rise = rises (index + 1) number (omega arith) known in
        ends_before (table_in bytes) (text_address + offset) index (omega arith)))
        (has_here (table_in bytes) (text_address + offset) number (omega arith) (ends number known owner))
      where
        ends : (number : ℕ) → number < count_in bytes → IsOwner entries offset number
            → text_address + offset < end_of (table_in bytes) number
        ends number known owner =
            let start = profile.start in
            elim (cases_lt (number + 1) (count_in bytes)) as (λ _. text_address + offset < end_of (table_in bytes) number) [
              | inl more ↦
                  (let high = owner.high (number + 1) (omega arith) (omega (arith, are.count)) in
                  omega (arith, are.each (number + 1) more))
              | inr last ↦
                  (let same : number + 1 ≡ count_in bytes = omega arith in
                  let past : offset_in bytes (number + 1) ≡ length (text_in bytes) = ap (offset_in bytes) same ∙ profile.past in
                  omega arith)
            ]

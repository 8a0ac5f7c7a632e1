-- The entries of the functions of a table are in order.
use Rattle.std.proofs.Common.{◌≡◌, ℕ, zero, suc, ◌+◌, ◌<◌, ◌≤◌, List, map, get_or, inl, inr, sym, subst, add-one, arith}
use Rattle.std.specs.List.{range_with_len}
use Rattle.std.specs.List.Sorted.{IsNonDecreasing}
use Rattle.std.proofs.lemmas.Bool.{cases_lt}
use Rattle.std.proofs.lemmas.List.FromFn.{get_or-map-range_with_len, length-map-range_with_len}
use Rattle.pclntab.specs.Func.{entry_of}
use Rattle.pclntab.specs.Places.{entry_offset, func_count, text_start}
use Rattle.pclntab.specs.Table.{IsTable}

-- numbers that don't fall from one to the next don't fall from one to a later one
rise : (at : ℕ → ℕ) (count : ℕ) → ((k : ℕ) → k + 1 < count → at k ≤ at (k + 1)) → (i j : ℕ) → i ≤ j → j < count → at i ≤ at j
rise at count step i zero low less = let same : i ≡ 0 = omega arith in subst (λ (n : ℕ). at n ≤ at 0) (sym same) (omega arith)
rise at count step i (suc j) low less =
    elim (cases_lt j i) [
      | inl last ↦ (let same : i ≡ suc j = omega arith in subst (λ (n : ℕ). at n ≤ at (suc j)) (sym same) (omega arith))
      | inr before ↦
          let next : at j ≤ at (suc j) = subst (λ (n : ℕ). at j ≤ at n) (add-one j) (step j (omega arith)) in
          let there : at i ≤ at j = rise at count step i j before (omega arith) in
          omega arith
    ]

added : (start a b : ℕ) → a ≤ b → start + a ≤ start + b
added start a b low = omega arith

pub entries_rise : (table : List ℕ) → IsTable table → IsNonDecreasing (map (entry_of table) (range_with_len 0 (func_count table)))
entries_rise table is i j d low inside =
    let long = length-map-range_with_len (entry_of table) 0 (func_count table) in
    let less : j < func_count table = subst (λ (n : ℕ). j < n) long inside in
    let one = get_or-map-range_with_len (entry_of table) 0 (func_count table) i i d (omega arith) (omega arith) in
    let other = get_or-map-range_with_len (entry_of table) 0 (func_count table) j j d less (omega arith) in
    let rises : entry_of table i ≤ entry_of table j = rise (entry_of table) (func_count table)
    (λ k within. added (text_start table) (entry_offset table k) (entry_offset table (k + 1)) (is.order k within)) i j low less in
    subst (λ (n : ℕ). n ≤ get_or (map (entry_of table) (range_with_len 0 (func_count table))) j d) (sym one)
    (subst (λ (n : ℕ). entry_of table i ≤ n) (sym other) rises)

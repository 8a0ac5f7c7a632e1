-- Lines without a fault rise.
use Rattle.std.proofs.Common.{◌≡◌, ℕ, zero, suc, Bool, true, false, inl, inr, ◌+◌, ◌<◌, ◌≤◌, nat_lt, List, [], length, drop, Option, Some, None, refl, ap, arith, drop-cons, if◌then◌else◌}
use Rattle.std.specs.Option.{option_map, option_or}
use Rattle.std.proofs.lemmas.Bool.{cases_lt, ltb-true}
use Rattle.std.proofs.lemmas.List.{drop_all}
use Rattle.goasm_base.specs.Refusals.{first_below}
use Rattle.machine_dump.specs.declared.fault.DumpNo.TheVariants.{DU2}
use Rattle.machine_dump.specs.Lines.{line_at}
use Rattle.machine_dump.specs.Form.{Range, end_of, range_of}
use Rattle.machine_dump.specs.Faults.{fault_behind, end_before, mem_fault}
use Rattle.machine_dump.specs.Search.{Rises}

or_none : {A : Type 0} (one other : Option A) → option_or one other ≡ None → (one ≡ None) × (other ≡ None)
or_none None other none = (refl, none)
or_none (Some x) other none = cc

below_all : {A : Type 0} (at : ℕ → Option A) (count : ℕ) → first_below count at ≡ None → (k : ℕ) → k < count → at k ≡ None
unfolding first_below
below_all at zero none k below = absurd (omega (arith, below))
below_all at (suc count) none k below =
    let both = or_none (first_below count at) (at count) none in
    elim (cases_lt k count) [
      | inl earlier ↦ below_all at count both.0 k earlier
      | inr last ↦ (let same : k ≡ count = omega (arith, below, last) in rw same both.1)
    ]

-- where a line may begin behind one with this end
abbrev least_behind : Option ℕ → ℕ
least_behind None = 0
least_behind (Some end) = end + 1

if_none : {A : Type 0} (test : Bool) (x : A) → (if test then None else Some x) ≡ None → test ≡ true
if_none true x none = refl
if_none false x none = cc

fine : (end : Option ℕ) (number : ℕ) (line : Option Range) → fault_behind end number line ≡ None
    → (range : Range) × (line ≡ Some range) × (least_behind end ≤ range.first)
fine end number None none = cc
fine None number (Some range) none = (range, refl, omega arith)
fine (Some end) number (Some range) none =
    let above : end < range.first = ltb-true end range.first (if_none (nat_lt end range.first) (DU2 number) none) in
    (range, refl, omega (arith, above))

module _ (lines : List (List ℕ)) (faultless : first_below (length lines) (mem_fault lines) ≡ None) where
  fine_at : (index : ℕ) → index < length lines
      → (range : Range) × (range_of (line_at lines index) ≡ Some range) × (least_behind (end_before lines index) ≤ range.first)
  unfolding mem_fault
  fine_at index inside =
      fine (end_before lines index) (index + 5) (range_of (line_at lines index)) (below_all (mem_fault lines) (length lines) faultless index inside)

  rises_from : (count index : ℕ) → index + count ≡ length lines → Rises (least_behind (end_before lines index)) (drop index lines)
  unfolding Rises
  rises_from zero index all = rw (drop_all index lines (omega (arith, all))) tt
  rises_from (suc count) index all =
      let inside : index < length lines = omega (arith, all) in
      let here = fine_at index inside in
      let end : end_before lines (suc index) ≡ Some (end_of here.0) = ap (option_map end_of) here.1 in
      let rest : Rises (end_of here.0 + 1) (drop (suc index) lines)
      = rw end at (rises_from count (suc index) (omega (arith, all))) in
      rw (drop-cons lines index [] inside) (here.0, here.1, here.2, rest)

  pub lines_rise : Rises 0 lines
  lines_rise = rises_from (length lines) 0 (omega arith)

-- What the number of functions that begin at or before an address tells of the one that has it.
use Rattle.std.proofs.Common.{◌≡◌, ℕ, zero, suc, ◌+◌, ◌-◌, ◌<◌, ◌≤◌, true, false, List, Option, Some, None, inl, inr, refl, arith, add-one}
use Rattle.std.proofs.lemmas.Bool.{cases_lt}
use Rattle.std.proofs.lemmas.Bool.Decides.{nat_tests}
use Rattle.goasm_base.specs.Refusals.{first_below}
use Rattle.goasm_base.proofs.RefusalLemmas.{below_zero, below_next, below_found}
use Rattle.pclntab.specs.Places.{func_count, entry_offset}
use Rattle.pclntab.specs.Func.{HasPc, entry_of, end_of, has_pc, index_if, func_at}
use Rattle.pclntab.specs.Ready.{IsRead, IsBegun}
use Rattle.pclntab.proofs.RangeLemmas.{rising}

-- there is none where there is none at any place
none_below : {A : Type 0} (at : ℕ → Option A) (count : ℕ) → ((index : ℕ) → index < count → at index ≡ None) → first_below count at ≡ None
none_below at zero none = below_zero at
none_below at (suc count) none =
    rw (← add-one) (below_next at count (none_below at count (λ index inside. none index (omega arith))) (none count (omega arith)))

-- a function that lacks an address isn't found for it
without : (bytes : List ℕ) (pc index : ℕ) → (HasPc bytes index pc → ⊥) → index_if bytes pc index ≡ None
without bytes pc index lacks =
    elim (cases_lt pc (entry_of bytes index)) [
      | inl before ↦
          let test : has_pc bytes pc index ≡ false = grind (arith, nat_tests) in
          rw test refl
      | inr from ↦ elim (cases_lt pc (end_of bytes index)) [
        | inl inside ↦ absurd (lacks (record { from = from; before = inside }))
        | inr past ↦
            let test : has_pc bytes pc index ≡ false = grind (arith, nat_tests) in
            rw test refl
      ]
    ]

-- no function has an address before all entries
pub before_all : (bytes : List ℕ) (pc index : ℕ)
    → IsBegun bytes pc 0 → index < func_count bytes → HasPc bytes index pc → ⊥
before_all bytes pc index begun inside has =
    let later : pc < entry_of bytes index = begun.later index (omega arith) inside in
    let from : entry_of bytes index ≤ pc = has.from in
    omega arith

-- no function but the last that begins at or before an address has it
pub only_last : (bytes : List ℕ) (pc count index : ℕ)
    → IsBegun bytes pc count → index < func_count bytes → HasPc bytes index pc → index + 1 ≡ count
only_last bytes pc count index begun inside has =
    let from : entry_of bytes index ≤ pc = has.from in
    let before : pc < entry_of bytes (index + 1) = has.before in
    elim (cases_lt (index + 1) count) [
      | inl early ↦
          let next : entry_of bytes (index + 1) ≤ pc = begun.begun (index + 1) early in
          omega arith
      | inr late ↦ elim (cases_lt index count) [
        | inl last ↦ omega arith
        | inr past ↦
            let later : pc < entry_of bytes index = begun.later index past inside in
            omega arith
      ]
    ]

pub last_found : (bytes : List ℕ) (pc count : ℕ)
    → 0 < count → IsBegun bytes pc count → HasPc bytes (count - 1) pc → func_at bytes pc ≡ Some (count - 1)
unfolding func_at
last_found bytes pc count some begun has =
    let within : count ≤ func_count bytes = begun.within in
    let from : entry_of bytes (count - 1) ≤ pc = has.from in
    let before : pc < end_of bytes (count - 1) = has.before in
    let here : has_pc bytes pc (count - 1) ≡ true = grind (arith, nat_tests) in
    below_found (index_if bytes pc) (count - 1) (func_count bytes) (count - 1) (omega arith)
    (none_below (index_if bytes pc) (count - 1) (λ index inside. without bytes pc index (λ other.
    let last : index + 1 ≡ count = only_last bytes pc count index begun (omega arith) other in
    omega arith)))
    (rw here refl)

pub last_without : (bytes : List ℕ) (pc count index : ℕ)
    → 0 < count → IsBegun bytes pc count → (HasPc bytes (count - 1) pc → ⊥)
    → index < func_count bytes → HasPc bytes index pc → ⊥
last_without bytes pc count index some begun lacks inside has =
    let last : index + 1 ≡ count = only_last bytes pc count index begun inside has in
    let same : index ≡ count - 1 = omega arith in
    lacks (rw same at has)

-- so the address isn't found
none_has : (bytes : List ℕ) (pc : ℕ)
    → ((index : ℕ) → index < func_count bytes → HasPc bytes index pc → ⊥) → func_at bytes pc ≡ None
unfolding func_at
none_has bytes pc none = none_below (index_if bytes pc) (func_count bytes) (λ index inside. without bytes pc index (none index inside))

pub none_begun : (bytes : List ℕ) (pc : ℕ) → IsBegun bytes pc 0 → func_at bytes pc ≡ None
none_begun bytes pc begun = none_has bytes pc (λ index inside. before_all bytes pc index begun inside)

pub none_at_last : (bytes : List ℕ) (pc count : ℕ)
    → 0 < count → IsBegun bytes pc count → (HasPc bytes (count - 1) pc → ⊥) → func_at bytes pc ≡ None
none_at_last bytes pc count some begun lacks =
    none_has bytes pc (λ index inside. last_without bytes pc count index some begun lacks inside)

-- the middle of the search begins at or before the address, and so do those before it; or neither it nor those behind
pub begun_to : (bytes : List ℕ) (pc middle index : ℕ) → IsRead bytes → middle < func_count bytes
    → entry_of bytes middle ≤ pc → index < middle + 1 → entry_of bytes index ≤ pc
begun_to bytes pc middle index read within here inside =
    let rises : entry_offset bytes index ≤ entry_offset bytes middle
    = rising bytes index middle read.table.order (omega arith) within in
    omega arith

pub later_from : (bytes : List ℕ) (pc middle index : ℕ) → IsRead bytes
    → pc < entry_of bytes middle → middle ≤ index → index < func_count bytes → pc < entry_of bytes index
later_from bytes pc middle index read here behind within =
    let rises : entry_offset bytes middle ≤ entry_offset bytes index
    = rising bytes middle index read.table.order behind within in
    omega arith

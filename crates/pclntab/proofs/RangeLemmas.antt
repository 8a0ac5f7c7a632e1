use Rattle.std.proofs.Common.{◌≡◌, ℕ, zero, suc, ◌+◌, ◌<◌, ◌≤◌, List, Option, Some, None, IfSome, IfNone, inl, inr, arith}
use Rattle.std.proofs.lemmas.Bool.{cases_lt}
use Rattle.pclntab.specs.Places.{func_count, entry_offset}
use Rattle.pclntab.specs.Table.{HasOrder}
use Rattle.pclntab.specs.Func.{FuncView, HasPc, entry_of}
use Rattle.pclntab.specs.Ready.{IsRead}

-- entries rise
pub rising : (bytes : List ℕ) (index later : ℕ)
    → HasOrder bytes → index ≤ later → later < func_count bytes → entry_offset bytes index ≤ entry_offset bytes later
rising bytes index zero order before within =
    let same : index ≡ 0 = omega arith in
    rw same (omega arith)
rising bytes index (suc later) order before within =
    elim (cases_lt index (suc later)) [
      | inl earlier ↦
          let there : entry_offset bytes index ≤ entry_offset bytes later
          = rising bytes index later order (omega arith) (omega arith) in
          let next : entry_offset bytes later ≤ entry_offset bytes (later + 1) = order later (omega arith) in
          let here : later + 1 ≡ suc later = omega arith in
          let last : entry_offset bytes later ≤ entry_offset bytes (suc later) = rw here at next in
          omega arith
      | inr past ↦
          let same : index ≡ suc later = omega arith in
          rw same (omega arith)
    ]

apart : (bytes : List ℕ) (pc index later : ℕ)
    → HasOrder bytes → later < func_count bytes → HasPc bytes index pc → HasPc bytes later pc → index < later → ⊥
apart bytes pc index later order within here there before =
    let rises : entry_offset bytes (index + 1) ≤ entry_offset bytes later
    = rising bytes (index + 1) later order (omega arith) within in
    let ends : pc < entry_of bytes (index + 1) = here.before in
    let begins : entry_of bytes later ≤ pc = there.from in
    omega arith

-- an address lies in one range at most
pub one_range : (bytes : List ℕ) (pc index other : ℕ)
    → IsRead bytes → index < func_count bytes → other < func_count bytes
    → HasPc bytes index pc → HasPc bytes other pc → index ≡ other
one_range bytes pc index other read within other_within here there =
    elim (cases_lt index other) [
      | inl before ↦ absurd (apart bytes pc index other read.table.order other_within here there before)
      | inr behind ↦ elim (cases_lt other index) [
        | inl before ↦ absurd (apart bytes pc other index read.table.order within there here before)
        | inr same ↦ omega arith
      ]
    ]

-- an address in no range lies before the first entry or behind the last end
pub all_ranges : (bytes : List ℕ) (pc count : ℕ)
    → ((index : ℕ) → index < func_count bytes → HasPc bytes index pc → ⊥)
    → entry_of bytes 0 ≤ pc → count ≤ func_count bytes → entry_of bytes count ≤ pc
all_ranges bytes pc zero none begins within = begins
all_ranges bytes pc (suc count) none begins within =
    let here : entry_of bytes count ≤ pc = all_ranges bytes pc count none begins (omega arith) in
    let same : count + 1 ≡ suc count = omega arith in
    elim (cases_lt pc (entry_of bytes (count + 1))) [
      | inl inside ↦ absurd (none count (omega arith) (record { from = here; before = inside }))
      | inr past ↦ rw same at past
    ]

pub one_found : (bytes : List ℕ) (pc : ℕ) (found : Option FuncView) → IsRead bytes
    → IfSome found (λ func. (func.index < func_count bytes) × HasPc bytes func.index pc)
    → IfSome found (λ func. (index : ℕ) → index < func_count bytes → HasPc bytes index pc → index ≡ func.index)
one_found bytes pc None read has = tt
one_found bytes pc (Some func) read has = λ index within here. one_range bytes pc index func.index read within has.0 here has.1

pub none_found : (bytes : List ℕ) (pc : ℕ) (found : Option FuncView)
    → IfNone found ((index : ℕ) → index < func_count bytes → HasPc bytes index pc → ⊥)
    → IfNone found (entry_of bytes 0 ≤ pc → entry_of bytes (func_count bytes) ≤ pc)
none_found bytes pc None none = λ begins. all_ranges bytes pc (func_count bytes) none begins (omega arith)
none_found bytes pc (Some func) none = tt

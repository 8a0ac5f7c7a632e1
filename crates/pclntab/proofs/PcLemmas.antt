use Rattle.std.proofs.Common.{◌≡◌, ℕ, List, refl, replicate, slice_index, inl, inr}
use Rattle.std.proofs.lemmas.Bool.{cases_lt}
use Rattle.std.proofs.lemmas.List.{get_or-replicate, length-replicate}
use Rattle.std.proofs.Math.ListN.{get_or-eq_default}
use Rattle.pcvalue.specs.Table.{IsPcTable, is_pc_table}

-- the offset 0 names no table
pub no_table : (bytes : List ℕ) (quantum : ℕ) → IsPcTable bytes 0 quantum
unfolding is_pc_table
no_table bytes quantum = refl

abbrev zeros : ℕ → List ℕ
zeros count = replicate count 0

zero_there : (count index : ℕ) → slice_index (zeros count) index ≡ 0
zero_there count index =
    elim (cases_lt index count) [
      | inl inside ↦ get_or-replicate count index 0 0 inside
      | inr past ↦ get_or-eq_default (zeros count) 0 (rw (length-replicate {A = ℕ} count 0) past)
    ]

-- no offset is kept at first
pub none_kept : (bytes : List ℕ) (quantum count index : ℕ)
    → IsPcTable bytes (slice_index (replicate count 0) index) quantum
none_kept bytes quantum count index = rw (zero_there count index) (no_table bytes quantum)

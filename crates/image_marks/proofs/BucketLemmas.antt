-- The numbers of the first buckets.
use Rattle.std.proofs.Common.{◌≡◌, ℕ, ◌+◌, ◌*◌, ◌<◌, ◌≤◌, List, [], ◌∷◌, ◌++◌, length, slice_index, inl, inr, ◌∙◌, arith, length-append}
use Rattle.std.proofs.Math.ListN.{get_or-append}
use Rattle.std.proofs.Math.Seq.{get_or-append_seam}
use Rattle.std.proofs.lemmas.Bool.{cases_lt}
use Rattle.image_marks.specs.Buckets.{IsOwner}

-- some buckets have their numbers, and the next one's function is this one or a later one
pub record AreFilled (entries buckets : List ℕ) (number count : ℕ) : Type 0 where
  pub inside : number < length entries
  pub low : slice_index entries number ≤ 4096 * count
  pub count_is : length buckets ≡ count
  pub owners : (bucket : ℕ) → bucket < length buckets → IsOwner entries (4096 * bucket) (slice_index buckets bucket)

pub filled_on : (entries buckets : List ℕ) (number next count : ℕ) → AreFilled entries buckets number count
    → IsOwner entries (4096 * count) next → AreFilled entries (buckets ++ next ∷ []) next (count + 1)
filled_on entries buckets number next count filled owner = record {
  inside = owner.inside;
  low = omega (arith, owner.low);
  count_is = length-append buckets (next ∷ []) ∙ omega (arith, filled.count_is);
  owners = λ bucket inside. elim (cases_lt bucket (length buckets)) [
    | inl before ↦ rw (get_or-append buckets (next ∷ []) 0 bucket before) (filled.owners bucket before)
    | inr last ↦
        let len : length (buckets ++ next ∷ []) ≡ length buckets + 1 = length-append buckets (next ∷ []) in
        let here : bucket ≡ length buckets = omega arith in
        let same : bucket ≡ count = omega (arith, filled.count_is) in
        rw (here, get_or-append_seam buckets next [] 0, filled.count_is) owner
  ];
}

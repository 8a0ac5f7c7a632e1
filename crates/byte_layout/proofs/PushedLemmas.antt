-- What loops know that write a piece for each item of a list.
use Rattle.std.proofs.Common.{◌≡◌, ℕ, ◌+◌, ◌<◌, ◌≤◌, List, ◌++◌, length, drop, get_or, refl, sym, ◌∙◌, ap, append_assoc, append-nil}
use Rattle.std.specs.List.{flat_map}
use Rattle.std.proofs.lemmas.List.{at_drop_more, at_drop_all}
use Rattle.byte_layout.specs.Stands.{Stands}
use Rattle.byte_layout.proofs.StandsLemmas.{stands_all, stands_longer}

-- the bytes so far begin with the old ones, and with the pieces of the items from an index on they are the old bytes and
-- all pieces
pub record Pushed {X : Type 0} (f : X → List ℕ) (old bytes : List ℕ) (xs : List X) (index : ℕ) : Type 0 where
  pub kept : Stands bytes 0 old
  pub told : bytes ++ flat_map f (drop index xs) ≡ old ++ flat_map f xs

module _ {X : Type 0} (f : X → List ℕ) (old : List ℕ) (xs : List X) where
  pub pushed_none : Pushed f old old xs 0
  pushed_none = record { kept = stands_all old; told = refl }

  pub pushed_next : (bytes next : List ℕ) (index : ℕ) (d : X) → index < length xs → Pushed f old bytes xs index
      → next ≡ bytes ++ f (get_or xs index d) → Pushed f old next xs (index + 1)
  pushed_next bytes next index d inside pushed is =
      record {
        kept = rw is (stands_longer bytes (f (get_or xs index d)) old 0 pushed.kept);
        told = ap (λ front. front ++ flat_map f (drop (index + 1) xs)) is
            ∙ append_assoc bytes (f (get_or xs index d)) (flat_map f (drop (index + 1) xs))
            ∙ ap (λ rest. bytes ++ rest) (sym (at_drop_more (flat_map f) xs index d inside))
            ∙ pushed.told;
      }

  pub pushed_all : (bytes : List ℕ) (index : ℕ) → length xs ≤ index → Pushed f old bytes xs index → bytes ≡ old ++ flat_map f xs
  pushed_all bytes index past pushed =
      sym (append-nil bytes) ∙ ap (λ rest. bytes ++ rest) (sym (at_drop_all (flat_map f) xs index past)) ∙ pushed.told

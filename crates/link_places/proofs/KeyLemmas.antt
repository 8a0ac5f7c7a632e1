-- What the map of addresses answers, seen without its keys.
use Rattle.std.proofs.Common.{◌≡◌, Bool, false, cond, inl, inr, ℕ, List, [], ◌∷◌, ◌++◌, map, Some, None, refl, ap, ◌∙◌}
use Rattle.std.proofs.lemmas.Bool.{cases_Bool}
use Rattle.std.specs.Map.{lookup}
use Rattle.indexmap.specs.IndexMap.{insert_entry}
use Rattle.link_places.specs.declared.key.Key.{Key}
use Rattle.link_places.specs.declared.key.Key.TheVariants.{Function, Value, Outside}
use Rattle.link_places.specs.contracts.key.KeyPartialEq.TheImpl.{eq-value}
use Rattle.link_places.specs.Keys.{meaning_of, entry_seen}
use Rattle.link_places.specs.Addresses.{is_same, address_in}

-- a comparison of keys is one of what they stand for
abbrev pub Compares : (Key → Key → Bool) → Type 0
Compares eq = (key other : Key) → eq key other ≡ is_same (meaning_of key) (meaning_of other)

module _ (eq : Key → Key → Bool) (same : Compares eq) where
  pub lookup_seen : (key : Key) (entries : List (Key × ℕ)) → lookup (eq key) entries ≡ address_in (map entry_seen entries) (Some (meaning_of key))
  lookup_seen key [] = refl
  lookup_seen key (entry ∷ entries) =
      ap (λ (is : Bool). cond is (Some entry.1) (lookup (eq key) entries)) (same key entry.0)
      ∙ ap (λ rest. cond (is_same (meaning_of key) (meaning_of entry.0)) (Some entry.1) rest) (lookup_seen key entries)

  -- a key that isn't there goes last
  pub inserted_seen : (entries : List (Key × ℕ)) (key : Key) (address : ℕ) → address_in (map entry_seen entries) (Some (meaning_of key)) ≡ None
      → map entry_seen (insert_entry eq entries key address) ≡ map entry_seen entries ++ (meaning_of key, address) ∷ []
  inserted_seen [] key address absent = refl
  inserted_seen (entry ∷ entries) key address absent =
      elim (cases_Bool (is_same (meaning_of key) (meaning_of entry.0))) [
        | inl here ↦ let wrong : Some entry.1 ≡ None = rw here at absent in cc
        | inr later ↦
            let rest : address_in (map entry_seen entries) (Some (meaning_of key)) ≡ None = rw later at absent in
            let other : eq key entry.0 ≡ false = same key entry.0 ∙ later in
            rw other (ap (λ es. entry_seen entry ∷ es) (inserted_seen entries key address rest))
      ]

-- the comparison that is derived for keys is one
pub compares : Compares eq-value.it
compares (Function unit number) (Function other its) = refl
compares (Function unit number) (Value other its) = refl
compares (Function unit number) (Outside its) = refl
compares (Value unit number) (Function other its) = refl
compares (Value unit number) (Value other its) = refl
compares (Value unit number) (Outside its) = refl
compares (Outside number) (Function other its) = refl
compares (Outside number) (Value other its) = refl
compares (Outside number) (Outside its) = refl

-- What the map of names answers, seen without where the names lie in memory.
use Rattle.std.proofs.Common.{◌≡◌, Bool, cond, inl, inr, ℕ, List, [], ◌∷◌, ◌++◌, map, Option, Some, None, refl, sym, ap}
use Rattle.std.proofs.lemmas.Bool.{cases_Bool}
use Rattle.std.specs.Borrow.{Bor}
use Rattle.std.specs.Map.{lookup}
use Rattle.indexmap.specs.IndexMap.{insert_entry}
use Rattle.link_names.specs.declared.definition.Definition.{Definition}
use Rattle.link_names.specs.Definitions.{Key, is_same}
use Rattle.link_names.specs.Adding.{entry_seen, first_of, with_entry}

abbrev Stored : Type 0
Stored = Bor (List ℕ) × Option ℕ

abbrev stored_as : Stored → Key
stored_as key = (key.0.now, key.1)

abbrev stored_same : Stored → Stored → Bool
stored_same key other = is_same (stored_as key) (stored_as other)

pub lookup_seen : (key : Key) (entries : List (Stored × Definition))
    → lookup (λ other. is_same key (stored_as other)) entries ≡ first_of (map entry_seen entries) key
lookup_seen key [] = refl
lookup_seen key (entry ∷ entries) = ap (λ rest. cond (is_same key (stored_as entry.0)) (Some entry.1) rest) (lookup_seen key entries)

-- a symbol that isn't there goes last
last_seen : (entries : List (Stored × Definition)) (key : Stored) (definition : Definition)
    → first_of (map entry_seen entries) (stored_as key) ≡ None
    → map entry_seen (insert_entry stored_same entries key definition) ≡ map entry_seen entries ++ (stored_as key, definition) ∷ []
last_seen [] key definition absent = refl
last_seen (entry ∷ entries) key definition absent =
    elim (cases_Bool (stored_same key entry.0)) [
      | inl here ↦ let wrong : Some entry.1 ≡ None = rw here at absent in cc
      | inr later ↦
          let rest : first_of (map entry_seen entries) (stored_as key) ≡ None = rw later at absent in
          rw later (ap (λ es. entry_seen entry ∷ es) (last_seen entries key definition rest))
    ]

pub inserted_seen : (entries : List (Stored × Definition)) (key : Stored) (definition : Definition)
    → None ≡ first_of (map entry_seen entries) (stored_as key)
    → map entry_seen (insert_entry stored_same entries key definition) ≡ with_entry (map entry_seen entries) (stored_as key, definition)
inserted_seen entries key definition absent = rw (← absent) (last_seen entries key definition (sym absent))

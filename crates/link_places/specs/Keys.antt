-- The keys by which addresses are kept.
use Rattle.std.specs.Prelude.{ℕ}
use Rattle.link_names.specs.declared.definition.Meaning.{Meaning}
use Rattle.link_names.specs.declared.definition.Meaning.TheVariants as means
use Rattle.link_places.specs.declared.key.Key.{Key}
use Rattle.link_places.specs.declared.key.Key.TheVariants.{Function, Value, Outside}

abbrev pub meaning_of : Key → Meaning
meaning_of (Function unit number) = means.Function unit number
meaning_of (Value unit number) = means.Value unit number
meaning_of (Outside number) = means.Outside number

-- an entry, seen without its key
abbrev pub entry_seen : Key × ℕ → Meaning × ℕ
entry_seen entry = (meaning_of entry.0, entry.1)

-- How definitions are kept, one after the other: the first one of each symbol.
use Rattle.std.specs.Prelude.{◌≡◌, ◌&&◌, Bool, true, List, [], ◌∷◌, ◌++◌, ℕ, Option, Some, None, is_some, if◌then◌else◌}
use Rattle.std.specs.Borrow.{Bor}
use Rattle.std.specs.Map.{lookup}
use Rattle.link_names.specs.declared.definition.Definition.{Definition}
use Rattle.link_names.specs.Definitions.{Key, Entry, is_same, AreAllowed, IsFirstTwice}

-- an entry, seen without where its name lies in memory
abbrev pub entry_seen : (Bor (List ℕ) × Option ℕ) × Definition → Entry
entry_seen entry = ((entry.0.0.now, entry.0.1), entry.1)

abbrev pub first_of : List Entry → Key → Option Definition
first_of entries key = lookup (is_same key) entries

abbrev pub is_allowed_by : Option Definition → Definition → Bool
is_allowed_by None definition = true
is_allowed_by (Some first) definition = first.dupok && definition.dupok

-- the definition may stand beside the one that is kept of its symbol
abbrev pub is_allowed : List Entry → Entry → Bool
is_allowed kept entry = is_allowed_by (first_of kept entry.0) entry.1

abbrev pub with_entry : List Entry → Entry → List Entry
with_entry kept entry = if is_some (first_of kept entry.0) then kept else kept ++ entry ∷ []

-- these are kept of the definitions so far, which are allowed
pub record Keeps (kept entries : List Entry) : Type 0 where
  pub first : (key : Key) → first_of kept key ≡ first_of entries key
  pub allowed : AreAllowed entries

-- further definitions came to those that are kept
unfoldable pub Adds : List Entry → List Entry → List Entry → Type 0
Adds old more new = (before : List Entry) → Keeps old before → Keeps new (before ++ more)

-- among further definitions is the first that isn't allowed
unfoldable pub Breaks : List Entry → List Entry → List ℕ → Type 0
Breaks old more name = (before : List Entry) → Keeps old before → IsFirstTwice (before ++ more) name

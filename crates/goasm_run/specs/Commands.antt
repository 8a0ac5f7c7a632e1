-- The forms of the commands' words.
use Rattle.std.specs.Prelude.{ℕ, List, [], ◌∷◌, Option, Some, None, codes, if◌then◌else◌}
use Rattle.std.specs.Str.{bytes_eq}
use Rattle.goasm_base.specs.Numbers.{number_of}
use Rattle.goasm_run.specs.declared.command.Command.{Command}
use Rattle.goasm_run.specs.declared.command.Command.TheVariants.{Lookup, Bytes, Expand, Listing, Check, Dis, Unwind}
use Rattle.goasm_run.specs.Plan.{Plan, Malformed}
use Rattle.goasm_run.specs.declared.architecture.Architecture.{Architecture}
use Rattle.goasm_run.specs.Lookup.{lookup_plan}
use Rattle.goasm_run.specs.Bytes.{architecture_of, bytes_plan}
use Rattle.goasm_run.specs.declared.image_text.ImageText.TheVariants.{Count, Code}
use Rattle.goasm_run.specs.Expand.{expand_plan}
use Rattle.goasm_run.specs.Images.{image_plan}
use Rattle.goasm_run.specs.Listing.{listing_plan}
use Rattle.goasm_run.specs.Unwind.{unwind_plan}

-- the command that a word names
unfoldable pub command_of : List ℕ → Option Command
command_of word =
    if bytes_eq word (codes "lookup") then Some Lookup
    else (if bytes_eq word (codes "bytes") then Some Bytes
    else (if bytes_eq word (codes "expand") then Some Expand
    else (if bytes_eq word (codes "listing") then Some Listing
    else (if bytes_eq word (codes "check") then Some Check
    else (if bytes_eq word (codes "dis") then Some Dis
    else (if bytes_eq word (codes "unwind") then Some Unwind else None))))))

-- `lookup TABLE PC`, where PC is a number
abbrev pub lookup_at : List ℕ → Option ℕ → Plan
lookup_at table (Some pc) = lookup_plan table pc
lookup_at table None = Malformed

-- `bytes TARGET FILE`, where TARGET is an architecture
abbrev pub bytes_of : Option Architecture → List ℕ → Plan
bytes_of (Some architecture) file = bytes_plan architecture file
bytes_of None file = Malformed

-- `listing TARGET LIST`, where TARGET is an architecture
abbrev pub listing_of : Option Architecture → List ℕ → Plan
listing_of (Some architecture) list = listing_plan architecture list
listing_of None list = Malformed

-- the commands of one word more
abbrev pub plan_of_one : Option Command → List ℕ → Plan
plan_of_one (Some Expand) first = expand_plan first
plan_of_one (Some Lookup) first = Malformed
plan_of_one (Some Bytes) first = Malformed
plan_of_one (Some Listing) first = Malformed
plan_of_one (Some Check) first = image_plan Count first
plan_of_one (Some Dis) first = image_plan Code first
plan_of_one (Some Unwind) first = Malformed
plan_of_one None first = Malformed

-- the commands of two words more
abbrev pub plan_of_two : Option Command → List ℕ → List ℕ → Plan
plan_of_two (Some Lookup) first second = lookup_at first (number_of second)
plan_of_two (Some Bytes) first second = bytes_of (architecture_of first) second
plan_of_two (Some Listing) first second = listing_of (architecture_of first) second
plan_of_two (Some Expand) first second = Malformed
plan_of_two (Some Check) first second = Malformed
plan_of_two (Some Dis) first second = Malformed
plan_of_two (Some Unwind) first second = unwind_plan first second
plan_of_two None first second = Malformed

-- what the words ask for
abbrev pub plan_of : List (List ℕ) → Plan
plan_of [] = Malformed
plan_of (word ∷ []) = Malformed
plan_of (word ∷ first ∷ []) = plan_of_one (command_of word) first
plan_of (word ∷ first ∷ second ∷ []) = plan_of_two (command_of word) first second
plan_of (word ∷ first ∷ second ∷ third ∷ others) = Malformed

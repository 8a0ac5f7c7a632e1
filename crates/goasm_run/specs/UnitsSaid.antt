-- How a target serves an architecture, and why units have no listing.
use Rattle.std.specs.Prelude.{◌≡◌, ◌≢◌, ℕ, List}
use Rattle.asm_parse.specs.declared.parse_no.ParseNo.{ParseNo}
use Rattle.asm_parse.specs.declared.parse_no.ParseNo.TheVariants as parses
use Rattle.asm_parse.specs.declared.unit.Unit.{Unit as Said}
use Rattle.unit_listing.specs.declared.listing_no.ListingNo.{ListingNo}
use Rattle.unit_listing.specs.declared.listing_no.ListingNo.TheVariants as listings
use Rattle.unit_listing.specs.Kit.{Kit}
use Rattle.goasm_text.specs.declared.refusal.Refusal.TheVariants.{Parse}
use Rattle.goasm_text.specs.Lines.{line_of}
use Rattle.goasm_run.specs.declared.architecture.Architecture.{Architecture}
use Rattle.goasm_run.specs.declared.stop.Stop.{Stop}
use Rattle.goasm_run.specs.declared.stop.Stop.TheVariants as stops
use Rattle.goasm_run.specs.Endings.{Ending, Refusal}
use Rattle.goasm_run.specs.Questions.{IsListed, IsAnswer, told_as}
use Rattle.goasm_run.specs.Questions as question

-- the data of a target are those of the architecture
abbrev pub Serves : {Instr : Type 0} → Kit Instr → Architecture → Type 0
Serves kit architecture =
    (files : List (List ℕ)) (units : List Said) (ending : Ending)
    → IsListed kit files units ending → IsAnswer (question.Listing architecture files units) ending

-- units have no listing for this reason
abbrev pub ListingStopped : {Instr : Type 0} → Kit Instr → List (List ℕ) → List Said → Stop → Type 0
ListingStopped kit files units (stops.Refused line) = IsListed kit files units (Refusal line)
ListingStopped kit files units stops.Words = ⊥
ListingStopped kit files units stops.Memory = Unit {0}
ListingStopped kit files units (stops.Unread name) = ⊥

-- a refusal of statements is told by its line, or memory is wanting
abbrev pub IsUnparsed : List (List ℕ) → ParseNo → Stop → Type 0
IsUnparsed files refused (stops.Refused line) = (refused ≢ parses.Memory) × (line ≡ line_of (Parse refused) files)
IsUnparsed files refused stops.Words = ⊥
IsUnparsed files refused stops.Memory = Unit {0}
IsUnparsed files refused (stops.Unread name) = ⊥

-- a refusal of the listing is told by its line, or memory is wanting
abbrev pub IsUnlisted : List (List ℕ) → ListingNo → Stop → Type 0
IsUnlisted files refused (stops.Refused line) = (refused ≢ listings.Memory) × (line ≡ line_of (told_as refused) files)
IsUnlisted files refused stops.Words = ⊥
IsUnlisted files refused stops.Memory = Unit {0}
IsUnlisted files refused (stops.Unread name) = ⊥

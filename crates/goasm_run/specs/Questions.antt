-- What a command asks about its input where a relation says what the answer is: a text, or the line of the first refusal.
use Rattle.std.specs.Prelude.{◌≡◌, ◌⊎◌, ℕ, pos, List, ◌++◌, All, Bool, true, false, nat_lt, length, codes, Option, Some, None}
use Rattle.goasm_base.specs.Numbers.{decimal_text}
use Rattle.asm_parse.specs.declared.unit.Unit.{Unit as Said}
use Rattle.asm_parse.specs.Valid.{IsValidUnit}
use Rattle.image_rules.specs.declared.check_no.CheckNo.{CheckNo}
use Rattle.image_rules.specs.Machine.{Machine}
use Rattle.image_rules.specs.Parts.{count_in}
use Rattle.image_rules.specs.Refusals.{IsRefused}
use Rattle.image_rules.specs.Sound.{IsSoundImage}
use Rattle.machine_dump.specs.declared.fault.DumpNo.{DumpNo}
use Rattle.machine_dump.specs.Faults.{dump_fault}
use Rattle.text_chain.specs.declared.stack.ChainNo.{ChainNo}
use Rattle.text_chain.specs.Chain.{IsChainRefused, IsChainText}
use Rattle.text_dis.specs.Listing as disassembly
use Rattle.branch_size.specs.declared.size_no.SizeNo.TheVariants as sizes
use Rattle.obj_rewrite.specs.declared.rewrite_no.RewriteNo.TheVariants as rewrites
use Rattle.unit_listing.specs.declared.listing_no.ListingNo.{ListingNo}
use Rattle.unit_listing.specs.declared.listing_no.ListingNo.TheVariants.{RW1, Select, B1, Memory}
use Rattle.unit_listing.specs.Kit.{Kit}
use Rattle.unit_listing.specs.Listing.{IsText, IsFirstRefusal}
use Rattle.goasm_text.specs.declared.refusal.Refusal as told
use Rattle.goasm_text.specs.declared.refusal.Refusal.TheVariants.{Rewrite, Size}
use Rattle.goasm_text.specs.Lines.{chain_line, check_line, dump_line, line_of}
use Rattle.goasm_run.specs.declared.architecture.Architecture.{Architecture}
use Rattle.goasm_run.specs.declared.architecture.Architecture.TheVariants.{Amd64}
use Rattle.goasm_run.specs.declared.image_text.ImageText.{ImageText}
use Rattle.goasm_run.specs.declared.image_text.ImageText.TheVariants.{Count, Code}
use Rattle.goasm_run.specs.Endings.{Ending, Text, Refusal, NoForm}
use Rattle.goasm_run.specs.Limits.{dump_limit}
use Rattle.goasm_run.specs.Lines.{too_long_line}
use Rattle.goasm_run.specs.Targets.{amd64_kit, amd64_machine}

pub data Question : Type 0 where
  -- the listing of these units, whose places are in files of these names
  Listing : (architecture : Architecture) (files : List (List ℕ)) (units : List Said) → Question
  -- what is said of the image that these bytes are, which stands in the file of this name
  Image : (architecture : Architecture) (said : ImageText) (name bytes : List ℕ) → Question
  -- the call chain that a dump recorded of a machine that ran an image, of files of these names
  Chain : (architecture : Architecture) (name dump_name image dump : List ℕ) → Question

-- what a question is asked of: units that parsing gives; any bytes
abbrev pub IsSound : Question → Type 0
IsSound (Listing architecture files units) = All IsValidUnit units
IsSound (Image architecture said name bytes) = Unit {0}
IsSound (Chain architecture name dump_name image dump) = Unit {0}

-- a refusal of the listing, as its line tells it; want of memory has none
abbrev pub told_as : ListingNo → told.Refusal
told_as (RW1 place total) = Rewrite (rewrites.RW1 place total)
told_as (Select place why) = Rewrite (rewrites.Select place why)
told_as (B1 place distance) = Size (sizes.B1 place distance)
told_as Memory = Rewrite rewrites.Memory

-- how the listing of units ends
abbrev pub IsListed : {Instr : Type 0} → Kit Instr → List (List ℕ) → List Said → Ending → Type 0
IsListed kit files units (Text text) = IsText kit units text
IsListed kit files units (Refusal line) =
    (no : ListingNo) × IsFirstRefusal kit units no × (line ≡ line_of (told_as no) files)
IsListed kit files units NoForm = ⊥

-- `ok N functions`
abbrev pub count_text : ℕ → List ℕ
count_text count = codes "ok " ++ decimal_text (pos count) ++ codes " functions\n"

-- the text that is said of a sound image: how many functions it has, or their instructions
abbrev pub IsSaid : {Instr : Type 0} → Machine Instr → ImageText → List ℕ → List ℕ → Type 0
IsSaid machine Count bytes text = text ≡ count_text (count_in bytes)
IsSaid machine Code bytes text = disassembly.IsText machine bytes text

-- the line that tells why an image is refused
abbrev pub IsUnsound : {Instr : Type 0} → Machine Instr → List ℕ → List ℕ → List ℕ → Type 0
IsUnsound machine name bytes line = (refusal : CheckNo) × IsRefused machine bytes refusal × (line ≡ check_line name refusal)

-- how the judgement of an image ends
abbrev pub IsJudged : {Instr : Type 0} → Machine Instr → ImageText → List ℕ → List ℕ → Ending → Type 0
IsJudged machine said name bytes (Text text) = IsSoundImage machine bytes × IsSaid machine said bytes text
IsJudged machine said name bytes (Refusal line) = IsUnsound machine name bytes line
IsJudged machine said name bytes NoForm = ⊥

-- how the walk of a stack ends, by the dump's first fault: the dump has none, and then it has to be one of the machine, and the walk
-- has to come to an end
abbrev pub IsWalked : {Instr : Type 0} → Machine Instr → List ℕ → List ℕ → List ℕ → Option DumpNo → Ending → Type 0
IsWalked machine name image dump (Some fault) ending = Refusal (dump_line name fault) ≡ ending
IsWalked machine name image dump None (Text text) = IsChainText machine image dump text
IsWalked machine name image dump None (Refusal line) =
    (refusal : ChainNo) × IsChainRefused machine image dump refusal × (line ≡ chain_line name refusal)
IsWalked machine name image dump None NoForm = ⊥

-- and by whether the dump is too long
abbrev pub IsWalkedIf : {Instr : Type 0} → Machine Instr → List ℕ → List ℕ → List ℕ → Bool → Ending → Type 0
IsWalkedIf machine name image dump true ending = Refusal (too_long_line name) ≡ ending
IsWalkedIf machine name image dump false ending = IsWalked machine name image dump (dump_fault dump) ending

-- how the judgement of a dump ends, over an image that is sound
abbrev pub IsDumpJudged : {Instr : Type 0} → Machine Instr → List ℕ → List ℕ → List ℕ → Ending → Type 0
IsDumpJudged machine name image dump ending = IsWalkedIf machine name image dump (nat_lt dump_limit (length dump)) ending

-- the image is judged before the dump
abbrev pub IsUnwound : {Instr : Type 0} → Machine Instr → List ℕ → List ℕ → List ℕ → List ℕ → Ending → Type 0
IsUnwound machine name dump_name image dump ending =
    ((line : List ℕ) × IsUnsound machine name image line × (Refusal line ≡ ending))
    ⊎ (IsSoundImage machine image × IsDumpJudged machine dump_name image dump ending)

abbrev pub IsAnswer : Question → Ending → Type 0
IsAnswer (Listing Amd64 files units) ending = IsListed amd64_kit files units ending
IsAnswer (Image Amd64 said name bytes) ending = IsJudged amd64_machine said name bytes ending
IsAnswer (Chain Amd64 name dump_name image dump) ending = IsUnwound amd64_machine name dump_name image dump ending

-- a question has one answer
abbrev pub HaveOneAnswer : Type 0
HaveOneAnswer =
    (question : Question) (ending other : Ending) → IsSound question → IsAnswer question ending → IsAnswer question other
    → ending ≡ other

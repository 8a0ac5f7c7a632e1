-- Why an image is refused: what is judged first, and what comes there.
use Rattle.std.specs.Prelude.{◌≡◌, ℕ, ◌+◌, ◌<◌, true, false, List, length, Some}
use Rattle.std.specs.List.{flat_map, slice_get}
use Rattle.asm_target.specs.declared.body.Placed.{Placed}
use Rattle.asm_target.specs.FlowRules.{IsFirstBreach, IsFlowSound}
use Rattle.asm_target.specs.InstructionSet.{IsListing}
use Rattle.elf_image.specs.Contents.{table_in}
use Rattle.elf_image.specs.Faults.{image_fault}
use Rattle.elf_image.specs.Image.{IsImage}
use Rattle.pclntab.specs.Faults.{table_fault}
use Rattle.pclntab.specs.Table.{IsTable}
use Rattle.flow_rules.specs.declared.flow_no.FlowNo.{FlowNo}
use Rattle.flow_rules.specs.Placing.{Surroundings, told}
use Rattle.image_model.specs.Listed.{Listed}
use Rattle.image_rules.specs.declared.check_no.CheckNo.{CheckNo}
use Rattle.image_rules.specs.declared.check_no.CheckNo.TheVariants.{K1, K2, K3, K4, K5, Memory}
use Rattle.image_rules.specs.declared.check_no.ProfileNo.{ProfileNo}
use Rattle.image_rules.specs.declared.check_no.ProfileNo.TheVariants.{Image, Table, Profile}
use Rattle.image_rules.specs.Functions.{HasTables, IsCode, IsFunction}
use Rattle.image_rules.specs.Machine.{Machine}
use Rattle.image_rules.specs.Parts.{HasProfile, Surrounds, count_in, entry_in, own_bytes}
use Rattle.image_rules.specs.Sound.{IsReadable, IsSoundFunction, is_lost, rules_of}

module _ {Instr : Type 0} (machine : Machine Instr) (bytes : List ℕ) where
  -- the image is none, then its table is none, then they don't agree
  abbrev pub IsUnreadable : ProfileNo → Type 0
  IsUnreadable (Image refusal) = image_fault bytes ≡ Some refusal
  IsUnreadable (Table refusal) = IsImage bytes × (table_fault (table_in bytes) ≡ Some refusal)
  IsUnreadable Profile = IsImage bytes × IsTable (table_in bytes) × ¬ HasProfile bytes machine

  module _ (around : Surroundings) (index : ℕ) where
    -- the bytes of a function are no code: behind the last instruction that is read, or at the entry where none is
    pub record IsUnread (place : ℕ) : Type 0 where
      pub code : List Instr
      pub rest : List ℕ
      pub listing : IsListing machine.set machine.fits (own_bytes bytes index) code rest
      pub at : place ≡ entry_in bytes index + length (flat_map machine.set.spelling code)
      pub unlike : ¬ IsCode machine (own_bytes bytes index) code

    -- its tables tell something else than its instructions want
    pub record IsUntold (place : ℕ) : Type 0 where
      pub code : List Instr
      pub is_code : IsCode machine (own_bytes bytes index) code
      pub at : place ≡ entry_in bytes index
      pub unlike : (depths : List ℕ) → ¬ HasTables machine bytes index code depths

    -- it breaks a flow rule
    pub record BreaksFlow (refusal : FlowNo) : Type 0 where
      pub listed : Listed Instr
      pub function : IsFunction machine bytes index listed
      pub breach : IsFirstBreach (rules_of machine bytes around listed) (told refusal)

    -- it keeps these, and an instruction goes to where nothing is; of such instructions it is the first
    pub record IsAstray (place : ℕ) : Type 0 where
      pub listed : Listed Instr
      pub function : IsFunction machine bytes index listed
      pub flow : IsFlowSound (rules_of machine bytes around listed)
      pub position : ℕ
      pub one : Placed Instr
      pub here : slice_get listed.code position ≡ Some one
      pub lost : is_lost machine bytes one ≡ true
      pub at : place ≡ one.at
      pub before : (k : ℕ) (other : Placed Instr) → k < position → slice_get listed.code k ≡ Some other
          → is_lost machine bytes other ≡ false

    abbrev pub BreaksRule : CheckNo → Type 0
    BreaksRule (K1 refusal) = ⊥
    BreaksRule (K2 place) = IsUnread place
    BreaksRule (K3 refusal) = BreaksFlow refusal
    BreaksRule (K4 place) = IsUntold place
    BreaksRule (K5 place) = IsAstray place
    BreaksRule Memory = ⊥

  -- the first function of a readable image that breaks a rule
  pub record IsFirstBroken (refusal : CheckNo) : Type 0 where
    pub readable : IsReadable machine bytes
    pub around : Surroundings
    pub surrounds : Surrounds bytes around
    pub index : ℕ
    pub inside : index < count_in bytes
    pub broken : BreaksRule around index refusal
    pub before : (other : ℕ) → other < index → (listed : Listed Instr) × IsSoundFunction machine bytes around other listed

  -- the image is refused for this
  abbrev pub IsRefused : CheckNo → Type 0
  IsRefused (K1 refusal) = IsUnreadable refusal
  IsRefused (K2 place) = IsFirstBroken (K2 place)
  IsRefused (K3 refusal) = IsFirstBroken (K3 refusal)
  IsRefused (K4 place) = IsFirstBroken (K4 place)
  IsRefused (K5 place) = IsFirstBroken (K5 place)
  IsRefused Memory = ⊥

-- Which statements become instructions, and why others don't.
use Rattle.std.specs.Prelude.{◌≡◌, ℕ, pos, List, All, map, Option, IfSome}
use Rattle.std.specs.Option.{option_map}
use Rattle.goasm_base.specs.declared.statement.Operand.{Operand}
use Rattle.goasm_base.specs.declared.statement.Operand.TheVariants.{Imm, Word, Mem, Sym, Arg, Auto, Label, Pair, Shifted}
use Rattle.goasm_base.specs.declared.statement.Stmt.{Stmt}
use Rattle.asm_target.specs.declared.frame.Site.{Site}
use Rattle.asm_target.specs.declared.refer.Picked.{Picked}
use Rattle.asm_target.specs.declared.select_no.SelectNo.{SelectNo}
use Rattle.asm_target.specs.declared.select_no.SelectNo.TheVariants as no

-- An operand but for its numbers: constants, offsets, scales and amounts. The number of a symbol or of a statement and the kind of a
-- shift are none
abbrev pub without_numbers : Operand → Operand
without_numbers (Imm value) = Imm 0
without_numbers (Word name) = Word name
without_numbers (Mem off base index) = Mem (pos 0) base (option_map (λ part. (part.0, 0)) index)
without_numbers (Sym sym off address) = Sym sym (pos 0) address
without_numbers (Arg name off address) = Arg name (pos 0) address
without_numbers (Auto off address) = Auto (pos 0) address
without_numbers (Label statement) = Label statement
without_numbers (Pair first second) = Pair first second
without_numbers (Shifted reg kind amount) = Shifted reg kind 0

-- two statements differ in numbers alone, or in where they stand
pub record DiffersInNumbers (one other : Stmt) : Type 0 where
  pub lock : one.lock ≡ other.lock
  pub op : one.op ≡ other.op
  pub suffix : one.suffix ≡ other.suffix
  pub operands : map without_numbers one.operands ≡ map without_numbers other.operands

-- A target's statements: which names are words, of registers or of conditions; which are registers that an address, a pair or a
-- shift can name; which mnemonics there are, with the letter of their suffix; and which instructions a statement becomes at a
-- depth in a frame
pub record Selection (Instr : Type 0) : Type 1 where
  pub word : List ℕ → Type 0
  pub register : List ℕ → Type 0
  pub knows : List ℕ → Option ℕ → Type 0
  pub becomes : Stmt → Site → List (Picked Instr) → Type 0

module _ {Instr : Type 0} (selection : Selection Instr) where
  -- a whole operand that is a name is a word, and each other name is a register
  abbrev pub NamesWords : Operand → Type 0
  NamesWords (Word name) = selection.word name
  NamesWords (Mem off base index) = selection.register base × IfSome index (λ part. selection.register part.0)
  NamesWords (Pair first second) = selection.register first × selection.register second
  NamesWords (Shifted reg kind amount) = selection.register reg
  NamesWords _ = Unit {0}

  abbrev pub IsSelected : Stmt → Site → Type 0
  IsSelected stmt site = (code : List (Picked Instr)) × selection.becomes stmt site code

  -- with other numbers in its operands the statement becomes instructions
  abbrev pub CouldBe : Stmt → Site → Type 0
  CouldBe stmt site = (other : Stmt) × DiffersInNumbers stmt other × IsSelected other site

  -- a name that has to be a register or a word is none
  pub record IsUnknownRegister (stmt : Stmt) (site : Site) : Type 0 where
    pub known : selection.knows stmt.op stmt.suffix
    pub unselected : ¬ IsSelected stmt site
    pub unnamed : ¬ All NamesWords stmt.operands

  -- no numbers help
  pub record IsFormless (stmt : Stmt) (site : Site) : Type 0 where
    pub known : selection.knows stmt.op stmt.suffix
    pub named : All NamesWords stmt.operands
    pub never : ¬ CouldBe stmt site

  -- other numbers help
  pub record IsOutOfRange (stmt : Stmt) (site : Site) : Type 0 where
    pub known : selection.knows stmt.op stmt.suffix
    pub named : All NamesWords stmt.operands
    pub unselected : ¬ IsSelected stmt site
    pub could : CouldBe stmt site

  -- the cause of each refusal; at most one of the first four holds, and none where the statement becomes instructions
  abbrev pub IsRefused : Stmt → Site → SelectNo → Type 0
  IsRefused stmt site no.S1 = ¬ selection.knows stmt.op stmt.suffix
  IsRefused stmt site no.S2 = IsUnknownRegister stmt site
  IsRefused stmt site no.S3 = IsFormless stmt site
  IsRefused stmt site no.S4 = IsOutOfRange stmt site
  IsRefused stmt site no.Memory = Unit {0}

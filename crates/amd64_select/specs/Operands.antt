-- What the operands of a statement are, at the place where it stands.
use Rattle.std.specs.Prelude.{◌≡◌, ◌⊎◌, ℕ, ℤ, pos, ◌+ℤ◌, ◌-ℤ◌, ◌+◌, Bool, true, false, List, [], ◌∷◌, Option, Some, None, IsTrue, if◌then◌else◌}
use Rattle.std.specs.Option.{option_map}
use Rattle.machine_effect.specs.Numbers.{fits as fits_bits, signed}
use Rattle.goasm_base.specs.declared.statement.Operand.{Operand}
use Rattle.goasm_base.specs.declared.statement.Operand.TheVariants as written
use Rattle.asm_target.specs.declared.frame.Site.{Site}
use Rattle.asm_target.specs.declared.refer.Part.TheVariants.{Whole}
use Rattle.asm_target.specs.declared.refer.Refer.{Refer}
use Rattle.asm_target.specs.declared.refer.To.TheVariants as to
use Rattle.amd64_table.specs.declared.reg.Reg.{Reg}
use Rattle.amd64_table.specs.declared.reg.Reg.TheVariants.{Sp}
use Rattle.amd64_table.specs.declared.xmm.Xmm.{Xmm}
use Rattle.amd64_table.specs.declared.memory.Mem.{Mem}
use Rattle.amd64_table.specs.declared.memory.Mem.TheVariants as memory
use Rattle.amd64_table.specs.declared.memory.Scale.{Scale}
use Rattle.amd64_table.specs.declared.mnemonic.Mnemonic.{Mnemonic}
use Rattle.amd64_table.specs.declared.mnemonic.Mnemonic.TheVariants as name
use Rattle.amd64_table.specs.declared.operand.Operand.TheVariants as operand
use Rattle.amd64_table.specs.Operands.{factor_of}
use Rattle.amd64_table.specs.Registers.{reg_text, xmm_text}
use Rattle.amd64_forms.specs.declared.rows.Spoken.{Spoken}
use Rattle.amd64_forms.specs.declared.rows.Spoken.TheVariants.{Listed, Direct}
use Rattle.amd64_forms.specs.declared.rows.Resolved.{Resolved}
use Rattle.amd64_forms.specs.declared.rows.Resolved.TheVariants.{Plain, Address}
use Rattle.amd64_forms.specs.Words.{IsTls}

-- the name's operand is a symbol's address where it's a symbol: a jump or a call that isn't to a label alone
abbrev pub is_branch : Mnemonic → Bool
is_branch name.Jump = true
is_branch (name.JumpIf code) = true
is_branch name.Call = true
is_branch _ = false

unfoldable pub goes_to_symbols : Spoken → Bool
goes_to_symbols (Listed m) = is_branch m
goes_to_symbols (Direct near) = true
goes_to_symbols _ = false

-- a place in memory, or with `$` its address
abbrev pub place : Bool → Mem → Resolved
place true mem = Address mem
place false mem = Plain (operand.Mem mem)

-- a symbol. Its distance is 0 until the code is placed
abbrev pub symbol : Spoken → Bool → Resolved
symbol spoken true = Address (memory.Symbol (pos 0))
symbol spoken false =
    if goes_to_symbols spoken then Plain (operand.Goal (pos 0)) else Plain (operand.Mem (memory.Symbol (pos 0)))

-- Above the stack pointer, at a depth, the first byte of the arguments and the top of the locals. BP, where it's saved, lies between
-- the locals and the return address
unfoldable pub arguments_at : Site → ℤ
arguments_at site = pos (site.depth + 8)

unfoldable pub locals_at : Site → ℤ
locals_at site = if site.frame.saves_bp then pos site.depth -ℤ pos 8 else pos site.depth

-- a displacement has 32 bits
abbrev pub IsPlaced : Bool → Reg → ℤ → Resolved → Type 0
IsPlaced address base disp x = IsTrue (fits_bits 32 disp) × (x ≡ place address (memory.Base base disp))

-- the register of a name
unfoldable pub IsRegister : List ℕ → Resolved → Type 0
IsRegister text x =
    ((reg : Reg) × (reg_text reg ≡ text) × (x ≡ Plain (operand.Reg reg)))
    ⊎ ((xmm : Xmm) × (xmm_text xmm ≡ text) × (x ≡ Plain (operand.Wide xmm)))

-- `off(base)`, where only the word that thread-local storage begins with lies at TLS
unfoldable pub IsBased : ℤ → List ℕ → Resolved → Type 0
IsBased off base x =
    ((reg : Reg) × (reg_text reg ≡ base) × IsPlaced false reg off x)
    ⊎ (IsTls base × (off ≡ pos 0) × (x ≡ Plain operand.Tls))

-- `off(base)(index*scale)`
pub record IsIndexed (off : ℤ) (base index : List ℕ) (factor : ℕ) (x : Resolved) : Type 0 where
  pub reg : Reg
  pub second : Reg
  pub scale : Scale
  pub base_named : reg_text reg ≡ base
  pub index_named : reg_text second ≡ index
  pub scaled : factor_of scale ≡ factor
  pub fit : IsTrue (fits_bits 32 off)
  pub is : x ≡ Plain (operand.Mem (memory.Indexed reg second scale off))

-- what an operand is, a kind a row
unfoldable pub Resolves : Spoken → Site → Operand → Resolved → Type 0
Resolves spoken site (written.Imm value) x = x ≡ Plain (operand.Const (signed 64 value))
Resolves spoken site (written.Word text) x = IsRegister text x
Resolves spoken site (written.Mem off base None) x = IsBased off base x
Resolves spoken site (written.Mem off base (Some index)) x = IsIndexed off base index.0 index.1 x
Resolves spoken site (written.Sym sym off address) x = x ≡ symbol spoken address
Resolves spoken site (written.Arg text off address) x = IsPlaced address Sp (arguments_at site +ℤ off) x
Resolves spoken site (written.Auto off address) x = IsPlaced address Sp (locals_at site +ℤ off) x
Resolves spoken site (written.Label statement) x = x ≡ Plain (operand.Goal (pos 0))
Resolves spoken site (written.Pair first second) x = ⊥
Resolves spoken site (written.Shifted reg kind amount) x = ⊥

-- what an operand refers to
abbrev pub refer_of : Operand → Option Refer
refer_of (written.Sym sym off address) = Some (record { to = to.Symbol sym off; part = Whole })
refer_of (written.Label statement) = Some (record { to = to.Stmt statement; part = Whole })
refer_of _ = None

-- The operand with its numbers chosen anew, so that what it becomes has the number 0: an instruction with other numbers in the same
-- operands is there exactly where it's there with these
abbrev pub eased : Site → Operand → Operand
eased site (written.Imm value) = written.Imm 0
eased site (written.Mem off base index) = written.Mem (pos 0) base (option_map (λ part. (part.0, 1)) index)
eased site (written.Sym sym off address) = written.Sym sym (pos 0) address
eased site (written.Arg text off address) = written.Arg text (pos 0 -ℤ arguments_at site) address
eased site (written.Auto off address) = written.Auto (pos 0 -ℤ locals_at site) address
eased site (written.Shifted reg kind amount) = written.Shifted reg kind 0
eased site other = other

-- the operand as it stands, or eased
abbrev pub taken : Bool → Site → Operand → Operand
taken false site other = other
taken true site other = eased site other

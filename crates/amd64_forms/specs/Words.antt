-- Names of registers and conditions, and what the name of a statement says.
use Rattle.std.specs.Prelude.{◌≡◌, ◌⊎◌, ℕ, List, codes}
use Rattle.amd64_table.specs.declared.condition.Cc.{Cc}
use Rattle.amd64_table.specs.declared.reg.Reg.{Reg}
use Rattle.amd64_table.specs.declared.xmm.Xmm.{Xmm}
use Rattle.amd64_table.specs.declared.mnemonic.Mnemonic.{Mnemonic}
use Rattle.amd64_table.specs.Conditions.{cc_text}
use Rattle.amd64_table.specs.Mnemonics.{mnemonic_text}
use Rattle.amd64_table.specs.Registers.{reg_text, xmm_text}
use Rattle.amd64_forms.specs.declared.alias.Alias.{Alias}
use Rattle.amd64_forms.specs.declared.rows.Spoken.{Spoken}
use Rattle.amd64_forms.specs.declared.rows.Spoken.TheVariants.{Listed}
use Rattle.amd64_forms.specs.Names.{alias_text}
use Rattle.amd64_forms.specs.Rows.{meaning_of}

-- a name of the list says its instruction, and another one what it stands for
unfoldable pub Says : List ℕ → Spoken → Type 0
Says name spoken =
    ((m : Mnemonic) × (mnemonic_text m ≡ name) × (spoken ≡ Listed m))
    ⊎ ((alias : Alias) × (alias_text alias ≡ name) × (spoken ≡ meaning_of alias))

-- the base of thread-local storage, register 16 of a machine's state
abbrev pub IsTls : List ℕ → Type 0
IsTls name = name ≡ codes "TLS"

-- a register that an address can name
unfoldable pub IsRegister : List ℕ → Type 0
IsRegister name = ((reg : Reg) × (reg_text reg ≡ name)) ⊎ (((xmm : Xmm) × (xmm_text xmm ≡ name)) ⊎ IsTls name)

-- a condition; LO and HS are other names of CS and CC
unfoldable pub IsCondition : List ℕ → Type 0
IsCondition name = ((code : Cc) × (cc_text code ≡ name)) ⊎ ((name ≡ codes "LO") ⊎ (name ≡ codes "HS"))

abbrev pub IsWord : List ℕ → Type 0
IsWord name = IsRegister name ⊎ IsCondition name

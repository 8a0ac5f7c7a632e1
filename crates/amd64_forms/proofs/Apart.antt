-- No name is that of two things.
use Rattle.std.proofs.Common.{◌≡◌, rules, codes}
use Rattle.amd64_table.specs.declared.reg.Reg.{Reg}
use Rattle.amd64_table.specs.declared.xmm.Xmm.{Xmm}
use Rattle.amd64_table.specs.Registers.{reg_text, xmm_text}
use Rattle.amd64_forms.specs.declared.alias.Alias.{Alias}
use Rattle.amd64_forms.specs.Names.{alias_text}

pub regs_apart : (one other : Reg) → reg_text one ≡ reg_text other → one ≡ other
unfolding reg_text
regs_apart = search rules

pub xmms_apart : (one other : Xmm) → xmm_text one ≡ xmm_text other → one ≡ other
unfolding xmm_text
xmms_apart = search rules

pub reg_no_xmm : (reg : Reg) (xmm : Xmm) → reg_text reg ≡ xmm_text xmm → ⊥
unfolding reg_text xmm_text
reg_no_xmm = search rules

pub reg_no_tls : (reg : Reg) → reg_text reg ≡ codes "TLS" → ⊥
unfolding reg_text
reg_no_tls = search rules

pub aliases_apart : (one other : Alias) → alias_text one ≡ alias_text other → one ≡ other
unfolding alias_text
aliases_apart = search rules

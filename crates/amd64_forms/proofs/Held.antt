-- What a statement becomes is listed, and holds an address where one of its operands does.
use Rattle.std.specs.Prelude.{◌||◌, is_some}
use Rattle.std.proofs.Common.{◌≡◌, Bool, true, false, IsTrue, Option, Some, None, refl, ◌∙◌, ap, rules}
use Rattle.amd64_table.specs.declared.condition.Cc.{Cc}
use Rattle.amd64_table.specs.declared.memory.Mem.{Mem}
use Rattle.amd64_table.specs.declared.memory.Mem.TheVariants as memory
use Rattle.amd64_table.specs.declared.op.Near.{Near}
use Rattle.amd64_table.specs.declared.mnemonic.Mnemonic.{Mnemonic}
use Rattle.amd64_table.specs.declared.operand.Operand.{Operand}
use Rattle.amd64_table.specs.declared.operand.Operand.TheVariants as operand
use Rattle.amd64_table.specs.declared.instr.Instr.{Instr}
use Rattle.amd64_table.specs.Fits.{fits}
use Rattle.amd64_table.specs.Texts.{operands_of, reg_rm_operands, mem_reg_operands}
use Rattle.amd64_forms.specs.Aiming.{distance_of, place_in}
use Rattle.amd64_forms.specs.declared.rows.Spoken.{Spoken}
use Rattle.amd64_forms.specs.declared.rows.Spoken.TheVariants as spoken
use Rattle.amd64_forms.specs.declared.rows.Resolved.{Resolved}
use Rattle.amd64_forms.specs.declared.rows.Resolved.TheVariants.{Plain, Address}
use Rattle.amd64_forms.specs.Rows.{Written, WritesOf, Becomes, stands}

abbrev pub is_symbol : Mem → Bool
is_symbol (memory.Symbol distance) = true
is_symbol _ = false

-- the operand holds an address as a distance
abbrev pub holds : Option Operand → Bool
holds (Some (operand.Goal distance)) = true
holds (Some (operand.Mem mem)) = is_symbol mem
holds _ = false

abbrev pub holds_address : Option Resolved → Bool
holds_address (Some (Plain shown)) = holds (Some shown)
holds_address (Some (Address mem)) = is_symbol mem
holds_address None = false

directed : (i : Instr) → is_some (distance_of i) ≡ (holds (operands_of i).0 || holds (operands_of i).1)
unfolding distance_of place_in operands_of reg_rm_operands mem_reg_operands
directed = search rules

abbrev HoldsAlike : Spoken → Type 0
HoldsAlike s = (a b : Option Resolved) (w : Written) → stands s a b ≡ Some w
    → (holds w.1.0 || holds w.1.1) ≡ (holds_address a || holds_address b)

listed_alike : (m : Mnemonic) → HoldsAlike (spoken.Listed m)
unfolding stands
listed_alike = search rules

widen_alike : HoldsAlike spoken.Widen
unfolding stands
widen_alike = search rules

label_alike : (code : Cc) → HoldsAlike (spoken.ToLabel code)
unfolding stands
label_alike = search rules

direct_alike : (near : Near) → HoldsAlike (spoken.Direct near)
unfolding stands
direct_alike = search rules

adjust_alike : HoldsAlike spoken.Adjust
unfolding stands
adjust_alike = search rules

nothing_alike : HoldsAlike spoken.Nothing
unfolding stands
nothing_alike = search rules

alike : (s : Spoken) → HoldsAlike s
alike (spoken.Listed m) = listed_alike m
alike spoken.Widen = widen_alike
alike (spoken.ToLabel code) = label_alike code
alike (spoken.Direct near) = direct_alike near
alike spoken.Adjust = adjust_alike
alike spoken.Nothing = nothing_alike

pub becomes_listed : (s : Spoken) (lock : Bool) (a b : Option Resolved) (i : Instr) → Becomes s lock a b i → IsTrue (fits i)
unfolding Becomes
becomes_listed s lock a b i becomes = by (stands s a b) becomes
  where
    by : (w : Option Written) → WritesOf w lock i → IsTrue (fits i)
    by None writes = absurd writes
    by (Some w) writes = writes.listed

pub becomes_directed : (s : Spoken) (lock : Bool) (a b : Option Resolved) (i : Instr) → Becomes s lock a b i
    → is_some (distance_of i) ≡ (holds_address a || holds_address b)
unfolding Becomes
becomes_directed s lock a b i becomes = by (stands s a b) refl becomes
  where
    by : (w : Option Written) → stands s a b ≡ w → WritesOf w lock i
        → is_some (distance_of i) ≡ (holds_address a || holds_address b)
    by None is writes = absurd writes
    by (Some w) is writes =
        directed i ∙ ap (λ (shown : Option Operand × Option Operand). holds shown.0 || holds shown.1) writes.shows.shown
        ∙ alike s a b w is

-- No name of the instruction list is that of two instructions, or is another name.
use Rattle.std.proofs.Common.{◌≡◌, ◌⊎◌, ℕ, List, [], ◌∷◌, sym, ap, rules, arith, inl, inr}
use Rattle.amd64_table.specs.declared.condition.Cc.{Cc}
use Rattle.amd64_table.specs.declared.width.Width.{Width}
use Rattle.amd64_table.specs.declared.width.Width.TheVariants.{Q, L}
use Rattle.amd64_table.specs.declared.mnemonic.Mnemonic.{Mnemonic}
use Rattle.amd64_table.specs.declared.mnemonic.Mnemonic.TheVariants as name
use Rattle.amd64_table.specs.declared.op.Arithmetic.{Arithmetic}
use Rattle.amd64_table.specs.declared.op.Atomic.{Atomic}
use Rattle.amd64_table.specs.declared.op.Extend.{Extend}
use Rattle.amd64_table.specs.declared.op.MulDiv.{MulDiv}
use Rattle.amd64_table.specs.declared.op.Plain.{Plain}
use Rattle.amd64_table.specs.declared.op.RmReg.{RmReg}
use Rattle.amd64_table.specs.declared.op.ShiftOp.{ShiftOp}
use Rattle.amd64_table.specs.declared.op.Stack.{Stack}
use Rattle.amd64_table.specs.declared.op.StoreSize.{StoreSize}
use Rattle.amd64_table.specs.declared.op.Unary.{Unary}
use Rattle.amd64_table.specs.Mnemonics.{mnemonic_text, stem_of, width_of, cc_of, width_text, condition_text, arithmetic_stem, extend_stem, unary_stem, mul_div_stem, rm_reg_stem, shift_stem, plain_stem}
use Rattle.amd64_table.specs.Conditions.{cc_text}
use Rattle.amd64_forms.specs.declared.alias.Alias.{Alias}
use Rattle.amd64_forms.specs.Names.{alias_text}
use Rattle.amd64_forms.specs.Groups.{Whole, Computing, Moving, Conditional, group_of}

-- the name is that of no other instruction
abbrev IsSole : Mnemonic → Type 0
IsSole one = (other : Mnemonic) → mnemonic_text one ≡ mnemonic_text other → one ≡ other

sole_mov : (width : Width) → IsSole (name.Mov width)
unfolding mnemonic_text stem_of width_of cc_of width_text condition_text arithmetic_stem extend_stem unary_stem mul_div_stem rm_reg_stem shift_stem plain_stem cc_text
sole_mov = search rules

sole_store_low : (size : StoreSize) → IsSole (name.StoreLow size)
unfolding mnemonic_text stem_of width_of cc_of width_text condition_text arithmetic_stem extend_stem unary_stem mul_div_stem rm_reg_stem shift_stem plain_stem cc_text
sole_store_low = search rules

sole_extend : (op : Extend) → IsSole (name.Extend op)
unfolding mnemonic_text stem_of width_of cc_of width_text condition_text arithmetic_stem extend_stem unary_stem mul_div_stem rm_reg_stem shift_stem plain_stem cc_text
sole_extend = search rules

sole_arithmetic : (op : Arithmetic) (width : Width) → IsSole (name.Arithmetic op width)
unfolding mnemonic_text stem_of width_of cc_of width_text condition_text arithmetic_stem extend_stem unary_stem mul_div_stem rm_reg_stem shift_stem plain_stem cc_text
sole_arithmetic = search rules

sole_cmp : (width : Width) → IsSole (name.Cmp width)
unfolding mnemonic_text stem_of width_of cc_of width_text condition_text arithmetic_stem extend_stem unary_stem mul_div_stem rm_reg_stem shift_stem plain_stem cc_text
sole_cmp = search rules

sole_test : (width : Width) → IsSole (name.Test width)
unfolding mnemonic_text stem_of width_of cc_of width_text condition_text arithmetic_stem extend_stem unary_stem mul_div_stem rm_reg_stem shift_stem plain_stem cc_text
sole_test = search rules

sole_unary : (op : Unary) (width : Width) → IsSole (name.Unary op width)
unfolding mnemonic_text stem_of width_of cc_of width_text condition_text arithmetic_stem extend_stem unary_stem mul_div_stem rm_reg_stem shift_stem plain_stem cc_text
sole_unary = search rules

sole_mul_div : (op : MulDiv) (width : Width) → IsSole (name.MulDiv op width)
unfolding mnemonic_text stem_of width_of cc_of width_text condition_text arithmetic_stem extend_stem unary_stem mul_div_stem rm_reg_stem shift_stem plain_stem cc_text
sole_mul_div = search rules

sole_rm_reg : (op : RmReg) (width : Width) → IsSole (name.RmReg op width)
unfolding mnemonic_text stem_of width_of cc_of width_text condition_text arithmetic_stem extend_stem unary_stem mul_div_stem rm_reg_stem shift_stem plain_stem cc_text
sole_rm_reg = search rules

sole_shift : (op : ShiftOp) (width : Width) → IsSole (name.Shift op width)
unfolding mnemonic_text stem_of width_of cc_of width_text condition_text arithmetic_stem extend_stem unary_stem mul_div_stem rm_reg_stem shift_stem plain_stem cc_text
sole_shift = search rules

sole_stack : (op : Stack) → IsSole (name.Stack op)
unfolding mnemonic_text stem_of width_of cc_of width_text condition_text arithmetic_stem extend_stem unary_stem mul_div_stem rm_reg_stem shift_stem plain_stem cc_text
sole_stack = search rules

sole_exchange : (width : Width) → IsSole (name.Exchange width)
unfolding mnemonic_text stem_of width_of cc_of width_text condition_text arithmetic_stem extend_stem unary_stem mul_div_stem rm_reg_stem shift_stem plain_stem cc_text
sole_exchange = search rules

sole_set_cc : (code : Cc) → IsSole (name.SetCc code)
unfolding mnemonic_text stem_of width_of cc_of width_text condition_text arithmetic_stem extend_stem unary_stem mul_div_stem rm_reg_stem shift_stem plain_stem cc_text
sole_set_cc = search rules

sole_swap_bytes : (width : Width) → IsSole (name.SwapBytes width)
unfolding mnemonic_text stem_of width_of cc_of width_text condition_text arithmetic_stem extend_stem unary_stem mul_div_stem rm_reg_stem shift_stem plain_stem cc_text
sole_swap_bytes = search rules

sole_jump_if : (code : Cc) → IsSole (name.JumpIf code)
unfolding mnemonic_text stem_of width_of cc_of width_text condition_text arithmetic_stem extend_stem unary_stem mul_div_stem rm_reg_stem shift_stem plain_stem cc_text
sole_jump_if = search rules

sole_plain : (op : Plain) → IsSole (name.Plain op)
unfolding mnemonic_text stem_of width_of cc_of width_text condition_text arithmetic_stem extend_stem unary_stem mul_div_stem rm_reg_stem shift_stem plain_stem cc_text
sole_plain = search rules

sole_lea : IsSole name.Lea
unfolding mnemonic_text stem_of width_of cc_of width_text condition_text arithmetic_stem extend_stem unary_stem mul_div_stem rm_reg_stem shift_stem plain_stem cc_text
sole_lea = search rules

sole_jump : IsSole name.Jump
unfolding mnemonic_text stem_of width_of cc_of width_text condition_text arithmetic_stem extend_stem unary_stem mul_div_stem rm_reg_stem shift_stem plain_stem cc_text
sole_jump = search rules

sole_call : IsSole name.Call
unfolding mnemonic_text stem_of width_of cc_of width_text condition_text arithmetic_stem extend_stem unary_stem mul_div_stem rm_reg_stem shift_stem plain_stem cc_text
sole_call = search rules

sole_move_wide : IsSole name.MoveWide
unfolding mnemonic_text stem_of width_of cc_of width_text condition_text arithmetic_stem extend_stem unary_stem mul_div_stem rm_reg_stem shift_stem plain_stem cc_text
sole_move_wide = search rules

sole_xor_wide : IsSole name.XorWide
unfolding mnemonic_text stem_of width_of cc_of width_text condition_text arithmetic_stem extend_stem unary_stem mul_div_stem rm_reg_stem shift_stem plain_stem cc_text
sole_xor_wide = search rules

-- CMPXCHGQ, CMOVQEQ and their kin
abbrev IsRest : Mnemonic → Type 0
IsRest (name.Atomic op width) = Unit {0}
IsRest (name.MoveCc width code) = Unit {0}
IsRest _ = ⊥

sole_or_rest : (m : Mnemonic) → IsSole m ⊎ IsRest m
sole_or_rest (name.Mov width) = inl (sole_mov width)
sole_or_rest (name.StoreLow size) = inl (sole_store_low size)
sole_or_rest (name.Extend op) = inl (sole_extend op)
sole_or_rest (name.Arithmetic op width) = inl (sole_arithmetic op width)
sole_or_rest (name.Cmp width) = inl (sole_cmp width)
sole_or_rest (name.Test width) = inl (sole_test width)
sole_or_rest (name.Unary op width) = inl (sole_unary op width)
sole_or_rest (name.MulDiv op width) = inl (sole_mul_div op width)
sole_or_rest (name.RmReg op width) = inl (sole_rm_reg op width)
sole_or_rest (name.Shift op width) = inl (sole_shift op width)
sole_or_rest (name.Stack op) = inl (sole_stack op)
sole_or_rest (name.Exchange width) = inl (sole_exchange width)
sole_or_rest (name.Atomic op width) = inr tt
sole_or_rest (name.SetCc code) = inl (sole_set_cc code)
sole_or_rest (name.MoveCc width code) = inr tt
sole_or_rest (name.SwapBytes width) = inl (sole_swap_bytes width)
sole_or_rest (name.JumpIf code) = inl (sole_jump_if code)
sole_or_rest (name.Plain op) = inl (sole_plain op)
sole_or_rest name.Lea = inl (sole_lea)
sole_or_rest name.Jump = inl (sole_jump)
sole_or_rest name.Call = inl (sole_call)
sole_or_rest name.MoveWide = inl (sole_move_wide)
sole_or_rest name.XorWide = inl (sole_xor_wide)

atomics_apart : (op : Atomic) (width : Width) (op' : Atomic) (width' : Width)
    → mnemonic_text (name.Atomic op width) ≡ mnemonic_text (name.Atomic op' width') → name.Atomic op width ≡ name.Atomic op' width'
unfolding mnemonic_text stem_of width_of cc_of width_text condition_text arithmetic_stem extend_stem unary_stem mul_div_stem rm_reg_stem shift_stem plain_stem cc_text
atomics_apart = search rules

ccs_apart : (one other : Cc) → cc_text one ≡ cc_text other → one ≡ other
unfolding cc_text
ccs_apart = search rules

-- the letter of the width
abbrev fifth : List ℕ → ℕ
fifth (a ∷ b ∷ c ∷ d ∷ e ∷ more) = e
fifth _ = 0

letters : (one other : ℕ) → ¬ (one ≡ other) → one ≡ other → ⊥
letters one other apart same = apart same

moves_apart : (width : Width) (code : Cc) (width' : Width) (code' : Cc)
    → mnemonic_text (name.MoveCc width code) ≡ mnemonic_text (name.MoveCc width' code')
    → name.MoveCc width code ≡ name.MoveCc width' code'
unfolding mnemonic_text stem_of width_of cc_of width_text condition_text
moves_apart Q code Q code' same =
    let tails : cc_text code ≡ cc_text code' = cc in ap (λ (code : Cc). name.MoveCc Q code) (ccs_apart code code' tails)
moves_apart L code L code' same =
    let tails : cc_text code ≡ cc_text code' = cc in ap (λ (code : Cc). name.MoveCc L code) (ccs_apart code code' tails)
moves_apart Q code L code' same = absurd (letters 81 76 (omega arith) (ap fifth same))
moves_apart L code Q code' same = absurd (letters 76 81 (omega arith) (ap fifth same))

atomic_no_move : (op : Atomic) (width : Width) (width' : Width) (code : Cc)
    → mnemonic_text (name.Atomic op width) ≡ mnemonic_text (name.MoveCc width' code) → ⊥
unfolding mnemonic_text stem_of width_of cc_of width_text condition_text arithmetic_stem extend_stem unary_stem mul_div_stem rm_reg_stem shift_stem plain_stem cc_text
atomic_no_move = search rules

rest_apart : (one other : Mnemonic) → IsRest one → IsRest other → mnemonic_text one ≡ mnemonic_text other → one ≡ other
rest_apart (name.Atomic op width) (name.Atomic op' width') a b same = atomics_apart op width op' width' same
rest_apart (name.Atomic op width) (name.MoveCc width' code) a b same = absurd (atomic_no_move op width width' code same)
rest_apart (name.MoveCc width' code) (name.Atomic op width) a b same = absurd (atomic_no_move op width width' code (sym same))
rest_apart (name.MoveCc width code) (name.MoveCc width' code') a b same = moves_apart width code width' code' same
rest_apart (name.Atomic op width) other a b same = absurd b
rest_apart (name.MoveCc width code) other a b same = absurd b
rest_apart one other a b same = absurd a

pub mnemonics_apart : (one other : Mnemonic) → mnemonic_text one ≡ mnemonic_text other → one ≡ other
mnemonics_apart one other same =
    elim (sole_or_rest one) as (λ _. one ≡ other) [
      | inl sole ↦ sole other same
      | inr rest ↦ elim (sole_or_rest other) as (λ _. one ≡ other) [
        | inl sole ↦ sym (sole one (sym same))
        | inr more ↦ rest_apart one other rest more same
      ]
    ]

pub mnemonic_no_alias : (m : Mnemonic) (alias : Alias) → mnemonic_text m ≡ alias_text alias → ⊥
unfolding mnemonic_text stem_of width_of cc_of width_text condition_text arithmetic_stem extend_stem unary_stem mul_div_stem rm_reg_stem shift_stem plain_stem cc_text alias_text
mnemonic_no_alias = search rules

-- each name is in a group
pub groups : (m : Mnemonic) → (group_of m ≡ Whole) ⊎ ((group_of m ≡ Computing) ⊎ ((group_of m ≡ Moving) ⊎ (group_of m ≡ Conditional)))
unfolding group_of
groups = search rules

-- A name has the width of what it says, and another text has none.
use Rattle.std.specs.Prelude.{map, if◌then◌else◌}
use Rattle.std.proofs.Common.{◌≡◌, ◌⊎◌, ℕ, ◌==◌, ◌&&◌, Bool, true, false, List, [], ◌∷◌, ◌++◌, refl, sym, ◌∙◌, ap, arith, rules, inl, inr}
use Rattle.std.proofs.lemmas.Bool.{and_parts}
use Rattle.std.proofs.lemmas.Bool.Decides.{nat_tests}
use Rattle.asm_target.specs.declared.width.Width.{Width}
use Rattle.asm_target.specs.declared.width.Width.TheVariants.{Unknown}
use Rattle.amd64_table.specs.declared.condition.Cc.TheVariants as held
use Rattle.amd64_table.specs.declared.width.Width.TheVariants.{Q, L}
use Rattle.amd64_table.specs.declared.op.Arithmetic.TheVariants as arithmetic
use Rattle.amd64_table.specs.declared.op.Atomic.TheVariants as atomic
use Rattle.amd64_table.specs.declared.op.Extend.TheVariants as extend
use Rattle.amd64_table.specs.declared.op.MulDiv.TheVariants as mul_div
use Rattle.amd64_table.specs.declared.op.Plain.TheVariants as plain
use Rattle.amd64_table.specs.declared.op.RmReg.TheVariants as rm_reg
use Rattle.amd64_table.specs.declared.op.ShiftOp.TheVariants as shifts
use Rattle.amd64_table.specs.declared.op.Stack.TheVariants as stack
use Rattle.amd64_table.specs.declared.op.StoreSize.TheVariants as size
use Rattle.amd64_table.specs.declared.op.Unary.TheVariants as unary
use Rattle.amd64_table.specs.declared.mnemonic.Mnemonic.{Mnemonic}
use Rattle.amd64_table.specs.declared.mnemonic.Mnemonic.TheVariants as name
use Rattle.amd64_table.specs.Mnemonics.{mnemonic_text, stem_of, width_of as letter_of, cc_of, width_text, condition_text, arithmetic_stem, extend_stem, unary_stem, mul_div_stem, rm_reg_stem, shift_stem, plain_stem}
use Rattle.amd64_table.specs.Conditions.{cc_text}
use Rattle.amd64_forms.specs.declared.alias.Alias.{Alias}
use Rattle.amd64_forms.specs.declared.rows.Spoken.{Spoken}
use Rattle.amd64_forms.specs.Names.{alias_text}
use Rattle.amd64_forms.specs.Rows.{meaning_of}
use Rattle.amd64_forms.specs.Words.{Says}
use Rattle.amd64_select.specs.Widths.{aliases, names, same_text, spoken_width, width_among, width_of, width_of_text}

mnemonic_width : (m : Mnemonic) → width_of_text (mnemonic_text m) ≡ width_of m
unfolding width_of_text width_of mnemonic_text stem_of letter_of cc_of width_text condition_text arithmetic_stem extend_stem unary_stem mul_div_stem rm_reg_stem shift_stem plain_stem cc_text alias_text meaning_of
mnemonic_width (name.Mov Q) = refl
mnemonic_width (name.Mov L) = refl
mnemonic_width (name.Cmp Q) = refl
mnemonic_width (name.Cmp L) = refl
mnemonic_width (name.Test Q) = refl
mnemonic_width (name.Test L) = refl
mnemonic_width (name.Exchange Q) = refl
mnemonic_width (name.Exchange L) = refl
mnemonic_width (name.SwapBytes Q) = refl
mnemonic_width (name.SwapBytes L) = refl
mnemonic_width (name.Arithmetic arithmetic.Add Q) = refl
mnemonic_width (name.Arithmetic arithmetic.Add L) = refl
mnemonic_width (name.Arithmetic arithmetic.Or Q) = refl
mnemonic_width (name.Arithmetic arithmetic.Or L) = refl
mnemonic_width (name.Arithmetic arithmetic.Adc Q) = refl
mnemonic_width (name.Arithmetic arithmetic.Adc L) = refl
mnemonic_width (name.Arithmetic arithmetic.Sbb Q) = refl
mnemonic_width (name.Arithmetic arithmetic.Sbb L) = refl
mnemonic_width (name.Arithmetic arithmetic.And Q) = refl
mnemonic_width (name.Arithmetic arithmetic.And L) = refl
mnemonic_width (name.Arithmetic arithmetic.Sub Q) = refl
mnemonic_width (name.Arithmetic arithmetic.Sub L) = refl
mnemonic_width (name.Arithmetic arithmetic.Xor Q) = refl
mnemonic_width (name.Arithmetic arithmetic.Xor L) = refl
mnemonic_width (name.Unary unary.Inc Q) = refl
mnemonic_width (name.Unary unary.Inc L) = refl
mnemonic_width (name.Unary unary.Dec Q) = refl
mnemonic_width (name.Unary unary.Dec L) = refl
mnemonic_width (name.Unary unary.Not Q) = refl
mnemonic_width (name.Unary unary.Not L) = refl
mnemonic_width (name.Unary unary.Neg Q) = refl
mnemonic_width (name.Unary unary.Neg L) = refl
mnemonic_width (name.MulDiv mul_div.Mul Q) = refl
mnemonic_width (name.MulDiv mul_div.Mul L) = refl
mnemonic_width (name.MulDiv mul_div.Div Q) = refl
mnemonic_width (name.MulDiv mul_div.Div L) = refl
mnemonic_width (name.MulDiv mul_div.Idiv Q) = refl
mnemonic_width (name.MulDiv mul_div.Idiv L) = refl
mnemonic_width (name.RmReg rm_reg.Imul Q) = refl
mnemonic_width (name.RmReg rm_reg.Imul L) = refl
mnemonic_width (name.RmReg rm_reg.Bsf Q) = refl
mnemonic_width (name.RmReg rm_reg.Bsf L) = refl
mnemonic_width (name.RmReg rm_reg.Bsr Q) = refl
mnemonic_width (name.RmReg rm_reg.Bsr L) = refl
mnemonic_width (name.RmReg rm_reg.Popcnt Q) = refl
mnemonic_width (name.RmReg rm_reg.Popcnt L) = refl
mnemonic_width (name.Shift shifts.Shl Q) = refl
mnemonic_width (name.Shift shifts.Shl L) = refl
mnemonic_width (name.Shift shifts.Shr Q) = refl
mnemonic_width (name.Shift shifts.Shr L) = refl
mnemonic_width (name.Shift shifts.Sar Q) = refl
mnemonic_width (name.Shift shifts.Sar L) = refl
mnemonic_width (name.Shift shifts.Rol Q) = refl
mnemonic_width (name.Shift shifts.Rol L) = refl
mnemonic_width (name.Atomic atomic.CompareExchange Q) = refl
mnemonic_width (name.Atomic atomic.CompareExchange L) = refl
mnemonic_width (name.Atomic atomic.ExchangeAdd Q) = refl
mnemonic_width (name.Atomic atomic.ExchangeAdd L) = refl
mnemonic_width (name.StoreLow size.Byte) = refl
mnemonic_width (name.StoreLow size.Word) = refl
mnemonic_width (name.Extend extend.ByteZero) = refl
mnemonic_width (name.Extend extend.WordZero) = refl
mnemonic_width (name.Extend extend.ByteSign) = refl
mnemonic_width (name.Extend extend.WordSign) = refl
mnemonic_width (name.Extend extend.LongSign) = refl
mnemonic_width (name.Stack stack.Push) = refl
mnemonic_width (name.Stack stack.Pop) = refl
mnemonic_width (name.SetCc held.Over) = refl
mnemonic_width (name.SetCc held.NotOver) = refl
mnemonic_width (name.SetCc held.Carry) = refl
mnemonic_width (name.SetCc held.NotCarry) = refl
mnemonic_width (name.SetCc held.Zero) = refl
mnemonic_width (name.SetCc held.NotZero) = refl
mnemonic_width (name.SetCc held.CarryOrZero) = refl
mnemonic_width (name.SetCc held.NeitherCarryNorZero) = refl
mnemonic_width (name.SetCc held.Negative) = refl
mnemonic_width (name.SetCc held.NotNegative) = refl
mnemonic_width (name.SetCc held.ParityEven) = refl
mnemonic_width (name.SetCc held.ParityOdd) = refl
mnemonic_width (name.SetCc held.Less) = refl
mnemonic_width (name.SetCc held.GreaterOrEqual) = refl
mnemonic_width (name.SetCc held.LessOrEqual) = refl
mnemonic_width (name.SetCc held.Greater) = refl
mnemonic_width (name.MoveCc Q held.Over) = refl
mnemonic_width (name.MoveCc Q held.NotOver) = refl
mnemonic_width (name.MoveCc Q held.Carry) = refl
mnemonic_width (name.MoveCc Q held.NotCarry) = refl
mnemonic_width (name.MoveCc Q held.Zero) = refl
mnemonic_width (name.MoveCc Q held.NotZero) = refl
mnemonic_width (name.MoveCc Q held.CarryOrZero) = refl
mnemonic_width (name.MoveCc Q held.NeitherCarryNorZero) = refl
mnemonic_width (name.MoveCc Q held.Negative) = refl
mnemonic_width (name.MoveCc Q held.NotNegative) = refl
mnemonic_width (name.MoveCc Q held.ParityEven) = refl
mnemonic_width (name.MoveCc Q held.ParityOdd) = refl
mnemonic_width (name.MoveCc Q held.Less) = refl
mnemonic_width (name.MoveCc Q held.GreaterOrEqual) = refl
mnemonic_width (name.MoveCc Q held.LessOrEqual) = refl
mnemonic_width (name.MoveCc Q held.Greater) = refl
mnemonic_width (name.MoveCc L held.Over) = refl
mnemonic_width (name.MoveCc L held.NotOver) = refl
mnemonic_width (name.MoveCc L held.Carry) = refl
mnemonic_width (name.MoveCc L held.NotCarry) = refl
mnemonic_width (name.MoveCc L held.Zero) = refl
mnemonic_width (name.MoveCc L held.NotZero) = refl
mnemonic_width (name.MoveCc L held.CarryOrZero) = refl
mnemonic_width (name.MoveCc L held.NeitherCarryNorZero) = refl
mnemonic_width (name.MoveCc L held.Negative) = refl
mnemonic_width (name.MoveCc L held.NotNegative) = refl
mnemonic_width (name.MoveCc L held.ParityEven) = refl
mnemonic_width (name.MoveCc L held.ParityOdd) = refl
mnemonic_width (name.MoveCc L held.Less) = refl
mnemonic_width (name.MoveCc L held.GreaterOrEqual) = refl
mnemonic_width (name.MoveCc L held.LessOrEqual) = refl
mnemonic_width (name.MoveCc L held.Greater) = refl
mnemonic_width (name.JumpIf held.Over) = refl
mnemonic_width (name.JumpIf held.NotOver) = refl
mnemonic_width (name.JumpIf held.Carry) = refl
mnemonic_width (name.JumpIf held.NotCarry) = refl
mnemonic_width (name.JumpIf held.Zero) = refl
mnemonic_width (name.JumpIf held.NotZero) = refl
mnemonic_width (name.JumpIf held.CarryOrZero) = refl
mnemonic_width (name.JumpIf held.NeitherCarryNorZero) = refl
mnemonic_width (name.JumpIf held.Negative) = refl
mnemonic_width (name.JumpIf held.NotNegative) = refl
mnemonic_width (name.JumpIf held.ParityEven) = refl
mnemonic_width (name.JumpIf held.ParityOdd) = refl
mnemonic_width (name.JumpIf held.Less) = refl
mnemonic_width (name.JumpIf held.GreaterOrEqual) = refl
mnemonic_width (name.JumpIf held.LessOrEqual) = refl
mnemonic_width (name.JumpIf held.Greater) = refl
mnemonic_width name.Lea = refl
mnemonic_width name.Jump = refl
mnemonic_width name.Call = refl
mnemonic_width name.MoveWide = refl
mnemonic_width name.XorWide = refl
mnemonic_width (name.Plain plain.Pause) = refl
mnemonic_width (name.Plain plain.Mfence) = refl
mnemonic_width (name.Plain plain.Cdq) = refl
mnemonic_width (name.Plain plain.Cqo) = refl
mnemonic_width (name.Plain plain.Ret) = refl
mnemonic_width (name.Plain plain.Syscall) = refl
mnemonic_width (name.Plain plain.Cpuid) = refl
mnemonic_width (name.Plain plain.Rdtsc) = refl
mnemonic_width (name.Plain plain.Undef) = refl

alias_width : (a : Alias) → width_of_text (alias_text a) ≡ spoken_width (meaning_of a)
unfolding width_of_text width_of mnemonic_text stem_of letter_of cc_of width_text condition_text arithmetic_stem extend_stem unary_stem mul_div_stem rm_reg_stem shift_stem plain_stem cc_text alias_text meaning_of
alias_width = search rules

pub says_width : (text : List ℕ) (s : Spoken) → Says text s → width_of_text text ≡ spoken_width s
unfolding Says
says_width text s (inl one) = ap width_of_text (sym one.1) ∙ mnemonic_width one.0 ∙ ap spoken_width (sym one.2)
says_width text s (inr other) = ap width_of_text (sym other.1) ∙ alias_width other.0 ∙ ap spoken_width (sym other.2)

same_is : (one other : List ℕ) → same_text one other ≡ true → one ≡ other
same_is [] [] same = refl
same_is [] (y ∷ ys) same = absurd (cc)
same_is (x ∷ xs) [] same = absurd (cc)
same_is (x ∷ xs) (y ∷ ys) same =
    let parts = and_parts (x == y) (same_text xs ys) same in
    let head : x ≡ y = grind (arith, nat_tests, parts.0) in
    let tail : xs ≡ ys = same_is xs ys parts.1 in
    cc

among_row : (text : List ℕ) (row : List ℕ × Width) (more : List (List ℕ × Width)) → ¬ (row.0 ≡ text)
    → width_among (row ∷ more) text ≡ width_among more text
among_row text row more apart = by (same_text row.0 text) refl
  where
    by : (same : Bool) → same_text row.0 text ≡ same → (if same then row.1 else width_among more text) ≡ width_among more text
    by true same = absurd (apart (same_is row.0 text same))
    by false same = refl

mnemonics_unsaid : (text : List ℕ) (ms : List Mnemonic) (more : List (List ℕ × Width)) → ((m : Mnemonic) → ¬ (mnemonic_text m ≡ text))
    → width_among (map (λ m. (mnemonic_text m, width_of m)) ms ++ more) text ≡ width_among more text
mnemonics_unsaid text [] more none = refl
mnemonics_unsaid text (m ∷ ms) more none =
    among_row text (mnemonic_text m, width_of m) (map (λ m. (mnemonic_text m, width_of m)) ms ++ more) (none m)
    ∙ mnemonics_unsaid text ms more none

aliases_unsaid : (text : List ℕ) (some : List Alias) → ((a : Alias) → ¬ (alias_text a ≡ text))
    → width_among (map (λ a. (alias_text a, spoken_width (meaning_of a))) some) text ≡ Unknown
aliases_unsaid text [] none = refl
aliases_unsaid text (a ∷ some) none =
    among_row text (alias_text a, spoken_width (meaning_of a)) (map (λ a. (alias_text a, spoken_width (meaning_of a))) some) (none a)
    ∙ aliases_unsaid text some none

pub unsaid_width : (text : List ℕ) → ((s : Spoken) → ¬ Says text s) → width_of_text text ≡ Unknown
unfolding width_of_text Says
unsaid_width text none =
    mnemonics_unsaid text names (map (λ a. (alias_text a, spoken_width (meaning_of a))) aliases) (λ m is. none _ (inl (m, is, refl)))
    ∙ aliases_unsaid text aliases (λ a is. none _ (inr (a, is, refl)))

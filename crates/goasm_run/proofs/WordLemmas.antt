-- The words of amd64 are the names of its registers and conditions.
use Rattle.std.proofs.Common.{◌≡◌, ◌↔◌, ℕ, Bool, true, false, List, [], ◌∷◌, ◌++◌, map, get_or, codes, inl, inr, refl, sym, subst}
use Rattle.std.specs.Prelude.{All, IsTrue}
use Rattle.std.specs.Str.{bytes_eq}
use Rattle.std.proofs.lemmas.List.Elements.{All-nil, All-cons, All-append, All-map, All-contains}
use Rattle.std.proofs.lemmas.Map.Views.{Contains-from_any}
use Rattle.std.proofs.lemmas.Slice.Eq.{bytes_eq-Decides}
use Rattle.amd64_table.specs.declared.condition.Cc.{Cc}
use Rattle.amd64_table.specs.declared.condition.Cc.TheVariants as cc
use Rattle.amd64_table.specs.declared.reg.Reg.{Reg}
use Rattle.amd64_table.specs.declared.reg.Reg.TheVariants as reg
use Rattle.amd64_table.specs.declared.xmm.Xmm.{Xmm}
use Rattle.amd64_table.specs.declared.xmm.Xmm.TheVariants as xmm
use Rattle.amd64_table.specs.Conditions.{cc_text}
use Rattle.amd64_table.specs.Registers.{reg_text, xmm_text}
use Rattle.amd64_forms.specs.Words.{IsRegister, IsCondition, IsWord}
use Rattle.goasm_run.specs.declared.architecture.Architecture.TheVariants.{Amd64}
use Rattle.goasm_run.specs.Targets.{registers, x_registers, conditions, words_of, speaks, amd64_words}

exact : (one other : List ℕ) → bytes_eq one other ≡ true → one ≡ other
exact one other same = (bytes_eq-Decides one other).0 same

-- each of them is a word

all_registers : All IsWord (map reg_text registers)
unfolding IsRegister
all_registers = All-map IsWord reg_text registers (λ k d lt. inl (inl (get_or registers k d, refl)))

all_x_registers : All IsWord (map xmm_text x_registers)
unfolding IsRegister
all_x_registers = All-map IsWord xmm_text x_registers (λ k d lt. inl (inr (inl (get_or x_registers k d, refl))))

all_conditions : All IsWord (map cc_text conditions)
unfolding IsCondition
all_conditions = All-map IsWord cc_text conditions (λ k d lt. inr (inl (get_or conditions k d, refl)))

all_others : All IsWord (codes "TLS" ∷ codes "LO" ∷ codes "HS" ∷ [])
unfolding IsRegister IsCondition
all_others =
    All-cons IsWord (codes "TLS") (codes "LO" ∷ codes "HS" ∷ []) (inl (inr (inr refl)))
    (All-cons IsWord (codes "LO") (codes "HS" ∷ []) (inr (inr (inl refl)))
    (All-cons IsWord (codes "HS") [] (inr (inr (inr refl))) (All-nil IsWord)))

all_words : All IsWord amd64_words
all_words =
    let texts = map reg_text registers in
    let x_texts = map xmm_text x_registers in
    let condition_texts = map cc_text conditions in
    All-append IsWord (texts ++ x_texts ++ condition_texts) (codes "TLS" ∷ codes "LO" ∷ codes "HS" ∷ [])
    (All-append IsWord (texts ++ x_texts) condition_texts (All-append IsWord texts x_texts all_registers all_x_registers) all_conditions)
    all_others

told_word : (name : List ℕ) → speaks Amd64 name ≡ true → IsWord name
unfolding words_of
told_word name is = All-contains IsWord amd64_words name all_words (Contains-from_any exact name amd64_words is)

-- each word is among them

register_in : (one : Reg) → speaks Amd64 (reg_text one) ≡ true
unfolding words_of reg_text
register_in reg.Ax = refl
register_in reg.Cx = refl
register_in reg.Dx = refl
register_in reg.Bx = refl
register_in reg.Sp = refl
register_in reg.Bp = refl
register_in reg.Si = refl
register_in reg.Di = refl
register_in reg.R8 = refl
register_in reg.R9 = refl
register_in reg.R10 = refl
register_in reg.R11 = refl
register_in reg.R12 = refl
register_in reg.R13 = refl
register_in reg.R14 = refl
register_in reg.R15 = refl

x_register_in : (one : Xmm) → speaks Amd64 (xmm_text one) ≡ true
unfolding words_of reg_text xmm_text
x_register_in xmm.X0 = refl
x_register_in xmm.X1 = refl
x_register_in xmm.X2 = refl
x_register_in xmm.X3 = refl
x_register_in xmm.X4 = refl
x_register_in xmm.X5 = refl
x_register_in xmm.X6 = refl
x_register_in xmm.X7 = refl
x_register_in xmm.X8 = refl
x_register_in xmm.X9 = refl
x_register_in xmm.X10 = refl
x_register_in xmm.X11 = refl
x_register_in xmm.X12 = refl
x_register_in xmm.X13 = refl
x_register_in xmm.X14 = refl
x_register_in xmm.X15 = refl

condition_in : (one : Cc) → speaks Amd64 (cc_text one) ≡ true
unfolding words_of reg_text xmm_text cc_text
condition_in cc.Over = refl
condition_in cc.NotOver = refl
condition_in cc.Carry = refl
condition_in cc.NotCarry = refl
condition_in cc.Zero = refl
condition_in cc.NotZero = refl
condition_in cc.CarryOrZero = refl
condition_in cc.NeitherCarryNorZero = refl
condition_in cc.Negative = refl
condition_in cc.NotNegative = refl
condition_in cc.ParityEven = refl
condition_in cc.ParityOdd = refl
condition_in cc.Less = refl
condition_in cc.GreaterOrEqual = refl
condition_in cc.LessOrEqual = refl
condition_in cc.Greater = refl

other_in : (speaks Amd64 (codes "TLS") ≡ true) × (speaks Amd64 (codes "LO") ≡ true) × (speaks Amd64 (codes "HS") ≡ true)
unfolding words_of reg_text xmm_text cc_text
other_in = (refl, refl, refl)

word_told : (name : List ℕ) → IsWord name → speaks Amd64 name ≡ true
unfolding IsRegister IsCondition
word_told name (inl (inl (one, is))) = subst (λ name. speaks Amd64 name ≡ true) is (register_in one)
word_told name (inl (inr (inl (one, is)))) = subst (λ name. speaks Amd64 name ≡ true) is (x_register_in one)
word_told name (inl (inr (inr is))) = subst (λ name. speaks Amd64 name ≡ true) (sym is) other_in.0
word_told name (inr (inl (one, is))) = subst (λ name. speaks Amd64 name ≡ true) is (condition_in one)
word_told name (inr (inr (inl is))) = subst (λ name. speaks Amd64 name ≡ true) (sym is) other_in.1
word_told name (inr (inr (inr is))) = subst (λ name. speaks Amd64 name ≡ true) (sym is) other_in.2

same_truth : (one other : Bool) → (IsTrue one → IsTrue other) → (IsTrue other → IsTrue one) → one ≡ other
same_truth true true to from = refl
same_truth true false to from = sym (to refl)
same_truth false true to from = from refl
same_truth false false to from = refl

pub amd64_word : (name : List ℕ) (answer : Bool) → IsTrue answer ↔ IsWord name → answer ≡ speaks Amd64 name
amd64_word name answer says =
    same_truth answer (speaks Amd64 name) (λ yes. word_told name (says.0 yes)) (λ yes. says.1 (told_word name yes))

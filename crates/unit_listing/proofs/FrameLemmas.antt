-- The frame of a function is one that functions have, where it isn't too large.
use Rattle.std.proofs.Common.{◌≡◌, ℕ, ◌≤◌, ◌==◌, ◌&&◌, ◌||◌, Bool, true, false, not, refl, sym, ap, ◌∙◌, subst, inl, inr, if◌then◌else◌, bit_and}
use Rattle.std.proofs.lemmas.Bool.{eqb-true}
use Rattle.goasm_base.specs.declared.statement.Function.{Function}
use Rattle.goasm_base.specs.Statements.{IsValidFunction}
use Rattle.asm_target.specs.declared.frame.FrameShape.{FrameShape}
use Rattle.asm_target.specs.Architecture.{amd64}
use Rattle.asm_target.specs.Frames.{IsFrame, greatest_total, saves_pointer, total_for}
use Rattle.stack_split.specs.FrameSizes.{frame_for, is_frameless, is_nosplit, makes_call, total_of}

first_holds : (a b : Bool) → (a && b) ≡ true → a ≡ true
first_holds true b both = refl
first_holds false b both = both

no_locals : (machine symbols : ℕ) (function : Function) → IsValidFunction symbols function → is_frameless machine function ≡ true
    → function.locals ≡ 0
no_locals machine symbols function valid frameless = by (bit_and function.flags 512 == 0) refl
  where
    by : (clear : Bool) → (bit_and function.flags 512 == 0) ≡ clear → function.locals ≡ 0
    by true is =
        let rest = not (makes_call function) || ((machine == amd64.machine) && is_nosplit function) in
        let holds : ((function.locals == 0) && rest) ≡ true =
        sym (ap (λ (clear : Bool). not clear || ((function.locals == 0) && rest)) is) ∙ frameless in
        eqb-true function.locals 0 (first_holds (function.locals == 0) rest holds)
    by false is = valid.frameless (λ none. absurd (true_false (sym (ap (λ n. n == 0) none) ∙ is)))
      where
        true_false : true ≡ false → ⊥
        true_false h = cc

pub frame_fits : (machine symbols : ℕ) (function : Function) → IsValidFunction symbols function
    → (frame_for machine function).total ≤ greatest_total → IsFrame machine (frame_for machine function)
frame_fits machine symbols function valid most = by (is_frameless machine function) refl
  where
    by : (frameless : Bool) → is_frameless machine function ≡ frameless → IsFrame machine (frame_for machine function)
    by true is = record {
      most = most;
      shape = inl (record {
        locals = no_locals machine symbols function valid is;
        total = ap (λ (frameless : Bool). if frameless then 0 else total_for machine function.locals) is;
        saves = ap (λ (frameless : Bool). not frameless && saves_pointer machine) is;
      });
    }
    by false is = record {
      most = most;
      shape = inr (record {
        locals = valid.locals;
        total = ap (λ (frameless : Bool). if frameless then 0 else total_for machine function.locals) is;
        saves = ap (λ (frameless : Bool). not frameless && saves_pointer machine) is;
      });
    }

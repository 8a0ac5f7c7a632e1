use Rattle.std.proofs.Common.{◌≡◌, ℕ, List, [], ◌∷◌, length, ◌≤◌, ◌∙◌, Result, Ok, Err, OnErr, ap, arith, refl}
use Rattle.machine_effect.specs.Memory.{Memory, put}
use Rattle.machine_effect.proofs.PageLemmas.{same_memory, written_memory}
use Rattle.machine_effect.proofs.mem.Mem.put.Goals as goal

put_none : (memory : Memory) (at : ℕ) (bytes : List ℕ) → (1 ≤ length bytes → ⊥) → memory ≡ put memory at bytes
unfolding put
put_none memory at [] none = refl
put_none memory at (byte ∷ bytes) none = absurd (none (omega arith))

on_err : {A B : Type 0} (P : Type 0) (result : Result A B) → P → OnErr result P
on_err P (Ok a) p = tt
on_err P (Err b) p = p

pub returns-in_default-clause-ok : goal.returns-in_default-clause-ok
returns-in_default-clause-ok c = put_none c.args.self.now c.args.at c.args.bytes.now c.in_default.ensures

pub returns-in_err-make-clause-err : goal.returns-in_err-make-clause-err
returns-in_err-make-clause-err c =
    on_err _ c.from_residual.result (same_memory c.self.inside.pages c.make.new.pages c.make.ensures.same ∙ c.self.view_is)

pub returns-clause-ok : goal.returns-clause-ok
returns-clause-ok c =
    written_memory c.make.new.pages c.write.new.pages c.args.at c.args.bytes.now c.write.ensures.written
    ∙ ap (λ m. put m c.args.at c.args.bytes.now)
    (same_memory c.self.inside.pages c.make.new.pages c.make.ensures.same ∙ c.self.view_is)

-- The depths of a function's lines.
use Rattle.std.proofs.Common.{◌≡◌, ℕ, List, [], length, sym, subst}
use Rattle.unit_listing.specs.declared.laid.Laid.{Laid}
use Rattle.unit_listing.specs.Joined.{AreJoined, Appends}
use Rattle.unit_listing.specs.Kit.{Kit}
use Rattle.link_code.specs.Code.{HasDepth, HaveDepths}

pub all_depths : {Instr : Type 0} (kit : Kit Instr) (laid : Laid Instr) (number : ℕ) (depths : List ℕ) → number ≡ length laid.body.code
    → Appends (AreJoined (HasDepth kit laid) number) [] depths → HaveDepths kit laid depths
all_depths kit laid number depths count (joined, are, behind) =
    subst (λ (n : ℕ). AreJoined (HasDepth kit laid) n depths) count
    (subst (AreJoined (HasDepth kit laid) number) (sym behind) are)

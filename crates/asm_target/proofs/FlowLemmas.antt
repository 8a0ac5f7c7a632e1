-- What follows from the bounds of effects for the stack pointer.
use Rattle.std.proofs.Common.{◌≡◌, ℕ, false, Option, Some, None, refl, rules}
use Rattle.machine_effect.specs.declared.effect.Effect.{Effect}
use Rattle.machine_effect.specs.declared.flow.Shape.{Shape}
use Rattle.machine_effect.specs.declared.flow.SpMove.TheVariants.{Keep}
use Rattle.machine_effect.specs.declared.next.Next.{Next}
use Rattle.machine_effect.specs.declared.next.Next.TheVariants as next
use Rattle.machine_effect.specs.Applies.{link_of}
use Rattle.machine_effect.specs.Bounds.{IsCallLink, OnlyGoes, LinksBy}
use Rattle.machine_effect.specs.Flow.{flow_of, is_named}

-- a call's link isn't the stack pointer
spared : (shape : Shape) (link : Option ℕ) → IsCallLink shape link → is_named shape.sp link ≡ false
spared shape None links = refl
spared shape (Some register) links = search (rules, links.spares)

unlinked : (shape : Shape) (goes : Next) → LinksBy shape goes → is_named shape.sp (link_of goes) ≡ false
unlinked shape (next.Call goal link) links = spared shape link links
unlinked shape (next.CallTo goal link) links = spared shape link links
unlinked shape _ links = refl

-- where the machine doesn't go on behind an instruction, the stack pointer isn't written
pub stays : (effect : Effect) (shape : Shape) → OnlyGoes effect → LinksBy shape effect.next
    → ¬ (effect.next ≡ next.Fall) → (flow_of effect shape).sp ≡ Keep
unfolding flow_of
stays effect shape only links goes =
    rw (unlinked shape effect.next links, (only goes).writes) refl

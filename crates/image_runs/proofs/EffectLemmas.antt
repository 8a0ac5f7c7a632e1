-- What an instruction leaves alone, and how it moves the stack pointer.
use Rattle.std.proofs.Common.{◌≡◌, ℕ, ℤ, pos, negsuc, ◌+◌, ◌<◌, ◌≤◌, ◌^◌, ◌&&◌, true, false, List, [], ◌∷◌, Option, Some, None, is_some, refl, ap, ◌∙◌, subst, arith}
use Rattle.std.proofs.lemmas.Bool.Decides.{nat_tests}
use Rattle.std.proofs.lemmas.Int.{ints}
use Rattle.std.proofs.lemmas.List.Elements.{All-head, All-tail, All-nil, All-cons}
use Rattle.std.specs.Prelude.{IfSome, nat_le, nat_lt, ◌+ℤ◌}
use Rattle.machine_effect.specs.declared.effect.Effect.{Effect}
use Rattle.machine_effect.specs.declared.flow.Shape.{Shape}
use Rattle.machine_effect.specs.declared.flow.SpMove.TheVariants.{By, Keep}
use Rattle.machine_effect.specs.declared.frame.Frame.{Frame}
use Rattle.machine_effect.specs.declared.state.State.{State}
use Rattle.machine_effect.specs.Applies.{Applies, IsState}
use Rattle.machine_effect.specs.Flow.{flow_of}
use Rattle.machine_effect.specs.Memory.{Memory, word_at}
use Rattle.machine_effect.specs.Numbers as numbers
use Rattle.machine_effect.specs.Steps.{KeepsRegister}
use Rattle.machine_effect.specs.Stores.{BytesStay}
use Rattle.machine_effect.proofs.FlowLemmas.{flow_keeps, flow_keeps_link, flow_moves}
use Rattle.machine_effect.proofs.StepLemmas.{leaves_missed, number_stays}
use Rattle.image_model.specs.Image.{Image, has_link}
use Rattle.image_model.specs.Kept.{AtSlots, MissesSlots, SlotsStay}
use Rattle.image_model.specs.Steps.{IsInRange, link_in, pushed, register_or_zero, sp_of, unless_passed}
use Rattle.image_runs.specs.Known.{Standing, slot_place}

-- the link register stays where it isn't written
keeps_link : (shape : Shape) (effect : Effect) → is_some shape.link ≡ true → (flow_of effect shape).writes_link ≡ false
    → KeepsRegister effect (register_or_zero shape.link)
keeps_link shape effect some unwritten =
    elim shape.link as (λ (link : Option ℕ). IfSome link (λ link. (flow_of effect shape).writes_link ≡ false → KeepsRegister effect link)
    → is_some link ≡ true → KeepsRegister effect (register_or_zero link)) [
      | Some link ↦ (λ told some. told unwritten)
      | None ↦ (λ told some. absurd (cc))
    ] (flow_keeps_link effect shape) some

-- a move that doesn't leave the addresses doesn't wrap
moved_straight : (sp : ℕ) (k : ℤ) → sp < 2 ^ 64 → IsInRange (pos sp +ℤ k) → pos (numbers.moved_by sp k) ≡ pos sp +ℤ k
moved_straight sp (pos n) low room = omega (arith, ints, room.0, room.1)
moved_straight sp (negsuc n) low room = omega (arith, ints, room.0, room.1)

pub unpassed : (before after : ℕ) (slot : Option ℕ) → after ≤ before → unless_passed before after slot ≡ slot
unpassed before after None less = refl
unpassed before after (Some slot) less =
    let off : (nat_le before slot && nat_lt slot after) ≡ false = grind (arith, nat_tests) in
    rw off refl

pub passed_not : (before after slot : ℕ) → after ≤ slot → unless_passed before after (Some slot) ≡ Some slot
passed_not before after slot less =
    let off : (nat_le before slot && nat_lt slot after) ≡ false = grind (arith, nat_tests) in
    rw off refl

pub passed_over : (before after slot : ℕ) → before ≤ slot → slot < after → unless_passed before after (Some slot) ≡ None
passed_over before after slot low high =
    let on : (nat_le before slot && nat_lt slot after) ≡ true = grind (arith, nat_tests) in
    rw on refl

pub at_slot : (At : ℕ → Type 0) (slot : Option ℕ) (at : ℕ) → slot ≡ Some at → IfSome slot At → At at
at_slot At slot at is holds = subst (λ (o : Option ℕ). IfSome o At) is holds

pub each_slot : (At Other : ℕ → Type 0) → ((at : ℕ) → At at → Other at) → (calls : List Frame) → AtSlots At calls → AtSlots Other calls
each_slot At Other turn [] all = All-nil (λ (frame : Frame). IfSome frame.slot Other)
each_slot At Other turn (frame ∷ calls) all =
    All-cons (λ (frame : Frame). IfSome frame.slot Other) frame calls
    (one frame.slot (All-head (λ (frame : Frame). IfSome frame.slot At) frame calls all))
    (each_slot At Other turn calls (All-tail (λ (frame : Frame). IfSome frame.slot At) frame calls all))
  where
    one : (slot : Option ℕ) → IfSome slot At → IfSome slot Other
    one (Some at) holds = turn at holds
    one None holds = tt

pub two_slots : (At Other Both : ℕ → Type 0) → ((at : ℕ) → At at → Other at → Both at) → (calls : List Frame) → AtSlots At calls
    → AtSlots Other calls → AtSlots Both calls
two_slots At Other Both turn [] all others = All-nil (λ (frame : Frame). IfSome frame.slot Both)
two_slots At Other Both turn (frame ∷ calls) all others =
    All-cons (λ (frame : Frame). IfSome frame.slot Both) frame calls
    (one frame.slot (All-head (λ (frame : Frame). IfSome frame.slot At) frame calls all)
    (All-head (λ (frame : Frame). IfSome frame.slot Other) frame calls others))
    (two_slots At Other Both turn calls (All-tail (λ (frame : Frame). IfSome frame.slot At) frame calls all)
    (All-tail (λ (frame : Frame). IfSome frame.slot Other) frame calls others))
  where
    one : (slot : Option ℕ) → IfSome slot At → IfSome slot Other → IfSome slot Both
    one (Some at) holds other = turn at holds other
    one None holds other = tt

pub word_stays : (before after : Memory) (at : ℕ) → BytesStay before after at 8 → word_at after at ≡ word_at before at
word_stays before after at stay = number_stays before after at 8 stay

-- of the first frame and of the others
pub slot_first : (At : ℕ → Type 0) (frame : Frame) (calls : List Frame) → AtSlots At (frame ∷ calls) → IfSome frame.slot At
slot_first At frame calls all = All-head (λ (frame : Frame). IfSome frame.slot At) frame calls all

pub slots_behind : (At : ℕ → Type 0) (frame : Frame) (calls : List Frame) → AtSlots At (frame ∷ calls) → AtSlots At calls
slots_behind At frame calls all = All-tail (λ (frame : Frame). IfSome frame.slot At) frame calls all

module _ (img : Image) (effect : Effect) (past : ℕ) (before after : State) (applies : Applies effect past before after) where
  pub sp_kept : (flow_of effect img.shape).sp ≡ Keep → sp_of img after ≡ sp_of img before
  sp_kept keep = flow_keeps effect img.shape keep past before after applies

  pub link_kept : has_link img ≡ true → (flow_of effect img.shape).writes_link ≡ false → link_in img after ≡ link_in img before
  link_kept some unwritten = keeps_link img.shape effect some unwritten past before after applies

  pub sp_moved : (k : ℤ) → IsState before → img.shape.sp < 33 → (flow_of effect img.shape).sp ≡ By k
      → IsInRange (pos (sp_of img before) +ℤ k) → pos (sp_of img after) ≡ pos (sp_of img before) +ℤ k
  sp_moved k state register by room =
      ap pos (flow_moves effect img.shape k by past before after state register applies)
      ∙ moved_straight (sp_of img before) k (state.regs img.shape.sp) room

  pub slots_stay : (calls : List Frame) → MissesSlots before applies.loaded effect.store calls → SlotsStay before.mem after.mem calls
  slots_stay calls misses =
      each_slot _ (λ slot. BytesStay before.mem after.mem slot 8)
      (λ slot miss. leaves_missed effect past before after slot 8 applies miss) calls misses

module _ (img : Image) where
  -- saved return addresses stay, so the frames outside of one stand on
  pub stands_on : (before after : Memory) (inner : Frame) (more : List Frame) → SlotsStay before after more
      → Standing img before inner more → Standing img after inner more
  stands_on before after inner [] stay standing = standing
  stands_on before after inner (outer ∷ more) stay standing =
      let place : ℕ = slot_place img (inner.base + pushed img) standing.0.line.depth in
      let bytes : BytesStay before after place 8 =
      at_slot (λ slot. BytesStay before after slot 8) outer.slot place standing.0.slot
      (slot_first (λ slot. BytesStay before after slot 8) outer more stay) in (
        standing.0,
        word_stays before after place bytes ∙ standing.1,
        stands_on before after outer more (slots_behind (λ slot. BytesStay before after slot 8) outer more stay) standing.2,
      )

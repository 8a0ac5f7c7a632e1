-- A line has one text.
use Rattle.std.proofs.Common.{◌≡◌, ℕ, ◌+◌, ◌-◌, slice_index, List, length, take, Option, Some, None, refl, sym, ap, ◌∙◌, subst, inl, inr}
use Rattle.std.specs.List.{slice_get}
use Rattle.asm_target.specs.declared.body.Line.{Line}
use Rattle.asm_target.specs.declared.frame.Guard.{Guard}
use Rattle.asm_target.specs.declared.refer.Part.{Part}
use Rattle.asm_target.specs.declared.refer.Refer.{Refer}
use Rattle.asm_target.specs.Aiming.{bytes_of}
use Rattle.asm_parse.specs.declared.unit.Symbol.{Symbol}
use Rattle.least_forms.specs.declared.sizes.Sizes.{Sizes}
use Rattle.unit_listing.specs.Kit.{Kit}
use Rattle.unit_listing.specs.Lines.{AreShown, IsAimed, IsLine, IsSaid, IsShown, StandsBy, aim_of, line_text, part_of, place_to, refer_in, refer_text, shown_at}
use Rattle.unit_listing.proofs.OneLemmas.{one_joined, same_item}

module _ {Instr : Type 0} (kit : Kit Instr) where
  one_aimed : (i : Instr) (part : Part) (place goal : ℕ) (j k : Instr) → IsAimed kit i part place goal j → IsAimed kit i part place goal k
      → j ≡ k
  one_aimed i part place goal j k (inl one) (inl two) = two.only j one.aims
  one_aimed i part place goal j k (inl one) (inr (none, same)) = absurd (none j one.aims)
  one_aimed i part place goal j k (inr (none, same)) (inl two) = absurd (none k two.aims)
  one_aimed i part place goal j k (inr (none, same)) (inr (none', same')) = same ∙ sym same'

  one_standing : (aim : Option (ℕ × ℕ)) (part : Part) (i j k : Instr) → StandsBy kit aim part i j → StandsBy kit aim part i k → j ≡ k
  one_standing None part i j k one two = one ∙ sym two
  one_standing (Some aim) part i j k one two = one_aimed i part aim.0 aim.1 j k one two

  module _ (symbols : List Symbol) (flags : ℕ) (guard : Guard Instr) (code : List (Line Instr)) (sizes : Sizes) where
    one_said : (line : Line Instr) (back place : ℕ) (i : Instr) (refer : Option Refer) (text other : List ℕ)
        → IsSaid kit symbols flags guard code sizes line back place i refer text
        → IsSaid kit symbols flags guard code sizes line back place i refer other → text ≡ other
    one_said line back place i refer text other one two =
        let same = one_standing (aim_of (place_to guard code sizes.places) refer back place) (part_of kit refer) i one.shown two.shown
        one.stands two.stands in
        one.whole
        ∙ ap (λ shown. line_text place line (kit.set.text shown (shown_at refer place)) (refer_text symbols flags refer)) same
        ∙ sym two.whole

    one_shown : (line : Line Instr) (back place : ℕ) (form : List Instr) (number : ℕ) (text other : List ℕ)
        → IsShown kit symbols flags guard code sizes line back place form number text
        → IsShown kit symbols flags guard code sizes line back place form number other → text ≡ other
    one_shown line back place form number text other (i, here, said) (i', here', said') =
        let same : i' ≡ i = same_item (sym here' ∙ here) in
        let at = place + bytes_of kit.set (take number form) in
        let refer = refer_in form number line.refer in
        one_said line back at i refer text other said
        (subst (λ i. IsSaid kit symbols flags guard code sizes line back at i refer other) same said')

    pub one_line : (number : ℕ) (text other : List ℕ) → IsLine kit symbols flags guard code sizes number text
        → IsLine kit symbols flags guard code sizes number other → text ≡ other
    one_line number text other one two =
        let same : two.line ≡ one.line = same_item (sym two.here ∙ one.here) in
        let back = slice_index sizes.places (number - 1) in
        let place = slice_index sizes.places number in
        let form = slice_index sizes.forms number in
        let shown : AreShown kit symbols flags guard code sizes one.line back place (kit.aiming.forms one.line.instr form) other =
        subst (λ line. AreShown kit symbols flags guard code sizes line back place (kit.aiming.forms line.instr form) other) same two.shown in
        one_joined (IsShown kit symbols flags guard code sizes one.line back place (kit.aiming.forms one.line.instr form))
        (one_shown one.line back place (kit.aiming.forms one.line.instr form)) (length (kit.aiming.forms one.line.instr form))
        text other one.shown shown

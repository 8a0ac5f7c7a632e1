-- Lines that are shown.
use Rattle.std.proofs.Common.{◌≡◌, ℕ, ◌+◌, List, [], ◌∷◌, ◌++◌, take, length, ◌-◌, slice_index, Option, Some, refl, sym, ap, ◌∙◌, subst, length-append, append-nil, get_or, arith}
use Rattle.std.specs.List.{flat_map, slice_get}
use Rattle.std.proofs.lemmas.List.{take_more}
use Rattle.std.proofs.lemmas.Option.{slice_get_within, get_or_from_slice_get}
use Rattle.asm_target.specs.declared.body.Line.{Line}
use Rattle.asm_target.specs.declared.frame.Guard.{Guard}
use Rattle.asm_target.specs.declared.refer.Refer.{Refer}
use Rattle.asm_target.specs.Aiming.{bytes_of}
use Rattle.asm_target.specs.InstructionSet.{InstructionSet}
use Rattle.asm_parse.specs.declared.unit.Symbol.{Symbol}
use Rattle.least_forms.specs.declared.sizes.Sizes.{Sizes}
use Rattle.unit_listing.specs.Joined.{Appends}
use Rattle.unit_listing.specs.Kit.{Kit}
use Rattle.unit_listing.specs.Lines.{AreShown, IsLine, IsSaid, IsShown, refer_in}

flat_map_append : {X : Type 0} (f : X → List ℕ) (xs ys : List X) → length (flat_map f (xs ++ ys)) ≡ length (flat_map f xs) + length (flat_map f ys)
flat_map_append f [] ys = omega arith
flat_map_append f (x ∷ xs) ys =
    let one = length-append (f x) (flat_map f (xs ++ ys)) in
    let two : length (flat_map f (x ∷ xs)) ≡ length (f x) + length (flat_map f xs) = length-append (f x) (flat_map f xs) in
    let rest = flat_map_append f xs ys in
    one ∙ omega (arith, two, rest)

-- one more instruction
pub bytes_more : {Instr : Type 0} (set : InstructionSet Instr) (form : List Instr) (number : ℕ) (i : Instr) → slice_get form number ≡ Some i
    → bytes_of set (take (number + 1) form) ≡ bytes_of set (take number form) + length (set.spelling i)
bytes_more set form number i is =
    let within = slice_get_within form number i is in
    let here : get_or form number i ≡ i = get_or_from_slice_get form number i i is in
    let more : take (number + 1) form ≡ take number form ++ i ∷ [] = take_more form number i within ∙ ap (λ j. take number form ++ j ∷ []) here in
    ap (bytes_of set) more ∙ flat_map_append set.spelling (take number form) (i ∷ []) ∙ rw append-nil refl

module _ {Instr : Type 0} (kit : Kit Instr) (symbols : List Symbol) (flags : ℕ) (guard : Guard Instr) (code : List (Line Instr)) (sizes : Sizes) where
  -- an instruction that is shown is one of its form
  pub shown_more : (line : Line Instr) (back place at : ℕ) (form : List Instr) (number : ℕ) (i : Instr) (refer : Option Refer)
      (before after : List ℕ) → slice_get form number ≡ Some i → at ≡ place + bytes_of kit.set (take number form)
      → refer ≡ refer_in form number line.refer
      → Appends (IsSaid kit symbols flags guard code sizes line back at i refer) before after
      → Appends (IsShown kit symbols flags guard code sizes line back place form number) before after
  shown_more line back place at form number i refer before after here there goes (said, is, behind) = (
    said,
    (
      i,
      here,
      subst (λ at. IsSaid kit symbols flags guard code sizes line back at i (refer_in form number line.refer) said) there
          (subst (λ refer. IsSaid kit symbols flags guard code sizes line back at i refer said) goes is),
    ),
    behind,
  )

  -- a line that is shown is one of the function
  pub line_shown : (number : ℕ) (line : Line Instr) (back place : ℕ) (form : List Instr) (text : List ℕ)
      → slice_get code number ≡ Some line → back ≡ slice_index sizes.places (number - 1) → place ≡ slice_index sizes.places number
      → form ≡ kit.aiming.forms line.instr (slice_index sizes.forms number)
      → AreShown kit symbols flags guard code sizes line back place form text → IsLine kit symbols flags guard code sizes number text
  line_shown number line back place form text here behind there formed are = record {
    line = line;
    here = here;
    shown =
        let Shown : ℕ → ℕ → List Instr → Type 0 = λ back place form. AreShown kit symbols flags guard code sizes line back place form text in
        subst (λ form. Shown (slice_index sizes.places (number - 1)) (slice_index sizes.places number) form) formed
        (subst (λ place. Shown (slice_index sizes.places (number - 1)) place form) there
        (subst (λ back. Shown back place form) behind are));
  }

-- An instruction comes from one line, and stands at one address.
use Rattle.std.proofs.Common.{◌≡◌, ℕ, zero, suc, ◌+◌, ◌<◌, ◌≤◌, List, [], ◌∷◌, All, length, Some, sym, ap, ◌∙◌, subst, inl, inr, arith}
use Rattle.std.proofs.lemmas.Bool.{cases_lt}
use Rattle.std.proofs.lemmas.List.Elements.{All-head, All-tail}
use Rattle.std.proofs.lemmas.Option.{same_Some}
use Rattle.std.specs.List.{slice_get}
use Rattle.goasm_base.specs.declared.pos.Pos.{Pos}
use Rattle.asm_target.specs.declared.body.Body.{Body}
use Rattle.asm_target.specs.declared.body.Line.{Line}
use Rattle.asm_target.specs.declared.body.Placed.{Placed}
use Rattle.asm_target.specs.InstructionSet.{InstructionSet}
use Rattle.asm_target.specs.Laws.{HasLengths}
use Rattle.image_rules.specs.Functions.{placed_from}
use Rattle.unit_listing.specs.declared.laid.Laid.{Laid}
use Rattle.unit_listing.specs.Kit.{Kit}
use Rattle.unit_listing.specs.Laid.{IsSameLaid}
use Rattle.link_code.specs.declared.site.Site.{Site}
use Rattle.link_code.specs.Code.{IsCode}
use Rattle.link_code.specs.Positions.{HasPos, IsOfLine, count_before}
use Rattle.code_answer.proofs.FarLemmas.{not_apart}
use Rattle.code_answer.proofs.SameLemmas.{same_count}

module _ {Instr : Type 0} (set : InstructionSet Instr) where
  -- an instruction stands at the first place or behind it
  behind : (at : ℕ) (code : List Instr) (number : ℕ) (one : Placed Instr) → slice_get (placed_from set at code) number ≡ Some one → at ≤ one.at
  behind at [] number one here = absurd (cc)
  behind at (i ∷ code) zero one here =
      let first : Placed Instr = record { at = at; len = length (set.spelling i); instr = i } in
      let same : at ≡ one.at = ap (λ (x : Placed Instr). x.at) (same_Some first one here) in
      omega arith
  behind at (i ∷ code) (suc number) one here =
      let past = behind (at + length (set.spelling i)) code number one here in
      omega arith

  -- instructions stand at rising addresses
  rises : (fits : Instr → Type 0) (quantum : ℕ) → HasLengths set fits quantum → (at : ℕ) (code : List Instr) → All fits code
      → (number next : ℕ) (one other : Placed Instr) → number < next → slice_get (placed_from set at code) number ≡ Some one
      → slice_get (placed_from set at code) next ≡ Some other → one.at < other.at
  rises fits quantum lengths at [] fit number next one other less here there = absurd (cc)
  rises fits quantum lengths at (i ∷ code) fit number zero one other less here there = absurd (omega arith)
  rises fits quantum lengths at (i ∷ code) fit zero (suc next) one other less here there =
      let first : Placed Instr = record { at = at; len = length (set.spelling i); instr = i } in
      let same : at ≡ one.at = ap (λ (x : Placed Instr). x.at) (same_Some first one here) in
      let long = (lengths i (All-head fits i code fit)).least in
      let past = behind (at + length (set.spelling i)) code next other there in
      omega (arith, same, long, past)
  rises fits quantum lengths at (i ∷ code) fit (suc number) (suc next) one other less here there =
      rises fits quantum lengths (at + length (set.spelling i)) code (All-tail fits i code fit) number next one other (omega arith) here there

module _ {Instr : Type 0} (kit : Kit Instr) where
  -- later lines come behind more instructions
  counts_rise : (laid : Laid Instr) (line its : ℕ) → line ≤ its → count_before kit laid line ≤ count_before kit laid its
  counts_rise laid line zero most =
      let same : line ≡ 0 = omega arith in
      let equal = ap (count_before kit laid) same in
      omega arith
  counts_rise laid line (suc its) most = elim (cases_lt line (suc its)) [
    | inl less ↦
        let rest = counts_rise laid line its (omega arith) in
        omega arith
    | inr least ↦
        let same : line ≡ suc its = omega arith in
        let equal = ap (count_before kit laid) same in
        omega arith
  ]

  not_before : (laid : Laid Instr) (number line its : ℕ) → IsOfLine kit laid number line → count_before kit laid its ≤ number → line < its → ⊥
  not_before laid number line its one from less =
      let rise = counts_rise laid (line + 1) its (omega arith) in
      omega (arith, one.below, from, rise)

  pub one_line : (laid other : Laid Instr) → IsSameLaid laid other → (number line its : ℕ) → IsOfLine kit laid number line
      → IsOfLine kit other number its → line ≡ its
  one_line laid other same number line its one two =
      let two' : IsOfLine kit laid number its = record {
        within = subst (λ (body : Body Instr). its < length body.code) (sym same.body) two.within;
        from = let count = same_count kit laid other same its in omega (arith, count, two.from);
        below = let count = same_count kit laid other same (its + 1) in omega (arith, count, two.below);
      } in
      not_apart line its (not_before laid number line its one two'.from) (not_before laid number its line two' one.from)

  module _ (lengths : HasLengths kit.set kit.fits kit.quantum) (site : Site) (laid : Laid Instr) (code : List (Placed Instr))
      (is : IsCode kit site laid code) where
    -- two instructions don't stand at one address
    apart : (number next : ℕ) (one other : Placed Instr) → slice_get code number ≡ Some one → slice_get code next ≡ Some other
        → one.at ≡ other.at → number < next → ⊥
    apart number next one other here there same less =
        let Here : ℕ → Placed Instr → List (Placed Instr) → Type 0 = λ number one code. slice_get code number ≡ Some one in
        let rise = rises kit.set kit.fits kit.quantum lengths site.entry is.code is.fit number next one other less
        (subst (Here number one) is.placed here) (subst (Here next other) is.placed there) in
        absurd (omega (arith, same, rise))

    one_number : (number next : ℕ) (one other : Placed Instr) → slice_get code number ≡ Some one → slice_get code next ≡ Some other
        → one.at ≡ other.at → number ≡ next
    one_number number next one other here there same =
        not_apart number next (apart number next one other here there same) (apart next number other one there here (sym same))

    pub one_place : (other : Laid Instr) → IsSameLaid laid other → (address : ℕ) (place its : Pos) → HasPos kit laid code address place
        → HasPos kit other code address its → place ≡ its
    one_place other same address place its one two =
        let number : two.number ≡ one.number = one_number two.number one.number two.one one.one two.here one.here (two.stands ∙ sym one.stands) in
        let line : one.line ≡ two.line = one_line laid other same one.number one.line two.line one.of
        (subst (λ number. IsOfLine kit other number two.line) number two.of) in
        let there : slice_get laid.body.code one.line ≡ Some two.item
        = subst (λ line. slice_get laid.body.code line ≡ Some two.item) (sym line)
        (subst (λ (body : Body Instr). slice_get body.code two.line ≡ Some two.item) (sym same.body) two.said) in
        let item : one.item ≡ two.item = same_Some one.item two.item (sym one.said ∙ there) in
        one.at ∙ ap (λ (line : Line Instr). line.pos) item ∙ sym two.at

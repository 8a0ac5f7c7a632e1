-- Code that is picked and placed, at its positions in a function.
use Rattle.std.proofs.Common.{◌≡◌, ℕ, zero, suc, List, [], ◌∷◌, ◌++◌, ◌+◌, ◌<◌, ◌≤◌, Option, Some, length, drop, refl, sym, ap, ◌∙◌, subst, arith, inl, inr, append_assoc}
use Rattle.std.proofs.lemmas.Bool.{cases_lt}
use Rattle.std.proofs.lemmas.List.{drop-drop, length-append, drop_at}
use Rattle.std.proofs.lemmas.List.Elements.{All-head, All-tail}
use Rattle.std.specs.List.{slice_get, flat_map}
use Rattle.std.specs.Prelude.{All, ◌-◌, ◌^◌, ◌%◌}
use Rattle.machine_effect.specs.declared.flow.Shape.{Shape}
use Rattle.machine_effect.specs.declared.next.Next.{Next}
use Rattle.asm_target.specs.declared.refer.Picked.{Picked}
use Rattle.asm_target.specs.declared.refer.To.{To}
use Rattle.asm_target.specs.declared.sequence.Sequence.{Sequence}
use Rattle.asm_target.specs.Aiming.{Aiming, IsPlaced, bytes_of}
use Rattle.asm_target.specs.FlowFunction.{FlowFunction}
use Rattle.asm_target.specs.InstructionSet.{InstructionSet}
use Rattle.asm_target.specs.Standing.{HasCode}
use Rattle.asm_target.proofs.GuardLemmas.{GuardLaws, DoesHere, IsMildIn, IsMildFront, IsMildPick, Soft, mild_front, single, double}
use Rattle.asm_target.proofs.PlaceLemmas.{instr_here}

module _ {Instr : Type 0} (set : InstructionSet Instr) (fits : Instr → Type 0) (begins : List Instr → Sequence) (shape : Shape) (aiming : Aiming Instr) where
  -- code behind other code
  pub behind : (all front back : List Instr) (at : ℕ) → drop at all ≡ front ++ back → drop (at + length front) all ≡ back
  behind all front back at here =
      sym (drop-drop (length front) at all) ∙ ap (drop (length front)) here ∙ drop_at front back (length front) refl

  module _ (f : FlowFunction) (all : List Instr) (has : HasCode set fits begins shape f all) where
    place_next : (at : ℕ) (i : Instr) (rest : List Instr) → drop at all ≡ i ∷ rest → suc at < f.count
        → f.at (suc at) ≡ f.at at + length (set.spelling i)
    place_next at i rest here inside =
        let none : at + 0 ≡ at = omega arith in
        has.follows at i (ap (slice_get all) (sym none) ∙ instr_here set fits begins shape all (i ∷ []) rest at 0 i here refl) inside

    pub place_behind : (front rest : List Instr) (at : ℕ) → drop at all ≡ front ++ rest → at + length front < f.count
        → f.at (at + length front) ≡ f.at at + bytes_of set front
    place_behind [] rest at here inside = (let none : at + 0 ≡ at = omega arith in ap f.at none ∙ omega arith)
    place_behind (i ∷ front) rest at here inside =
        let first = place_next at i (front ++ rest) here (omega arith) in
        let one : at + 1 ≡ suc at = omega arith in
        let there : drop (suc at) all ≡ front ++ rest =
        ap (λ (p : ℕ). drop p all) (sym one) ∙ behind all (i ∷ []) (front ++ rest) at here in
        let rest_place = place_behind front rest (suc at) there (omega arith) in
        let same : at + length (i ∷ front) ≡ suc at + length front = omega arith in
        ap f.at same ∙ rest_place
        ∙ omega (arith, length-append (set.spelling i) (flat_map set.spelling front))

    module _ (laws : GuardLaws set fits begins shape aiming) (goal_of : To → Option ℕ) (There Called : ℕ → Type 0)
        (near : (goal : ℕ) → There goal → goal < 2 ^ 64) (near_called : (goal : ℕ) → Called goal → goal < 2 ^ 64) where
      -- what stands at a position is mild
      pub record IsMildAt (p : ℕ) : Type 0 where
        pub instr : Instr
        pub here : slice_get all p ≡ Some instr
        pub goes : Next
        pub does : DoesHere set fits begins shape aiming goes instr (f.at p)
        pub soft : Soft set fits begins shape aiming laws goal_of There Called near near_called goes

      abbrev Front : List Instr → ℕ → Type 0
      Front = IsMildFront set fits begins shape aiming laws goal_of There Called near near_called

      mild_at : (front rest : List Instr) (at k place : ℕ) → drop at all ≡ front ++ rest → f.at (at + k) ≡ place
          → IsMildIn set fits begins shape aiming laws goal_of There Called near near_called front k place → IsMildAt (at + k)
      mild_at front rest at k place here same is = record {
        instr = is.instr;
        here = instr_here set fits begins shape all front rest at k is.instr here is.here;
        goes = is.goes;
        does = subst (λ (place : ℕ). DoesHere set fits begins shape aiming is.goes is.instr place) (sym same) is.does;
        soft = is.soft;
      }

      -- in the code of one picked instruction
      front_at : (front rest : List Instr) (at k : ℕ) → drop at all ≡ front ++ rest → at + length front ≤ f.count
          → k < length front → Front front (f.at at) → IsMildAt (at + k)
      front_at front rest at zero here inside less (single i is mild) =
          (let none : at + 0 ≡ at = omega arith in mild_at front rest at 0 (f.at at) here (ap f.at none) mild)
      front_at front rest at (suc k) here inside less (single i is mild) = absurd (omega (arith, ap length is))
      front_at front rest at zero here inside less (double i j is first second) =
          (let none : at + 0 ≡ at = omega arith in mild_at front rest at 0 (f.at at) here (ap f.at none) first)
      front_at front rest at (suc zero) here inside less (double i j is first second) =
          let one : at + 1 ≡ suc at = omega arith in
          let there : drop at all ≡ i ∷ j ∷ rest = here ∙ ap (λ (xs : List Instr). xs ++ rest) is in
          let place = place_next at i (j ∷ rest) there (omega (arith, ap length is)) in
          mild_at front rest at 1 (f.at at + length (set.spelling i)) here (ap f.at one ∙ place) second
      front_at front rest at (suc (suc k)) here inside less (double i j is first second) = absurd (omega (arith, ap length is))

      module _ (Can : Type 0) (last : ℕ) (on : Can → last < f.count) (inner : Can → (m : ℕ) → m ≤ last → There (f.at m)) where
        skips : (front rest : List Instr) (at : ℕ) → drop at all ≡ front ++ rest → at + length front ≤ last → Can
            → (i j : Instr) → front ≡ i ∷ j ∷ []
            → There ((f.at at + (length (set.spelling i) + length (set.spelling j))) % 2 ^ 64)
            × (f.at at + length (set.spelling i) < 2 ^ 64)
        skips front rest at here inside can i j is =
            let within = on can in
            let two : length front ≡ 2 = ap length is in
            let there : drop at all ≡ i ∷ j ∷ rest = here ∙ ap (λ (xs : List Instr). xs ++ rest) is in
            let first = place_next at i (j ∷ rest) there (omega arith) in
            let one : at + 1 ≡ suc at = omega arith in
            let next : drop (suc at) all ≡ j ∷ rest =
            ap (λ (p : ℕ). drop p all) (sym one) ∙ behind all (i ∷ []) (j ∷ rest) at there in
            let second = place_next (suc at) j rest next (omega arith) in
            let low = has.addresses (suc at) (omega arith) in
            let low_past = has.addresses (suc (suc at)) (omega arith) in
            let same : (f.at at + (length (set.spelling i) + length (set.spelling j))) % 2 ^ 64 ≡ f.at (suc (suc at)) = omega arith in
            (subst There (sym same) (inner can (suc (suc at)) (omega arith)), omega arith)

        -- in the code of all of them
        pub mild_code : (picks : List (Picked Instr)) (code rest : List Instr) (at k : ℕ)
            → All (IsMildPick set fits begins shape aiming laws goal_of There Called near near_called Can) picks
            → IsPlaced set fits aiming goal_of (f.at at) picks code → drop at all ≡ code ++ rest → at + length code ≤ last
            → last ≤ f.count → k < length code → IsMildAt (at + k)
        mild_code [] code rest at k mild placed here inside within less = absurd (omega (arith, ap length placed))
        mild_code (pick ∷ picks) code rest at k mild placed here inside within less =
            let front : List Instr = placed.1 in
            let back : List Instr = placed.2 in
            let lengths : length code ≡ length front + length back = ap length placed.6 ∙ length-append front back in
            let there : drop at all ≡ front ++ (back ++ rest) =
            here ∙ ap (λ (xs : List Instr). xs ++ rest) placed.6 ∙ append_assoc front back rest in
            elim (cases_lt k (length front)) as (λ _. IsMildAt (at + k)) [
              | inl in_front ↦
                  (let low = has.addresses at (omega arith) in
                  let picked = All-head (IsMildPick set fits begins shape aiming laws goal_of There Called near near_called Can) pick picks mild in
                  front_at front (back ++ rest) at k there (omega arith) in_front
                  (mild_front set fits begins shape aiming laws goal_of There Called near near_called Can pick placed.0 (f.at at) front placed.3
                  low picked placed.4 (skips front (back ++ rest) at there (omega arith))))
              | inr in_back ↦
                  (let place = place_behind front (back ++ rest) at there (omega arith) in
                  let again : IsPlaced set fits aiming goal_of (f.at (at + length front)) picks back =
                  subst (λ (place : ℕ). IsPlaced set fits aiming goal_of place picks back) (sym place) placed.5 in
                  let there_too : drop (at + length front) all ≡ back ++ rest = behind all front (back ++ rest) at there in
                  let same : at + length front + (k - length front) ≡ at + k = omega arith in
                  subst IsMildAt same
                  (mild_code picks back rest (at + length front) (k - length front)
                  (All-tail (IsMildPick set fits begins shape aiming laws goal_of There Called near near_called Can) pick picks mild)
                  again there_too (omega arith) within (omega arith)))
            ]

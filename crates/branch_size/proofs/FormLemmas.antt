-- Loops over the instructions of a form.
use Rattle.std.proofs.Common.{◌≡◌, ◌↔◌, ℕ, ◌+◌, ◌<◌, ◌≤◌, zero, suc, List, [], ◌∷◌, Option, Some, None, true, false, length, drop, get_or, refl, ◌∙◌, ap, arith, add-one, length-append, drop-cons}
use Rattle.std.specs.Prelude.{IfSome, IsTrue, is_some}
use Rattle.std.specs.List.{slice_get}
use Rattle.std.proofs.lemmas.Option.{slice_get_within, get_or_from_slice_get}
use Rattle.asm_target.specs.declared.refer.Part.TheVariants.{Whole}
use Rattle.asm_target.specs.Aiming.{Aiming, Aims, CanReach, bytes_of}
use Rattle.asm_target.specs.InstructionSet.{InstructionSet}
use Rattle.branch_size.specs.Rows.{Reaches}

-- what is left at an instruction
drop_at : {X : Type 0} (xs : List X) (i : ℕ) (x : X) → slice_get xs i ≡ Some x → drop i xs ≡ x ∷ drop (i + 1) xs
drop_at xs i x is =
    let within = slice_get_within xs i x is in
    let here : get_or xs i x ≡ x = get_or_from_slice_get xs i x x is in
    drop-cons xs i x within ∙ rw (here, add-one) refl

-- nothing is left behind the last
pub drop_end : {X : Type 0} (xs : List X) (n : ℕ) → length xs ≤ n → drop n xs ≡ []
drop_end [] zero most = refl
drop_end [] (suc n) most = refl
drop_end (x ∷ xs) zero most = absurd (omega arith)
drop_end (x ∷ xs) (suc n) most = drop_end xs n (omega arith)

pub false_true : false ≡ true → ⊥
false_true h = cc

pub none_some : {X : Type 0} {x : X} → None ≡ Some x → ⊥
none_some h = cc

module _ {Instr : Type 0} (set : InstructionSet Instr) where
  -- the bytes from an instruction on
  pub bytes_at : (form : List Instr) (index : ℕ) (i : Instr) → slice_get form index ≡ Some i
      → bytes_of set (drop index form) ≡ length (set.spelling i) + bytes_of set (drop (index + 1) form)
  bytes_at form index i is = rw (drop_at form index i is) (rw length-append refl)

  module _ (fits : Instr → Type 0) (aiming : Aiming Instr) where
    -- an instruction that can be aimed is found
    pub aim_reaches : (i : Instr) (place goal : ℕ) (found : Option Instr) → IfSome found (Aims set fits aiming i Whole place goal)
        → ((j : Instr) → Aims set fits aiming i Whole place goal j → found ≡ Some j)
        → IsTrue (is_some found) ↔ CanReach set fits aiming i place goal
    aim_reaches i place goal None some only = ((λ never. absurd (false_true never)), (λ reach. absurd (none_some (only reach.0 reach.1))))
    aim_reaches i place goal (Some j) some only = ((λ always. (j, some)), (λ reach. refl))

    -- the last instruction is the one that's aimed
    pub last_reaches : (form : List Instr) (index : ℕ) (i : Instr) → slice_get form index ≡ Some i → index + 1 ≡ length form
        → (place goal : ℕ) → Reaches set fits aiming (drop index form) place goal ↔ CanReach set fits aiming i place goal
    last_reaches form index i is last place goal =
        let alone : drop index form ≡ i ∷ [] = drop_at form index i is ∙ ap (λ rest. i ∷ rest) (drop_end form (index + 1) (omega arith)) in
        rw alone ((λ h. h), (λ h. h))

    -- an instruction before it only moves it
    pub more_reaches : (form : List Instr) (index : ℕ) (i : Instr) → slice_get form index ≡ Some i → index + 1 < length form
        → (place goal : ℕ) → Reaches set fits aiming (drop index form) place goal
        ↔ Reaches set fits aiming (drop (index + 1) form) (place + length (set.spelling i)) goal
    more_reaches form index i is more place goal =
        let next : drop (index + 1) form ≡ get_or form (index + 1) i ∷ drop (suc (index + 1)) form = drop-cons form (index + 1) i more in
        rw (drop_at form index i is) (rw next ((λ h. h), (λ h. h)))

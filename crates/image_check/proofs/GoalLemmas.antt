-- Where instructions go directly.
use Rattle.std.proofs.Common.{◌≡◌, ℕ, ◌<◌, ◌≤◌, ◌+◌, ◌==◌, ◌&&◌, ◌||◌, Bool, false, not, List, [], ◌∷◌, All, get_or, length, map, Option, Some, None, inl, inr, refl, sym, ap, subst, ◌∙◌, arith}
use Rattle.std.specs.List.{list_any, slice_get}
use Rattle.std.proofs.lemmas.Bool.{cases_lt}
use Rattle.std.proofs.lemmas.List.Sorted.{list_any-IsPermutation}
use Rattle.machine_effect.specs.declared.effect.Effect.{Effect}
use Rattle.asm_target.specs.declared.body.Placed.{Placed}
use Rattle.asm_target.specs.FlowFunction.{Range, is_among, is_within}
use Rattle.asm_target.specs.FlowRules.{IsFlowSound}
use Rattle.asm_target.specs.InstructionSet.{InstructionSet}
use Rattle.elf_image.specs.Contents.{outside_in}
use Rattle.flow_rules.specs.Placing as flow
use Rattle.image_check.specs.declared.surroundings.Surroundings.{Surroundings}
use Rattle.image_check.specs.Going.{IsFirstAstray, goes_astray, is_nowhere}
use Rattle.image_check.specs.Surrounding.{AreSurroundings, addresses_in, range_of}
use Rattle.image_model.specs.Listed.{Listed}
use Rattle.image_rules.specs.Functions.{IsFunction}
use Rattle.image_rules.specs.Machine.{Machine}
use Rattle.image_rules.specs.Parts.{is_outside_symbol}
use Rattle.image_rules.specs.Refusals.{IsAstray}
use Rattle.image_rules.specs.Sound.{direct_goal, is_lost, is_unknown, rules_of}
use Rattle.image_check.proofs.ListLemmas.{all_below}

-- where an instruction goes directly, by its effect
pub goal_told : {Instr : Type 0} (set : InstructionSet Instr) (one : Placed Instr) (effect : Effect) (goal : Option ℕ)
    → goal ≡ direct_goal effect.next → effect ≡ set.effect one.instr one.at → goal ≡ direct_goal (set.effect one.instr one.at).next
goal_told set one effect goal is same = is ∙ ap (λ (x : Effect). direct_goal x.next) same

module _ {Instr : Type 0} (set : InstructionSet Instr) (text : Range) (symbols : List ℕ) where
  -- none of the first n instructions goes to where nothing is
  abbrev pub AreKept : List (Placed Instr) → ℕ → Type 0
  AreKept code n = (k : ℕ) (other : Placed Instr) → k < n → slice_get code k ≡ Some other → goes_astray set text symbols other ≡ false

  pub none_first : (code : List (Placed Instr)) → AreKept code 0
  none_first code k other less is = absurd (omega arith)

  pub one_more : (code : List (Placed Instr)) (n : ℕ) (one : Placed Instr) → slice_get code n ≡ Some one
      → goes_astray set text symbols one ≡ false → AreKept code n → AreKept code (n + 1)
  one_more code n one here kept before k other less is =
      elim (cases_lt k n) [
        | inl low ↦ before k other low is
        | inr high ↦
            let last : k ≡ n = omega arith in
            let there : slice_get code n ≡ Some other = subst (λ (j : ℕ). slice_get code j ≡ Some other) last is in
            let same : one ≡ other = cc in
            subst (λ (x : Placed Instr). goes_astray set text symbols x ≡ false) same kept
      ]

  pub all_kept : (code : List (Placed Instr)) (n : ℕ) → length code ≤ n → AreKept code n
      → All (λ one. goes_astray set text symbols one ≡ false) code
  all_kept code n long before = all_below (λ one. goes_astray set text symbols one ≡ false) code n before long

listed_at : (address : ℕ) (xs : List (List ℕ × ℕ))
    → list_any (λ symbol. symbol.1 == address) xs ≡ list_any (λ at. at == address) (map (λ symbol. symbol.1) xs)
listed_at address [] = refl
listed_at address (x ∷ xs) = ap (λ rest. (x.1 == address) || rest) (listed_at address xs)

among : (one other : ℕ → Bool) → ((x : ℕ) → one x ≡ other x) → (goal : Option ℕ) → is_among one goal ≡ is_among other goal
among one other same (Some goal) = same goal
among one other same None = refl

module _ {Instr : Type 0} (machine : Machine Instr) (bytes : List ℕ) (all : Surroundings) (are : AreSurroundings bytes all) where
  unknown_nowhere : (address : ℕ) → is_unknown machine bytes address ≡ is_nowhere (range_of all.text) all.symbols.items address
  unknown_nowhere address =
      let listed : is_outside_symbol bytes address ≡ list_any (λ at. at == address) all.symbols.items =
      listed_at address (outside_in bytes)
      ∙ list_any-IsPermutation (λ at. at == address) (addresses_in bytes) all.symbols.items are.symbols in
      ap (λ (text : Range). not (is_within text address) && not (is_outside_symbol bytes address)) (sym are.surrounds.text)
      ∙ ap (λ (b : Bool). not (is_within (range_of all.text) address) && not b) listed

  -- with the surroundings of an image these are the instructions that are lost
  pub lost_astray : (one : Placed Instr) → is_lost machine bytes one ≡ goes_astray machine.set (range_of all.text) all.symbols.items one
  lost_astray one =
      among (is_unknown machine bytes) (is_nowhere (range_of all.text) all.symbols.items) unknown_nowhere
      (direct_goal (machine.set.effect one.instr one.at).next)

  pub none_lost : (code : List (Placed Instr))
      → All (λ one. goes_astray machine.set (range_of all.text) all.symbols.items one ≡ false) code
      → All (λ one. is_lost machine bytes one ≡ false) code
  none_lost code kept = λ k d less. lost_astray (get_or code k d) ∙ kept k d less

  pub first_lost : (around : flow.Surroundings) (index : ℕ) (listed : Listed Instr) (place : ℕ)
      → IsFunction machine bytes index listed → IsFlowSound (rules_of machine bytes around listed)
      → IsFirstAstray machine.set (range_of all.text) all.symbols.items listed.code place → IsAstray machine bytes around index place
  first_lost around index listed place function sound first = record {
    listed = listed;
    function = function;
    flow = sound;
    position = first.position;
    one = first.one;
    here = first.here;
    lost = lost_astray first.one ∙ first.astray;
    at = first.at;
    before = λ k other less is. lost_astray other ∙ first.before k other less is;
  }

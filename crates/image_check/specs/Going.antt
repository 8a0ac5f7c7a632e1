-- Instructions that go directly to where nothing is.
use Rattle.std.specs.Prelude.{◌≡◌, ℕ, ◌<◌, ◌==◌, ◌&&◌, Bool, true, false, not, List, Some}
use Rattle.std.specs.List.{list_any, slice_get}
use Rattle.asm_target.specs.declared.body.Placed.{Placed}
use Rattle.asm_target.specs.FlowFunction.{Range, is_among, is_within}
use Rattle.asm_target.specs.InstructionSet.{InstructionSet}
use Rattle.image_rules.specs.Sound.{direct_goal}

-- an address lies outside a text, and isn't among those of the symbols
abbrev pub is_nowhere : Range → List ℕ → ℕ → Bool
is_nowhere text symbols address = not (is_within text address) && not (list_any (λ symbol. symbol == address) symbols)

module _ {Instr : Type 0} (set : InstructionSet Instr) (text : Range) (symbols : List ℕ) where
  abbrev pub goes_astray : Placed Instr → Bool
  goes_astray one = is_among (is_nowhere text symbols) (direct_goal (set.effect one.instr one.at).next)

  -- the place of the first instruction that does
  pub record IsFirstAstray (code : List (Placed Instr)) (place : ℕ) : Type 0 where
    pub position : ℕ
    pub one : Placed Instr
    pub here : slice_get code position ≡ Some one
    pub astray : goes_astray one ≡ true
    pub at : place ≡ one.at
    pub before : (k : ℕ) (other : Placed Instr) → k < position → slice_get code k ≡ Some other → goes_astray other ≡ false

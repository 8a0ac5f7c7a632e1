-- Instructions that go directly to where nothing is.
use Rattle.std.specs.Prelude.{◌≡◌, ℕ, ◌<◌, ◌&&◌, Bool, true, false, not, List, Some}
use Rattle.std.specs.List.{slice_get}
use Rattle.asm_target.specs.declared.body.Placed.{Placed}
use Rattle.asm_target.specs.FlowFunction.{Range, is_among, is_within}
use Rattle.asm_target.specs.InstructionSet.{InstructionSet}
use Rattle.flow_rules.specs.Placing.{is_listed}
use Rattle.image_rules.specs.Sound.{direct_goal}

-- the bytes from the first address on and before the other
abbrev pub range_of : ℕ × ℕ → Range
range_of pair = record { first = pair.0; past = pair.1 }

-- the address lies outside the text, and no symbol has it
abbrev pub is_unknown : Range → List ℕ → ℕ → Bool
is_unknown text symbols address = not (is_within text address) && not (is_listed symbols address)

module _ {Instr : Type 0} (set : InstructionSet Instr) (text : Range) (symbols : List ℕ) where
  -- the instruction goes directly to such an address
  abbrev pub is_astray : Placed Instr → Bool
  is_astray one = is_among (is_unknown text symbols) (direct_goal (set.effect one.instr one.at).next)

  -- none of the instructions before this number does
  abbrev pub AreKept : List (Placed Instr) → ℕ → Type 0
  AreKept code number = (k : ℕ) (other : Placed Instr) → k < number → slice_get code k ≡ Some other → is_astray other ≡ false

  -- the number of the first that does
  pub record IsFirstAstray (code : List (Placed Instr)) (number : ℕ) : Type 0 where
    pub one : Placed Instr
    pub here : slice_get code number ≡ Some one
    pub astray : is_astray one ≡ true
    pub before : AreKept code number

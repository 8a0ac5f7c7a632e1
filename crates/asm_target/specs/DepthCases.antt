-- Small lists of instructions and how each changes the depth.
use Rattle.std.specs.Prelude.{ℕ, zero, suc, ℤ, pos, negsuc, ◌-◌, ◌^◌, ◌&&◌, List, [], ◌∷◌, ◌++◌, Bool, true, false}
use Rattle.std.specs.Ordering.{int_eq}
use Rattle.machine_effect.specs.declared.effect.Atom.TheVariants.{Reg, Const}
use Rattle.machine_effect.specs.declared.effect.Effect.{Effect}
use Rattle.machine_effect.specs.declared.flag_rule.FlagRule.TheVariants as flags
use Rattle.machine_effect.specs.declared.flow.Shape.{Shape}
use Rattle.machine_effect.specs.declared.next.Next.TheVariants as next
use Rattle.machine_effect.specs.declared.op.Op.TheVariants.{Subtract}
use Rattle.machine_effect.specs.Shapes.{amd64_shape, arm64_shape}
use Rattle.asm_target.specs.declared.sequence.Sequence.{Sequence}
use Rattle.asm_target.specs.declared.sequence.Sequence.TheVariants.{Plain, Saving, Restoring}
use Rattle.asm_target.specs.DepthChange.{depth_change, depth_view_of}
use Rattle.asm_target.specs.InstructionSet.{InstructionSet}
use Rattle.asm_target.specs.Runs.{stopped}

-- an instruction is its effect here
abbrev effects : InstructionSet Effect
effects = record { spelling = λ i. []; effect = λ i pc. i; text = λ i pc. [] }

-- it goes on behind itself, returns, or lowers the register 4 by a constant and sets all flags
abbrev falls : Effect
falls = record stopped { next = next.Fall }

abbrev returns : Effect
returns = record stopped { next = next.Return }

abbrev lowers : ℕ → Effect
lowers constant = record falls {
  writes = record {
    items = (4, record { op = Subtract; a = Reg 4; b = Const constant; c = Const 0; width = 64 }) ∷ [];
  };
  flags = flags.Subtract (Reg 4) (Const constant) 64;
}

-- six instructions begin a sequence that makes a frame of 16 bytes by two, three one that leaves it by two
abbrev begins : List Effect → Sequence
begins (one ∷ two ∷ three ∷ four ∷ five ∷ six ∷ []) = Saving 2 16
begins (one ∷ two ∷ three ∷ []) = Restoring 2 16
begins _ = Plain

-- how the instructions change the depth, from the first to the one before n
abbrev changes : Shape → List Effect → List ℕ → List Bool → ℕ → List ℤ
changes shape code depths targets zero = []
changes shape code depths targets (suc n) =
    changes shape code depths targets n ++ depth_change (depth_view_of effects shape begins code depths targets) n ∷ []

abbrev is_same : List ℤ → List ℤ → Bool
is_same [] [] = true
is_same (one ∷ ones) (other ∷ others) = int_eq one other && is_same ones others
is_same _ _ = false

-- the stack pointer's moves count, whatever the depths are
abbrev pub moves_count : Bool
moves_count = is_same (changes amd64_shape (lowers 24 ∷ falls ∷ lowers (2 ^ 64 - 8) ∷ returns ∷ []) [] [] 5)
    (pos 24 ∷ pos 0 ∷ negsuc 7 ∷ pos 0 ∷ pos 0 ∷ [])

abbrev six : List Effect
six = falls ∷ lowers 24 ∷ falls ∷ falls ∷ falls ∷ returns ∷ []

-- with a link register the sequences count, at their last instructions
abbrev pub sequences_count : Bool
sequences_count = is_same (changes arm64_shape six (0 ∷ 0 ∷ 16 ∷ 16 ∷ 16 ∷ 0 ∷ []) [] 6)
    (pos 0 ∷ pos 16 ∷ pos 0 ∷ pos 0 ∷ negsuc 15 ∷ pos 0 ∷ [])

-- but not where a jump goes to the second instruction, or the frame that is left has another size
abbrev pub some_do_not : Bool
some_do_not = is_same (changes arm64_shape six (0 ∷ 0 ∷ 0 ∷ 8 ∷ 8 ∷ 0 ∷ []) (false ∷ true ∷ []) 6)
    (pos 0 ∷ pos 0 ∷ pos 0 ∷ pos 0 ∷ pos 0 ∷ pos 0 ∷ [])

-- a jump to the first does no harm
abbrev pub first_may_be_hit : Bool
first_may_be_hit = is_same (changes arm64_shape six (0 ∷ 0 ∷ 0 ∷ 8 ∷ 8 ∷ 0 ∷ []) (true ∷ false ∷ true ∷ []) 6)
    (pos 0 ∷ pos 16 ∷ pos 0 ∷ pos 0 ∷ pos 0 ∷ pos 0 ∷ [])

-- What the six instructions mean: spellings, effects and texts as the Intel 64 manual and Go's assembler give them.
use Rattle.std.specs.Prelude.{ℕ, List, [], ◌∷◌, ◌++◌, ◌+◌, ◌*◌, codes, FitsSigned}
use Rattle.std.specs.Int.{w8, w32, w64, cast_unsigned, to_le_bytes}
use Rattle.goasm_base.specs.Numbers.{hex_text, decimal_text}
use Rattle.machine_effect.specs.declared.effect.Effect.{Effect}
use Rattle.machine_effect.specs.declared.next.Next.TheVariants as next
use Rattle.asm_target.specs.InstructionSet.{InstructionSet}
use Rattle.asm_target_sample.specs.declared.instr.Instr.{Instr}
use Rattle.asm_target_sample.specs.declared.instr.Instr.TheVariants.{Nop, Move, Push, AddSp, Jump, Return}
use Rattle.asm_target_sample.specs.Register.{number_of, name_of}
use Rattle.asm_target_sample.specs.Effects.{going, writing, copy_of, push, add_to_sp, goal_of}

abbrev pub spelling_of : Instr → List ℕ
spelling_of Nop = 0x90 ∷ []
spelling_of (Move from to) = 0x48 ∷ 0x89 ∷ (0xc0 + 8 * number_of from + number_of to) ∷ []
spelling_of (Push register) = (0x50 + number_of register) ∷ []
spelling_of (AddSp constant) = 0x48 ∷ 0x83 ∷ 0xc4 ∷ cast_unsigned w8 constant ∷ []
spelling_of (Jump distance) = 0xe9 ∷ to_le_bytes w32 (cast_unsigned w32 distance)
spelling_of Return = 0xc3 ∷ []

-- the constants fit one byte and four
abbrev pub Fits : Instr → Type 0
Fits (AddSp constant) = FitsSigned w8 constant
Fits (Jump distance) = FitsSigned w32 distance
Fits _ = Unit {0}

abbrev pub effect_of : Instr → ℕ → Effect
effect_of Nop pc = going next.Fall
effect_of (Move from to) pc = writing to (copy_of from)
effect_of (Push register) pc = push register
effect_of (AddSp constant) pc = add_to_sp (cast_unsigned w64 constant)
effect_of (Jump distance) pc = going (next.Jump (goal_of pc distance))
effect_of Return pc = going next.Return

abbrev pub text_of : Instr → ℕ → List ℕ
text_of Nop pc = codes "NOP"
text_of (Move from to) pc = codes "MOVQ " ++ name_of from ++ codes ", " ++ name_of to
text_of (Push register) pc = codes "PUSHQ " ++ name_of register
text_of (AddSp constant) pc = codes "ADDQ $" ++ decimal_text constant ++ codes ", SP"
text_of (Jump distance) pc = codes "JMP " ++ hex_text (goal_of pc distance)
text_of Return pc = codes "RET"

abbrev pub sample : InstructionSet Instr
sample = record { spelling = spelling_of; effect = effect_of; text = text_of }

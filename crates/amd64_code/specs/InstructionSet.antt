-- The instruction set: the bytes of each instruction, and at each address its effect and its text.
use Rattle.std.specs.Prelude.{ℕ, ◌+◌, ◌%◌, ◌^◌, length, IsTrue}
use Rattle.asm_target.specs.InstructionSet.{InstructionSet}
use Rattle.amd64_table.specs.declared.instr.Instr.{Instr}
use Rattle.amd64_table.specs.Fits.{fits}
use Rattle.amd64_table.specs.Effects.{effect_at}
use Rattle.amd64_table.specs.Texts.{text_of}
use Rattle.amd64_code.specs.Spelling.{spelling_of}

-- the address just behind an instruction at `pc`
abbrev pub end_of : Instr → ℕ → ℕ
end_of instr pc = (pc + length (spelling_of instr)) % 2 ^ 64

abbrev pub amd64 : InstructionSet Instr
amd64 = record {
  spelling = spelling_of;
  effect = λ instr pc. effect_at instr (end_of instr pc);
  text = λ instr pc. text_of instr (end_of instr pc);
}

-- an instruction is listed
abbrev pub Fits : Instr → Type 0
Fits instr = IsTrue (fits instr)

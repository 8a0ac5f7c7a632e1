-- The forms of amd64's instructions, and the addresses that they hold.
use Rattle.std.specs.Prelude.{ℕ, pos, Option, None, is_some}
use Rattle.std.specs.Option.{option_map}
use Rattle.machine_effect.specs.Numbers.{moved_by}
use Rattle.asm_target.specs.declared.refer.Part.{Part}
use Rattle.asm_target.specs.declared.refer.Part.TheVariants.{Whole}
use Rattle.asm_target.specs.Aiming.{Aiming}
use Rattle.amd64_table.specs.declared.instr.Instr.{Instr}
use Rattle.amd64_code.specs.InstructionSet.{end_of}
use Rattle.amd64_forms.specs.Aiming.{forms_of, distance_of, aimed_by}

-- an address is held whole, as a distance from the instruction's end
abbrev pub held : Instr → Part → ℕ → Option ℕ
held i Whole place = option_map (moved_by (end_of i place)) (distance_of i)
held i _ place = None

abbrev pub aiming : Aiming Instr
aiming = record {
  forms = forms_of;
  undirected = aimed_by (pos 0);
  is_directed = λ i. is_some (distance_of i);
  held = held;
  part_of = λ part place goal. goal;
}

-- A run over two functions: the first is entered from outside and calls the second, which returns.
use Rattle.std.specs.Prelude.{◌-◌, ◌+◌, [], ◌∷◌, false, None, Some, replicate, slice_set}
use Rattle.std.specs.FinMap as map
use Rattle.machine_effect.specs.declared.frame.Frame.{Frame}
use Rattle.machine_effect.specs.declared.state.State.{State}
use Rattle.machine_effect.specs.Memory.{Memory, bytes_of, put}
use Rattle.image_model.specs.Steps.{Moment}

-- two words of a stack. The return address of the first function, 0, is the upper one
abbrev pub stack : Memory
stack = put (put map.empty 0x9000 (bytes_of 8 0)) 0x9008 (bytes_of 8 0)

abbrev pub opening : State
opening = record {
  pc = 0x1000;
  regs = slice_set (replicate 33 0) 4 0x9008;
  wide = replicate 16 0;
  flags = record { carry = false; zero = false; sign = false; over = false; parity = false };
  mem = stack;
}

abbrev pub inside : State
inside = record opening {
  pc = 0x1010;
  regs = slice_set opening.regs 4 (0x9008 - 8);
  mem = put stack (0x9008 - 8) (bytes_of 8 0x1005);
}

abbrev pub back : State
back = record inside { pc = 0x1005; regs = slice_set inside.regs 4 (0x9000 + 8) }

abbrev pub outer_frame : Frame
outer_frame = record { func = 0x1000; call = None; ret = 0; base = 0x9008; slot = Some 0x9008 }

abbrev pub inner_frame : Frame
inner_frame = record { func = 0x1010; call = Some 0x1000; ret = 0x1005; base = 0x9000; slot = Some 0x9000 }

abbrev pub first : Moment
first = record { state = opening; calls = outer_frame ∷ [] }

abbrev pub second : Moment
second = record { state = inside; calls = inner_frame ∷ outer_frame ∷ [] }

abbrev pub third : Moment
third = record { state = back; calls = outer_frame ∷ [] }

use Rattle.std.proofs.Common.{◌≡◌, ◌++◌, map, take}
use Rattle.std.specs.List.{flat_map}
use Rattle.link_code.proofs.bytes.push_spellings.Given as goal

abbrev pub invariant-loop-number : goal.invariant-loop-number
invariant-loop-number g l =
    l.text.items ≡ l.fn.text.items ++ flat_map g.T.Processor.instructions.spelling (map (λ one. one.instr) (take l.number l.code))

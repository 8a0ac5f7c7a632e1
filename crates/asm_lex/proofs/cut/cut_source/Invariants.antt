use Rattle.std.proofs.Common.{◌≡◌, ◌-◌, ◌++◌, length}
use Rattle.asm_lex.specs.Cut.{cut_of, cut_within}
use Rattle.asm_lex.specs.Faults.{first_after}
use Rattle.asm_lex.specs.Places.{point_of}
use Rattle.asm_lex.proofs.cut.cut_source.Given as goal

abbrev pub invariant-pieces : goal.invariant-pieces
invariant-pieces l =
    let rest = cut_within (length l.bytes - l.counter) l.file (point_of l.place) in
    record {
      tokens : l.cut.tokens.items ++ rest.tokens ≡ (cut_of l.file l.bytes).tokens;
      fault : first_after l.cut.fault rest.faults ≡ first_after l.fn.known (cut_of l.file l.bytes).faults;
    }

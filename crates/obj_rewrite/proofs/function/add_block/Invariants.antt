use Rattle.std.proofs.Common.{◌≡◌, ◌++◌, None, map, drop}
use Rattle.obj_rewrite.specs.Rewriting.{line_of}
use Rattle.obj_rewrite.proofs.function.add_block.Given as goal

abbrev pub invariant-loop-number : goal.invariant-loop-number
invariant-loop-number g l =
    l.lines.items ++ map (λ pick. line_of pick l.pos 0 None) (drop l.number l.block)
    ≡ l.fn.lines.items ++ map (λ pick. line_of pick l.pos 0 None) l.block

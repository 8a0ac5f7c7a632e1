use Rattle.std.proofs.Common.{◌≡◌, ◌+◌, ◌*◌, ◌≤◌, drop}
use Rattle.asm_target.specs.Aiming.{bytes_of}
use Rattle.branch_size.proofs.forms.form_len.Given as goal

abbrev pub invariant-loop-index : goal.invariant-loop-index
invariant-loop-index g l = record {
  small : l.len ≤ 15 * l.index;
  whole : l.len + bytes_of g.T.Processor.instructions (drop l.index l.form) ≡ bytes_of g.T.Processor.instructions l.form;
}

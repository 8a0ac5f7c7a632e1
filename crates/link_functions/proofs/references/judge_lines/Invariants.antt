use Rattle.link_names.proofs.EachLemmas.{NoneMade}
use Rattle.link_functions.specs.References.{line_undefined}
use Rattle.link_functions.proofs.references.judge_lines.Given as goal

abbrev pub invariant-loop-line : goal.invariant-loop-line
invariant-loop-line g l = NoneMade (line_undefined l.names l.unit l.symbols l.flags) l.lines l.line-index

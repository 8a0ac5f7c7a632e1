use Rattle.std.proofs.Common.{arith}
use Rattle.least_forms.specs.Problem.{at}
use Rattle.least_forms.proofs.LeastLemmas.{one_least, not_both}
use Rattle.branch_size.specs.Lawful.{lawful_rows, quantum_kinds}
use Rattle.branch_size.specs.Rows.{rows_of}
use Rattle.branch_size.specs.Sizing.{branches_of}
use Rattle.branch_size.proofs.RowLemmas.{rows_right}
use Rattle.branch_size.proofs.SizeLemmas.{count_is}
use Rattle.branch_size.proofs.sizing.one_size.Goals as goal

pub returns-clause-one_least : goal.returns-clause-one_least
returns-clause-one_least g c = λ one other first second line within.
    let guard = g.T.Target.check c.args.body.now.frame in
    let code = c.args.body.now.code in
    let p = branches_of g.T.Processor.instructions g.T.Processor.fits g.T.Target.aiming g.T.Processor.QUANTUM guard code in
    let count = count_is g.T.Processor.instructions g.T.Processor.fits g.T.Target.aiming g.T.Processor.QUANTUM guard code in
    one_least p one other first second line (omega arith)

pub returns-clause-not_both : goal.returns-clause-not_both
returns-clause-not_both g c = λ sizes pos distance sized lost.
    let set = g.T.Processor.instructions in
    let fits = g.T.Processor.fits in
    let aiming = g.T.Target.aiming in
    let guard = g.T.Target.check c.args.body.now.frame in
    let code = c.args.body.now.code in
    let p = branches_of set fits aiming g.T.Processor.QUANTUM guard code in
    let lawful = lawful_rows set fits aiming g.T.Processor.QUANTUM (record {
      quantum_kind = quantum_kinds g.T.Processor.MACHINE g.T.Processor.QUANTUM g.T.Processor.SHAPE g.T.Processor.GROWTH g.met.T.Processor.architecture;
      lengths = g.met.T.Processor.lengths;
      formed = g.met.T.Target.formed;
      reaches = g.met.T.Target.reaches;
    }) (rows_of set aiming guard code) (rows_right guard code set fits aiming c.requires.body) in
    not_both p lawful (at sizes.forms) lost.form sized.least lost.least sized.reaches lost.line distance lost.lost

use Rattle.std.proofs.Common.{◌≡◌, Err, subst, rules}
use Rattle.unit_listing.specs.Kit.{kit_of}
use Rattle.image_link.specs.Refusals.{IsUnkept}
use Rattle.image_link.proofs.RefusalLemmas.{unkept}
use Rattle.image_link.proofs.linking.link_fitted.Goals as goal

pub returns-in_err-judge-clause-refused : goal.returns-in_err-judge-clause-refused
returns-in_err-judge-clause-refused g c = λ no same real.
    let kit = kit_of g.T.Processor.instructions g.T.Processor.fits g.T.Processor.MACHINE g.T.Processor.QUANTUM g.T.Processor.SHAPE g.T.Target.selection
    g.T.Target.aiming g.T.Target.entry g.T.Target.check g.T.Target.begins in
    let told = rw same at c.from_residual-in_err-judge.ensures.1 in
    let err : Err c.in_err-judge.field-0.0 ≡ Err no = search rules in
    let standing = c.in_ok-standing.standing in
    unkept kit c.args.build.now c.args.names.now c.args.code.now c.args.fitted standing.codes.items standing.around c.in_ok-standing.ensures.placed no
    (subst (λ funcs. IsUnkept kit standing.around funcs standing.codes.items no) c.requires.functions
    (c.in_err-judge.ensures.refused no err real))

pub returns-clause-linked : goal.returns-clause-linked
returns-clause-linked g c =
    let standing = c.in_ok-standing.standing in
    record {
      names = c.args.names.now;
      code = c.args.code.now;
      fitted = c.args.fitted;
      codes = standing.codes.items;
      around = standing.around;
      kept = record {
        placed = c.in_ok-standing.ensures.placed;
        goals = c.in_ok-judge.ensures.goals;
        flow = c.in_ok-judge.ensures.flow;
      };
      written = c.in_ok-image.ensures;
    }

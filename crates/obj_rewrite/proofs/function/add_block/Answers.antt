use Rattle.std.proofs.Common.{◌++◌, None, map}
use Rattle.obj_rewrite.specs.Rewriting.{line_of}
use Rattle.obj_rewrite.proofs.StepLemmas.{pushed}
use Rattle.obj_rewrite.proofs.function.add_block.Goals as goal

pub loop-number-preserved : goal.loop-number-preserved
loop-number-preserved g c =
    pushed (λ pick. line_of pick c.args.pos 0 None) c.loop-number.lines.items c.push.new.self.items
    (c.args.lines.now.items ++ map (λ pick. line_of pick c.args.pos 0 None) c.args.block.now) c.args.block.now c.loop-number.number
    c.get-pick.result c.get-pick.ensures c.in_ok-push.ensures.items c.loop-number.invariant

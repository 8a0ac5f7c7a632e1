use Rattle.amd64_select.specs.FrameLaws.{fits_point, locals_most}
use Rattle.amd64_select.proofs.frames.point.Goals as goal

pub known-requires : goal.known-requires
known-requires c = rw c.saved_at.ensures (fits_point c.args.frame.locals (locals_most c.args.frame c.requires))

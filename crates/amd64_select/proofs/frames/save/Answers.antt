use Rattle.amd64_select.specs.FrameLaws.{fits_save, locals_most}
use Rattle.amd64_select.proofs.frames.save.Goals as goal

pub known-requires : goal.known-requires
known-requires c = rw c.saved_at.ensures (fits_save c.args.frame.locals (locals_most c.args.frame c.requires))

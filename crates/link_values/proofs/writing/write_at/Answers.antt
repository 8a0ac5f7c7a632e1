use Rattle.std.proofs.Common.{arith}
use Rattle.link_values.proofs.WrittenLemmas.{put_written}
use Rattle.link_values.proofs.writing.write_at.Goals as goal

pub returns : goal.returns
returns c = put_written c.args.bytes.now c.args.part.now c.copy_from_slice.new.self c.args.at _ (omega arith) c.copy_from_slice.ensures.after

use Rattle.std.proofs.Common.{length, drop}
use Rattle.std.proofs.lemmas.Slice.Eq.{starts_is}
use Rattle.std.proofs.lemmas.Bool.Decides.{Decides-eqb}
use Rattle.asm_target.proofs.compare.begins_with.Goals as goal

pub returns : goal.returns
returns c =
    let bytes = c.args.bytes.now in
    let front = c.args.front.now in
    let starts = starts_is Decides-eqb bytes front c.starts_with.result c.starts_with.ensures.value in
    (starts.0, starts.1 (drop (length front) bytes))

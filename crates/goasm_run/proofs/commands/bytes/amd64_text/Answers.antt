use Rattle.std.proofs.lemmas.Result.{IfOk-weaker}
use Rattle.amd64_code.specs.First.{first_in}
use Rattle.amd64_code.proofs.FirstLaws.{first_found, first_none}
use Rattle.goasm_run.proofs.commands.bytes.amd64_text.Goals as goal

pub returns : goal.returns
returns c =
    IfOk-weaker c.raw.result _ _
    (λ text is. c.raw_text_by_reading.ensures.one first_in c.args.bytes.now text
    (record { found = first_found; none = first_none }) is)
    c.raw.ensures

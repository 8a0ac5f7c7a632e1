use Rattle.std.proofs.Common.{◌≡◌, ◌∙◌, ap, ◌++◌}
use Rattle.pcvalue.specs.Writing.{table_bytes}
use Rattle.pcvalue.proofs.WritingLemmas.{table_stands}
use Rattle.pcvalue.proofs.ValueLemmas.{values_stand}
use Rattle.pcvalue.proofs.LeastLemmas.{table_least}
use Rattle.pcvalue.proofs.writing.encode.Goals as goal

pub returns-clause-read : goal.returns-clause-read
returns-clause-read c = λ table more offset stands.
    table_stands c.args.quantum c.args.runs.now table more offset c.requires
    (stands ∙ ap (λ bytes. bytes ++ more) (c.new.ensures ∙ c.in_ok-bytes.ensures))

pub returns-clause-values : goal.returns-clause-values
returns-clause-values c = λ table more offset place stands.
    values_stand c.args.quantum c.args.runs.now table more offset place c.requires
    (stands ∙ ap (λ bytes. bytes ++ more) (c.new.ensures ∙ c.in_ok-bytes.ensures))

pub returns-clause-least : goal.returns-clause-least
returns-clause-least c = λ more.
    let is : c.new.result ≡ table_bytes c.args.quantum c.args.runs.now = c.new.ensures ∙ c.in_ok-bytes.ensures in
    rw is (table_least c.args.quantum c.args.runs.now more c.requires)

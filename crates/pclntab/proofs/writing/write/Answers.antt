use Rattle.std.proofs.Common.{◌≡◌, ◌∙◌}
use Rattle.pclntab.specs.Written.{written}
use Rattle.pclntab.proofs.TellLemmas.{table_told, tells, tells_all}
use Rattle.pclntab.proofs.writing.write.Goals as goal

pub returns-clause-table : goal.returns-clause-table
returns-clause-table c =
    let is : c.new.result ≡ written c.args.parts.now = c.new.ensures ∙ c.in_ok-bytes.ensures in
    rw is (table_told c.args.parts.now c.requires)

pub returns-clause-tells : goal.returns-clause-tells
returns-clause-tells c =
    let is : c.new.result ≡ written c.args.parts.now = c.new.ensures ∙ c.in_ok-bytes.ensures in
    rw is (tells c.args.parts.now c.requires)

pub returns-clause-all : goal.returns-clause-all
returns-clause-all c =
    let is : c.new.result ≡ written c.args.parts.now = c.new.ensures ∙ c.in_ok-bytes.ensures in
    rw is (tells_all c.args.parts.now c.requires)

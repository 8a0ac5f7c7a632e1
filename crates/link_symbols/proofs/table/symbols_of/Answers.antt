use Rattle.std.proofs.Common.{◌≡◌, rules}
use Rattle.link_symbols.specs.Table as spec
use Rattle.link_symbols.proofs.TableLemmas.{has_entry}
use Rattle.link_symbols.proofs.table.symbols_of.Goals as goal

pub returns-clause-entry : goal.returns-clause-entry
returns-clause-entry c = λ number function here.
    let is : c.push_outside.new.symbols.items ≡ spec.symbols_of c.args.functions.now c.args.values.now c.args.outside.now = search rules in
    rw is (has_entry c.args.functions.now c.args.values.now c.args.outside.now number function here)

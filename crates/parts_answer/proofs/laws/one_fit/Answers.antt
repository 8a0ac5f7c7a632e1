use Rattle.parts_answer.proofs.FitLemmas.{never_fitted, one_addresses, one_symbols, one_table, same_places, same_text}
use Rattle.parts_answer.proofs.ValueLemmas.{same_value_bytes}
use Rattle.parts_answer.proofs.laws.one_fit.Goals as goal

pub returns-clause-places : goal.returns-clause-places
returns-clause-places g c = same_places

pub returns-clause-size : goal.returns-clause-size
returns-clause-size g c = same_text

pub returns-clause-table : goal.returns-clause-table
returns-clause-table g c = λ quantum build names others code again fitted other means same a b.
    one_table quantum build names others code again means same fitted a other b

pub returns-clause-symbols : goal.returns-clause-symbols
returns-clause-symbols g c = λ quantum build names others code again fitted other means same a b.
    one_symbols quantum build names others code again means same fitted a other b

pub returns-clause-addresses : goal.returns-clause-addresses
returns-clause-addresses g c = λ quantum build names others code again fitted other means same a b.
    one_addresses quantum build names others code again means same fitted a other b

pub returns-clause-values : goal.returns-clause-values
returns-clause-values g c = λ build names others fitted other means tells.
    same_value_bytes names others means fitted.addresses other.addresses tells build.units

pub returns-clause-never : goal.returns-clause-never
returns-clause-never g c = λ quantum build names others code again fitted means same a.
    never_fitted quantum build names others code again means same fitted a

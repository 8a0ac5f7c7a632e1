use Rattle.link_names.specs.Data.{address_undefined}
use Rattle.link_names.proofs.EachLemmas.{NoneMade}
use Rattle.link_names.proofs.symbols.judge_addresses_in.Given as goal

abbrev pub invariant-loop-part : goal.invariant-loop-part
invariant-loop-part l = NoneMade (address_undefined l.names l.unit l.symbols) l.parts l.part-index

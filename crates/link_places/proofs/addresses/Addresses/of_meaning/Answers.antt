use Rattle.std.proofs.Common.{◌∙◌}
use Rattle.link_places.specs.contracts.key.KeyPartialEq.TheImpl.{eq-value}
use Rattle.link_places.proofs.KeyLemmas.{lookup_seen, compares}
use Rattle.link_places.proofs.addresses.Addresses.of_meaning.Goals as goal

pub returns : goal.returns
returns c =
    rw (← c.self.view_is, ← c.key_of.ensures)
    (c.copied.ensures ∙ c.get.ensures.value ∙ lookup_seen eq-value.it compares c.key_of.result c.self.inside.entries.entries)

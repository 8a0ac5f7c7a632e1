use Rattle.std.proofs.Common.{◌≡◌, Option, Some, None, true, false, ℕ, refl, ap, ◌∙◌}
use Rattle.std.specs.Prelude.{is_some, map}
use Rattle.link_places.specs.contracts.key.KeyPartialEq.TheImpl.{eq-value}
use Rattle.link_places.specs.Addresses.{address_in}
use Rattle.link_places.specs.Keys.{entry_seen}
use Rattle.link_places.proofs.KeyLemmas.{inserted_seen, compares}
use Rattle.link_places.proofs.AddressLemmas.{stays}
use Rattle.link_places.proofs.addresses.Addresses.insert.Goals as goal

-- with no address
none_told : (found : Option ℕ) → is_some found ≡ false → found ≡ None
none_told None is = refl
none_told (Some address) is = absurd cc

-- with some address
some_told : (found : Option ℕ) → is_some found ≡ true → (address : ℕ) × (found ≡ Some address)
some_told None is = absurd cc
some_told (Some address) is = (address, refl)

pub returns-in_ok-insert-clause-adds : goal.returns-in_ok-insert-clause-adds
returns-in_ok-insert-clause-adds c = λ meaning.
    let untold : is_some (address_in c.args.self.now (Some c.args.meaning)) ≡ false = cc in
    let none = none_told (address_in c.args.self.now (Some c.args.meaning)) untold in
    let absent = rw (← c.self.view_is, ← c.key_of.ensures) at none in
    ap (λ entries. address_in (map entry_seen entries) meaning) c.in_ok-insert.ensures.entries
    ∙ ap (λ told. address_in told meaning)
    (rw (← c.self.view_is, ← c.key_of.ensures) (inserted_seen eq-value.it compares c.self.inside.entries.entries c.key_of.result c.args.address absent))

pub returns-else-not-has-clause-adds : goal.returns-else-not-has-clause-adds
returns-else-not-has-clause-adds c =
    let told : is_some (address_in c.args.self.now (Some c.args.meaning)) ≡ true = cc in
    let some = some_told (address_in c.args.self.now (Some c.args.meaning)) told in
    stays c.args.self.now c.args.meaning some.0 c.args.address some.1

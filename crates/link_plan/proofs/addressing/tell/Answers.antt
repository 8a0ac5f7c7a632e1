use Rattle.std.proofs.Common.{ℕ, [], ◌∷◌, ◌++◌, get_or, subst, arith}
use Rattle.std.proofs.lemmas.List.{get_or_default}
use Rattle.link_names.specs.declared.definition.Meaning.{Meaning}
use Rattle.link_names.specs.declared.definition.Meaning.TheVariants.{Function}
use Rattle.link_places.specs.Addresses.{TellsAs}
use Rattle.link_plan.specs.Addresses.{behind}
use Rattle.link_plan.proofs.TellLemmas.{behind_more, behind_all}
use Rattle.link_plan.proofs.addressing.tell.Goals as goal

-- what is read of no place
nothing : Meaning
nothing = Function 0 0

pub loop-number-preserved : goal.loop-number-preserved
unfolding nothing
loop-number-preserved c =
    let number = c.loop-number.number in
    let meaning : Meaning = get_or c.args.meanings.now number nothing in
    behind_more c.args.from c.args.meanings.now c.args.at.now number meaning c.loop-number.addresses c.insert.new.self
    (c.args.addresses.now ++ behind c.args.from c.args.meanings.now c.args.at.now) (omega arith) (omega arith)
    (get_or_default c.args.meanings.now number nothing meaning (omega arith)) c.loop-number.invariant
    (subst (λ (address : ℕ). TellsAs c.insert.new.self (c.loop-number.addresses ++ (meaning, address) ∷ [])) c.address_at.ensures c.in_ok-insert.ensures.adds)

pub returns : goal.returns
returns c =
    behind_all c.args.from c.args.meanings.now c.args.at.now c.loop-number.number c.loop-number.addresses
    (c.args.addresses.now ++ behind c.args.from c.args.meanings.now c.args.at.now) (omega arith) c.loop-number.invariant

use Rattle.std.proofs.Common.{◌≡◌, ◌+◌, ◌*◌, ◌++◌, ◌-◌, ℕ, map, sym, subst, arith}
use Rattle.std.proofs.lemmas.Bool.Decides.{nat_tests}
use Rattle.std.specs.List.{AllByRecursion}
use Rattle.abi0_layout.specs.Parts.{within, elements, element_suffix, EndsBy}
use Rattle.abi0_layout.specs.Layouts.{most_bytes}
use Rattle.abi0_layout.proofs.PartLemmas.{element_ends, element_pushed, no_parts}
use Rattle.abi0_layout.proofs.parts.push_elements.Goals as goal

pub returns-then-is_empty : goal.returns-then-is_empty
returns-then-is_empty c =
    let place = c.args.place.now in
    no_parts (within place.name.now place.off) c.args.to.now.items c.args.parts.now c.args.count c.args.size (grind (arith, nat_tests, c.is_empty.ensures, c.if-is_empty.true))

pub push_element-requires-clause-within : goal.push_element-requires-clause-within
push_element-requires-clause-within c =
    subst (λ (i : ℕ). AllByRecursion (EndsBy (most_bytes - (c.args.place.now.off + i * c.args.size))) c.args.parts.now) (sym c.from.ensures)
    (element_ends c.args.count c.loop-index.index c.args.size c.args.place.now.off most_bytes c.args.parts.now (omega arith) c.requires.room c.requires.within)

pub loop-index-preserved : goal.loop-index-preserved
loop-index-preserved c =
    let place = c.args.place.now in
    let l = c.loop-index in
    let f = within place.name.now place.off in
    element_pushed f l.to.items c.push_element.new.to.items (c.args.to.now.items ++ map f (elements c.args.count 0 c.args.size c.args.parts.now)) c.args.count l.index c.args.size c.args.parts.now
    (omega arith) (subst (λ (i : ℕ). c.push_element.new.to.items ≡ l.to.items ++ map f (map (within (element_suffix l.index) (i * c.args.size)) c.args.parts.now)) c.from.ensures c.in_ok-push_element.ensures) l.invariant

use Rattle.std.proofs.Common.{ap, ◌∙◌, ◌≡◌, ◌<◌, length, ◌^◌, arith, rules}
use Rattle.link_tables.specs.UsedNames.{with_name, place_of}
use Rattle.link_tables.specs.Files.{file_name}
use Rattle.link_tables.proofs.PlaceLemmas.{IsThere, known_there, known_none, known_more, few_used, name_is, few_after, small_index, place_after}
use Rattle.link_tables.proofs.files.Files.number.Goals as goal

there : (c : goal.In-Some) → IsThere c.self.inside.build.now c.self.inside.used c.args.file c.in-Some.index
there c =
    let inside : c.args.file < length c.self.inside.build.now = rw (← c.self.view_is) at c.requires in
    known_there c.self.inside.build.now c.self.inside.used c.self.inside.known.items c.args.file c.in-Some.index c.index.result.now
    c.self.invariant inside c.index.ensures c.in-Some.is

pub returns-in-Some-clause-used : goal.returns-in-Some-clause-used
returns-in-Some-clause-used c = rw (← c.self.view_is) (there c).same

pub returns-in-Some-clause-place : goal.returns-in-Some-clause-place
returns-in-Some-clause-place c = rw (← c.self.view_is) (there c).place

pub returns-in-Some-clause-within : goal.returns-in-Some-clause-within
returns-in-Some-clause-within c = rw (← c.self.view_is) (there c).within

named : (c : goal.After-self-1) → c.as_slice.result.now ≡ file_name c.self.inside.build.now c.args.file
named c =
    let inside : c.args.file < length c.self.inside.build.now = rw (← c.self.view_is) at c.requires in
    name_is c.self.inside.build.now c.args.file c.index-build-file.result c.as_slice.result.now inside c.index-build-file.is c.as_slice.ensures

pub invariant_of-self-2 : goal.invariant_of-self-2
invariant_of-self-2 c =
    let inside : c.args.file < length c.self.inside.build.now = rw (← c.self.view_is) at c.requires in
    let count : length c.self.inside.known.items ≡ length c.self.inside.build.now = c.self.invariant.count in
    known_more c.self.inside.build.now c.self.inside.used c.add.new.self c.self.inside.known.items c.args.file c.in_ok-index.field-0
    c.self.invariant (omega arith)
    (known_none c.self.inside.build.now c.self.inside.used c.self.inside.known.items c.args.file c.index.result.now c.self.invariant inside c.index.ensures c.in_default.not-Some)
    (c.in_ok-index.ensures.names ∙ ap (with_name c.self.inside.used) (named c))
    (c.in_ok-index.ensures.place ∙ ap (place_of c.self.inside.used) (named c))
    c.in_ok-index.ensures.within

pub returns-clause-few : goal.returns-clause-few
returns-clause-few c = few_used c.self.inside.build.now c.add.new.self _ (invariant_of-self-2 c)

pub returns-clause-place : goal.returns-clause-place
returns-clause-place c =
    rw (← c.self.view_is)
    (place_after c.self.inside.used c.add.new.self (file_name c.self.inside.build.now c.args.file) c.in_ok-index.field-0
    (c.in_ok-index.ensures.names ∙ ap (with_name c.self.inside.used) (named c))
    (c.in_ok-index.ensures.place ∙ ap (place_of c.self.inside.used) (named c)))

pub overflow_cast-index : goal.overflow_cast-index
overflow_cast-index c =
    let small : c.in_ok-index.field-0 < 2 ^ 32
    = small_index c.self.inside.build.now c.self.inside.used c.add.new.self c.self.inside.known.items c.as_slice.result.now c.in_ok-index.field-0
    c.self.invariant c.in_ok-index.ensures.names c.in_ok-index.ensures.within in
    search rules

pub returns-in-Some-clause-few : goal.returns-in-Some-clause-few
returns-in-Some-clause-few c = rw (← c.self.view_is) (few_used c.self.inside.build.now c.self.inside.used c.self.inside.known.items c.self.invariant)

pub returns-in_err-index-clause-few : goal.returns-in_err-index-clause-few
returns-in_err-index-clause-few c =
    few_after c.self.inside.build.now c.self.inside.used c.add.new.self c.self.inside.known.items c.self.invariant c.in_err-index.ensures.err

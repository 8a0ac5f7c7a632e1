use Rattle.std.proofs.Common.{List, ℕ, IfSome, arith, subst, refl}
use Rattle.image_rules.specs.Machine.{machine_of}
use Rattle.image_check.specs.Tables.{AreTold}
use Rattle.image_check.proofs.FunctionLemmas.{entry_is, function, in_text, unread, untold}
use Rattle.image_check.proofs.function.read_function.Goals as goal

pub own_bytes-own-requires-clause-inside : goal.own_bytes-own-requires-clause-inside
own_bytes-own-requires-clause-inside g c =
    let p = g.T.Processor in
    in_text (machine_of p.instructions p.fits p.MACHINE p.QUANTUM p.SHAPE p.GROWTH g.T.Target.begins) c.args.image.now c.args.index
    c.requires.readable.profile c.requires.inside

pub returns-then-not-is_whole-clause-broken : goal.returns-then-not-is_whole-clause-broken
returns-then-not-is_whole-clause-broken g c = λ _ around.
    let p = g.T.Processor in
    let machine = machine_of p.instructions p.fits p.MACHINE p.QUANTUM p.SHAPE p.GROWTH g.T.Target.begins in
    let entry = entry_is c.args.image.now c.args.table.now c.args.index c.entry-entry.result c.at.result c.at.ensures c.entry-entry.ensures
    c.requires.table in
    unread machine c.args.image.now c.args.index c.own_bytes-own.result.now c.own_bytes-own.ensures.own
    c.entry-entry.result entry c.padding_byte.result c.padding_byte.ensures c.in-Ok.reading.code.items c.in-Ok.reading.ends.items
    c.in-Ok.reading.size c.in-Ok.ensures.code c.in-Ok.ensures.ends around (λ whole. absurd (grind (arith, c.if-not-is_whole.ensures.1 whole)))

pub returns-in-Ok-Some-clause-function : goal.returns-in-Ok-Some-clause-function
returns-in-Ok-Some-clause-function g c =
    let p = g.T.Processor in
    let machine = machine_of p.instructions p.fits p.MACHINE p.QUANTUM p.SHAPE p.GROWTH g.T.Target.begins in
    let entry = entry_is c.args.image.now c.args.table.now c.args.index c.entry-entry.result c.at.result c.at.ensures c.entry-entry.ensures
    c.requires.table in
    let told = subst (λ found. IfSome found (λ depths. AreTold c.args.table.now c.args.index c.deref.result.now depths.items))
    c.in-Ok-Some.field-0-is c.in-Ok-Some.ensures.some in
    function machine c.args.image.now c.args.index c.own_bytes-own.result.now c.own_bytes-own.ensures.own
    c.entry-entry.result entry c.padding_byte.result c.padding_byte.ensures c.in-Ok.reading.code.items c.in-Ok.reading.ends.items
    c.in-Ok.reading.size c.in-Ok.ensures.code c.in-Ok.ensures.ends c.args.table.now
    c.requires.table (c.if-not-is_whole.ensures.0 refl) c.in-Ok-Some.depths.items
    (subst (λ ends. AreTold c.args.table.now c.args.index ends c.in-Ok-Some.depths.items) c.deref.ensures.value told)

pub returns-in-Ok-None-clause-broken : goal.returns-in-Ok-None-clause-broken
returns-in-Ok-None-clause-broken g c = λ _ around.
    let p = g.T.Processor in
    let machine = machine_of p.instructions p.fits p.MACHINE p.QUANTUM p.SHAPE p.GROWTH g.T.Target.begins in
    let entry = entry_is c.args.image.now c.args.table.now c.args.index c.entry-entry.result c.at.result c.at.ensures c.entry-entry.ensures
    c.requires.table in
    let none = subst (λ ends. (depths : List ℕ) → ¬ AreTold c.args.table.now c.args.index ends depths) c.deref.ensures.value
    (c.in-Ok-None.ensures.none c.in-Ok-None.field-0-is) in
    untold machine c.args.image.now c.args.index c.own_bytes-own.result.now c.own_bytes-own.ensures.own
    c.entry-entry.result entry c.padding_byte.result c.padding_byte.ensures c.in-Ok.reading.code.items c.in-Ok.reading.ends.items
    c.in-Ok.reading.size c.in-Ok.ensures.code c.in-Ok.ensures.ends c.args.table.now
    c.requires.table (c.if-not-is_whole.ensures.0 refl) around none

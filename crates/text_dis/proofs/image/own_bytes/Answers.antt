use Rattle.std.proofs.Common.{ap, ◌∙◌, arith, length}
use Rattle.elf_image.specs.Contents.{text_in}
use Rattle.image_rules.specs.Machine.{machine_of}
use Rattle.text_dis.proofs.ListingLemmas.{own_is, places}
use Rattle.text_dis.proofs.image.own_bytes.Goals as goal

pub between-bytes-requires-clause-rises : goal.between-bytes-requires-clause-rises
between-bytes-requires-clause-rises g c =
    let machine = machine_of g.T.Processor.instructions g.T.Processor.fits g.T.Processor.MACHINE g.T.Processor.QUANTUM g.T.Processor.SHAPE
    g.T.Processor.GROWTH g.T.Target.begins in
    (places machine c.args.image.now c.sound.ensures.readable.profile c.args.index c.requires c.function-func.result c.text-first.result.0
    c.entry-entry.result c.end-end.result c.function-func.ensures (ap (λ p. p.0) c.text-first.ensures) c.entry-entry.ensures
    c.end-end.ensures.end).rises

pub between-bytes-requires-clause-within : goal.between-bytes-requires-clause-within
between-bytes-requires-clause-within g c =
    let machine = machine_of g.T.Processor.instructions g.T.Processor.fits g.T.Processor.MACHINE g.T.Processor.QUANTUM g.T.Processor.SHAPE
    g.T.Processor.GROWTH g.T.Target.begins in
    let are = places machine c.args.image.now c.sound.ensures.readable.profile c.args.index c.requires c.function-func.result
    c.text-first.result.0 c.entry-entry.result c.end-end.result c.function-func.ensures (ap (λ p. p.0) c.text-first.ensures)
    c.entry-entry.ensures c.end-end.ensures.end in
    omega (arith, are.within, ap length (c.text.ensures ∙ ap text_in c.image.ensures))

pub returns-clause-bytes : goal.returns-clause-bytes
returns-clause-bytes g c =
    let machine = machine_of g.T.Processor.instructions g.T.Processor.fits g.T.Processor.MACHINE g.T.Processor.QUANTUM g.T.Processor.SHAPE
    g.T.Processor.GROWTH g.T.Target.begins in
    let are = places machine c.args.image.now c.sound.ensures.readable.profile c.args.index c.requires c.function-func.result
    c.text-first.result.0 c.entry-entry.result c.end-end.result c.function-func.ensures (ap (λ p. p.0) c.text-first.ensures)
    c.entry-entry.ensures c.end-end.ensures.end in
    own_is machine c.args.image.now c.args.index _ _ c.text.result.now c.between-bytes.result.now are
    (c.text.ensures ∙ ap text_in c.image.ensures) c.between-bytes.ensures

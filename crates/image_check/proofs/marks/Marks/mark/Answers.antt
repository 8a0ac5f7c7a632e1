use Rattle.std.proofs.Common.{◌||◌, ◌+◌, List, ℕ, sym, ap, ◌∙◌, subst}
use Rattle.std.specs.List.{list_any}
use Rattle.asm_target.specs.declared.body.Placed.{Placed}
use Rattle.elf_image.specs.Contents.{text_address}
use Rattle.image_check.specs.Marks.{AreInText, begins_at, call_ends_at}
use Rattle.image_check.specs.Readers.{listed_of}
use Rattle.image_marks.specs.Bits.{has, room}
use Rattle.image_rules.specs.Machine.{machine_of}
use Rattle.image_check.proofs.AmongLemmas.{marks_on}
use Rattle.image_check.proofs.PlaceLemmas.{in_text_of}
use Rattle.image_check.proofs.marks.Marks.mark.Goals as goal

pub add-requires-clause-starts : goal.add-requires-clause-starts
add-requires-clause-starts g c =
    subst (λ (code : List (Placed _)). AreInText (room c.args.self.now.starts) code) (sym c.deref.ensures.value)
    (in_text_of
    (machine_of g.T.Processor.instructions g.T.Processor.fits g.T.Processor.MACHINE g.T.Processor.QUANTUM g.T.Processor.SHAPE
    g.T.Processor.GROWTH g.T.Target.begins)
    c.args.image.now (listed_of c.args.function.now) (room c.args.self.now.starts) c.requires.function c.requires.start_room)

pub add-requires-clause-ends : goal.add-requires-clause-ends
add-requires-clause-ends g c =
    subst (λ (code : List (Placed _)). AreInText (room c.args.self.now.ends) code) (sym c.deref.ensures.value)
    (in_text_of
    (machine_of g.T.Processor.instructions g.T.Processor.fits g.T.Processor.MACHINE g.T.Processor.QUANTUM g.T.Processor.SHAPE
    g.T.Processor.GROWTH g.T.Target.begins)
    c.args.image.now (listed_of c.args.function.now) (room c.args.self.now.ends) c.requires.function c.requires.end_room)

pub returns-clause-marks : goal.returns-clause-marks
returns-clause-marks g c = λ around index same function marked.
    marks_on
    (machine_of g.T.Processor.instructions g.T.Processor.fits g.T.Processor.MACHINE g.T.Processor.QUANTUM g.T.Processor.SHAPE
    g.T.Processor.GROWTH g.T.Target.begins)
    c.args.image.now around index (listed_of c.args.function.now) c.args.self.now.starts c.args.self.now.ends c.add.new.self.starts
    c.add.new.self.ends (λ other is. c.one_function.ensures.function c.args.image.now index other (listed_of c.args.function.now) is function)
    marked
    (λ offset.
    c.add.ensures.starts offset
    ∙ ap (λ (code : List (Placed _)). has c.args.self.now.starts offset || list_any (begins_at (text_address + offset)) code)
    c.deref.ensures.value)
    (λ offset.
    c.add.ensures.ends offset
    ∙ ap (λ (code : List (Placed _)). has c.args.self.now.ends offset
    || list_any (call_ends_at g.T.Processor.instructions c.args.growth.now (text_address + offset)) code) c.deref.ensures.value
    ∙ ap (λ (routines : List ℕ). has c.args.self.now.ends offset
    || list_any (call_ends_at g.T.Processor.instructions routines (text_address + offset)) c.args.function.now.code.items) (sym same))

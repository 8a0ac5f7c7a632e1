use Rattle.goasm_list.specs.Lists.{line_of}
use Rattle.goasm_list.specs.Views.{parts_in}
use Rattle.goasm_list.proofs.KeepLemmas.{Stands, keeps_file, keeps_define, keeps_outside, keeps_entry}
use Rattle.goasm_list.proofs.reader.Reader.with.Goals as goal
use Rattle.goasm_list.proofs.reader.Reader.with.Goals.{in-Asm, in-Define, in-Outside+in_ok-insert-in-Outside, in-Entry}

pub invariant_of-result : goal.invariant_of-result
invariant_of-result c =
    let stands : Stands c.self.inside.lines.items (line_of c.args.number (parts_in c.args.draft.now)) = record {
      room = rw (← c.self.view_is) at c.requires.room;
      parts = c.requires.whole;
    } in
    rw (c.in_ok-push.ensures.items, c.in_ok-made_line.ensures)
    (elim c.match-draft.branch [
      | in-Asm w ↦ rw (w.outside-is, w.files-is, w.entry-is) (keeps_file _ _ _ _ _ w.in-Asm.is c.self.invariant stands)
      | in-Define w ↦ rw (w.outside-is, w.files-is, w.entry-is) (keeps_define _ _ _ _ _ w.in-Define.is c.self.invariant stands)
      | in-Outside+in_ok-insert-in-Outside w ↦
          rw (w.outside-is, w.files-is, w.entry-is)
          (keeps_outside _ _ _ _ _ _ w.in-Outside.is w.in_ok-insert-in-Outside.ensures.adds c.self.invariant stands)
      | in-Entry w ↦ rw (w.outside-is, w.files-is, w.entry-is) (keeps_entry _ _ _ _ _ w.in-Entry.is c.self.invariant stands)
    ])

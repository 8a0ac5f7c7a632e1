use Rattle.std.proofs.Common.{◌∙◌, ap, subst, inl, inr, refl}
use Rattle.goasm_base.specs.Sink.{with_more, TookPrefix}
use Rattle.goasm_run.specs.Changes.{shelf_change, sink_change}
use Rattle.goasm_run.specs.Endings.{Text}
use Rattle.goasm_run.specs.Commands.{plan_of}
use Rattle.goasm_run.proofs.PlanLemmas.{one_text, no_refusal, ends_makes}
use Rattle.goasm_run.proofs.StatusLemmas.{text_ends, words_stopped, kept_back, refusal_told, words_told, unsaid, stopped_makes}
use Rattle.goasm_run.proofs.program.goasm_main.goasm_main.Goals as goal

-- the text is taken

pub returns-in-Ok-write-clause-reads : goal.returns-in-Ok-write-clause-reads
returns-in-Ok-write-clause-reads g c =
    let shelf = shelf_change g.F.Shelf.holds g.F.Shelf.faults g.F.Shelf.reads c.args.shelf.now c.answer.new.shelf in
    let plan = plan_of c.args.words.now in
    ends_makes shelf plan (Text c.in-Ok.text) (text_ends shelf plan c.in-Ok.text c.in-Ok.ensures)

pub returns-in-Ok-write-clause-succeeds : goal.returns-in-Ok-write-clause-succeeds
returns-in-Ok-write-clause-succeeds g c files text told is =
    let shelf = shelf_change g.F.Shelf.holds g.F.Shelf.faults g.F.Shelf.reads c.args.shelf.now c.answer.new.shelf in
    let plan = plan_of c.args.words.now in
    inl (
      refl,
      c.in-Ok-write.ensures.ok ∙ ap (λ t. with_more (g.O.Sink.took c.args.out.now) t)
          (c.as_slice.ensures ∙ one_text c.one_answer.ensures shelf files plan c.in-Ok.text text told (text_ends shelf plan c.in-Ok.text c.in-Ok.ensures) is),
    )

pub returns-in-Ok-write-clause-refuses : goal.returns-in-Ok-write-clause-refuses
returns-in-Ok-write-clause-refuses g c files line told is =
    let shelf = shelf_change g.F.Shelf.holds g.F.Shelf.faults g.F.Shelf.reads c.args.shelf.now c.answer.new.shelf in
    let plan = plan_of c.args.words.now in
    absurd (no_refusal c.one_answer.ensures shelf files plan c.in-Ok.text line told (text_ends shelf plan c.in-Ok.text c.in-Ok.ensures) is)

-- the write of the text failed

pub returns-in-Ok-clause-reads : goal.returns-in-Ok-clause-reads
returns-in-Ok-clause-reads g c =
    let shelf = shelf_change g.F.Shelf.holds g.F.Shelf.faults g.F.Shelf.reads c.args.shelf.now c.answer.new.shelf in
    let plan = plan_of c.args.words.now in
    ends_makes shelf plan (Text c.in-Ok.text) (text_ends shelf plan c.in-Ok.text c.in-Ok.ensures)

pub returns-in-Ok-clause-succeeds : goal.returns-in-Ok-clause-succeeds
returns-in-Ok-clause-succeeds g c files text told is =
    let shelf = shelf_change g.F.Shelf.holds g.F.Shelf.faults g.F.Shelf.reads c.args.shelf.now c.answer.new.shelf in
    let plan = plan_of c.args.words.now in
    inr (inl (
      refl,
      record {
        failed = c.in-Err-write.ensures.failed;
        prefix = subst (TookPrefix (g.O.Sink.took c.args.out.now) (g.O.Sink.took c.write.new.self))
            (c.as_slice.ensures ∙ one_text c.one_answer.ensures shelf files plan c.in-Ok.text text told (text_ends shelf plan c.in-Ok.text c.in-Ok.ensures) is)
            c.in-Err-write.ensures.err;
      },
    ))

pub returns-in-Ok-clause-refuses : goal.returns-in-Ok-clause-refuses
returns-in-Ok-clause-refuses g c files line told is =
    let shelf = shelf_change g.F.Shelf.holds g.F.Shelf.faults g.F.Shelf.reads c.args.shelf.now c.answer.new.shelf in
    let plan = plan_of c.args.words.now in
    absurd (no_refusal c.one_answer.ensures shelf files plan c.in-Ok.text line told (text_ends shelf plan c.in-Ok.text c.in-Ok.ensures) is)

-- there is no text

pub returns-clause-reads : goal.returns-clause-reads
returns-clause-reads g c =
    let shelf = shelf_change g.F.Shelf.holds g.F.Shelf.faults g.F.Shelf.reads c.args.shelf.now c.answer.new.shelf in
    let plan = plan_of c.args.words.now in
    stopped_makes shelf plan c.in-Err.stop (words_stopped shelf plan c.in-Err.stop c.in-Err.ensures)

pub returns-clause-succeeds : goal.returns-clause-succeeds
returns-clause-succeeds g c files text told is =
    let shelf = shelf_change g.F.Shelf.holds g.F.Shelf.faults g.F.Shelf.reads c.args.shelf.now c.answer.new.shelf in
    let out = sink_change g.O.Sink.took g.O.Sink.faults c.args.out.now c.args.out.now in
    let err = sink_change g.E.Sink.took g.E.Sink.faults c.args.err.now c.tell.new.err in
    let plan = plan_of c.args.words.now in
    inr (inr (kept_back c.one_answer.ensures shelf plan out err files text c.in-Err.stop c.tell.result told is refl
    (words_stopped shelf plan c.in-Err.stop c.in-Err.ensures) c.tell.ensures))

pub returns-clause-refuses : goal.returns-clause-refuses
returns-clause-refuses g c files line told is =
    let shelf = shelf_change g.F.Shelf.holds g.F.Shelf.faults g.F.Shelf.reads c.args.shelf.now c.answer.new.shelf in
    let out = sink_change g.O.Sink.took g.O.Sink.faults c.args.out.now c.args.out.now in
    let err = sink_change g.E.Sink.took g.E.Sink.faults c.args.err.now c.tell.new.err in
    let plan = plan_of c.args.words.now in
    refusal_told c.one_answer.ensures shelf plan out err files line c.in-Err.stop c.tell.result told is refl
    (words_stopped shelf plan c.in-Err.stop c.in-Err.ensures) c.tell.ensures

pub returns-clause-malformed : goal.returns-clause-malformed
returns-clause-malformed g c is =
    let shelf = shelf_change g.F.Shelf.holds g.F.Shelf.faults g.F.Shelf.reads c.args.shelf.now c.answer.new.shelf in
    let err = sink_change g.E.Sink.took g.E.Sink.faults c.args.err.now c.tell.new.err in
    let plan = plan_of c.args.words.now in
    words_told shelf plan err c.in-Err.stop c.tell.result is
    (words_stopped shelf plan c.in-Err.stop c.in-Err.ensures) c.tell.ensures

pub returns-clause-unwritten : goal.returns-clause-unwritten
returns-clause-unwritten g c five =
    let shelf = shelf_change g.F.Shelf.holds g.F.Shelf.faults g.F.Shelf.reads c.args.shelf.now c.answer.new.shelf in
    let out = sink_change g.O.Sink.took g.O.Sink.faults c.args.out.now c.args.out.now in
    let err = sink_change g.E.Sink.took g.E.Sink.faults c.args.err.now c.tell.new.err in
    let plan = plan_of c.args.words.now in
    inr (unsaid shelf plan out err c.in-Err.stop c.tell.result refl
    (words_stopped shelf plan c.in-Err.stop c.in-Err.ensures) c.tell.ensures five)

use Rattle.std.proofs.Common.{◌≡◌, ◌++◌, [], None, false, map, refl, subst, ap, ◌∙◌, rules, Err}
use Rattle.stack_split.specs.Opening.{opening}
use Rattle.obj_rewrite.specs.Draft.{written}
use Rattle.obj_rewrite.specs.Rewriting.{all_added, code_of, line_of, rules_of}
use Rattle.obj_rewrite.specs.Rewritten.{IsUnwritten, IsWritten, closing, opened}
use Rattle.obj_rewrite.specs.declared.rewrite_no.RewriteNo.TheVariants.{Select}
use Rattle.obj_rewrite.proofs.BodyLemmas.{frame_laws, has_room, is_body, pick_laws}
use Rattle.obj_rewrite.proofs.function.rewrite_in.Goals as goal

pub returns-in_err-add_function-clause-refused : goal.returns-in_err-add_function-clause-refused
returns-in_err-add_function-clause-refused g c = λ place why same.
    let table = rules_of g.T.Processor.instructions g.T.Processor.SHAPE g.T.Target.begins g.T.Target.selection c.args.frame in
    let told = rw same at c.from_residual-in_err-add_function.ensures.1 in
    let err : Err c.in_err-add_function.field-0.0 ≡ Err (Select place why) = search rules in
    let begun : written c.add_few.new.draft ≡ opened table c.args.func.now c.args.frame (g.T.Target.check c.args.frame) (g.T.Target.entry c.args.frame) =
    c.in_ok-add_few.ensures.added
    ∙ ap (λ code. all_added table.change code c.prologue.result c.args.func.now.pos None) c.empty-draft.ensures.empty
    ∙ ap (λ picks. all_added table.change (code_of [] [] 0 false) picks c.args.func.now.pos None) (c.prologue.ensures
    ∙ ap (opening (g.T.Target.check c.args.frame) (g.T.Target.entry c.args.frame)) c.checked-check.ensures) in (
      c.requires.frame.most,
      subst (λ code. IsUnwritten table c.args.func.now code place why) begun (c.in_err-add_function.ensures.refused place why err),
    )

pub returns-clause-body : goal.returns-clause-body
returns-clause-body g c =
    let table = rules_of g.T.Processor.instructions g.T.Processor.SHAPE g.T.Target.begins g.T.Target.selection c.args.frame in
    let begun : written c.add_few.new.draft ≡ opened table c.args.func.now c.args.frame (g.T.Target.check c.args.frame) (g.T.Target.entry c.args.frame) =
    c.in_ok-add_few.ensures.added
    ∙ ap (λ code. all_added table.change code c.prologue.result c.args.func.now.pos None) c.empty-draft.ensures.empty
    ∙ ap (λ picks. all_added table.change (code_of [] [] 0 false) picks c.args.func.now.pos None) (c.prologue.ensures
    ∙ ap (opening (g.T.Target.check c.args.frame) (g.T.Target.entry c.args.frame)) c.checked-check.ensures) in
    record {
      most = c.requires.frame.most;
      same = refl;
      lines = record {
        code = written c.add_function.new.draft;
        written = subst (λ code. IsWritten table c.args.func.now code (written c.add_function.new.draft)) begun c.in_ok-add_function.ensures.written;
        whole = c.new.ensures ∙ c.in_ok-add_closing.ensures
            ∙ ap (λ check. c.add_function.new.draft.lines.items
            ++ map (λ pick. line_of pick c.args.func.now.pos 0 None) (closing check (g.T.Target.check c.args.frame))) c.checked-check.ensures;
      };
    }

pub returns-clause-lines : goal.returns-clause-lines
returns-clause-lines g c =
    let set = g.T.Processor.instructions in
    let fits = g.T.Processor.fits in
    let aiming = g.T.Target.aiming in
    let table = rules_of set g.T.Processor.SHAPE g.T.Target.begins g.T.Target.selection c.args.frame in
    let picks = pick_laws set fits aiming g.T.Processor.SHAPE g.T.Target.begins g.T.Target.selection g.T.Processor.MACHINE c.args.frame
    c.requires.frame g.met.T.Target.pickable g.met.T.Target.few_bytes g.met.T.Target.refers g.met.T.Target.ends in
    let frames = frame_laws set fits aiming g.T.Processor.SHAPE g.T.Target.begins g.T.Target.selection g.T.Processor.MACHINE c.args.frame
    c.requires.frame g.T.Target.check g.T.Target.entry g.met.T.Target.enters_listed g.met.T.Target.check_pickable
    g.met.T.Target.stays_around g.met.T.Target.few_instructions in
    is_body set fits aiming table c.args.func.now c.args.frame (g.T.Target.check c.args.frame) (g.T.Target.entry c.args.frame) picks frames
    c.requires.valid.0 c.requires.valid.1 _ (returns-clause-body g c).lines

pub returns-clause-room : goal.returns-clause-room
returns-clause-room g c =
    let set = g.T.Processor.instructions in
    let fits = g.T.Processor.fits in
    let aiming = g.T.Target.aiming in
    let table = rules_of set g.T.Processor.SHAPE g.T.Target.begins g.T.Target.selection c.args.frame in
    let picks = pick_laws set fits aiming g.T.Processor.SHAPE g.T.Target.begins g.T.Target.selection g.T.Processor.MACHINE c.args.frame
    c.requires.frame g.met.T.Target.pickable g.met.T.Target.few_bytes g.met.T.Target.refers g.met.T.Target.ends in
    let frames = frame_laws set fits aiming g.T.Processor.SHAPE g.T.Target.begins g.T.Target.selection g.T.Processor.MACHINE c.args.frame
    c.requires.frame g.T.Target.check g.T.Target.entry g.met.T.Target.enters_listed g.met.T.Target.check_pickable
    g.met.T.Target.stays_around g.met.T.Target.few_instructions in
    has_room set fits aiming table c.args.func.now c.args.frame (g.T.Target.check c.args.frame) (g.T.Target.entry c.args.frame) picks frames
    c.requires.valid.0 g.T.Processor.QUANTUM g.met.T.Target.formed g.met.T.Processor.lengths c.requires.valid.1 _ (returns-clause-body g c).lines

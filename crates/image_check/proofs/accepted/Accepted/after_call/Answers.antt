use Rattle.std.proofs.Common.{◌≡◌, ◌<◌, ◌+◌, List, ℕ, None, Some, subst, sym, arith}
use Rattle.elf_image.specs.Contents.{text_address}
use Rattle.image_rules.specs.Machine.{Machine, machine_of}
use Rattle.image_check.proofs.AfterLemmas.{IsCallAt, nearest_call, no_call, no_call_before}
use Rattle.image_check.proofs.accepted.Accepted.after_call.Given
use Rattle.image_check.proofs.accepted.Accepted.after_call.Goals as goal

abbrev machine_in : (g : Given.Over) → Machine g.row.T-Instr.Denot
machine_in g =
    machine_of g.T.Processor.instructions g.T.Processor.fits g.T.Processor.MACHINE g.T.Processor.QUANTUM g.T.Processor.SHAPE
    g.T.Processor.GROWTH g.T.Target.begins

pub returns-in_err-offset : goal.returns-in_err-offset
returns-in_err-offset g c =
    let before : c.args.pc < text_address = omega (arith, c.in_err-offset.ensures.before, c.text_at.ensures) in
    subst (λ (bytes : List ℕ). IsCallAt (machine_in g) bytes c.args.pc c.from_residual.result) c.self.view_is
    (subst (λ found. IsCallAt (machine_in g) c.self.inside.image c.args.pc found) (sym c.from_residual.ensures)
    (no_call_before (machine_in g) g.met.T.Processor.lengths c.text_laws.ensures c.self.inside.image c.self.inside.marks.starts c.self.inside.marks.ends c.self.invariant.marked c.args.pc before))

pub returns-then-not-has : goal.returns-then-not-has
returns-then-not-has g c =
    let here : c.args.pc ≡ text_address + c.in_ok-offset.offset = omega (arith, c.in_ok-offset.ensures.behind, c.text_at.ensures) in
    subst (λ (bytes : List ℕ). IsCallAt (machine_in g) bytes c.args.pc None) c.self.view_is
    (no_call (machine_in g) g.met.T.Processor.lengths c.text_laws.ensures c.self.inside.image c.self.inside.marks.starts c.self.inside.marks.ends c.self.invariant.marked c.args.pc c.in_ok-offset.offset here
    (sym c.if-not-has.ensures))

pub returns-in_err-start : goal.returns-in_err-start
returns-in_err-start g c =
    let here : c.args.pc ≡ text_address + c.in_ok-offset.offset = omega (arith, c.in_ok-offset.ensures.behind, c.text_at.ensures) in
    subst (λ (bytes : List ℕ). IsCallAt (machine_in g) bytes c.args.pc c.from_residual-in_err-start.result) c.self.view_is
    (subst (λ found. IsCallAt (machine_in g) c.self.inside.image c.args.pc found) (sym c.from_residual-in_err-start.ensures)
    (nearest_call (machine_in g) g.met.T.Processor.lengths c.text_laws.ensures c.self.inside.image c.self.inside.marks.starts c.self.inside.marks.ends c.self.invariant.marked c.args.pc c.in_ok-offset.offset here
    (sym c.if-not-has.ensures) None c.in_err-start.ensures.found c.in_err-start.ensures.none))

pub returns : goal.returns
returns g c =
    let here : c.args.pc ≡ text_address + c.in_ok-offset.offset = omega (arith, c.in_ok-offset.ensures.behind, c.text_at.ensures) in
    subst (λ (bytes : List ℕ). IsCallAt (machine_in g) bytes c.args.pc (Some (c.text_at-2.result + c.in_ok-start.start))) c.self.view_is
    (subst (λ (first : ℕ). IsCallAt (machine_in g) c.self.inside.image c.args.pc (Some (first + c.in_ok-start.start))) (sym c.text_at-2.ensures)
    (nearest_call (machine_in g) g.met.T.Processor.lengths c.text_laws.ensures c.self.inside.image c.self.inside.marks.starts c.self.inside.marks.ends c.self.invariant.marked c.args.pc c.in_ok-offset.offset here
    (sym c.if-not-has.ensures) (Some c.in_ok-start.start) c.in_ok-start.ensures.found c.in_ok-start.ensures.none))

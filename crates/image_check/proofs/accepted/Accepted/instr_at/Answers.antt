use Rattle.std.proofs.Common.{List, ℕ, None, Some, subst, sym, ap, ◌∙◌, arith, drop, ◌+◌, ◌≡◌, ◌<◌}
use Rattle.elf_image.specs.Contents.{text_address}
use Rattle.image_rules.specs.Machine.{Machine, machine_of}
use Rattle.image_check.proofs.ReadLemmas.{IsInstrAt, not_before, not_begun, read_there}
use Rattle.image_check.proofs.accepted.Accepted.instr_at.Given
use Rattle.image_check.proofs.accepted.Accepted.instr_at.Goals as goal

abbrev machine_in : (g : Given.Over) → Machine g.row.T-Instr.Denot
machine_in g =
    machine_of g.T.Processor.instructions g.T.Processor.fits g.T.Processor.MACHINE g.T.Processor.QUANTUM g.T.Processor.SHAPE
    g.T.Processor.GROWTH g.T.Target.begins

pub returns-in_err-offset : goal.returns-in_err-offset
returns-in_err-offset g c =
    let before : c.args.pc < text_address = omega (arith, c.in_err-offset.ensures.before, c.text_at.ensures) in
    subst (λ (bytes : List ℕ). IsInstrAt (machine_in g) bytes c.args.pc c.from_residual.result) c.self.view_is
    (subst (λ found. IsInstrAt (machine_in g) c.self.inside.image c.args.pc found) (sym c.from_residual.ensures)
    (not_before (machine_in g) c.self.inside.image c.self.inside.marks.starts c.self.inside.marks.ends c.self.invariant.marked c.args.pc before))

pub returns-then-not-has : goal.returns-then-not-has
returns-then-not-has g c =
    let here : c.args.pc ≡ text_address + c.in_ok-offset.offset = omega (arith, c.in_ok-offset.ensures.behind, c.text_at.ensures) in
    subst (λ (bytes : List ℕ). IsInstrAt (machine_in g) bytes c.args.pc None) c.self.view_is
    (not_begun (machine_in g) c.self.inside.image c.self.inside.marks.starts c.self.inside.marks.ends c.self.invariant.marked c.args.pc
    c.in_ok-offset.offset here (sym c.if-not-has.ensures))

pub returns-in_err-found : goal.returns-in_err-found
returns-in_err-found g c =
    let here : c.args.pc ≡ text_address + c.in_ok-offset.offset = omega (arith, c.in_ok-offset.ensures.behind, c.text_at.ensures) in
    subst (λ (bytes : List ℕ). IsInstrAt (machine_in g) bytes c.args.pc c.from_residual-in_err-found.result) c.self.view_is
    (subst (λ found. IsInstrAt (machine_in g) c.self.inside.image c.args.pc found) (sym c.from_residual-in_err-found.ensures)
    (read_there (machine_in g) c.self.inside.image c.self.inside.marks.starts c.self.inside.marks.ends c.self.invariant.marked c.args.pc
    c.in_ok-offset.offset here (sym c.if-not-has.ensures) c.behind_or_empty.result.now None
    (c.behind_or_empty.ensures ∙ ap (drop c.in_ok-offset.offset) c.text.ensures) c.in_err-found.ensures.only))

pub returns : goal.returns
returns g c =
    let here : c.args.pc ≡ text_address + c.in_ok-offset.offset = omega (arith, c.in_ok-offset.ensures.behind, c.text_at.ensures) in
    subst (λ (bytes : List ℕ). IsInstrAt (machine_in g) bytes c.args.pc
    (Some (record { at = c.args.pc; len = c.in_ok-found.found.1; instr = c.in_ok-found.found.0 }))) c.self.view_is
    (read_there (machine_in g) c.self.inside.image c.self.inside.marks.starts c.self.inside.marks.ends c.self.invariant.marked c.args.pc
    c.in_ok-offset.offset here (sym c.if-not-has.ensures) c.behind_or_empty.result.now (Some c.in_ok-found.found)
    (c.behind_or_empty.ensures ∙ ap (drop c.in_ok-offset.offset) c.text.ensures) c.in_ok-found.ensures.only)

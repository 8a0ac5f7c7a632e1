use Rattle.std.proofs.Common.{◌≡◌, ◌≤◌, ◌<◌, ◌+◌, List, ℕ, length, subst, sym, ap, ◌∙◌, arith}
use Rattle.elf_image.specs.Contents.{table_in, text_address, text_in}
use Rattle.image_marks.specs.Buckets.{IsOwner}
use Rattle.image_rules.specs.Machine.{Machine, machine_of}
use Rattle.pclntab.specs.Func.{func_at}
use Rattle.image_check.proofs.OwnerLemmas.{none_before, none_past, owner_found}
use Rattle.image_check.proofs.accepted.Accepted.find.Given
use Rattle.image_check.proofs.accepted.Accepted.find.Goals as goal

abbrev machine_in : (g : Given.Over) → Machine g.row.T-Instr.Denot
machine_in g =
    machine_of g.T.Processor.instructions g.T.Processor.fits g.T.Processor.MACHINE g.T.Processor.QUANTUM g.T.Processor.SHAPE
    g.T.Processor.GROWTH g.T.Target.begins

pub returns-in_err-offset : goal.returns-in_err-offset
returns-in_err-offset g c =
    let before : c.args.pc < text_address = omega (arith, c.in_err-offset.ensures.before, c.text_at.ensures) in
    c.from_residual.ensures
    ∙ sym (none_before (machine_in g) c.self.inside.image c.self.invariant.marked.sound.readable.profile c.args.pc before)
    ∙ ap (λ (bytes : List ℕ). func_at (table_in bytes) c.args.pc) c.self.view_is

pub returns-then-offset-text : goal.returns-then-offset-text
returns-then-offset-text g c =
    let size : length c.text.result.now ≡ length (text_in c.self.inside.image) = ap (λ (bytes : List ℕ). length bytes) c.text.ensures in
    let past : text_address + length (text_in c.self.inside.image) ≤ c.args.pc =
    omega (arith, c.in_ok-offset.ensures.behind, c.text_at.ensures) in
    sym (none_past (machine_in g) c.self.inside.image c.self.invariant.marked.sound.readable.profile c.args.pc past)
    ∙ ap (λ (bytes : List ℕ). func_at (table_in bytes) c.args.pc) c.self.view_is

pub returns : goal.returns
returns g c =
    let size : length c.text.result.now ≡ length (text_in c.self.inside.image) = ap (λ (bytes : List ℕ). length bytes) c.text.ensures in
    let here : c.args.pc ≡ text_address + c.in_ok-offset.offset = omega (arith, c.in_ok-offset.ensures.behind, c.text_at.ensures) in
    let owner : IsOwner c.self.inside.entries.items c.in_ok-offset.offset c.find.result =
    subst (λ (entries : List ℕ). IsOwner entries c.in_ok-offset.offset c.find.result) c.deref.ensures.value c.find.ensures in
    sym (owner_found (machine_in g) c.self.inside.image c.self.invariant.marked.sound.readable.profile c.self.inside.entries.items
    c.self.invariant.entries_are c.in_ok-offset.offset c.find.result owner (omega arith))
    ∙ ap (func_at (table_in c.self.inside.image)) (sym here)
    ∙ ap (λ (bytes : List ℕ). func_at (table_in bytes) c.args.pc) c.self.view_is

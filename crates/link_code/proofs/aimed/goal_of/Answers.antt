use Rattle.std.proofs.Common.{◌≡◌, ℕ, Some, length, refl, ap, sym, ◌∙◌, rules, FitsSigned, w64}
use Rattle.std.proofs.lemmas.Int.{to_z-of_z}
use Rattle.machine_effect.specs.Numbers.{moved_by}
use Rattle.std.specs.Option.{option_map}
use Rattle.std.proofs.lemmas.Option.{slice_get_read}
use Rattle.asm_target.specs.declared.refer.To.TheVariants as to
use Rattle.unit_listing.specs.Kit.{kit_of}
use Rattle.link_code.specs.Goals.{goal_of}
use Rattle.link_code.proofs.aimed.goal_of.Goals as goal

pub returns-in_ok-address-in-Symbol : goal.returns-in_ok-address-in-Symbol
returns-in_ok-address-in-Symbol g c =
    let kit = kit_of g.T.Processor.instructions g.T.Processor.fits g.T.Processor.MACHINE g.T.Processor.QUANTUM g.T.Processor.SHAPE g.T.Target.selection
    g.T.Target.aiming g.T.Target.entry g.T.Target.check g.T.Target.begins in
    let site = c.args.site.now in
    let laid = c.args.laid.now in
    let number = c.in-Symbol.number in
    let off = c.in-Symbol.off in
    let address = c.in_ok-address-in-Symbol.field-0.now in
    let read = c.in_ok-address-in-Symbol.ensures.lookup in
    let fit : FitsSigned w64 off = search rules in
    let there : goal_of kit site laid (to.Symbol number off) ≡ Some (moved_by address off)
    = ap (option_map (λ (address : ℕ). moved_by address off))
    (slice_get_read site.addresses.now (length site.addresses.now) number address refl read.3.0 read.1) in
    let told : c.moved_by.result ≡ moved_by address off = rw (to_z-of_z w64 off fit) at c.moved_by.ensures in
    ap Some told ∙ sym there ∙ ap (goal_of kit site laid) (sym c.in-Symbol.is)

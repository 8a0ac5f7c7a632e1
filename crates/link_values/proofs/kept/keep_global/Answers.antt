use Rattle.std.proofs.Common.{◌≡◌, false, refl, sym, ◌∙◌, arith, append-nil}
use Rattle.std.proofs.lemmas.Option.{slice_get_read}
use Rattle.link_names.specs.Definitions.{key_at, meaning_in}
use Rattle.link_values.specs.Kept as spec
use Rattle.link_values.proofs.kept.keep_global.Goals as goal

pub returns-else-is_value : goal.returns-else-is_value
returns-else-is_value c =
    let here = slice_get_read c.args.symbols.now _ c.args.global.now.sym c.index-symbols-global.result refl (omega arith) c.index-symbols-global.is in
    let other : spec.is_value c.args.unit c.args.number (meaning_in c.args.names.now (key_at c.args.unit c.args.symbols.now c.args.global.now.sym)) ≡ false
    = rw (here, ← c.symbol.ensures) (sym c.is_value.ensures ∙ c.if-is_value.false) in
    rw other (sym (append-nil c.args.kept.now.items))

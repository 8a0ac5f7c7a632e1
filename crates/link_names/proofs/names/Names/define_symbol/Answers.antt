use Rattle.std.proofs.Common.{[], ◌∷◌, refl, subst, arith}
use Rattle.std.specs.Result.{OnOk}
use Rattle.std.proofs.lemmas.Option.{slice_get_read}
use Rattle.link_names.specs.Adding.{Adds, Breaks}
use Rattle.link_names.proofs.KeyLemmas.{key_found}
use Rattle.link_names.proofs.names.Names.define_symbol.Goals as goal

pub returns-clause-adds : goal.returns-clause-adds
returns-clause-adds c =
    let here = slice_get_read c.args.symbols.now _ c.args.sym c.index-symbols-sym.result refl (omega arith) c.index-symbols-sym.is in
    let key = key_found c.args.unit c.args.symbols.now c.args.sym c.index-symbols-sym.result c.as_slice.result.now c.unit_of.result here
    c.as_slice.ensures c.unit_of.ensures in
    subst (λ key. OnOk c.define.result (Adds c.args.self.now ((key, c.args.definition) ∷ []) c.define.new.self)) key c.define.ensures.adds

pub returns-clause-twice : goal.returns-clause-twice
returns-clause-twice c = λ name same.
    let here = slice_get_read c.args.symbols.now _ c.args.sym c.index-symbols-sym.result refl (omega arith) c.index-symbols-sym.is in
    let key = key_found c.args.unit c.args.symbols.now c.args.sym c.index-symbols-sym.result c.as_slice.result.now c.unit_of.result here
    c.as_slice.ensures c.unit_of.ensures in
    subst (λ key. Breaks c.args.self.now ((key, c.args.definition) ∷ []) name) key (c.define.ensures.twice name same)

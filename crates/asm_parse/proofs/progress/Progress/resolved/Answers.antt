use Rattle.std.proofs.Common.{◌≡◌, List, length, sym, subst, ap, ◌∙◌}
use Rattle.std.specs.Prelude.{All}
use Rattle.std.proofs.lemmas.Result.{err_from_is_err_and}
use Rattle.std.proofs.lemmas.List.{length-map}
use Rattle.asm_parse.specs.declared.unit.Symbol.{Symbol}
use Rattle.asm_parse.specs.Parse.{symbol_of}
use Rattle.asm_parse.specs.Placed.{DataIn, GlobalIn, BodyIn, ValueIn, DeclaredIn}
use Rattle.asm_parse.proofs.PlacedLemmas.{values_in, globals_in}
use Rattle.asm_parse.proofs.progress.Progress.resolved.Goals as goal

pub functions_of-requires-clause-known : goal.functions_of-requires-clause-known
functions_of-requires-clause-known g c = let known = rw (← c.self.view_is) at c.requires.known in rw c.as_slice.ensures.value known.bodies

pub globals_of-requires-clause-known : goal.globals_of-requires-clause-known
globals_of-requires-clause-known g c = let known = rw (← c.self.view_is) at c.requires.known in rw c.as_slice-3.ensures.value known.globals

pub returns-clause-valid : goal.returns-clause-valid
returns-clause-valid g c =
    let count : length c.in_ok-symbols.field-0 ≡ length c.self.inside.symbols = ap (λ (all : List Symbol). length all) c.in_ok-symbols.ensures.exact ∙ length-map c.self.inside.symbols symbol_of in
    record {
      names = c.in_ok-symbols.ensures.valid;
      functions = rw count c.in_ok-functions.ensures.valid;
      values = rw count c.in_ok-values.ensures.valid;
      globals = rw count c.in_ok-globals.ensures.valid;
    }

pub returns-in_err-functions-clause-placed : goal.returns-in_err-functions-clause-placed
returns-in_err-functions-clause-placed g c =
    let p = err_from_is_err_and c.from_residual.result c.from_residual.ensures.1 in
    rw (p.1, p.2) (λ count placed. let own = rw (← c.self.view_is) at placed in c.in_err-functions.ensures.placed count (subst (All (BodyIn count)) (sym c.as_slice.ensures.value) own.bodies))

pub returns-clause-placed : goal.returns-clause-placed
returns-clause-placed g c = λ count placed.
    let own = rw (← c.self.view_is) at placed in
    record {
      functions = c.in_ok-functions.ensures.placed count (subst (All (BodyIn count)) (sym c.as_slice.ensures.value) own.bodies);
      values = subst (All (DataIn count)) (sym c.in_ok-values.ensures.exact) (values_in count c.self.inside.symbols c.as_slice-2.result.now (subst (All (ValueIn count)) (sym c.as_slice-2.ensures.value) own.values));
      globals = subst (All (GlobalIn count)) (sym c.in_ok-globals.ensures.exact) (globals_in count c.self.inside.symbols c.as_slice-3.result.now (subst (All (DeclaredIn count)) (sym c.as_slice-3.ensures.value) own.globals));
    }

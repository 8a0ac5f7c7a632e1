use Rattle.std.proofs.Common.{[], ◌∷◌, ◌++◌, Err, sym, subst, ◌∙◌, arith}
use Rattle.std.specs.Prelude.{All}
use Rattle.std.proofs.lemmas.Result.{err_from_is_err_and}
use Rattle.std.proofs.lemmas.List.Elements.{All-push, All-same}
use Rattle.asm_lex.specs.declared.token.Tokens.{Tokens}
use Rattle.asm_parse.specs.Placed.{TokenIn, UnitIn}
use Rattle.asm_parse.specs.Valid.{IsValidUnit}
use Rattle.asm_parse.proofs.Loops.{with_front, goes_on, is_done, stops, turn, refused_turn, ends}
use Rattle.goasm_run.specs.Listing.{unit_of, units_of}
use Rattle.goasm_run.proofs.commands.listing.units.Goals as goal

pub returns-in_err-unit-clause-exact : goal.returns-in_err-unit-clause-exact
returns-in_err-unit-clause-exact g c =
    let p = err_from_is_err_and c.from_residual.result c.from_residual.ensures.1 in
    let refused = c.in_err-unit.field-0.0 in
    rw (p.1, p.2) (λ word tells. λ kept.
    stops (with_front (unit_of word)) c.args.sources.now c.loop-tokens.tokens-index (units_of word c.args.sources.now)
    c.loop-tokens.units.items c.tokens-item.result (c.loop-tokens.invariant.so_far word tells) c.loop-tokens-test.true c.tokens-item.is
    (Err refused)
    (refused_turn (unit_of word) c.loop-tokens.units.items c.tokens-item.result refused (c.in_err-unit.ensures.exact word tells kept)))

pub loop-tokens-preserved : goal.loop-tokens-preserved
loop-tokens-preserved g c = record {
  so_far = λ word tells. goes_on (with_front (unit_of word)) c.args.sources.now c.loop-tokens.tokens-index (units_of word c.args.sources.now)
      c.loop-tokens.units.items c.push.new.self.items c.tokens-item.result (c.loop-tokens.invariant.so_far word tells) c.loop-tokens-test.true
      c.tokens-item.is
      (turn (unit_of word) c.loop-tokens.units.items c.push.new.self.items c.tokens-item.result c.in_ok-unit.unit (c.in_ok-unit.ensures.exact word tells) c.in_ok-push.ensures.items);
  valid = All-same IsValidUnit c.push.new.self.items (c.loop-tokens.units.items ++ c.in_ok-unit.unit ∷ []) c.in_ok-push.ensures.items
      (All-push IsValidUnit c.loop-tokens.units.items c.in_ok-unit.unit c.loop-tokens.invariant.valid c.in_ok-unit.ensures.valid);
  placed = λ count all. All-same (UnitIn count) c.push.new.self.items (c.loop-tokens.units.items ++ c.in_ok-unit.unit ∷ []) c.in_ok-push.ensures.items
      (All-push (UnitIn count) c.loop-tokens.units.items c.in_ok-unit.unit (c.loop-tokens.invariant.placed count all)
      (c.in_ok-unit.ensures.placed count
      (subst (λ (tokens : Tokens). All (TokenIn count) tokens.list) (sym c.tokens-item.is)
      (all c.loop-tokens.tokens-index c.tokens-item.result c.loop-tokens-test.true))));
}

pub returns-clause-exact : goal.returns-clause-exact
returns-clause-exact g c =
    rw c.new.ensures (λ word tells.
    sym (is_done (with_front (unit_of word)) c.args.sources.now c.loop-tokens.tokens-index (units_of word c.args.sources.now)
    c.loop-tokens.units.items (c.loop-tokens.invariant.so_far word tells) (omega (arith, c.loop-tokens-test.false)))
    ∙ ends (unit_of word) c.loop-tokens.units.items)

pub returns-clause-valid : goal.returns-clause-valid
returns-clause-valid g c = rw c.new.ensures c.loop-tokens.invariant.valid

pub returns-clause-placed : goal.returns-clause-placed
returns-clause-placed g c = rw c.new.ensures c.loop-tokens.invariant.placed

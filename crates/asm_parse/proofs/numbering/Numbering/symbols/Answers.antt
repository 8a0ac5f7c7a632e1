use Rattle.std.proofs.Common.{List, ℕ, ap, ◌∙◌}
use Rattle.std.specs.Prelude.{slice_get}
use Rattle.std.proofs.lemmas.List.Elements.{All-push, All-same}
use Rattle.asm_parse.specs.Valid.{IsValidSymbol}
use Rattle.asm_parse.proofs.NumberingLemmas.{symbol_turn}
use Rattle.asm_parse.proofs.numbering.Numbering.symbols.Goals as goal

pub loop-key-preserved : goal.loop-key-preserved
loop-key-preserved c =
    let found = c.in-Some.ensures.key ∙ ap (slice_get c.self.inside.names.keys) c.len.ensures in
    let turn = symbol_turn c.self.inside.names.keys _ _ c.in-Some.key.now c.loop-key.symbols.items c.push.new.self.items _ found c.in_ok-push.ensures.len c.loop-key.invariant.items c.in_ok-push.ensures.items
    (ap (λ (n : List ℕ). record { name = n; fixed = c.in-Some.key.now.1 }) c.in_ok-name_of.ensures.exact) in
    let valid = All-push IsValidSymbol c.loop-key.symbols.items _ c.loop-key.invariant.valid c.in_ok-name_of.ensures.no_zero in
    record { within = turn.0; items = turn.1; valid = All-same IsValidSymbol c.push.new.self.items _ c.in_ok-push.ensures.items valid }

use Rattle.std.proofs.Common.{◌≡◌, ◌+◌, ◌++◌, ◌∷◌, [], map, take, ◌∙◌, ap, sym, rules}
use Rattle.std.proofs.lemmas.List.{map_more}
use Rattle.link_symbols.specs.Table.{outside_symbol}
use Rattle.link_symbols.proofs.PushLemmas.{pushed_more}
use Rattle.link_symbols.proofs.table.push_outside.Goals as goal

pub loop-name-preserved : goal.loop-name-preserved
loop-name-preserved c =
    let outside = c.args.outside.now in
    let index = c.loop-name.name-index in
    let symbol = c.in_ok-outside_symbol.field-0 in
    let same : c.in_ok-outside_symbol.field-0 ≡ outside_symbol c.loop-name-item.result = c.in_ok-outside_symbol.ensures.symbol in
    let more : map outside_symbol (take (index + 1) outside) ≡ map outside_symbol (take index outside) ++ symbol ∷ []
    = map_more outside_symbol outside index c.loop-name-item.result c.loop-name-test.true
    ∙ ap (λ one. map outside_symbol (take index outside) ++ one ∷ []) (ap outside_symbol (sym c.loop-name-item.is) ∙ sym same) in
    let pushed : c.push.new.self.items ≡ c.loop-name.symbols.items ++ symbol ∷ [] = search rules in
    pushed_more c.args.symbols.now.items (map outside_symbol (take index outside)) c.loop-name.symbols.items c.push.new.self.items
    (map outside_symbol (take (index + 1) outside)) symbol c.loop-name.invariant pushed more c.in_ok-outside_symbol.ensures.part

use Rattle.std.proofs.Common.{◌≡◌, ◌+◌, ◌++◌, ◌∷◌, [], take, ◌∙◌, ap, sym}
use Rattle.link_symbols.proofs.PushLemmas.{defined_symbols, pushed_more, pushed_same, defined_added, defined_left}
use Rattle.link_symbols.proofs.table.push_defined.Goals as goal
use Rattle.link_symbols.proofs.table.push_defined.Goals.{then-is_among+in_ok-symbol+in_ok-push, else-is_among}

pub loop-one-preserved : goal.loop-one-preserved
loop-one-preserved c =
    let index = c.loop-one.one-index in
    let old = c.args.symbols.now.items in
    let before = defined_symbols c.args.kind c.args.local (take index c.args.defined.now) in
    let behind = defined_symbols c.args.kind c.args.local (take (index + 1) c.args.defined.now) in
    elim c.if-is_among.branch [
      | then-is_among+in_ok-symbol+in_ok-push w ↦
          let symbol = w.in_ok-symbol.field-0 in
          let among = sym c.is_among.ensures ∙ w.if-is_among.true in
          let more : behind ≡ before ++ symbol ∷ []
          = defined_added c.args.kind c.args.local c.args.defined.now index _ c.loop-one-test.true among
          ∙ ap (λ one. before ++ one ∷ []) (sym w.in_ok-symbol.ensures.symbol) in
          let pushed : c.if-is_among.symbols.items ≡ c.loop-one.symbols.items ++ symbol ∷ []
          = ap (λ all. all.items) w.symbols-is ∙ w.in_ok-push.ensures.items in
          pushed_more old before c.loop-one.symbols.items c.if-is_among.symbols.items behind symbol c.loop-one.invariant pushed more
          w.in_ok-symbol.ensures.part
      | else-is_among w ↦
          let other = sym c.is_among.ensures ∙ w.if-is_among.false in
          let same : behind ≡ before
          = defined_left c.args.kind c.args.local c.args.defined.now index _ c.loop-one-test.true other in
          rw w.symbols-is (pushed_same old before c.loop-one.symbols.items behind c.loop-one.invariant same)
    ]

use Rattle.std.proofs.Common.{◌≡◌, true, false, ◌&&◌, nat_lt, sym, ap, ◌∙◌}
use Rattle.asm_directive.specs.Tokens.{is_sign, opening}
use Rattle.asm_macro.proofs.BracketLemmas.{begins_at}
use Rattle.asm_macro.proofs.pending.begins_list.Goals as goal

pub returns-then-is_sign : goal.returns-then-is_sign
returns-then-is_sign c =
    let sign : is_sign opening c.in-Some.entry.now.placed.token ≡ true = sym c.is_sign.ensures ∙ c.if-is_sign.true in
    sym (begins_at c.args.entries.now.items c.in-Some.entry.now c.in-Some.ensures.item.3.0 c.in-Some.ensures.lookup c.requires
    ∙ ap (λ is. is && nat_lt 0 c.in-Some.entry.now.behind) sign)

pub returns-else-is_sign : goal.returns-else-is_sign
returns-else-is_sign c =
    let sign : is_sign opening c.in-Some.entry.now.placed.token ≡ false = sym c.is_sign.ensures ∙ c.if-is_sign.false in
    c.if-is_sign.false ∙ sym (begins_at c.args.entries.now.items c.in-Some.entry.now c.in-Some.ensures.item.3.0 c.in-Some.ensures.lookup c.requires
    ∙ ap (λ is. is && nat_lt 0 c.in-Some.entry.now.behind) sign)

use Rattle.std.proofs.Common.{length, ap, arith}
use Rattle.machine_dump.proofs.WordLemmas.{size, low, lacks_word, has_word}
use Rattle.machine_dump.proofs.search.word_in_line.Goals as goal

pub behind-digits-requires : goal.behind-digits-requires
behind-digits-requires c = omega (arith, size c.args.line.now c.args.at c.requires)

pub address-requires : goal.address-requires
address-requires c = omega (arith, size c.args.line.now c.args.at c.requires)

pub overflow_sub-index : goal.overflow_sub-index
overflow_sub-index c = rw c.address.ensures (low c.args.line.now c.args.at c.requires)

pub returns-then-saturating_sub-lt8 : goal.returns-then-saturating_sub-lt8
returns-then-saturating_sub-lt8 c =
    lacks_word c.args.line.now c.args.at c.requires
    (omega (arith, c.if-saturating_sub-lt8.true, c.saturating_sub.ensures, ap length c.behind-digits.ensures, c.address.ensures))

pub returns-else-saturating_sub-lt8 : goal.returns-else-saturating_sub-lt8
returns-else-saturating_sub-lt8 c =
    rw (c.little_number.ensures.value, c.behind.ensures, c.behind-digits.ensures, c.address.ensures)
    (has_word c.args.line.now c.args.at c.requires
    (λ few. omega (arith, few, c.if-saturating_sub-lt8.false, c.saturating_sub.ensures, ap length c.behind-digits.ensures, c.address.ensures)))

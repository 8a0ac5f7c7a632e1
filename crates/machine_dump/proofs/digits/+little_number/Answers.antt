use Rattle.std.proofs.Common.{length, arith, length-drop}
use Rattle.machine_dump.proofs.DigitLemmas.{byte_grown, byte_fits}
use Rattle.machine_dump.proofs.digits.+little_number.Goals as goal

pub overflow_mul-result : goal.overflow_mul-result
overflow_mul-result t c =
    let all = byte_fits c.little_number.result c.byte_of.result _ (length c.args.digits.now) c.little_number.ensures.small c.byte_of.ensures.small
    (omega (arith, c.in-len2-up.len_at_least, length-drop 2 c.args.digits.now)) c.requires in
    omega (arith, all)

pub overflow_add-result : goal.overflow_add-result
overflow_add-result t c =
    let all = byte_fits c.little_number.result c.byte_of.result _ (length c.args.digits.now) c.little_number.ensures.small c.byte_of.ensures.small
    (omega (arith, c.in-len2-up.len_at_least, length-drop 2 c.args.digits.now)) c.requires in
    omega (arith, all)

pub returns-in-len2-up-clause-small : goal.returns-in-len2-up-clause-small
returns-in-len2-up-clause-small t c =
    byte_grown c.little_number.result c.byte_of.result _ (length c.args.digits.now) c.little_number.ensures.small c.byte_of.ensures.small
    (omega (arith, c.in-len2-up.len_at_least, length-drop 2 c.args.digits.now))

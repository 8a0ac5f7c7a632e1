-- One turn of the loops over operators.
use Rattle.std.proofs.Common.{◌≡◌, ℕ, Some, refl}
use Rattle.asm_grammar.specs.declared.stop.Stop.{Stop}
use Rattle.asm_grammar.specs.declared.stop.Stop.TheVariants.{Form, Memory}
use Rattle.asm_grammar.specs.declared.operator.Operator.{Operator}
use Rattle.asm_grammar.specs.Operators.{applied}
use Rattle.asm_grammar.specs.Reader.{Reading, Reader, Stops}
use Rattle.asm_grammar.specs.Expressions.{operation, or_noted}

pub operated : (operand : Reader ℕ) (left right value : ℕ) (operator : Operator) (at then after : Reading)
    → operand at ≡ Some (right, then) → or_noted (applied operator left right) then ≡ Some (value, after)
    → operation operand left operator at ≡ Some (value, after)
unfolding operation
operated operand left right value operator at then after read e = rw read e

pub operand_stops : (operand : Reader ℕ) (left : ℕ) (operator : Operator) (at : Reading) (stop : Stop)
    → Stops (operand at) stop → Stops (operation operand left operator at) stop
unfolding operation
operand_stops operand left operator at Form e = rw e refl
operand_stops operand left operator at Memory e = tt

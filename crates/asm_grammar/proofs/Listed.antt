-- One turn of the loops over labels and operands.
use Rattle.std.proofs.Common.{◌≡◌, true, false, ◌∷◌, [], ◌++◌, List, Some, None, refl}
use Rattle.std.specs.Prelude.{codes}
use Rattle.asm_grammar.specs.declared.draft.Draft.{Draft}
use Rattle.asm_grammar.specs.declared.stop.Stop.{Stop}
use Rattle.asm_grammar.specs.declared.stop.Stop.TheVariants.{Form, Memory}
use Rattle.asm_grammar.specs.Reader.{Reading, eat, Stops}
use Rattle.asm_grammar.specs.Operands.{operand}
use Rattle.asm_grammar.specs.Statements.{separator, with_operand}

pub begun : (at then : Reading) → eat (codes ",") at ≡ Some (true, then) → separator at ≡ Some (Some tt, then)
begun at then e = rw e refl

pub not_begun : (at then : Reading) → eat (codes ",") at ≡ Some (false, then) → separator at ≡ Some (None, then)
not_begun at then e = rw e refl

pub operand_read : (before longer : List Draft) (next : Draft) (at then : Reading) → operand at ≡ Some (next, then) → longer ≡ before ++ next ∷ []
    → with_operand before tt at ≡ Some (longer, then)
unfolding with_operand
operand_read before longer next at then read longer-is = rw (read, longer-is) refl

pub operand_stops : (before : List Draft) (at : Reading) (stop : Stop) → Stops (operand at) stop → Stops (with_operand before tt at) stop
unfolding with_operand
operand_stops before at Form e = rw e refl
operand_stops before at Memory e = tt

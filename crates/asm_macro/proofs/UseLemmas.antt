-- The uses of a statement, one after the other.
use Rattle.std.proofs.Common.{◌≡◌, ℕ, zero, suc, ◌-◌, ◌<◌, List, Option, Err, refl, arith}
use Rattle.goasm_base.specs.declared.pos.Pos.{Pos}
use Rattle.asm_macro.specs.declared.placed.Placed.{Placed}
use Rattle.asm_macro.specs.declared.cause.Cause.{Cause}
use Rattle.asm_macro.specs.declared.cause.Cause.TheVariants.{TooMany}
use Rattle.asm_macro.specs.Refusals.{lower, refusal}
use Rattle.asm_macro.specs.Definitions.{Definition, Definitions}
use Rattle.asm_macro.specs.Uses.{Work, Read, Ended, Full, Met, front, use_of, limit_cause, ended, with_uses, run}

pub run_ended : (uses : ℕ) (definitions : Definitions) (pos : Pos) (found : Option Cause) (pending : List Placed) (work next : Work)
    → front definitions pending work ≡ Ended next → run uses definitions pos found pending work ≡ ended pos found next
unfolding run
run_ended zero definitions pos found pending work next is = rw (is, run) refl
run_ended (suc uses) definitions pos found pending work next is = rw (is, run) refl

pub run_full : (uses : ℕ) (definitions : Definitions) (pos : Pos) (found : Option Cause) (pending : List Placed) (work : Work)
    → front definitions pending work ≡ Full → run uses definitions pos found pending work ≡ Err (refusal (lower found TooMany) pos)
unfolding run
run_full zero definitions pos found pending work is = rw (is, run) refl
run_full (suc uses) definitions pos found pending work is = rw (is, run) refl

pub run_passed : (uses : ℕ) (definitions : Definitions) (pos : Pos) (found : Option Cause) (pending rest : List Placed) (work next : Work) (name : Placed) (definition : Definition)
    → uses ≡ 0 → front definitions pending work ≡ Met name definition rest next
    → run uses definitions pos found pending work ≡ Err (refusal (lower found (limit_cause definition name rest)) pos)
unfolding run
run_passed zero definitions pos found pending rest work next name definition none is = rw (is, run) refl
run_passed (suc uses) definitions pos found pending rest work next name definition none is = absurd (omega arith)

pub run_next : (uses : ℕ) (definitions : Definitions) (pos : Pos) (found : Option Cause) (pending rest : List Placed) (work next : Work) (name : Placed) (definition : Definition) (read : Read)
    → 0 < uses → front definitions pending work ≡ Met name definition rest next → use_of found definition name rest ≡ read
    → run uses definitions pos found pending work ≡ run (uses - 1) definitions pos read.found read.pending (with_uses next (uses - 1))
unfolding run
run_next zero definitions pos found pending rest work next name definition read some is reads = absurd (omega arith)
run_next (suc uses) definitions pos found pending rest work next name definition read some is reads =
    let less : suc uses - 1 ≡ uses = omega arith in
    rw (is, run, reads, less) refl

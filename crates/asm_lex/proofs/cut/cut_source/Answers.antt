use Rattle.std.proofs.Common.{◌≡◌, ◌-◌, length, sym, arith}
use Rattle.std.proofs.lemmas.Bool.{eqb-true}
use Rattle.asm_lex.specs.Cut.{end_at, cut_within}
use Rattle.asm_lex.specs.Places.{point_of}
use Rattle.asm_lex.proofs.CutLemmas.{tokens_next, faults_next, tokens_end, faults_end, cut_ends, cut_spent}
use Rattle.asm_lex.proofs.cut.cut_source.Goals as goal
use Rattle.asm_lex.proofs.cut.cut_source.Goals.{else-pieces-test, then-pieces-test+then-is_empty}

pub pieces-preserved : goal.pieces-preserved
pieces-preserved c =
    let point = point_of c.pieces.place in
    let next = point_of c.place_behind-place.result in
    let length_of = length c.args.bytes.now in
    record {
      tokens = tokens_next length_of c.pieces.counter c.args.file point next c.piece_of-piece.result _ _ _
          (omega arith) (sym c.if-is_empty.ensures) c.piece_of-piece.ensures.piece c.place_behind-place.ensures
          c.in_ok-add.ensures.tokens c.pieces.invariant.tokens;
      fault = faults_next length_of c.pieces.counter c.args.file point next c.piece_of-piece.result _ _ _
          (omega arith) (sym c.if-is_empty.ensures) c.piece_of-piece.ensures.piece c.place_behind-place.ensures
          c.in_ok-add.ensures.fault c.pieces.invariant.fault;
    }

-- the loop stops at the end
ended : (c : goal.In_ok-end)
    → cut_within (length c.args.bytes.now - c.pieces.counter) c.args.file (point_of c.pieces.place)
    ≡ end_at c.args.file (point_of c.pieces.place)
ended c =
    elim c.pieces-test.branch [
      | else-pieces-test w ↦ cut_spent (length c.args.bytes.now) c.pieces.counter c.args.file (point_of c.pieces.place) w.pieces-test.false
      | then-pieces-test+then-is_empty w ↦
          cut_ends (length c.args.bytes.now) c.pieces.counter c.args.file (point_of c.pieces.place)
          (eqb-true _ _ (sym w.if-is_empty.ensures))
    ]

pub returns-clause-tokens : goal.returns-clause-tokens
returns-clause-tokens c =
    tokens_end (length c.args.bytes.now) c.pieces.counter c.args.file (point_of c.pieces.place) _ _ _
    (ended c) c.in_ok-end.ensures.tokens c.pieces.invariant.tokens

pub returns-clause-fault : goal.returns-clause-fault
returns-clause-fault c =
    faults_end (length c.args.bytes.now) c.pieces.counter c.args.file (point_of c.pieces.place) _ _ _
    (ended c) c.in_ok-end.ensures.fault c.pieces.invariant.fault

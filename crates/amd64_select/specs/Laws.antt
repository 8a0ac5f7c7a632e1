-- The laws of processors, for amd64.
use Rattle.std.proofs.Common.{refl, sym, ◌∙◌, arith, inl}
use Rattle.asm_target.specs.Architecture.{IsArchitecture, amd64 as architecture_of_amd64}
use Rattle.asm_target.specs.Laws as laws
use Rattle.amd64_table.proofs.BoundLemmas as bound
use Rattle.amd64_table.proofs.NextLemmas as next
use Rattle.amd64_table.proofs.MoveLemmas.{flow_moves, moves_near}
use Rattle.amd64_code.specs.InstructionSet.{amd64, Fits, end_of}
use Rattle.amd64_code.proofs.Laws.{begins_read}
use Rattle.amd64_code.proofs.LengthLaws.{bounded as length_bounded}
use Rattle.amd64_code.proofs.PaddingLaws.{not_padding}

pub architecture : IsArchitecture
    (record { machine = 62; quantum = 1; shape = architecture_of_amd64.shape; growth = architecture_of_amd64.growth })
architecture = inl refl

pub lengths : laws.HasLengths amd64 Fits 1
lengths i fit =
    let bounds = length_bounded i in
    record { least = bounds.0; most = bounds.1; whole = omega arith }

pub prefix_free : laws.IsPrefixFree amd64 Fits
prefix_free i j bytes fi fj bi bj = sym (begins_read i bytes fi bi) ∙ begins_read j bytes fj bj

pub no_padding : laws.AvoidsPadding amd64 Fits 62
no_padding i rest fit begins = not_padding i rest fit begins

pub small_moves : laws.HasSmallMoves amd64 Fits architecture_of_amd64.shape
small_moves i pc k fit moved = moves_near i fit k (sym (flow_moves i (end_of i pc) fit) ∙ moved)

pub bounded : laws.HasBoundedEffects amd64 Fits
bounded i pc fit below = bound.bounded i (end_of i pc) fit

pub only_goes : laws.HasOnlyGoing amd64 Fits
only_goes i pc fit below = next.only_goes i (end_of i pc)

pub links : laws.HasLinks amd64 Fits architecture_of_amd64.shape
links i pc fit below = next.links i (end_of i pc)

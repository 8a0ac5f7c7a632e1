-- How many bytes instructions have in their long forms.
use Rattle.std.proofs.Common.{◌≡◌, ℕ, ◌+◌, ◌*◌, ◌≤◌, List, [], ◌∷◌, ◌++◌, length, Option, Some, None, refl, ◌∙◌, ap, arith}
use Rattle.std.specs.Prelude.{All}
use Rattle.std.specs.List.{flat_map}
use Rattle.std.proofs.lemmas.List.{length-append}
use Rattle.std.proofs.lemmas.List.Elements.{All-head, All-tail}
use Rattle.std.proofs.lemmas.Grind.{flat_map-append}
use Rattle.machine_effect.specs.declared.next.Next.{Next}
use Rattle.machine_effect.specs.declared.next.Next.TheVariants as next
use Rattle.asm_target.specs.declared.refer.Picked.{Picked}
use Rattle.asm_target.specs.Aiming.{Aiming, HaveForms, IsPickable, JumpsAs, bytes_of, most_bytes}
use Rattle.asm_target.specs.FlowFunction.{jump_goal}
use Rattle.asm_target.specs.InstructionSet.{InstructionSet}
use Rattle.asm_target.specs.Laws.{HasLengths}

module _ {Instr : Type 0} (set : InstructionSet Instr) (aiming : Aiming Instr) where
  bytes_append : (code more : List Instr) → bytes_of set (code ++ more) ≡ bytes_of set code + bytes_of set more
  bytes_append code more =
      ap length (flat_map-append set.spelling code more) ∙ length-append (flat_map set.spelling code) (flat_map set.spelling more)

  abbrev long : Picked Instr → List Instr
  long pick = aiming.forms pick.instr 1

  pub most_append : (picks more : List (Picked Instr))
      → most_bytes set aiming (picks ++ more) ≡ most_bytes set aiming picks + most_bytes set aiming more
  most_append picks more =
      ap (bytes_of set) (flat_map-append long picks more) ∙ bytes_append (flat_map long picks) (flat_map long more)

  -- one more is as long as its long form
  pub most_one : (pick : Picked Instr) → most_bytes set aiming (pick ∷ []) ≡ bytes_of set (aiming.forms pick.instr 1)
  most_one pick = omega (arith, bytes_append (aiming.forms pick.instr 1) [])

  module _ (fits : Instr → Type 0) (quantum : ℕ) (formed : HaveForms set fits aiming) (lengths : HasLengths set fits quantum) where
    one_bytes : (i : Instr) → fits i → length (set.spelling i) ≤ 15
    one_bytes i fit = (lengths i fit).most

    few_bytes : (goes : Next) (code : List Instr) → All fits code → JumpsAs set fits aiming goes code → bytes_of set code ≤ 30
    few_bytes goes (one ∷ []) all jumps =
        omega (arith, length-append (set.spelling one) [], one_bytes one (All-head fits one [] all))
    few_bytes (next.Branch held goal) (first ∷ second ∷ []) all jumps =
        omega (
          arith,
          length-append (set.spelling first) (set.spelling second ++ []),
          length-append (set.spelling second) [],
          one_bytes first (All-head fits first (second ∷ []) all),
          one_bytes second (All-head fits second [] (All-tail fits first (second ∷ []) all)),
        )
    few_bytes _ _ all jumps = absurd jumps

    -- a long form is an instruction, or a jump with a branch over it
    pub long_bytes : (i : Instr) → fits i → bytes_of set (aiming.forms i 1) ≤ 30
    long_bytes i fit = by (jump_goal (set.effect i 0).next) refl
      where
        by : (goal : Option ℕ) → jump_goal (set.effect i 0).next ≡ goal → bytes_of set (aiming.forms i 1) ≤ 30
        by None is =
            let alone : aiming.forms i 1 ≡ i ∷ [] = (formed i fit).alone 1 0 (omega arith) (omega arith) is in
            rw alone (omega (arith, length-append (set.spelling i) [], one_bytes i fit))
        by (Some goal) is =
            few_bytes (set.effect i 0).next (aiming.forms i 1) ((formed i fit).fit 1 (omega arith))
            ((formed i fit).jumps 1 0 goal (omega arith) (omega arith) is)

    pub most_long : (picks : List (Picked Instr)) → All (IsPickable fits aiming) picks
        → most_bytes set aiming picks ≤ 30 * length picks
    most_long [] all = omega arith
    most_long (pick ∷ picks) all =
        let one = All-head (IsPickable fits aiming) pick picks all in
        omega (
          arith,
          bytes_append (aiming.forms pick.instr 1) (flat_map long picks),
          long_bytes pick.instr one.fit,
          most_long picks (All-tail (IsPickable fits aiming) pick picks all),
        )

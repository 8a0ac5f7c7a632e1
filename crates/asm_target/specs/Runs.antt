-- Effects that lead from state to state, one after another.
use Rattle.std.specs.Prelude.{◌≡◌, ℕ, zero, suc, List, [], ◌∷◌, ◌+◌, length, None}
use Rattle.machine_effect.specs.declared.state.State.{State}
use Rattle.machine_effect.specs.declared.effect.Effect.{Effect}
use Rattle.machine_effect.specs.declared.flag_rule.FlagRule.TheVariants as flags
use Rattle.machine_effect.specs.declared.next.Next.TheVariants as next
use Rattle.machine_effect.specs.Applies.{Applies}
use Rattle.asm_target.specs.InstructionSet.{InstructionSet}

-- an effect at its place: `past` is the address just behind the instruction
pub record PlacedEffect : Type 0 where
  pub effect : Effect
  pub past : ℕ

-- the first n of these effects lead from one state to another. A run grows at its end, so each beginning of a run is one
abbrev pub Leads : (ℕ → PlacedEffect) → ℕ → State → State → Type 0
Leads effects zero before after = after ≡ before
Leads effects (suc n) before after =
    (between : State) × Leads effects n before between × Applies (effects n).effect (effects n).past between after

-- nothing happens, and nothing follows
abbrev pub stopped : Effect
stopped = record {
  writes = record { items = [] };
  wide = None;
  load = None;
  store = None;
  flags = flags.Keep;
  next = next.Stop;
}

-- the effects of instructions that stand one behind the other from an address on, by their positions
abbrev pub effects_from : {Instr : Type 0} → InstructionSet Instr → List Instr → ℕ → ℕ → PlacedEffect
effects_from set [] at k = record { effect = stopped; past = at }
effects_from set (i ∷ code) at zero = record { effect = set.effect i at; past = at + length (set.spelling i) }
effects_from set (i ∷ code) at (suc k) = effects_from set code (at + length (set.spelling i)) k

-- all of them lead from one state to another
abbrev pub LeadsOver : {Instr : Type 0} → InstructionSet Instr → List Instr → ℕ → State → State → Type 0
LeadsOver set code at before after = Leads (effects_from set code at) (length code) before after

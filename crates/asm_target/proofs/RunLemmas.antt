-- Runs of effects cut in two and joined.
use Rattle.std.proofs.Common.{◌≡◌, ◌↔◌, ℕ, zero, suc, List, [], ◌∷◌, ◌++◌, ◌+◌, ◌<◌, length, refl, sym, ap, ◌∙◌, subst, arith, length-append}
use Rattle.std.specs.List.{flat_map}
use Rattle.machine_effect.specs.declared.state.State.{State}
use Rattle.machine_effect.specs.Applies.{Applies}
use Rattle.asm_target.specs.InstructionSet.{InstructionSet}
use Rattle.asm_target.specs.Runs.{PlacedEffect, Leads, LeadsOver, effects_from}

-- equal effects lead to equal states
pub leads_same : (one two : ℕ → PlacedEffect) (n : ℕ) (before after : State)
    → ((k : ℕ) → k < n → one k ≡ two k) → Leads one n before after → Leads two n before after
leads_same one two zero before after same run = run
leads_same one two (suc n) before after same run =
    let step : Applies (two n).effect (two n).past run.0 after =
    subst (λ (at : PlacedEffect). Applies at.effect at.past run.0 after) (same n (omega arith)) run.2 in
    (run.0, leads_same one two n before run.0 (λ k below. same k (omega arith)) run.1, step)

-- a run of as many effects, counted otherwise
recounted : (effects : ℕ → PlacedEffect) (m n : ℕ) (before after : State) → m ≡ n → Leads effects m before after
    → Leads effects n before after
recounted effects m n before after same run = subst (λ (k : ℕ). Leads effects k before after) same run

-- a run is cut where the first m effects end, and joined there again
pub leads_cut : (effects : ℕ → PlacedEffect) (m n : ℕ) (before after : State) → Leads effects (m + n) before after
    → (between : State) × Leads effects m before between × Leads (λ k. effects (m + k)) n between after
leads_cut effects m zero before after run =
    (after, recounted effects (m + 0) m before after (omega arith) run, refl)
leads_cut effects m (suc n) before after run =
    let longer : Leads effects (suc (m + n)) before after =
    recounted effects (m + suc n) (suc (m + n)) before after (omega arith) run in
    let cut = leads_cut effects m n before longer.0 longer.1 in
    (cut.0, cut.1, (longer.0, cut.2, longer.2))

pub leads_joined : (effects : ℕ → PlacedEffect) (m n : ℕ) (before between after : State) → Leads effects m before between
    → Leads (λ k. effects (m + k)) n between after → Leads effects (m + n) before after
leads_joined effects m zero before between after first rest =
    recounted effects m (m + 0) before after (omega arith)
    (subst (λ (state : State). Leads effects m before state) (sym rest) first)
leads_joined effects m (suc n) before between after first rest =
    recounted effects (suc (m + n)) (m + suc n) before after (omega arith)
    (rest.0, leads_joined effects m n before between rest.0 first rest.1, rest.2)

module _ {Instr : Type 0} (set : InstructionSet Instr) where
  -- where the instructions behind these stand
  abbrev pub past_of : List Instr → ℕ → ℕ
  past_of code at = at + length (flat_map set.spelling code)

  past_more : (i : Instr) (code : List Instr) (at : ℕ)
      → past_of (i ∷ code) at ≡ past_of code (at + length (set.spelling i))
  past_more i code at = omega (arith, length-append (set.spelling i) (flat_map set.spelling code))

  -- of a longer list, the first effects are those of its beginning, and the others those of its rest
  effects_of_first : (code more : List Instr) (at k : ℕ) → k < length code
      → effects_from set (code ++ more) at k ≡ effects_from set code at k
  effects_of_first [] more at k below = absurd (omega arith)
  effects_of_first (i ∷ code) more at zero below = refl
  effects_of_first (i ∷ code) more at (suc k) below =
      effects_of_first code more (at + length (set.spelling i)) k (omega arith)

  effects_of_rest : (code more : List Instr) (at k : ℕ)
      → effects_from set (code ++ more) at (length code + k) ≡ effects_from set more (past_of code at) k
  effects_of_rest [] more at k =
      let count : 0 + k ≡ k = omega arith in
      let place : past_of [] at ≡ at = omega arith in
      cc (count, place)
  effects_of_rest (i ∷ code) more at k =
      let count : length (i ∷ code) + k ≡ suc (length code + k) = omega arith in
      let rest = effects_of_rest code more (at + length (set.spelling i)) k in
      ap (λ (j : ℕ). effects_from set (i ∷ code ++ more) at j) count ∙ rest
      ∙ ap (λ (place : ℕ). effects_from set more place k) (sym (past_more i code at))

  -- so the runs over instructions and those behind them are the runs over both
  pub runs_append : (code more : List Instr) (at : ℕ) (before after : State)
      → LeadsOver set (code ++ more) at before after
      ↔ ((between : State) × LeadsOver set code at before between × LeadsOver set more (past_of code at) between after)
  runs_append code more at before after =
      let both = effects_from set (code ++ more) at in
      let front = effects_from set code at in
      let back = effects_from set more (past_of code at) in
      let count : length (code ++ more) ≡ length code + length more = length-append code more in
      let first : (k : ℕ) → k < length code → both k ≡ front k = effects_of_first code more at in
      let rest : (k : ℕ) → k < length more → both (length code + k) ≡ back k = λ k below. effects_of_rest code more at k in (
        λ run.
            let cut =
            leads_cut both (length code) (length more) before after
            (recounted both (length (code ++ more)) (length code + length more) before after count run) in (
              cut.0,
              leads_same both front (length code) before cut.0 first cut.1,
              leads_same (λ k. both (length code + k)) back (length more) cut.0 after rest cut.2,
            ),
        λ parts.
            recounted both (length code + length more) (length (code ++ more)) before after (sym count)
            (leads_joined both (length code) (length more) before parts.0 after
            (leads_same front both (length code) before parts.0 (λ k below. sym (first k below)) parts.1)
            (leads_same back (λ k. both (length code + k)) (length more) parts.0 after (λ k below. sym (rest k below)) parts.2)),
      )

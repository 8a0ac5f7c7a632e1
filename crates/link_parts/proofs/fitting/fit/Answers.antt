use Rattle.std.proofs.Common.{◌≡◌, ℕ, ◌<◌, ◌≤◌, ◌^◌, List, length, map, ap, sym, subst, ◌∙◌, arith}
use Rattle.std.specs.Prelude.{All}
use Rattle.std.proofs.lemmas.List.{length-map}
use Rattle.std.proofs.lemmas.List.Elements.{All-weaker}
use Rattle.link_build.specs.Functions.{IsSound, Seen, functions_in, seen}
use Rattle.link_lines.specs.Told.{AreToldBy}
use Rattle.link_plan.specs.Plan.{IsPlaced}
use Rattle.link_plan.specs.Sizes.{code_sizes}
use Rattle.link_plan.proofs.PlacedLemmas.{all_near, one_each}
use Rattle.link_parts.proofs.ListableLemmas.{functions_count}
use Rattle.link_parts.proofs.fitting.fit.Goals as goal

pub all_lines-requires-clause-sound : goal.all_lines-requires-clause-sound
all_lines-requires-clause-sound g c =
    let build = c.args.build.now in
    let sound = c.functions_are_sound.ensures build c.args.names.now c.args.code.now c.requires.valid c.requires.resolved in
    (build, subst (All (IsSound _ build)) (sym c.requires.functions) sound)

pub all_lines-requires-clause-as_many : goal.all_lines-requires-clause-as_many
all_lines-requires-clause-as_many g c =
    let code = c.args.code.now in
    let placed : IsPlaced (code_sizes code) c.in-Some.plan.functions = rw c.in-Some.is at c.in_ok-plan.ensures.functions in
    let funcs : length (map seen c.args.funcs.now) ≡ length c.args.funcs.now = length-map c.args.funcs.now (seen {Instr = g.row.T-Instr.Denot}) in
    omega (
      arith,
      ap length c.as_slice.ensures,
      one_each (code_sizes code) c.in-Some.plan.functions placed,
      functions_count code,
      ap length c.requires.functions,
      funcs,
    )

pub all_lines-requires-clause-small : goal.all_lines-requires-clause-small
all_lines-requires-clause-small g c =
    let code = c.args.code.now in
    let placed : IsPlaced (code_sizes code) c.in-Some.plan.functions = rw c.in-Some.is at c.in_ok-plan.ensures.functions in
    let near : All (λ place. place ≤ 2 ^ 24) c.as_slice.result.now
    = subst (All (λ (place : ℕ). place ≤ 2 ^ 24)) (sym c.as_slice.ensures) (all_near (code_sizes code) c.in-Some.plan.functions placed) in
    All-weaker (λ (place : ℕ). place ≤ 2 ^ 24) (λ (entry : ℕ). entry < 2 ^ 32) (λ place low. omega (arith, low)) c.as_slice.result.now near

pub fit_lines-requires-clause-lines : goal.fit_lines-requires-clause-lines
fit_lines-requires-clause-lines g c =
    let build = c.args.build.now in
    let code = c.args.code.now in
    let all = map seen c.args.funcs.now in
    let entries = c.as_slice.result.now in
    let lines = c.as_slice-2.result.now in
    let placed : IsPlaced (code_sizes code) c.in-Some.plan.functions = rw c.in-Some.is at c.in_ok-plan.ensures.functions in
    let near : All (λ place. place ≤ 2 ^ 24) entries
    = subst (All (λ (place : ℕ). place ≤ 2 ^ 24)) (sym c.as_slice.ensures) (all_near (code_sizes code) c.in-Some.plan.functions placed) in
    let small : All (λ entry. entry < 2 ^ 32) entries
    = All-weaker (λ (place : ℕ). place ≤ 2 ^ 24) (λ (entry : ℕ). entry < 2 ^ 32) (λ place low. omega (arith, low)) entries near in
    let many : length entries ≡ length all
    = omega (
      arith,
      ap length c.as_slice.ensures,
      one_each (code_sizes code) c.in-Some.plan.functions placed,
      functions_count code,
      ap length c.requires.functions,
    ) in
    let sound = c.functions_are_sound.ensures build c.args.names.now code c.requires.valid c.requires.resolved in
    let told : AreToldBy all entries lines = subst (AreToldBy all entries) (sym c.as_slice-2.ensures.value) c.in_ok-lines.ensures.told in
    record {
      told = subst (λ (places : List ℕ). AreToldBy (functions_in code) places lines) (c.as_slice.ensures ∙ placed.at)
          (subst (λ (funcs : List (Seen g.row.T-Instr.Denot)). AreToldBy funcs entries lines) c.requires.functions told);
      linked = c.laid_lines.ensures.all_linked build all entries lines (subst (All (IsSound _ build)) (sym c.requires.functions) sound) many
          small told;
    }

-- Lines that do nothing, and behind them a branch to the first line.
use Rattle.std.proofs.Common.{◌≡◌, ℕ, ◌+◌, ◌^◌, ◌<◌, ◌≤◌, true, List, [], ◌∷◌, ◌++◌, length, map, Some, None, refl, ap, ◌∙◌, subst, arith}
use Rattle.std.specs.Prelude.{All, replicate}
use Rattle.std.proofs.lemmas.List.{length-append, length-map, length-replicate}
use Rattle.std.proofs.lemmas.List.Elements.{All-cons, All-head, All-nil, All-push, All-replicate, All-tail}
use Rattle.asm_target.specs.declared.body.Line.{Line}
use Rattle.asm_target.specs.declared.frame.Guard.{Guard}
use Rattle.asm_target.specs.declared.refer.Part.TheVariants.{Whole}
use Rattle.asm_target.specs.declared.refer.Refer.{Refer}
use Rattle.asm_target.specs.declared.refer.To.TheVariants.{Entry}
use Rattle.asm_target.specs.Aiming.{IsPickable}
use Rattle.asm_target.specs.Goals.{HasGoal, IsBody, line_of, longest, picked}
use Rattle.asm_target.proofs.LongestLemmas.{most_long}
use Rattle.asm_target_linked.specs.declared.instr.Instr.{Instr}
use Rattle.asm_target_linked.specs.Forms.{aiming, is_directed}
use Rattle.asm_target_linked.specs.FormLaws.{formed}
use Rattle.asm_target_linked.specs.Instr.{linked, Fits}
use Rattle.asm_target_linked.specs.Laws.{lengths}

abbrev to_entry : Refer
to_entry = record { to = Entry; part = Whole }

abbrev Pickable : Line Instr → Type 0
Pickable line = IsPickable Fits aiming (picked line)

module _ (count : ℕ) (idle last : Line Instr) (guard : Guard Instr) (idle_fit : Fits idle.instr) (alone : idle.refer ≡ None)
    (fit : Fits last.instr) (directed : is_directed last.instr ≡ true) (goes : last.refer ≡ Some to_entry) where
  abbrev lines : List (Line Instr)
  lines = replicate count idle ++ last ∷ []

  some_lines : length lines ≡ count + 1
  some_lines = length-append (replicate count idle) (last ∷ []) ∙ omega (arith, length-replicate count idle)

  all_pickable : All Pickable lines
  all_pickable =
      All-push Pickable (replicate count idle) last
      (All-replicate Pickable count idle (record { fit = idle_fit; directed = λ to refers. absurd (cc (alone, refers)) }))
      (record { fit = fit; directed = λ to refers. directed })

  idle_goal : HasGoal guard lines idle
  idle_goal to refers inside = absurd (cc (alone, refers))

  last_goal : HasGoal guard lines last
  last_goal to refers inside =
      let same : to_entry ≡ record { to = to; part = Whole } = cc (goes, refers) in
      subst (λ to. (goal : ℕ) × (line_of guard lines to ≡ Some goal) × (goal < length lines)) (ap (λ refer. refer.to) same)
      (0, refl, omega (arith, some_lines))

  pub is_body : IsBody Fits aiming guard lines
  is_body = record {
    pickable = all_pickable;
    goals = All-push (HasGoal guard lines) (replicate count idle) last (All-replicate (HasGoal guard lines) count idle idle_goal) last_goal;
  }

  all_picked : (lines : List (Line Instr)) → All Pickable lines → All (IsPickable Fits aiming) (map picked lines)
  all_picked [] all = All-nil (IsPickable Fits aiming)
  all_picked (line ∷ lines) all =
      All-cons (IsPickable Fits aiming) (picked line) (map picked lines) (All-head Pickable line lines all)
      (all_picked lines (All-tail Pickable line lines all))

  pub has_room : count ≤ 10000 → longest linked aiming lines < 2 ^ 32
  has_room few =
      omega (
        arith,
        most_long linked aiming Fits 4 formed lengths (map picked lines) (all_picked lines all_pickable),
        length-map lines picked,
        some_lines,
        few,
      )

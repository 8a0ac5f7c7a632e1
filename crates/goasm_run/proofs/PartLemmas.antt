-- Reading the files of a list, line by line.
use Rattle.std.proofs.Common.{inl, inr, arith, ap, cond, subst, sym, ◌∙◌}
use Rattle.std.proofs.lemmas.List.Sums.{sum_by-cons}
use Rattle.std.specs.Prelude.{◌≡◌, ℕ, List, [], ◌∷◌, ◌+◌, ◌≤◌, Option}
use Rattle.goasm_base.specs.Lines.{last_line}
use Rattle.goasm_base.specs.Shelf.{Files, ReadLog}
use Rattle.goasm_list.specs.Rules.{file_count, names_file}
use Rattle.goasm_list.specs.Sound.{AreWithin}
use Rattle.goasm_list.specs.declared.line.ListLine.{ListLine}
use Rattle.goasm_run.specs.declared.part.Part.{Part}
use Rattle.goasm_run.specs.declared.stop.Stop.{Stop}
use Rattle.goasm_run.specs.declared.stop.Stop.TheVariants as stops
use Rattle.goasm_run.specs.Changes.{ShelfChange, shelf_change, ReadsAll}
use Rattle.goasm_run.specs.Plan.{Plan}
use Rattle.goasm_run.specs.Parts.{ask_parts}
use Rattle.goasm_run.specs.PartsRead.{LeadsTo, LineLeads, NumbersUpTo, LineStopped, PartsStopped}
use Rattle.goasm_run.proofs.NumberLemmas.{within_behind}

-- the files of the lines before the rest are read
pub record ReadUpTo (shelf : ShelfChange) (now : Option Files) (all rest : List ListLine) (number : ℕ) (parts : List Part) : Type 0 where
  pub leads : (next : List Part → Plan) → LeadsTo shelf.holds (ask_parts 1 all [] next) shelf.reads_before (ask_parts number rest parts next) shelf.reads_now
  pub room : number + file_count rest ≤ 1001
  pub lines : AreWithin last_line rest
  pub same : now ≡ shelf.holds
  pub unfailed : ReadsAll shelf
  pub numbered : NumbersUpTo number parts

-- where a line stops, so does the list
pub parts_stopped : {S : Type 0} (holds : S → Option Files) (faults : S → List ℕ → ℕ) (reads : S → ReadLog) (old mid new : S)
    (all left rest : List ListLine) (line : ListLine) (number : ℕ) (parts : List Part) (stop : Stop)
    → ReadUpTo (shelf_change holds faults reads old mid) (holds mid) all left number parts → left ≡ line ∷ rest
    → LineStopped (shelf_change holds faults reads mid new) line number parts stop
    → PartsStopped (shelf_change holds faults reads old new) all stop
parts_stopped holds faults reads old mid new all left rest line number parts (stops.Refused said) reached is stopped = stopped
parts_stopped holds faults reads old mid new all left rest line number parts stops.Words reached is stopped = stopped
parts_stopped holds faults reads old mid new all left rest line number parts stops.Memory reached is stopped = λ next.
    elim (stopped rest next) [
      | inl same ↦ rw same (reached.leads next).made
      | inr some ↦ inr ((reached.leads next).makes (reads new) (rw (is, ← reached.same) some))
    ]
parts_stopped holds faults reads old mid new all left rest line number parts (stops.Unread name) reached is stopped = (
  λ next. (reached.leads next).asks (reads new) name (rw (is, ← reached.same) (stopped.0 rest next)),
  rw (← reached.unfailed name) stopped.1,
)

-- one plan leads to another, and that to a third
leads_on : (told : Option Files) (plan mid rest : Plan) (before between now : ReadLog) → LeadsTo told plan before mid between
    → LeadsTo told mid between rest now → LeadsTo told plan before rest now
leads_on told plan mid rest before between now first second = record {
  comes = λ log ending comes. first.comes log ending (second.comes log ending comes);
  asks = λ log name asks. first.asks log name (second.asks log name asks);
  makes = λ log makes. first.makes log (second.makes log makes);
  made = elim second.made [
    | inl same ↦ rw same first.made
    | inr some ↦ inr (first.makes now some)
  ];
}

-- how many files a line names, and those behind it
files_with : (line : ListLine) (rest : List ListLine) → file_count (line ∷ rest) ≡ file_count (line ∷ []) + file_count rest
files_with line rest =
    let all : file_count (line ∷ rest) ≡ cond (names_file line.kind) 1 0 + file_count rest
    = sum_by-cons (λ (line : ListLine). cond (names_file line.kind) 1 0) line rest in
    let one : file_count (line ∷ []) ≡ cond (names_file line.kind) 1 0 + 0
    = sum_by-cons (λ (line : ListLine). cond (names_file line.kind) 1 0) line [] in
    omega (arith, all, one)

-- the files of one line more are read
pub read_more : {S : Type 0} (holds : S → Option Files) (faults : S → List ℕ → ℕ) (reads : S → ReadLog) (old mid new : S)
    (all left rest : List ListLine) (line : ListLine) (number next : ℕ) (parts more : List Part)
    → ReadUpTo (shelf_change holds faults reads old mid) (holds mid) all left number parts → left ≡ line ∷ rest
    → LineLeads (holds mid) line number parts (reads mid) next more (reads new) → next ≤ number + file_count (line ∷ [])
    → (NumbersUpTo number parts → NumbersUpTo next more) → ReadsAll (shelf_change holds faults reads mid new) → holds new ≡ holds mid
    → ReadUpTo (shelf_change holds faults reads old new) (holds new) all rest next more
read_more holds faults reads old mid new all left rest line number next parts more reached is leads up numbers unfailed same = record {
  leads = λ plan.
      leads_on (holds old) (ask_parts 1 all [] plan) (ask_parts number left parts plan) (ask_parts next rest more plan) (reads old) (reads mid) (reads new)
      (reached.leads plan)
      (subst (λ (told : Option Files). LeadsTo told (ask_parts number left parts plan) (reads mid) (ask_parts next rest more plan) (reads new)) reached.same
      (subst (λ (lines : List ListLine). LeadsTo (holds mid) (ask_parts number lines parts plan) (reads mid) (ask_parts next rest more plan) (reads new))
      (sym is) (leads rest plan)));
  room =
      let before : number + file_count left ≤ 1001 = reached.room in
      let count : file_count left ≡ file_count (line ∷ []) + file_count rest = ap file_count is ∙ files_with line rest in
      omega (arith, before, count, up);
  lines = within_behind left rest line is reached.lines;
  same = same ∙ reached.same;
  unfailed = λ name. unfailed name ∙ reached.unfailed name;
  numbered = numbers reached.numbered;
}

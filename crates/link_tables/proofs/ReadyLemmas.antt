-- The parts of placed functions can be written.
use Rattle.std.proofs.Common.{lit≤, ◌≡◌, inl, inr, ℕ, pos, ◌+◌, ◌-◌, ◌%◌, ◌^◌, ◌<◌, ◌≤◌, ◌==◌, get_or, arith, rules, List, [], ◌∷◌, map, length, All, Option, Some, None, IfSome, FitsSigned, refl, ap, ◌∙◌}
use Rattle.std.specs.Prelude.{bit_and, slice_index}
use Rattle.std.specs.Int.{w32}
use Rattle.std.specs.List.{flat_map, slice_get}
use Rattle.std.proofs.lemmas.Bool.{cases_Bool}
use Rattle.std.proofs.lemmas.List.{get_or-map, length-map}
use Rattle.std.proofs.lemmas.List.Elements.{All-map}
use Rattle.std.proofs.lemmas.Int.{ints}
use Rattle.asm_target.specs.declared.body.Line.{Line}
use Rattle.pclntab.specs.declared.parts.TableParts.{TableParts}
use Rattle.pclntab.specs.declared.parts.FuncPart.{FuncPart}
use Rattle.pclntab.specs.Parts.{IsFuncPart, EntriesRise}
use Rattle.link_tables.specs.declared.func_lines.FuncLines.{FuncLines}
use Rattle.link_tables.specs.Files.{file_name, FileNames}
use Rattle.link_tables.specs.Rows.{rows_of, IsPlaced, AreUsed, depth_stretch, file_stretch, line_stretch}
use Rattle.link_tables.specs.Stretches.{IsQuantum}
use Rattle.link_tables.specs.UsedNames.{place_of, used_after}
use Rattle.link_tables.specs.Table.{args_field, flags_field, names_in, files_of, part_of, text_start, parts_of, IsLinked, CanTell, EntriesAscend, AreReady}
use Rattle.link_tables.proofs.MergedLemmas.{merged_runs}
use Rattle.link_tables.proofs.UsedLemmas.{IsUsed, func_used}
use Rattle.link_tables.proofs.TellLemmas.{each_row, first_row, stretches_rows, smaller_rows, whole_rows, ends_whole, file_runs}

-- the names of the files of a function's lines are used
abbrev HasNames : {Instr : Type 0} → List (List ℕ) → List (List ℕ) → FuncLines Instr → Type 0
HasNames {Instr} build used func =
    (line : ℕ) (e : Line Instr) → line < length func.lines.now → IsUsed used (file_name build (get_or func.lines.now line e).pos.file)

first_depth : {Instr : Type 0} (line : Option (Line Instr)) → IfSome line (λ line. line.depth ≤ 2 ^ 31 - 2)
    → IfSome line (λ line. (e : ℕ) → line.depth ≤ 2 ^ 31 - 2)
first_depth None small = tt
first_depth (Some line) small = λ e. small

can_tell : {Instr : Type 0} (build used : List (List ℕ)) (quantum : ℕ) (func : FuncLines Instr) → IsLinked quantum (length build) func
    → HasNames build used func → length used < 2 ^ 31 → CanTell build used func
can_tell build used quantum func linked names few =
    let placed : IsPlaced quantum (length build) func = linked.placed in
    let there : AreUsed build used (rows_of func)
    = each_row (λ row. place_of used (file_name build row.file) < length used) func.lines.now func.places.now func.length (λ k d e inside. (names k d inside).within) in
    record {
      depth = stretches_rows (λ row. row.depth) func.lines.now func.places.now func.length placed.some placed.count placed.bytes placed.short
          (each_row (λ row. row.depth < 2 ^ 31) func.lines.now func.places.now func.length (λ k d e inside. (placed.lines k d inside).small_depth))
          (first_row (λ row. row.depth ≤ 2 ^ 31 - 2) func.lines.now func.places.now func.length (first_depth (slice_get func.lines.now 0) placed.first));
      file = smaller_rows (λ row. place_of used (file_name build row.file)) func.lines.now func.places.now func.length placed.some placed.count placed.bytes placed.short
          (λ k d below. let within : place_of used (file_name build (get_or (rows_of func) k d).file) < length used = there k d below in omega arith);
      line = smaller_rows (λ row. row.line) func.lines.now func.places.now func.length placed.some placed.count placed.bytes placed.short
          (each_row (λ row. row.line ≤ 2 ^ 31 - 2) func.lines.now func.places.now func.length (λ k d e inside. (placed.lines k d inside).small_line));
      files = each_row (λ row. row.file < length build) func.lines.now func.places.now func.length (λ k d e inside. (placed.lines k d inside).in_files);
      there = there;
      args = linked.args;
      start_line = linked.start_line;
    }

pub can_tell_all : {Instr : Type 0} (build used : List (List ℕ)) (quantum : ℕ) (funcs : List (FuncLines Instr)) → All (IsLinked quantum (length build)) funcs
    → used ≡ used_after [] (flat_map (names_in build) funcs) → length used < 2 ^ 31 → All (CanTell build used) funcs
can_tell_all build used quantum funcs linked is few = λ k d below.
    can_tell build used quantum (get_or funcs k d) (linked k d below)
    (λ line e inside. rw is (func_used build [] funcs k d below line e inside)) few

fits_number : (n : ℕ) → n < 2 ^ 31 → FitsSigned w32 (pos n)
fits_number n small = search (rules, ints)

fits_args : (args : Option ℕ) → IfSome args (λ size. size < 2 ^ 31) → FitsSigned w32 (args_field args)
fits_args None small = search (rules, ints)
fits_args (Some size) small = fits_number size small

small_flags : (flags : ℕ) → flags_field flags < 2 ^ 8
small_flags flags =
    elim (cases_Bool (bit_and flags 2048 == 0)) [
      | inl without ↦ rw without (omega arith)
      | inr with_it ↦ rw with_it (omega arith)
    ]

func_ready : {Instr : Type 0} (build used : List (List ℕ)) (quantum : ℕ) (func : FuncLines Instr) → IsQuantum quantum → IsLinked quantum (length build) func
    → CanTell build used func → IsFuncPart quantum (length used) (part_of build used func)
func_ready build used quantum func counts linked tell =
    let whole : All (λ row. row.end % quantum ≡ 0) (rows_of func)
    = ends_whole quantum func.lines.now func.places.now func.length linked.placed.whole linked.placed.end in
    record {
      entry = linked.entry;
      args = fits_args func.args linked.args;
      flags = small_flags func.flags;
      start_line = fits_number func.start_line linked.start_line;
      depth = merged_runs quantum (map depth_stretch (rows_of func)) tell.depth counts (whole_rows (λ row. row.depth) quantum (rows_of func) whole);
      file = merged_runs quantum (map (file_stretch build used) (rows_of func)) tell.file counts
          (whole_rows (λ row. place_of used (file_name build row.file)) quantum (rows_of func) whole);
      line = merged_runs quantum (map line_stretch (rows_of func)) tell.line counts (whole_rows (λ row. row.line) quantum (rows_of func) whole);
      indices = file_runs (length used) (map (file_stretch build used) (rows_of func))
          (All-map (λ stretch. stretch.value < length used) (file_stretch build used) (rows_of func) tell.there);
    }

entries_rise : {Instr : Type 0} (build used : List (List ℕ)) (funcs : List (FuncLines Instr)) → EntriesAscend funcs → EntriesRise (map (part_of build used) funcs)
entries_rise build used [] ascend = λ index d below. absurd (omega arith)
entries_rise {Instr = Instr} build used (func ∷ funcs) ascend = λ index d below.
    let part : FuncLines Instr → FuncPart = part_of build used in
    let entry : FuncLines Instr → ℕ = λ f. f.entry in
    let all : List (FuncLines Instr) = func ∷ funcs in
    let inside : index + 1 < length all = rw length-map at below in
    let one : get_or (map part all) index d ≡ part (get_or all index func) = get_or-map part all index func d (omega arith) in
    let two : get_or (map part all) (index + 1) d ≡ part (get_or all (index + 1) func) = get_or-map part all (index + 1) func d (omega arith) in
    let low : slice_index (map entry all) index ≡ entry (get_or all index func) = get_or-map entry all index func 0 (omega arith) in
    let high : slice_index (map entry all) (index + 1) ≡ entry (get_or all (index + 1) func) = get_or-map entry all (index + 1) func 0 (omega arith) in
    let up : slice_index (map entry all) index ≤ slice_index (map entry all) (index + 1) = ascend index (rw length-map inside) in
    rw (one, two) (rw (low, high) at up)

pub ready : {Instr : Type 0} (build used : List (List ℕ)) (quantum text_len : ℕ) (funcs : List (FuncLines Instr)) (parts : TableParts)
    → IsQuantum quantum → All (IsLinked quantum (length build)) funcs → EntriesAscend funcs → text_len < 2 ^ 32 → All (CanTell build used) funcs
    → used ≡ files_of build funcs → parts ≡ parts_of build quantum text_len funcs → AreReady parts
ready build used quantum text_len funcs parts counts linked ascend short tell is parts-is =
    rw (parts-is, ← is) (record {
      quantum = counts;
      text_start = lit≤ tt;
      text_len = short;
      order = entries_rise build used funcs ascend;
      funcs = All-map (IsFuncPart quantum (length used)) (part_of build used) funcs
          (λ k d below. func_ready build used quantum (get_or funcs k d) counts (linked k d below) (tell k d below));
    })

-- after the files of all lines were numbered
pub record AreNumbered {Instr : Type 0} (build : List (List ℕ)) (old now : FileNames) (funcs : List (FuncLines Instr)) : Type 0 where
  pub none : old ≡ record { build = build; used = [] }
  pub build_is : now.build ≡ old.build
  pub used_is : now.used ≡ used_after old.used (flat_map (names_in old.build) funcs)
  pub few : length (files_of build funcs) < 2 ^ 31

numbered_build : {Instr : Type 0} (build : List (List ℕ)) (old now : FileNames) (funcs : List (FuncLines Instr)) → AreNumbered build old now funcs
    → now.build ≡ build
numbered_build build old now funcs are = are.build_is ∙ ap (λ (files : FileNames). files.build) are.none

numbered_used : {Instr : Type 0} (build : List (List ℕ)) (old now : FileNames) (funcs : List (FuncLines Instr)) → AreNumbered build old now funcs
    → now.used ≡ files_of build funcs
numbered_used build old now funcs are =
    are.used_is ∙ ap (λ (files : FileNames). used_after files.used (flat_map (names_in files.build) funcs)) are.none

pub all_tell : {Instr : Type 0} (build : List (List ℕ)) (old now : FileNames) (quantum : ℕ) (funcs : List (FuncLines Instr))
    → All (IsLinked quantum (length build)) funcs → AreNumbered build old now funcs → All (CanTell now.build now.used) funcs
all_tell build old now quantum funcs linked are =
    let same : now.build ≡ build = numbered_build build old now funcs are in
    let used : now.used ≡ files_of build funcs = numbered_used build old now funcs are in
    rw same (can_tell_all build now.used quantum funcs linked used (rw used are.few))

pub all_ready : {Instr : Type 0} (build : List (List ℕ)) (old now : FileNames) (quantum text_len : ℕ) (funcs : List (FuncLines Instr))
    (files : List (List ℕ)) (list : List FuncPart) → IsQuantum quantum → All (IsLinked quantum (length build)) funcs
    → EntriesAscend funcs → text_len < 2 ^ 32 → AreNumbered build old now funcs → files ≡ now.used → list ≡ map (part_of now.build now.used) funcs
    → AreReady (record { quantum = quantum; text_start = text_start; text_len = text_len; files = files; funcs = list })
all_ready build old now quantum text_len funcs files list counts linked ascend text are files-is list-is =
    let same : now.build ≡ build = numbered_build build old now funcs are in
    let used : now.used ≡ files_of build funcs = numbered_used build old now funcs are in
    let tell : All (CanTell build now.used) funcs = rw same at (all_tell build old now quantum funcs linked are) in
    let list_is : list ≡ map (part_of build (files_of build funcs)) funcs = rw (same, used) at list-is in
    ready build now.used quantum text_len funcs (record { quantum = quantum; text_start = text_start; text_len = text_len; files = files; funcs = list })
    counts linked ascend text tell used
    (rw (list_is, files-is ∙ used) refl)

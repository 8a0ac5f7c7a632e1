-- What a function table tells of the lines that it is told of.
use Rattle.std.proofs.Common.{◌≡◌, ◌<◌, ◌+◌, ℕ, pos, zero, suc, drop, get_or, length, List, [], ◌∷◌, ◌++◌, map, All, refl, sym, ap, ◌∙◌, subst, arith}
use Rattle.std.proofs.lemmas.List.Elements.{All-cons, All-head, All-nil, All-tail}
use Rattle.pcvalue.specs.Cover.{Covers}
use Rattle.asm_target.specs.declared.body.Line.{Line}
use Rattle.least_forms.specs.Problem.{Problem, at, place}
use Rattle.unit_listing.specs.Kit.{Kit}
use Rattle.unit_listing.proofs.FunctionLemmas.{KitLaws}
use Rattle.link_assembly.specs.Assembly.{TellsLines}
use Rattle.link_build.specs.declared.build.Build.{Build}
use Rattle.link_build.specs.Functions.{IsSound, Seen}
use Rattle.link_spans.specs.Spans.{CoverLines, ends_to, line_ends}
use Rattle.link_tables.specs.declared.func_lines.FuncLines.{FuncLines}
use Rattle.link_tables.specs.declared.row.Row.{Row}
use Rattle.link_tables.specs.declared.stretch.Stretch.{Stretch}
use Rattle.link_tables.specs.Files.{file_name}
use Rattle.link_tables.specs.Rows.{depth_stretch, end_before, file_stretch, line_stretch, row_of, rows_from}
use Rattle.link_tables.specs.Stretches.{AreStretches, ends_of, merged, values_of}
use Rattle.link_tables.specs.Table.{CanTell, part_of}
use Rattle.link_tables.specs.UsedNames.{place_of}
use Rattle.link_lines.specs.Told.{IsToldBy}
use Rattle.link_lines.proofs.PlaceLemmas.{as_many, begins, each_place, end_is, whole_length}

-- the law on the runs of stretches
abbrev pub MergedCover : Type 0
MergedCover = (stretches : List Stretch) → AreStretches stretches → Covers 0 (ends_of stretches) (values_of stretches) (merged stretches)

module _ (f : ℕ → ℕ) where
  -- so many places, behind this one
  places_behind : ℕ → ℕ → List ℕ
  places_behind from zero = []
  places_behind from (suc n) = f (from + 1) ∷ places_behind (from + 1) n

  behind_more : (from n : ℕ) → places_behind from (suc n) ≡ places_behind from n ++ f (from + suc n) ∷ []
  unfolding places_behind
  behind_more from zero = ap (λ end. end ∷ []) (ap f (omega arith))
  behind_more from (suc n) =
      let same : from + 1 + suc n ≡ from + suc (suc n) = omega arith in
      ap (λ rest. f (from + 1) ∷ rest) (behind_more (from + 1) n ∙ ap (λ end. places_behind (from + 1) n ++ end ∷ []) (ap f same))

  module _ {Instr : Type 0} (stretch : Row → Stretch) (value : Line Instr → ℕ)
      (ends : (line : Line Instr) (end : ℕ) → (stretch (row_of line end)).end ≡ end)
      (gives : (line : Line Instr) (end : ℕ) → (stretch (row_of line end)).value ≡ value line) where
    row_ends : (code : List (Line Instr)) (places : List ℕ) (from end : ℕ) → length places ≡ length code
        → ((k : ℕ) → k < length places → get_or places k 0 ≡ f (from + k)) → end ≡ f (from + length places)
        → ends_of (map stretch (rows_from code places end)) ≡ places_behind from (length code)
    unfolding rows_from places_behind
    row_ends [] places from end count each last = refl
    row_ends (line ∷ code) [] from end count each last = absurd (omega arith)
    row_ends (line ∷ code) (place ∷ places) from end count each last =
        let next : (k : ℕ) → f (from + suc k) ≡ f (from + 1 + k) = λ k. (let same : from + suc k ≡ from + 1 + k = omega arith in ap f same) in
        let each' : (k : ℕ) → k < length places → get_or places k 0 ≡ f (from + 1 + k)
        = λ k below. each (suc k) (omega (arith, below)) ∙ next k in
        let last' : end ≡ f (from + 1 + length places) = last ∙ next (length places) in
        let here : (stretch (row_of line (end_before places end))).end ≡ f (from + 1)
        = ends line (end_before places end) ∙ end_is f places (from + 1) end each' last' in
        ap (λ first. first ∷ ends_of (map stretch (rows_from code places end))) here
        ∙ ap (λ rest. f (from + 1) ∷ rest) (row_ends code places (from + 1) end (omega (arith, count)) each' last')

    row_values : (code : List (Line Instr)) (places : List ℕ) (end : ℕ)
        → values_of (map stretch (rows_from code places end)) ≡ map (λ line. pos (value line)) code
    unfolding rows_from
    row_values [] places end = refl
    row_values (line ∷ code) places end =
        ap (λ first. first ∷ values_of (map stretch (rows_from code (drop 1 places) end))) (ap pos (gives line (end_before (drop 1 places) end)))
        ∙ ap (λ rest. pos (value line) ∷ rest) (row_values code (drop 1 places) end)

-- what holds of the files of rows holds of those of lines
row_files : {Instr : Type 0} (P : ℕ → Type 0) (code : List (Line Instr)) (places : List ℕ) (end : ℕ)
    → All (λ row. P row.file) (rows_from code places end) → All (λ line. P line.pos.file) code
unfolding rows_from
row_files {Instr} P [] places end all = All-nil (λ (line : Line Instr). P line.pos.file)
row_files {Instr} P (line ∷ code) places end all =
    let first = row_of line (end_before (drop 1 places) end) in
    let rest = rows_from code (drop 1 places) end in
    All-cons (λ (line : Line Instr). P line.pos.file) line code (All-head (λ (row : Row). P row.file) first rest all)
    (row_files P code (drop 1 places) end (All-tail (λ (row : Row). P row.file) first rest all))

ends_behind : (p : Problem) (forms : ℕ → ℕ) (n : ℕ) → ends_to p forms n ≡ places_behind (place p forms) 0 n
unfolding places_behind
ends_behind p forms zero = refl
ends_behind p forms (suc n) =
    let same : 0 + suc n ≡ suc n = omega arith in
    ap (λ ends. ends ++ place p forms (suc n) ∷ []) (ends_behind p forms n)
    ∙ ap (λ end. places_behind (place p forms) 0 n ++ end ∷ []) (ap (place p forms) (sym same))
    ∙ sym (behind_more (place p forms) 0 n)

module _ {Instr : Type 0} (kit : Kit Instr) (laws : KitLaws kit) (build : Build) (covers : MergedCover) (func : Seen Instr)
    (sound : IsSound kit build func) (used : List (List ℕ)) (entry : ℕ) (lines : FuncLines Instr) (told : IsToldBy func entry lines)
    (tell : CanTell build.files used lines) where
  -- the rows of the function's own lines
  abbrev rows : List Row
  rows = rows_from func.part.laid.body.code func.part.laid.sizes.places func.part.laid.sizes.length

  same_rows : rows_from lines.lines.now lines.places.now lines.length ≡ rows
  same_rows =
      ap (λ code. rows_from code lines.places.now lines.length) told.code
      ∙ ap (λ places. rows_from func.part.laid.body.code places lines.length) told.places
      ∙ ap (λ end. rows_from func.part.laid.body.code func.part.laid.sizes.places end) told.long

  covered : (stretch : Row → Stretch) (value : Line Instr → ℕ) → ((line : Line Instr) (end : ℕ) → (stretch (row_of line end)).end ≡ end)
      → ((line : Line Instr) (end : ℕ) → (stretch (row_of line end)).value ≡ value line)
      → AreStretches (map stretch (rows_from lines.lines.now lines.places.now lines.length))
      → CoverLines kit func.part.laid value (merged (map stretch (rows_from lines.lines.now lines.places.now lines.length)))
  covered stretch value ends gives are =
      let laid = func.part.laid in
      let function = func.part.function.now in
      let symbols = length func.unit.symbols in
      let count = as_many kit laws symbols function sound.form laid sound.laid in
      let all_ends : ends_of (map stretch rows) ≡ line_ends kit laid
      = row_ends (begins kit laws symbols function sound.form laid sound.laid) stretch value ends gives laid.body.code laid.sizes.places 0 laid.sizes.length count
      (each_place kit laws symbols function sound.form laid sound.laid) (whole_length kit laws symbols function sound.form laid sound.laid)
      ∙ sym (ends_behind _ (at laid.sizes.forms) (length laid.body.code)) in
      let all_values = row_values (λ (n : ℕ). n) stretch value ends gives laid.body.code laid.sizes.places laid.sizes.length in
      subst (λ rows. CoverLines kit laid value (merged (map stretch rows))) (sym same_rows)
      (subst (λ values. Covers 0 (line_ends kit laid) values (merged (map stretch rows))) all_values
      (subst (λ ends. Covers 0 ends (values_of (map stretch rows)) (merged (map stretch rows))) all_ends
      (covers (map stretch rows) (subst (λ rows. AreStretches (map stretch rows)) same_rows are))))

  abbrev index : ℕ → ℕ
  index file = place_of used (file_name build.files file)

  pub tells : TellsLines kit (length used) func.part.laid (part_of build.files used lines)
  tells = record {
    depth = covered depth_stretch (λ line. line.depth) (λ line end. refl) (λ line end. refl) tell.depth;
    line = covered line_stretch (λ line. line.pos.line) (λ line end. refl) (λ line end. refl) tell.line;
    index = index;
    file = covered (file_stretch build.files used) (λ line. index line.pos.file) (λ line end. refl) (λ line end. refl) tell.file;
    known = row_files (λ (file : ℕ). index file < length used) func.part.laid.body.code func.part.laid.sizes.places func.part.laid.sizes.length
        (subst (All (λ (row : Row). index row.file < length used)) same_rows tell.there);
  }

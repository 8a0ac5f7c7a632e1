-- A function table that is told of functions is one.
use Rattle.std.proofs.Common.{◌≡◌, ℕ, List, map, Option, Some, sym, ap, ◌∙◌, arith}
use Rattle.std.proofs.lemmas.List.Elements.{length_all_zip}
use Rattle.std.proofs.lemmas.Option.{slice_get_within}
use Rattle.std.specs.List.{AllZip, slice_get}
use Rattle.std.specs.Prelude.{pos}
use Rattle.goasm_base.specs.declared.statement.Function.{Function}
use Rattle.asm_parse.specs.declared.unit.Unit.{Unit as Said}
use Rattle.asm_target.specs.declared.body.Body.{Body}
use Rattle.asm_target.specs.declared.body.Line.{Line}
use Rattle.asm_target.proofs.PlaceLemmas.{item_at}
use Rattle.least_forms.specs.declared.sizes.Sizes.{Sizes}
use Rattle.pclntab.specs.declared.parts.FuncPart.{FuncPart}
use Rattle.pclntab.specs.declared.parts.TableParts.{TableParts}
use Rattle.unit_listing.specs.Lines.{symbol_name}
use Rattle.link_functions.specs.declared.code.UnitCode.{UnitCode}
use Rattle.link_places.specs.Places.{places_from}
use Rattle.link_places.proofs.PlaceLemmas.{length-places}
use Rattle.link_plan.specs.Sizes.{code_sizes}
use Rattle.link_build.specs.declared.build.Build.{Build}
use Rattle.link_build.specs.Functions.{functions_in}
use Rattle.link_tables.specs.declared.func_lines.FuncLines.{FuncLines}
use Rattle.link_tables.specs.declared.row.Row.{Row}
use Rattle.link_tables.specs.Rows.{depth_stretch, file_stretch, line_stretch, rows_from, rows_of}
use Rattle.link_tables.specs.Stretches.{merged}
use Rattle.link_tables.specs.Table.{args_field, files_of, flags_field, names_in, names_of_lines, part_of, parts_of, text_start}
use Rattle.link_tables.specs.UsedNames.{first_used}
use Rattle.link_parts.specs.Fitted.{AreLines}
use Rattle.link_parts.specs.Image.{function_places}
use Rattle.build_answer.specs.Same.{IsSameCode}
use Rattle.parts_answer.proofs.SameLemmas.{IsSameSeen, as_many, same_functions, same_sizes}
use Rattle.parts_answer.proofs.ZipLemmas.{same_flat, same_map, zip_at, zip_from}

-- a part of a table, and a table's parts, by what they are made of
abbrev part_with : List (List ℕ) → List (List ℕ) → List ℕ → ℕ → Option ℕ → ℕ → ℕ → List Row → FuncPart
part_with build used name entry args flags start_line rows = record {
  name = name;
  entry = entry;
  args = args_field args;
  flags = flags_field flags;
  start_line = pos start_line;
  depth = merged (map depth_stretch rows);
  file = merged (map (file_stretch build used) rows);
  line = merged (map line_stretch rows);
}

abbrev parts_with : ℕ → ℕ → List (List ℕ) → List FuncPart → TableParts
parts_with quantum text_len files funcs =
    record { quantum = quantum; text_start = text_start; text_len = text_len; files = files; funcs = funcs }

module _ {Instr : Type 0} where
  -- the same is told of a function
  pub record IsSameLines (one other : FuncLines Instr) : Type 0 where
    pub name : one.name.now ≡ other.name.now
    pub entry : one.entry ≡ other.entry
    pub args : one.args ≡ other.args
    pub flags : one.flags ≡ other.flags
    pub start_line : one.start_line ≡ other.start_line
    pub code : one.lines.now ≡ other.lines.now
    pub places : one.places.now ≡ other.places.now
    pub long : one.length ≡ other.length

  -- of each function, where the functions are the same but for the tables of their goals
  pub all_alike : (quantum : ℕ) (build : Build) (code again : List (UnitCode Instr)) (lines more : List (FuncLines Instr))
      → IsSameCode code again → AreLines quantum build code lines → AreLines quantum build again more → AllZip IsSameLines lines more
  all_alike quantum build code again lines more same a b =
      let funcs = functions_in code in
      let others = functions_in again in
      let alike = same_functions code again same in
      let many = length_all_zip IsSameSeen funcs others alike in
      let sizes = as_many code ∙ sym (length-places 0 (code_sizes code)) in
      zip_from IsSameLines lines more (a.told.as_many ∙ many ∙ sym b.told.as_many) (λ number one other here there.
      let within = slice_get_within lines number one here in
      let func = item_at funcs number (omega (arith, within, a.told.as_many)) in
      let its = item_at others number (omega (arith, within, a.told.as_many, many)) in
      let entry = item_at (function_places code) number (omega (arith, within, a.told.as_many, sizes)) in
      let entry' : slice_get (function_places again) number ≡ Some entry.0
      = ap (λ (sizes : List ℕ). slice_get (places_from 0 sizes) number) (sym (same_sizes code again same)) ∙ entry.1 in
      let seen = zip_at IsSameSeen funcs others number func.0 its.0 alike func.1 its.1 in
      let x = a.told.each number entry.0 func.0 one func.1 entry.1 here in
      let y = b.told.each number entry.0 its.0 other its.1 entry' there in
      record {
        name = x.name
            ∙ ap (λ (unit : Said). symbol_name unit.symbols func.0.part.function.now.sym) seen.unit
            ∙ ap (λ (function : Function). symbol_name its.0.unit.symbols function.sym) seen.function ∙ sym y.name;
        entry = x.begins ∙ sym y.begins;
        args = x.args ∙ ap (λ (function : Function). function.args) seen.function ∙ sym y.args;
        flags = x.flags ∙ ap (λ (function : Function). function.flags) seen.function ∙ sym y.flags;
        start_line = x.start_line ∙ ap (λ (function : Function). function.pos.line) seen.function ∙ sym y.start_line;
        code = x.code ∙ ap (λ (body : Body Instr). body.code) seen.laid.body ∙ sym y.code;
        places = x.places ∙ ap (λ (sizes : Sizes). sizes.places) seen.laid.sizes ∙ sym y.places;
        long = x.long ∙ ap (λ (sizes : Sizes). sizes.length) seen.laid.sizes ∙ sym y.long;
      })

  same_rows : (one other : FuncLines Instr) → IsSameLines one other → rows_of one ≡ rows_of other
  same_rows one other same =
      ap (λ (lines : List (Line Instr)). rows_from lines one.places.now one.length) same.code
      ∙ ap (λ (places : List ℕ). rows_from other.lines.now places one.length) same.places
      ∙ ap (λ (length : ℕ). rows_from other.lines.now other.places.now length) same.long

  same_part : (build used : List (List ℕ)) (one other : FuncLines Instr) → IsSameLines one other
      → part_of build used one ≡ part_of build used other
  same_part build used one other same =
      ap (λ (name : List ℕ). part_with build used name one.entry one.args one.flags one.start_line (rows_of one)) same.name
      ∙ ap (λ (entry : ℕ). part_with build used other.name.now entry one.args one.flags one.start_line (rows_of one)) same.entry
      ∙ ap (λ (args : Option ℕ). part_with build used other.name.now other.entry args one.flags one.start_line (rows_of one)) same.args
      ∙ ap (λ (flags : ℕ). part_with build used other.name.now other.entry other.args flags one.start_line (rows_of one)) same.flags
      ∙ ap (λ (start : ℕ). part_with build used other.name.now other.entry other.args other.flags start (rows_of one)) same.start_line
      ∙ ap (λ (rows : List Row). part_with build used other.name.now other.entry other.args other.flags other.start_line rows)
      (same_rows one other same)

  pub same_parts : (build : List (List ℕ)) (quantum text its : ℕ) (lines again : List (FuncLines Instr)) → text ≡ its
      → AllZip IsSameLines lines again → parts_of build quantum text lines ≡ parts_of build quantum its again
  same_parts build quantum text its lines again same alike =
      let files : files_of build lines ≡ files_of build again
      = ap first_used (same_flat IsSameLines (names_in build) (λ one other same. ap (names_of_lines build) same.code) lines again alike) in
      ap (λ (text : ℕ). parts_with quantum text (files_of build lines) (map (part_of build (files_of build lines)) lines)) same
      ∙ ap (λ (files : List (List ℕ)). parts_with quantum its files (map (part_of build files) lines)) files
      ∙ ap (λ (funcs : List FuncPart). parts_with quantum its (files_of build again) funcs)
      (same_map IsSameLines (part_of build (files_of build again)) (same_part build (files_of build again)) lines again alike)

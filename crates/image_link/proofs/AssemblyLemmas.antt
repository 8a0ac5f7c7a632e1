-- The image of a build is assembled of functions that break no rule.
use Rattle.std.proofs.Common.{◌≡◌, false, ℕ, ◌+◌, ◌≤◌, ◌<◌, ◌^◌, List, length, map, take, Option, Some, refl, sym, ap, ◌∙◌, subst, arith}
use Rattle.std.specs.Prelude.{All, sum, slice_index}
use Rattle.std.specs.List.{AllZip, range_with_len, slice_get}
use Rattle.std.specs.List.Sorted.{IsPermutation}
use Rattle.std.proofs.lemmas.List.{length-map, take-map}
use Rattle.std.proofs.lemmas.List.Elements.{All-weaker}
use Rattle.std.proofs.lemmas.List.FromFn.{length-range_with_len}
use Rattle.std.proofs.lemmas.Option.{get_or_from_slice_get, slice_get-map, slice_get_within}
use Rattle.asm_target.proofs.PlaceLemmas.{item_at}
use Rattle.asm_target.specs.declared.body.Placed.{Placed}
use Rattle.asm_target.specs.FlowRules.{IsFlowSound}
use Rattle.byte_layout.specs.Joined.{aligned}
use Rattle.elf_image.specs.declared.parts.ImageParts.{ImageParts}
use Rattle.elf_image.specs.Contents as elf
use Rattle.flow_rules.specs.Placing.{function_of}
use Rattle.image_rules.specs.Parts.{Surrounds, count_in, entry_in}
use Rattle.link_assembly.specs.Assembly.{Assembled, IsAssembled, IsAssembly, TellsLines, made_of, machine_with, text_of}
use Rattle.link_build.specs.declared.build.Build.{Build}
use Rattle.link_build.specs.Functions.{IsSound, Seen, functions_in}
use Rattle.link_build.specs.Resolved.{IsOutside, IsResolved, IsValidBuild}
use Rattle.link_build.proofs.PlaceLemmas.{all_got}
use Rattle.link_code.specs.declared.placing.Code.{Code}
use Rattle.link_code.specs.Astray.{is_astray, range_of}
use Rattle.link_code.specs.Code.{HaveDepths, IsCode, IsOfUnit}
use Rattle.link_flow.specs.declared.around.Around.{Around}
use Rattle.link_flow.specs.Around.{addresses_of, growth_of, surroundings}
use Rattle.link_flow.specs.Codes.{IsSiteOf}
use Rattle.link_flow.specs.Refusals.{KeepsGoals, KeepsRules}
use Rattle.link_functions.specs.declared.code.UnitCode.{UnitCode}
use Rattle.link_laws.specs.Made.{Made, bytes_of}
use Rattle.link_lines.specs.Told.{IsToldBy}
use Rattle.link_names.specs.Definitions.{Entry}
use Rattle.link_parts.specs.declared.fitting.Fitted.{Fitted}
use Rattle.link_parts.specs.Image.{function_places, table_parts}
use Rattle.link_parts.proofs.ListableLemmas.{functions_count}
use Rattle.link_parts.proofs.LinesLemmas.{short_lines}
use Rattle.link_places.proofs.PlaceLemmas.{length-places}
use Rattle.link_places.specs.Places.{end_from, places_from}
use Rattle.link_plan.specs.Plan.{text_size}
use Rattle.link_plan.specs.Sizes.{code_sizes}
use Rattle.link_tables.specs.declared.func_lines.FuncLines.{FuncLines}
use Rattle.link_tables.specs.Table as tables
use Rattle.link_tables.specs.Table.{CanTell, files_of, part_of}
use Rattle.link_text.specs.Text.{HasSize, image_text, instructions_of, made}
use Rattle.pclntab.specs.declared.parts.FuncPart.{FuncPart}
use Rattle.pclntab.specs.declared.parts.TableParts.{TableParts}
use Rattle.pclntab.specs.Func.{entry_of}
use Rattle.pclntab.specs.Places.{func_count}
use Rattle.std.specs.Option.{option_map}
use Rattle.std.specs.Prelude.{slice_index_or}
use Rattle.unit_listing.specs.Kit.{Kit}
use Rattle.image_link.specs.Linked.{IsLinked, parts_of}
use Rattle.image_link.proofs.CodeLemmas.{have_sizes}
use Rattle.image_link.proofs.NumberLemmas.{Chosen, choose, range_at, same_mapped, some_same}

-- what the laws of the crates below say of a target
pub record HoldsBelow {Instr : Type 0} (kit : Kit Instr) (growth : Option ℕ) : Type 0 where
  pub sound : (build : Build) (names : List Entry) (code : List (UnitCode Instr)) → IsValidBuild build → IsResolved kit build names code
      → All (IsSound kit build) (functions_in code)
  pub tells : (build : Build) (used : List (List ℕ)) (func : Seen Instr) (entry : ℕ) (lines : FuncLines Instr) → IsSound kit build func
      → IsToldBy func entry lines → CanTell build.files used lines
      → TellsLines kit (length used) func.part.laid (part_of build.files used lines)
  pub can_tell : (files : List (List ℕ)) (quantum : ℕ) (lines : List (FuncLines Instr)) → length (files_of files lines) < 2 ^ 31
      → All (tables.IsLinked quantum (length files)) lines → All (CanTell files (files_of files lines)) lines
  pub few_files : (files : List (List ℕ)) (quantum count : ℕ) (lines : List (FuncLines Instr)) → All (tables.IsLinked quantum count) lines
      → length (files_of files lines) ≤ sum (map (λ func. func.length) lines)
  pub place : (sizes : List ℕ) (codes : List (Code Instr)) (number : ℕ) → AllZip (HasSize kit) sizes codes → number < length codes
      → slice_index (places_from 0 sizes) number ≡ length (image_text kit growth (take number codes))
  pub end : (sizes : List ℕ) (codes : List (Code Instr)) → AllZip (HasSize kit) sizes codes
      → aligned 16 (end_from 0 sizes) ≡ length (image_text kit growth codes)

module _ {Instr : Type 0} (kit : Kit Instr) (growth : Option ℕ) (below : HoldsBelow kit growth) (build : Build) (bytes : List ℕ)
    (valid : IsValidBuild build) (linked : IsLinked kit build growth bytes) where
  abbrev pub names : List Entry
  names = linked.names

  abbrev pub code : List (UnitCode Instr)
  code = linked.code

  abbrev pub fitted : Fitted
  fitted = linked.fitted

  abbrev pub codes : List (Code Instr)
  codes = linked.codes

  abbrev pub around : Around
  around = linked.around

  abbrev pub lines : List (FuncLines Instr)
  lines = linked.kept.placed.fit.fits.lines

  abbrev pub funcs : List (Seen Instr)
  funcs = functions_in code

  abbrev pub at : List ℕ
  at = function_places code

  abbrev pub used : List (List ℕ)
  used = files_of build.files lines

  abbrev pub table : TableParts
  table = table_parts kit.quantum build names code lines

  abbrev pub image : ImageParts
  image = parts_of kit build growth names code fitted codes linked.written.entry

  -- As many of each

  codes_count : length codes ≡ length funcs
  codes_count = linked.kept.placed.codes_are.count

  at_count : length at ≡ length funcs
  at_count = length-places 0 (code_sizes code) ∙ sym (functions_count code)

  lines_count : length lines ≡ length funcs
  lines_count = linked.kept.placed.fit.fits.lines_are.told.as_many

  -- Each function

  sound : All (IsSound kit build) funcs
  sound = below.sound build names code valid linked.kept.placed.fit.resolved

  short : end_from 0 (code_sizes code) ≤ 2 ^ 24
  short =
      let functions = linked.kept.placed.fit.fits.plan.functions in
      subst (λ end. end ≤ 2 ^ 24) functions.end functions.small

  few : length used < 2 ^ 31
  few =
      let are = linked.kept.placed.fit.fits.lines_are in
      omega (
        arith,
        below.few_files build.files kit.quantum (length build.files) lines are.linked,
        short_lines kit.quantum build code lines are short,
      )

  can_tell : All (CanTell build.files used) lines
  can_tell = below.can_tell build.files kit.quantum lines few linked.kept.placed.fit.fits.lines_are.linked

  -- what the image has of the function of this number
  pub record Stands (number : ℕ) (one : Assembled Instr) : Type 0 where
    pub func : Seen Instr
    pub func_here : slice_get funcs number ≡ Some func
    pub code_is : Code Instr
    pub code_here : slice_get codes number ≡ Some code_is
    pub told : FuncLines Instr
    pub told_here : slice_get lines number ≡ Some told
    pub is : IsToldBy func (slice_index at number) told
    pub site_is : IsSiteOf names fitted.addresses func (slice_index at number) one.site
    pub of_unit : IsOfUnit kit (length one.site.addresses.now) one.laid
    pub laid_is : one.laid ≡ func.part.laid
    pub placed : IsCode kit one.site one.laid one.placed
    pub placed_is : one.placed ≡ code_is.placed.items
    pub depths : HaveDepths kit one.laid one.depths
    pub depths_are : one.depths ≡ code_is.depths.items
    pub part_is : one.part ≡ part_of build.files used told

  assemble : (number : ℕ) → number < length funcs → (one : Assembled Instr) × Stands number one
  assemble number less =
      let func = item_at funcs number less in
      let code_is = item_at codes number (omega (arith, less, codes_count)) in
      let told = item_at lines number (omega (arith, less, lines_count)) in
      let place = item_at at number (omega (arith, less, at_count)) in
      let here = linked.kept.placed.codes_are.each number func.0 code_is.0 func.1 code_is.1 in
      let is = linked.kept.placed.fit.fits.lines_are.told.each number place.0 func.0 told.0 func.1 place.1 told.1 in (
        record {
          site = here.site;
          laid = func.0.part.laid;
          placed = code_is.0.placed.items;
          depths = code_is.0.depths.items;
          part = part_of build.files used told.0;
        },
        record {
          func = func.0;
          func_here = func.1;
          code_is = code_is.0;
          code_here = code_is.1;
          told = told.0;
          told_here = told.1;
          is = subst (λ entry. IsToldBy func.0 entry told.0) (sym (get_or_from_slice_get at number place.0 0 place.1)) is;
          site_is = here.of;
          of_unit = here.of_unit;
          laid_is = refl;
          placed = here.placed;
          placed_is = refl;
          depths = here.depths;
          depths_are = refl;
          part_is = refl;
        },
      )

  pub chosen : Chosen Stands (length funcs)
  chosen = choose Stands (length funcs) assemble

  abbrev pub all : List (Assembled Instr)
  all = chosen.items

  made_same : map made_of all ≡ map made codes
  made_same =
      same_mapped made_of made all codes (chosen.as_many ∙ sym codes_count) (λ number one code_is here there.
      let stands = chosen.each number one here in
      let same : stands.code_is ≡ code_is = some_same (sym stands.code_here ∙ there) in
      subst (λ (other : Code Instr). made_of one ≡ made other) same
      (ap (λ (placed : List (Placed Instr)). record { code = map (λ placed. placed.instr) placed; depths = one.depths }) stands.placed_is
      ∙ ap (λ (depths : List ℕ). record { code = instructions_of stands.code_is; depths = depths }) stands.depths_are))

  parts_same : map (part_of build.files used) lines ≡ map (λ (one : Assembled Instr). one.part) all
  parts_same =
      sym (same_mapped (λ (one : Assembled Instr). one.part) (part_of build.files used) all lines (chosen.as_many ∙ sym lines_count)
      (λ number one told here there.
      let stands = chosen.each number one here in
      stands.part_is ∙ ap (part_of build.files used) (some_same (sym stands.told_here ∙ there))))

  -- Sizes and places

  sizes_fit : AllZip (HasSize kit) (code_sizes code) codes
  sizes_fit = have_sizes kit names fitted.addresses code codes linked.kept.placed.codes_are

  text_long : text_size code ≡ length (image_text kit growth codes)
  text_long = below.end (code_sizes code) codes sizes_fit

  place_is : (number : ℕ) → number < length codes → slice_index at number ≡ length (image_text kit growth (take number codes))
  place_is number less = below.place (code_sizes code) codes number sizes_fit less

  within : (number : ℕ) (one : Assembled Instr) → slice_get all number ≡ Some one → number < length codes
  within number one here = omega (arith, slice_get_within all number one here, chosen.as_many, codes_count)

  begins : (number : ℕ) (one : Assembled Instr) → slice_get all number ≡ Some one → one.part.entry ≡ slice_index at number
  begins number one here = let stands = chosen.each number one here in ap (λ (part : FuncPart). part.entry) stands.part_is ∙ stands.is.begins

  entries : (number : ℕ) (one : Assembled Instr) → slice_get all number ≡ Some one
      → one.part.entry ≡ length (text_of kit growth (take number all))
  entries number one here =
      let front : map made (take number codes) ≡ map made_of (take number all)
      = sym (take-map made number codes) ∙ ap (take number) (sym made_same) ∙ take-map made_of number all in
      begins number one here ∙ place_is number (within number one here)
      ∙ ap (λ (functions : List (Made Instr)). length (bytes_of (machine_with kit growth) functions)) front

  -- What surrounds the functions

  entry_there : (number : ℕ) → number < length funcs → entry_in bytes number ≡ elf.text_address + slice_index at number
  entry_there number less =
      let one = item_at all number (omega (arith, less, chosen.as_many)) in
      let inside : number < length table.funcs = omega (arith, less, lines_count, length-map lines (part_of build.files used)) in
      let part : slice_index_or table.funcs number one.0.part ≡ one.0.part
      = ap (λ (parts : List FuncPart). slice_index_or parts number one.0.part) parts_same
      ∙ get_or_from_slice_get (map (λ one. one.part) all) number one.0.part one.0.part
      (slice_get-map (λ one. one.part) all number ∙ ap (option_map (λ one. one.part)) one.1) in
      ap (λ (table : List ℕ). entry_of table number) linked.written.told.table
      ∙ (linked.kept.placed.fit.fits.table.told.funcs number one.0.part inside).entry
      ∙ ap (λ (part : FuncPart). elf.text_address + part.entry) part
      ∙ ap (λ (place : ℕ). elf.text_address + place) (begins number one.0 one.1)

  count : count_in bytes ≡ length at
  count =
      ap func_count linked.written.told.table ∙ linked.kept.placed.fit.fits.table.told.count
      ∙ length-map lines (part_of build.files used) ∙ lines_count ∙ sym at_count

  entries_same : map (λ (place : ℕ). elf.text_address + place) at ≡ map (entry_in bytes) (range_with_len 0 (count_in bytes))
  entries_same =
      subst (λ (n : ℕ). map (λ (place : ℕ). elf.text_address + place) at ≡ map (entry_in bytes) (range_with_len 0 n)) (sym count)
      (same_mapped (λ (place : ℕ). elf.text_address + place) (entry_in bytes) at (range_with_len 0 (length at))
      (sym (length-range_with_len 0 (length at))) (λ number place n here there.
      let less = slice_get_within at number place here in
      ap (λ (other : ℕ). elf.text_address + other) (sym (get_or_from_slice_get at number place 0 here))
      ∙ sym (entry_there number (omega (arith, less, at_count))) ∙ ap (entry_in bytes) (sym (range_at (length at) number n there less))))

  outside_told : elf.outside_in bytes ≡ build.outside
  outside_told = linked.written.told.outside ∙ linked.kept.placed.fit.fits.symbols.outside_are

  surrounds : Surrounds bytes (surroundings around)
  surrounds =
      let is = linked.kept.placed.around_is in
      record {
        text = ap range_of is.text
            ∙ ap (λ (len : ℕ). range_of (elf.text_address, elf.text_address + len)) (text_long ∙ ap length (sym linked.written.told.text));
        entries = is.entries ∙ entries_same;
        growth = subst (λ (outside : List (List ℕ × ℕ)). IsPermutation (growth_of outside) around.growth.items) (sym outside_told) is.growth;
        ordered = is.ordered.growth;
      }

  each : (number : ℕ) (one : Assembled Instr) → slice_get all number ≡ Some one
      → IsAssembled kit (length used) (surroundings around) around.symbols.items one
  each number one here =
      let stands = chosen.each number one here in
      record {
        of_unit = stands.of_unit;
        code = stands.placed;
        depths = stands.depths;
        entry = stands.site_is.entry ∙ ap (λ (place : ℕ). elf.text_address + place) (sym (begins number one here));
        told = subst (λ part. TellsLines kit (length used) one.laid part) (sym stands.part_is)
            (subst (λ laid. TellsLines kit (length used) laid (part_of build.files used stands.told)) (sym stands.laid_is)
            (below.tells build used stands.func (slice_index at number) stands.told
            (all_got (IsSound kit build) funcs number stands.func sound stands.func_here) stands.is
            (all_got (CanTell build.files used) lines number stands.told can_tell stands.told_here)));
        flow = subst (λ placed. IsFlowSound (function_of kit.set kit.shape kit.begins placed one.depths (surroundings around))) (sym stands.placed_is)
            (subst (λ depths. IsFlowSound (function_of kit.set kit.shape kit.begins stands.code_is.placed.items depths (surroundings around)))
            (sym stands.depths_are)
            (all_got (KeepsRules kit around) codes number stands.code_is linked.kept.flow stands.code_here));
        goals = subst (All (λ one. is_astray kit.set (range_of around.text) around.symbols.items one ≡ false)) (sym stands.placed_is)
            (all_got (KeepsGoals kit around) codes number stands.code_is linked.kept.goals stands.code_here);
      }

  pub is_assembly : IsAssembly kit growth table image all bytes
  is_assembly =
      let fits = linked.kept.placed.fit.fits in
      let entry = linked.written.entry_is in
      record {
        image_form = linked.written.form;
        image_told = linked.written.told;
        table_form = fits.table.form;
        table_told = fits.table.told;
        table_all = fits.table.all_told;
        number = refl;
        unit = refl;
        start = refl;
        long = text_long;
        funcs = parts_same;
        some = omega (arith, slice_get_within funcs linked.written.entry entry.func entry.here, chosen.as_many);
        text = ap (bytes_of (machine_with kit growth)) (sym made_same);
        entries = entries;
        before = subst (All (λ symbol. symbol.1 < elf.text_address)) (sym fits.symbols.outside_are)
            (All-weaker IsOutside (λ symbol. symbol.1 < elf.text_address) (λ symbol is. is.low) build.outside valid.outside);
        outside = around.symbols.items;
        same = subst (λ (outside : List (List ℕ × ℕ)). IsPermutation (addresses_of outside) around.symbols.items) (sym fits.symbols.outside_are)
            linked.kept.placed.around_is.symbols;
        around = surroundings around;
        surrounds = surrounds;
        each = each;
      }

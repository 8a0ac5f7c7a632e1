-- What is assembled is made of functions that break no rule.
use Rattle.std.specs.Prelude.{IsSome, not}
use Rattle.std.proofs.Common.{◌≡◌, ℕ, pos, zero, suc, ◌+◌, ◌<◌, ◌≤◌, ◌==◌, ◌&&◌, ◌||◌, Bool, false, List, [], ◌∷◌, All, length, map, take, Option, Some, None, refl, sym, ap, ◌∙◌, subst, arith, inl, inr}
use Rattle.std.specs.List.{list_any, slice_get}
use Rattle.std.specs.Prelude.{slice_index_or}
use Rattle.std.proofs.Math.Seq.{take-length}
use Rattle.std.proofs.lemmas.Bool.{cases_lt}
use Rattle.std.proofs.lemmas.List.{length-map, take-map}
use Rattle.std.proofs.lemmas.List.Elements.{All-cons, All-head, All-nil, All-tail}
use Rattle.std.proofs.lemmas.List.Sorted.{list_any-IsPermutation}
use Rattle.std.proofs.lemmas.Option.{slice_get-map, slice_get_within, get_or_from_slice_get}
use Rattle.pcvalue.specs.declared.run.Run.{Run}
use Rattle.pcvalue.specs.Cover.{Covers}
use Rattle.asm_target.specs.declared.body.Line.{Line}
use Rattle.asm_target.specs.declared.body.Placed.{Placed}
use Rattle.asm_target.specs.FlowRules.{IsFlowSound}
use Rattle.elf_image.specs.declared.parts.ImageParts.{ImageParts}
use Rattle.elf_image.specs.Contents.{outside_of, table_in, text_address}
use Rattle.flow_rules.specs.Placing.{function_of, is_listed}
use Rattle.image_rules.specs.Functions.{ends_from, HasTables, NamesFile, placed_from}
use Rattle.image_rules.specs.Machine.{Machine}
use Rattle.image_rules.specs.Parts.{count_in, entry_in, is_outside_symbol, offset_in}
use Rattle.image_rules.specs.Sound.{direct_goal, is_lost, is_unknown}
use Rattle.asm_target.specs.FlowFunction.{Range, is_among, is_within}
use Rattle.link_assembly.specs.Assembly.{Assembled, IsAssembly, made_of, machine_with}
use Rattle.link_code.specs.declared.site.Site.{Site}
use Rattle.link_code.specs.Astray as astray
use Rattle.link_code.specs.Astray.{is_astray}
use Rattle.link_code.specs.Code.{HaveDepths, IsCode, IsOfUnit}
use Rattle.link_laws.specs.Made.{IsMadeOf, IsWellMade, bytes_of}
use Rattle.link_spans.specs.Spans.{CoverCode, CoverLines, IsOfLine}
use Rattle.pclntab.specs.declared.parts.FuncPart.{FuncPart}
use Rattle.pclntab.specs.declared.parts.TableParts.{TableParts}
use Rattle.pclntab.specs.Func.{DepthsOver, entry_of, FilesOver, LinesOver, numbered_from}
use Rattle.pclntab.specs.Parts.{TellsStretches}
use Rattle.pclntab.specs.Places.{entry_offset, func_count, quantum, text_start, unit_field}
use Rattle.pclntab.specs.Words.{u32_at}
use Rattle.unit_listing.specs.declared.laid.Laid.{Laid}
use Rattle.unit_listing.specs.Kit.{Kit}
use Rattle.std.specs.Option.{option_map}
use Rattle.asm_target.proofs.PlaceLemmas.{item_at}
use Rattle.pclntab.specs.Table.{IsTable}

-- what the law on lines and instructions says of a target
pub record CoversCode {Instr : Type 0} (kit : Kit Instr) : Type 0 where
  pub depths : (site : Site) (laid : Laid Instr) (items : List (Placed Instr)) (depths : List ℕ) (runs : List Run)
      → IsOfUnit kit (length site.addresses.now) laid → (is : IsCode kit site laid items) → HaveDepths kit laid depths
      → CoverLines kit laid (λ line. line.depth) runs → Covers 0 (ends_from kit.set 0 is.code) (map pos depths) runs
  pub values : (site : Site) (laid : Laid Instr) (items : List (Placed Instr)) (value : Line Instr → ℕ) (runs : List Run)
      → IsOfUnit kit (length site.addresses.now) laid → (is : IsCode kit site laid items) → CoverLines kit laid value runs
      → CoverCode kit laid is.code value runs

some_same : {X : Type 0} {x y : X} → Some x ≡ Some y → x ≡ y
some_same h = cc

of_item : {X : Type 0} (P : X → Type 0) (xs : List X) (n : ℕ) (x : X) → All P xs → slice_get xs n ≡ Some x → P x
of_item P xs n x all here = subst P (get_or_from_slice_get xs n x x here) (all n x (slice_get_within xs n x here))

among : (one other : ℕ → Bool) → ((x : ℕ) → one x ≡ other x) → (goal : Option ℕ) → is_among one goal ≡ is_among other goal
among one other same (Some goal) = same goal
among one other same None = refl

-- the item that was mapped
unmapped : {X Y : Type 0} (f : X → Y) (xs : List X) (n : ℕ) (y : Y) → slice_get (map f xs) n ≡ Some y
    → (x : X) × (slice_get xs n ≡ Some x) × (y ≡ f x)
unmapped {X} {Y} f [] n y here = absurd (cc)
unmapped {X} {Y} f (x ∷ xs) zero y here = (x, refl, sym (some_same here))
unmapped {X} {Y} f (x ∷ xs) (suc n) y here = unmapped f xs n y here

module _ {Instr : Type 0} (kit : Kit Instr) (growth : Option ℕ) (covers : CoversCode kit) where
  instrs_placed : (at : ℕ) (code : List Instr) → map (λ placed. placed.instr) (placed_from kit.set at code) ≡ code
  instrs_placed at [] = refl
  instrs_placed at (i ∷ code) = ap (λ rest. i ∷ rest) (instrs_placed (at + length (kit.set.spelling i)) code)

  module _ (table : TableParts) (image : ImageParts) (all : List (Assembled Instr)) (bytes : List ℕ)
      (is : IsAssembly kit growth table image all bytes) where
    abbrev machine : Machine Instr
    machine = machine_with kit growth

    parts_long : length table.funcs ≡ length all
    parts_long = ap length is.funcs ∙ length-map all (λ one. one.part)

    count : count_in bytes ≡ length all
    count = ap func_count is.image_told.table ∙ is.table_told.count ∙ parts_long

    -- the table is given the part of a function
    part_there : (index : ℕ) (one : Assembled Instr) (d : FuncPart) → slice_get all index ≡ Some one
        → slice_index_or table.funcs index d ≡ one.part
    part_there index one d here =
        ap (λ funcs. slice_index_or funcs index d) is.funcs
        ∙ get_or_from_slice_get (map (λ one. one.part) all) index one.part d
        (slice_get-map (λ one. one.part) all index ∙ ap (option_map (λ one. one.part)) here)

    inside : (index : ℕ) (one : Assembled Instr) → slice_get all index ≡ Some one → index < length table.funcs
    inside index one here = (let within = slice_get_within all index one here in let long = parts_long in omega arith)

    offset_there : (index : ℕ) (one : Assembled Instr) → slice_get all index ≡ Some one → offset_in bytes index ≡ one.part.entry
    offset_there index one here =
        ap (λ table. entry_offset table index) is.image_told.table
        ∙ is.table_all.entries index one.part (inside index one here)
        ∙ ap (λ part. part.entry) (part_there index one one.part here)

    start : text_start (table_in bytes) ≡ text_address
    start = ap text_start is.image_told.table ∙ is.table_told.start ∙ is.start

    entry_there : (index : ℕ) (one : Assembled Instr) → slice_get all index ≡ Some one → entry_in bytes index ≡ one.site.entry
    entry_there index one here =
        let offset = offset_there index one here in
        let first = start in
        let entry = (is.each index one here).entry in
        omega arith

    entries : (index : ℕ) → index ≤ length all → offset_in bytes index ≡ length (bytes_of machine (take index (map made_of all)))
    entries index most =
        elim (cases_lt index (length all)) as (λ _. offset_in bytes index ≡ length (bytes_of machine (take index (map made_of all)))) [
          | inl less ↦
              (let there = item_at all index less in
              offset_there index there.0 there.1 ∙ is.entries index there.0 there.1
              ∙ ap (λ made. length (bytes_of machine made)) (sym (take-map made_of index all)))
          | inr last ↦
              (let same : index ≡ length all = omega arith in
              let long = parts_long in
              let whole : take index (map made_of all) ≡ map made_of all
              = ap (λ n. take n (map made_of all)) (same ∙ sym (length-map all made_of)) ∙ take-length (map made_of all) in
              ap (λ n. offset_in bytes n) (same ∙ sym long)
              ∙ ap (λ table'. entry_offset table' (length table.funcs)) is.image_told.table
              ∙ is.table_all.last ∙ is.long ∙ ap length is.text ∙ ap (λ made. length (bytes_of machine made)) (sym whole))
        ]

    -- a file of a line has a name in the table
    named : (index : ℕ) (one : Assembled Instr) (here : slice_get all index ≡ Some one) (number : ℕ) → number < length table.files
        → IsSome (numbered_from (table_in bytes) (u32_at (table_in bytes) (unit_field (table_in bytes) index)) (pos number))
    named index one here number less =
        let told = is.table_all.files index number (inside index one here) less in
        subst (λ found. IsSome found)
        (sym (ap (λ table. numbered_from table (u32_at table (unit_field table index)) (pos number)) is.image_told.table ∙ told)) refl

    all_named : (index : ℕ) (one : Assembled Instr) (here : slice_get all index ≡ Some one) (numbers : List ℕ)
        → All (λ number. number < length table.files) numbers
        → All (NamesFile machine bytes index) (map pos numbers)
    all_named index one here [] less = All-nil (NamesFile machine bytes index)
    all_named index one here (number ∷ numbers) less =
        All-cons (NamesFile machine bytes index) (pos number) (map pos numbers)
        (named index one here number (All-head (λ (n : ℕ). n < length table.files) number numbers less))
        (all_named index one here numbers (All-tail (λ (n : ℕ). n < length table.files) number numbers less))

    -- values of lines that all are below a bound
    below : (laid : Laid Instr) (value : Line Instr → ℕ) (bound : ℕ) (values : List ℕ) → All (λ line. value line < bound) laid.body.code
        → All (IsOfLine kit laid value) values → All (λ n. n < bound) values
    below laid value bound [] less among = All-nil (λ (n : ℕ). n < bound)
    below laid value bound (v ∷ values) less among =
        let one = All-head (IsOfLine kit laid value) v values among in
        All-cons (λ (n : ℕ). n < bound) v values
        (subst (λ (n : ℕ). n < bound) (sym one.is) (of_item (λ line. value line < bound) laid.body.code one.number one.line less one.here))
        (below laid value bound values less (All-tail (IsOfLine kit laid value) v values among))

    tables : (index : ℕ) (one : Assembled Instr) (here : slice_get all index ≡ Some one)
        → HasTables machine bytes index (is.each index one here).code.code one.depths
    tables index one here =
        let well = is.each index one here in
        let told : TellsStretches image.table index one.part
        = subst (λ part. TellsStretches image.table index part) (part_there index one one.part here)
        (is.table_all.stretches index one.part (inside index one here)) in
        let same : table_in bytes ≡ image.table = is.image_told.table in
        let ends = ends_from kit.set 0 well.code.code in
        let line = covers.values one.site one.laid one.placed (λ line. line.pos.line) one.part.line well.of_unit well.code well.told.line in
        let file = covers.values one.site one.laid one.placed (λ line. well.told.index line.pos.file) one.part.file well.of_unit well.code
        well.told.file in
        record {
          depth = subst (λ table. DepthsOver table index ends (map pos one.depths)) (sym same)
              (told.depths ends (map pos one.depths)
              (covers.depths one.site one.laid one.placed one.depths one.part.depth well.of_unit well.code well.depths well.told.depth));
          lines = line.values;
          line = subst (λ table. LinesOver table index ends (map pos line.values)) (sym same)
              (told.lines ends (map pos line.values) line.covers);
          files = map pos file.values;
          file = subst (λ table. FilesOver table index ends (map pos file.values)) (sym same)
              (told.files ends (map pos file.values) file.covers);
          named = all_named index one here file.values
              (below one.laid (λ line. well.told.index line.pos.file) (length table.files) file.values well.told.known file.among);
        }

    -- an instruction that isn't astray isn't lost
    outside_same : (address : ℕ) → is_outside_symbol bytes address ≡ is_listed is.outside address
    outside_same address =
        ap (list_any (λ symbol. symbol.1 == address)) is.image_told.outside
        ∙ of_map address (outside_of image.symbols)
        ∙ list_any-IsPermutation (λ listed. listed == address) (map (λ symbol. symbol.1) (outside_of image.symbols)) is.outside is.same
      where
        of_map : (address : ℕ) (symbols : List (List ℕ × ℕ))
            → list_any (λ symbol. symbol.1 == address) symbols ≡ list_any (λ listed. listed == address) (map (λ symbol. symbol.1) symbols)
        of_map address [] = refl
        of_map address (symbol ∷ symbols) = ap (λ rest. (symbol.1 == address) || rest) (of_map address symbols)

    unknown_same : (address : ℕ) → is_unknown machine bytes address ≡ astray.is_unknown is.around.text is.outside address
    unknown_same address =
        ap (λ (range : Range). not (is_within range address) && not (is_outside_symbol bytes address)) (sym is.surrounds.text)
        ∙ ap (λ (found : Bool). not (is_within is.around.text address) && not found) (outside_same address)

    lost_same : (one : Placed Instr) → is_lost machine bytes one ≡ is_astray kit.set is.around.text is.outside one
    lost_same one =
        among (is_unknown machine bytes) (astray.is_unknown is.around.text is.outside) unknown_same
        (direct_goal (kit.set.effect one.instr one.at).next)

    none_lost : (code : List (Placed Instr)) → All (λ one. is_astray kit.set is.around.text is.outside one ≡ false) code
        → All (λ one. is_lost machine bytes one ≡ false) code
    none_lost [] kept = All-nil (λ (one : Placed Instr). is_lost machine bytes one ≡ false)
    none_lost (one ∷ code) kept =
        All-cons (λ (one : Placed Instr). is_lost machine bytes one ≡ false) one code
        (lost_same one ∙ All-head (λ (one : Placed Instr). is_astray kit.set is.around.text is.outside one ≡ false) one code kept)
        (none_lost code (All-tail (λ (one : Placed Instr). is_astray kit.set is.around.text is.outside one ≡ false) one code kept))

    well_made : (index : ℕ) (one : Assembled Instr) → slice_get all index ≡ Some one → IsWellMade machine bytes is.around index (made_of one)
    well_made index one here =
        let well = is.each index one here in
        let code : map (λ placed. placed.instr) one.placed ≡ well.code.code
        = ap (map (λ placed. placed.instr)) well.code.placed ∙ instrs_placed one.site.entry well.code.code in
        let placed : one.placed ≡ placed_from kit.set (entry_in bytes index) (map (λ placed. placed.instr) one.placed)
        = well.code.placed ∙ ap (λ at. placed_from kit.set at well.code.code) (sym (entry_there index one here))
        ∙ ap (placed_from kit.set (entry_in bytes index)) (sym code) in
        record {
          fit = subst (All kit.fits) (sym code) well.code.fit;
          some = subst (λ code. 0 < length code) (sym code) well.code.some;
          tables = subst (λ code. HasTables machine bytes index code one.depths) (sym code) (tables index one here);
          flow = subst (λ placed. IsFlowSound (function_of kit.set kit.shape kit.begins placed one.depths is.around)) placed well.flow;
          goals = subst (All (λ one. is_lost machine bytes one ≡ false)) placed (none_lost one.placed well.goals);
        }

    pub is_made : IsMadeOf machine bytes (map made_of all)
    is_made = record {
      image = is.image_form;
      table = subst IsTable (sym is.image_told.table) is.table_form;
      number = is.image_told.machine ∙ is.number;
      quanta = ap quantum is.image_told.table ∙ is.table_all.unit ∙ is.unit;
      start = start;
      some = rw (length-map all made_of) is.some;
      count = count ∙ sym (length-map all made_of);
      text = is.image_told.text ∙ is.text;
      entries = λ index most. entries index (rw (sym (length-map all made_of)) most);
      outside = subst (All (λ symbol. symbol.1 < text_address)) (sym is.image_told.outside) is.before;
      around = is.around;
      surrounds = is.surrounds;
      each = λ index made here.
          (let one = unmapped made_of all index made here in
          subst (IsWellMade machine bytes is.around index) (sym one.2) (well_made index one.0 one.1));
    }

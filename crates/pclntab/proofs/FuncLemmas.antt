-- What the loops that write functions and files know.
use Rattle.std.proofs.Common.{◌≡◌, ℕ, suc, ◌+◌, ◌*◌, ◌^◌, ◌<◌, ◌≤◌, true, List, [], ◌∷◌, ◌++◌, length, drop, get_or, refl, sym, ◌∙◌, ap, arith, add-one, append_assoc, append-nil, length-append}
use Rattle.std.specs.List.{flat_map}
use Rattle.std.proofs.lemmas.Grind.{flat_map-append}
use Rattle.std.proofs.lemmas.List.{drop_all}
use Rattle.std.proofs.Math.Seq.{drop-cons}
use Rattle.byteorder.specs.Endian.{little_bytes}
use Rattle.pcvalue.specs.Writing.{table_bytes}
use Rattle.pclntab.specs.declared.parts.TableParts.{TableParts}
use Rattle.pclntab.specs.declared.parts.FuncPart.{FuncPart}
use Rattle.pclntab.specs.Written.{text_bytes, texts, starts, words, has_table, kept, all_kept, tables_of, kept_of, stored, length_before, offset_of, rows, record_bytes, records, pairs, first_record, names_of}
use Rattle.pclntab.specs.Writing.{FitWords}
use Rattle.pclntab.proofs.StockLemmas.{has_kept, still_all_kept, before_all_kept, all_kept-append, all_kept_longer}

-- files

-- the names of the files below an index are written, and so are their places
pub record WroteFiles (files : List (List ℕ)) (index : ℕ) (unit_bytes name_bytes : List ℕ) : Type 0 where
  pub names : name_bytes ++ texts (drop index files) ≡ texts files
  pub units : unit_bytes ++ words (starts (length name_bytes) (drop index files)) ≡ words (starts 0 files)

pub no_files : (files : List (List ℕ)) → WroteFiles files 0 [] []
no_files files = record { names = refl; units = refl }

pub next_file : (files : List (List ℕ)) (index : ℕ) (d : List ℕ) (unit_bytes name_bytes units names : List ℕ)
    → index < length files → WroteFiles files index unit_bytes name_bytes
    → units ≡ unit_bytes ++ little_bytes 4 (length name_bytes) → names ≡ name_bytes ++ text_bytes (get_or files index d)
    → WroteFiles files (index + 1) units names
unfolding texts words starts
next_file files index d unit_bytes name_bytes units names inside wrote units_are names_are =
    let rest : drop index files ≡ get_or files index d ∷ drop (suc index) files = drop-cons files index d inside in
    let more_names : name_bytes ++ (text_bytes (get_or files index d) ++ flat_map text_bytes (drop (suc index) files)) ≡ flat_map text_bytes files
    = rw rest at wrote.names in
    let more_units : unit_bytes ++ (little_bytes 4 (length name_bytes)
    ++ flat_map (little_bytes 4) (starts (length name_bytes + length (text_bytes (get_or files index d))) (drop (suc index) files)))
    ≡ flat_map (little_bytes 4) (starts 0 files)
    = rw rest at wrote.units in
    let long : length names ≡ length name_bytes + length (text_bytes (get_or files index d))
    = ap length names_are ∙ length-append name_bytes (text_bytes (get_or files index d)) in
    rw add-one (record {
      names = rw names_are
          (append_assoc name_bytes (text_bytes (get_or files index d)) (flat_map text_bytes (drop (suc index) files)) ∙ more_names);
      units = rw (long, units_are)
          (append_assoc unit_bytes (little_bytes 4 (length name_bytes))
          (flat_map (little_bytes 4) (starts (length name_bytes + length (text_bytes (get_or files index d))) (drop (suc index) files)))
          ∙ more_units);
    })

pub files_short : (files : List (List ℕ)) (index : ℕ) (unit_bytes name_bytes : List ℕ)
    → length (texts files) < 2 ^ 32 → WroteFiles files index unit_bytes name_bytes → length name_bytes < 2 ^ 32
files_short files index unit_bytes name_bytes short wrote =
    omega (arith, ap length wrote.names, length-append name_bytes (texts (drop index files)))

pub all_names : (files : List (List ℕ)) (index : ℕ) (unit_bytes name_bytes : List ℕ)
    → length files ≤ index → WroteFiles files index unit_bytes name_bytes → name_bytes ≡ texts files
unfolding texts
all_names files index unit_bytes name_bytes past wrote =
    sym (append-nil name_bytes) ∙ (rw (drop_all index files past) at wrote.names)

pub all_units : (files : List (List ℕ)) (index : ℕ) (unit_bytes name_bytes : List ℕ)
    → length files ≤ index → WroteFiles files index unit_bytes name_bytes → unit_bytes ≡ words (starts 0 files)
unfolding words starts
all_units files index unit_bytes name_bytes past wrote =
    sym (append-nil unit_bytes) ∙ (rw (drop_all index files past) at wrote.units)

-- functions

-- the functions below an index are written, and the next record has this place
pub record WroteFuncs (parts : TableParts) (index place : ℕ) (name_bytes : List ℕ) (stock : List (List ℕ)) (pair_bytes record_part : List ℕ) : Type 0 where
  pub place_is : place ≡ first_record parts + 44 * index
  pub names_told : name_bytes ++ texts (names_of (drop index parts.funcs)) ≡ texts (names_of parts.funcs)
  pub tables_told : all_kept stock (flat_map (tables_of parts.quantum) (drop index parts.funcs)) ≡ kept_of parts
  pub pairs_told : pair_bytes ++ words (pairs place (drop index parts.funcs)) ≡ words (pairs (first_record parts) parts.funcs)
  pub records_told : record_part ++ flat_map (record_bytes parts.quantum (kept_of parts)) (rows (length name_bytes) (drop index parts.funcs)) ≡ records parts

pub no_funcs : (parts : TableParts) (place : ℕ) → place ≡ first_record parts → WroteFuncs parts 0 place [] [] [] []
unfolding kept_of records
no_funcs parts place is =
    record { place_is = is ∙ omega arith; names_told = refl; tables_told = refl; pairs_told = rw is refl; records_told = refl }

-- a table that is kept has its offset among all
same_offset : (tables others all : List (List ℕ)) (table : List ℕ)
    → has_table tables table ≡ true → all_kept tables others ≡ all → offset_of all table ≡ offset_of tables table
same_offset tables others all table there is = ap (λ n. 1 + n) (ap (λ ts. length_before ts table) (sym is) ∙ before_all_kept tables others table there)

pub has_depth : (tables : List (List ℕ)) (quantum : ℕ) (func : FuncPart) → has_table (all_kept tables (tables_of quantum func)) (table_bytes quantum func.depth) ≡ true
unfolding all_kept
has_depth tables quantum func =
    still_all_kept (kept tables (table_bytes quantum func.depth)) (table_bytes quantum func.file ∷ table_bytes quantum func.line ∷ [])
    (table_bytes quantum func.depth) (has_kept tables (table_bytes quantum func.depth))

pub has_file : (tables : List (List ℕ)) (quantum : ℕ) (func : FuncPart) → has_table (all_kept tables (tables_of quantum func)) (table_bytes quantum func.file) ≡ true
unfolding all_kept
has_file tables quantum func =
    still_all_kept (kept (kept tables (table_bytes quantum func.depth)) (table_bytes quantum func.file)) (table_bytes quantum func.line ∷ [])
    (table_bytes quantum func.file) (has_kept (kept tables (table_bytes quantum func.depth)) (table_bytes quantum func.file))

pub has_line : (tables : List (List ℕ)) (quantum : ℕ) (func : FuncPart) → has_table (all_kept tables (tables_of quantum func)) (table_bytes quantum func.line) ≡ true
unfolding all_kept
has_line tables quantum func =
    has_kept (kept (kept tables (table_bytes quantum func.depth)) (table_bytes quantum func.file)) (table_bytes quantum func.line)

-- so its record is the one that all tables give
same_record : (quantum name : ℕ) (tables others all : List (List ℕ)) (func : FuncPart)
    → all_kept (all_kept tables (tables_of quantum func)) others ≡ all
    → record_bytes quantum all (record { name = name; func = func }) ≡ record_bytes quantum (all_kept tables (tables_of quantum func)) (record { name = name; func = func })
unfolding record_bytes
same_record quantum name tables others all func is =
    let depth : offset_of all (table_bytes quantum func.depth) ≡ offset_of (all_kept tables (tables_of quantum func)) (table_bytes quantum func.depth)
    = same_offset (all_kept tables (tables_of quantum func)) others all (table_bytes quantum func.depth) (has_depth tables quantum func) is in
    let file : offset_of all (table_bytes quantum func.file) ≡ offset_of (all_kept tables (tables_of quantum func)) (table_bytes quantum func.file)
    = same_offset (all_kept tables (tables_of quantum func)) others all (table_bytes quantum func.file) (has_file tables quantum func) is in
    let line : offset_of all (table_bytes quantum func.line) ≡ offset_of (all_kept tables (tables_of quantum func)) (table_bytes quantum func.line)
    = same_offset (all_kept tables (tables_of quantum func)) others all (table_bytes quantum func.line) (has_line tables quantum func) is in
    cc

-- what the tables from an index on are kept as
tables_next : (parts : TableParts) (index place : ℕ) (d : FuncPart) (name_bytes : List ℕ) (tables : List (List ℕ)) (pair_bytes record_part : List ℕ)
    → index < length parts.funcs → WroteFuncs parts index place name_bytes tables pair_bytes record_part
    → all_kept (all_kept tables (tables_of parts.quantum (get_or parts.funcs index d))) (flat_map (tables_of parts.quantum) (drop (suc index) parts.funcs)) ≡ kept_of parts
tables_next parts index place d name_bytes tables pair_bytes record_part inside wrote =
    let rest : drop index parts.funcs ≡ get_or parts.funcs index d ∷ drop (suc index) parts.funcs = drop-cons parts.funcs index d inside in
    sym (all_kept-append tables (tables_of parts.quantum (get_or parts.funcs index d)) (flat_map (tables_of parts.quantum) (drop (suc index) parts.funcs)))
    ∙ (rw rest at wrote.tables_told)

pub names_short : (parts : TableParts) (index place : ℕ) (name_bytes : List ℕ) (tables : List (List ℕ)) (pair_bytes record_part : List ℕ)
    → FitWords parts → WroteFuncs parts index place name_bytes tables pair_bytes record_part → length name_bytes < 2 ^ 32
names_short parts index place name_bytes tables pair_bytes record_part fit wrote =
    let short : length (texts (names_of parts.funcs)) < 2 ^ 32 = fit.names in
    omega (arith, ap length wrote.names_told, length-append name_bytes (texts (names_of (drop index parts.funcs))))

pub tables_short : (parts : TableParts) (index place : ℕ) (d : FuncPart) (name_bytes : List ℕ) (tables : List (List ℕ)) (pair_bytes record_part : List ℕ)
    → FitWords parts → index < length parts.funcs → WroteFuncs parts index place name_bytes tables pair_bytes record_part
    → length (stored (all_kept tables (tables_of parts.quantum (get_or parts.funcs index d)))) < 2 ^ 32
tables_short parts index place d name_bytes tables pair_bytes record_part fit inside wrote =
    let short : length (stored (kept_of parts)) < 2 ^ 32 = fit.pcs in
    let longer = all_kept_longer (all_kept tables (tables_of parts.quantum (get_or parts.funcs index d))) (flat_map (tables_of parts.quantum) (drop (suc index) parts.funcs)) in
    let same = tables_next parts index place d name_bytes tables pair_bytes record_part inside wrote in
    omega (arith, longer, ap (λ ts. length (stored ts)) same)

next_place : (index place first : ℕ) → place ≡ first + 44 * index → place + 44 ≡ first + 44 * suc index
next_place index place first is = omega arith

pub next_func : (parts : TableParts) (index place : ℕ) (d : FuncPart)
    (name_bytes name_next : List ℕ) (stock stock_next : List (List ℕ)) (pair_bytes pair_next record_part record_next : List ℕ)
    → index < length parts.funcs → WroteFuncs parts index place name_bytes stock pair_bytes record_part
    → name_next ≡ name_bytes ++ text_bytes (get_or parts.funcs index d).name
    → stock_next ≡ all_kept stock (tables_of parts.quantum (get_or parts.funcs index d))
    → pair_next ≡ pair_bytes ++ words ((get_or parts.funcs index d).entry ∷ place ∷ [])
    → record_next ≡ record_part ++ record_bytes parts.quantum stock_next (record { name = length name_bytes; func = get_or parts.funcs index d })
    → WroteFuncs parts (index + 1) (place + 44) name_next stock_next pair_next record_next
unfolding texts words rows pairs
next_func parts index place d name_bytes name_next stock stock_next pair_bytes pair_next record_part record_next inside wrote names_are stock_is pairs_are records_are =
    let rest : drop index parts.funcs ≡ get_or parts.funcs index d ∷ drop (suc index) parts.funcs = drop-cons parts.funcs index d inside in
    let kept_next = tables_next parts index place d name_bytes stock pair_bytes record_part inside wrote in
    let same = same_record parts.quantum (length name_bytes) stock (flat_map (tables_of parts.quantum) (drop (suc index) parts.funcs)) (kept_of parts) (get_or parts.funcs index d) kept_next in
    let long : length name_next ≡ length name_bytes + length (text_bytes (get_or parts.funcs index d).name)
    = ap length names_are ∙ length-append name_bytes (text_bytes (get_or parts.funcs index d).name) in
    let more_pairs : pair_bytes ++ (flat_map (little_bytes 4) ((get_or parts.funcs index d).entry ∷ place ∷ [])
    ++ flat_map (little_bytes 4) (pairs (place + 44) (drop (suc index) parts.funcs)))
    ≡ flat_map (little_bytes 4) (pairs (first_record parts) parts.funcs)
    = ap (λ bytes. pair_bytes ++ bytes)
    (sym (flat_map-append (little_bytes 4) ((get_or parts.funcs index d).entry ∷ place ∷ []) (pairs (place + 44) (drop (suc index) parts.funcs))))
    ∙ (rw rest at wrote.pairs_told) in
    let more_records : record_part ++ (record_bytes parts.quantum (kept_of parts) (record { name = length name_bytes; func = get_or parts.funcs index d })
    ++ flat_map (record_bytes parts.quantum (kept_of parts)) (rows (length name_bytes + length (text_bytes (get_or parts.funcs index d).name)) (drop (suc index) parts.funcs)))
    ≡ records parts
    = rw rest at wrote.records_told in
    let last : record_bytes parts.quantum stock_next (record { name = length name_bytes; func = get_or parts.funcs index d })
    ≡ record_bytes parts.quantum (kept_of parts) (record { name = length name_bytes; func = get_or parts.funcs index d })
    = ap (λ tables. record_bytes parts.quantum tables (record { name = length name_bytes; func = get_or parts.funcs index d })) stock_is ∙ sym same in
    rw add-one (record {
      place_is = next_place index place (first_record parts) wrote.place_is;
      names_told = rw names_are
          (append_assoc name_bytes (text_bytes (get_or parts.funcs index d).name) (flat_map text_bytes (names_of (drop (suc index) parts.funcs)))
          ∙ (rw rest at wrote.names_told));
      tables_told = rw stock_is kept_next;
      pairs_told = rw pairs_are
          (append_assoc pair_bytes (flat_map (little_bytes 4) ((get_or parts.funcs index d).entry ∷ place ∷ []))
          (flat_map (little_bytes 4) (pairs (place + 44) (drop (suc index) parts.funcs)))
          ∙ more_pairs);
      records_told = rw (long, records_are, last)
          (append_assoc record_part (record_bytes parts.quantum (kept_of parts) (record { name = length name_bytes; func = get_or parts.funcs index d }))
          (flat_map (record_bytes parts.quantum (kept_of parts)) (rows (length name_bytes + length (text_bytes (get_or parts.funcs index d).name)) (drop (suc index) parts.funcs)))
          ∙ more_records);
    })

-- behind the last function all are written
pub record WroteAll (parts : TableParts) (name_bytes : List ℕ) (stock : List (List ℕ)) (pair_bytes record_part : List ℕ) : Type 0 where
  pub names_are : name_bytes ≡ texts (names_of parts.funcs)
  pub stock_is : stock ≡ kept_of parts
  pub pairs_are : pair_bytes ≡ words (pairs (first_record parts) parts.funcs)
  pub records_are : record_part ≡ records parts

pub all_funcs : (parts : TableParts) (index place : ℕ) (name_bytes : List ℕ) (stock : List (List ℕ)) (pair_bytes record_part : List ℕ)
    → length parts.funcs ≤ index → WroteFuncs parts index place name_bytes stock pair_bytes record_part
    → WroteAll parts name_bytes stock pair_bytes record_part
unfolding texts words rows pairs all_kept
all_funcs parts index place name_bytes stock pair_bytes record_part past wrote =
    let none : drop index parts.funcs ≡ [] = drop_all index parts.funcs past in
    record {
      names_are = sym (append-nil name_bytes) ∙ (rw none at wrote.names_told);
      stock_is = rw none at wrote.tables_told;
      pairs_are = sym (append-nil pair_bytes) ∙ (rw none at wrote.pairs_told);
      records_are = sym (append-nil record_part) ∙ (rw none at wrote.records_told);
    }

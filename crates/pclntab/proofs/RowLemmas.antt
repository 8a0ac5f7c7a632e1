-- What the pairs and the records of a written table say.
use Rattle.std.proofs.Common.{◌≡◌, ℕ, zero, suc, ◌+◌, ◌*◌, ◌^◌, ◌<◌, ◌≤◌, List, [], ◌∷◌, ◌++◌, length, take, get_or, slice_index, Some, refl, sym, ◌∙◌, ap, arith, length-append}
use Rattle.std.specs.List.{flat_map}
use Rattle.std.proofs.lemmas.List.{length-take, get_or_append_left}
use Rattle.std.proofs.Math.Seq.{get_or-append_seam}
use Rattle.byte_layout.specs.Stands.{Stands}
use Rattle.byte_layout.proofs.StandsLemmas.{stands_front, stands_back, stands_each, stands_moved, stands_byte}
use Rattle.pclntab.specs.declared.parts.TableParts.{TableParts}
use Rattle.pclntab.specs.declared.parts.FuncPart.{FuncPart}
use Rattle.pclntab.specs.Words.{u32_at}
use Rattle.pclntab.specs.Texts.{text_at}
use Rattle.pclntab.specs.Written.{text_bytes, texts, starts, words, kept_of, Row, rows, fields, record_bytes, records, pairs, first_record, funcs_bytes, names_of, written}
use Rattle.pclntab.specs.Parts.{AreParts, to_zero}
use Rattle.pclntab.proofs.LengthLemmas.{length-words, length-pairs, length-rows, length-flat_records, length-pair_words, length-funcs_bytes, part_within, words_fit}
use Rattle.pclntab.proofs.ReadLemmas.{word_read, text_read}
use Rattle.pclntab.proofs.HeaderLemmas.{start_of, part_stands}

-- pairs

abbrev pair_list : TableParts → List ℕ
pair_list parts = pairs (first_record parts) parts.funcs ++ parts.text_len ∷ []

pairs_stand : (parts : TableParts) → Stands (written parts) (start_of parts 4) (words (pair_list parts))
unfolding funcs_bytes
pairs_stand parts = stands_front (written parts) (start_of parts 4) (words (pair_list parts)) (records parts) (part_stands parts 4 (omega arith))

records_stand : (parts : TableParts) → Stands (written parts) (start_of parts 4 + first_record parts) (records parts)
unfolding funcs_bytes
records_stand parts =
    stands_moved (written parts) (start_of parts 4 + length (words (pair_list parts))) (start_of parts 4 + first_record parts) (records parts)
    (omega (arith, length-pair_words parts))
    (stands_back (written parts) (start_of parts 4) (words (pair_list parts)) (records parts) (part_stands parts 4 (omega arith)))

entry_there : (at : ℕ) (funcs : List FuncPart) (index : ℕ) (d : FuncPart) → index < length funcs
    → get_or (pairs at funcs) (2 * index) 0 ≡ (get_or funcs index d).entry
unfolding pairs
entry_there at [] index d inside = absurd (omega arith)
entry_there at (func ∷ funcs) zero d inside = refl
entry_there at (func ∷ funcs) (suc index) d inside =
    let twice : 2 * suc index ≡ suc (suc (2 * index)) = omega arith in
    rw twice (entry_there (at + 44) funcs index d (omega arith))

place_there : (at : ℕ) (funcs : List FuncPart) (index : ℕ) → index < length funcs
    → get_or (pairs at funcs) (2 * index + 1) 0 ≡ at + 44 * index
unfolding pairs
place_there at [] index inside = absurd (omega arith)
place_there at (func ∷ funcs) zero inside = omega arith
place_there at (func ∷ funcs) (suc index) inside =
    let twice : 2 * suc index + 1 ≡ suc (suc (2 * index + 1)) = omega arith in
    let next : at + 44 + 44 * index ≡ at + 44 * suc index = omega arith in
    rw twice (place_there (at + 44) funcs index (omega arith) ∙ next)

pub entry_read : (parts : TableParts) (index : ℕ) (d : FuncPart) → AreParts parts → index < length parts.funcs
    → u32_at (written parts) (start_of parts 4 + 8 * index) ≡ (get_or parts.funcs index d).entry
entry_read parts index d are inside =
    let many : length (pairs (first_record parts) parts.funcs) ≡ 2 * length parts.funcs = length-pairs (first_record parts) parts.funcs in
    let fits : (get_or parts.funcs index d).entry < 2 ^ 32 = (are.funcs index d inside).entry in
    word_read (written parts) (start_of parts 4) (pair_list parts) (2 * index) (start_of parts 4 + 8 * index) (get_or parts.funcs index d).entry
    (pairs_stand parts) (omega (arith, length-append (pairs (first_record parts) parts.funcs) (parts.text_len ∷ [])))
    (get_or_append_left (pairs (first_record parts) parts.funcs) (parts.text_len ∷ []) 0 (2 * index) (omega arith)
    ∙ entry_there (first_record parts) parts.funcs index d inside)
    fits (omega arith)

pub place_read : (parts : TableParts) (index : ℕ) → AreParts parts → index < length parts.funcs
    → u32_at (written parts) (start_of parts 4 + 8 * index + 4) ≡ first_record parts + 44 * index
place_read parts index are inside =
    let many : length (pairs (first_record parts) parts.funcs) ≡ 2 * length parts.funcs = length-pairs (first_record parts) parts.funcs in
    let fit : first_record parts + 44 * length parts.funcs < 2 ^ 32 = (words_fit parts are).funcs in
    word_read (written parts) (start_of parts 4) (pair_list parts) (2 * index + 1) (start_of parts 4 + 8 * index + 4) (first_record parts + 44 * index)
    (pairs_stand parts) (omega (arith, length-append (pairs (first_record parts) parts.funcs) (parts.text_len ∷ [])))
    (get_or_append_left (pairs (first_record parts) parts.funcs) (parts.text_len ∷ []) 0 (2 * index + 1) (omega arith)
    ∙ place_there (first_record parts) parts.funcs index inside)
    (omega arith) (omega arith)

pub end_read : (parts : TableParts) → AreParts parts
    → u32_at (written parts) (start_of parts 4 + 8 * length parts.funcs) ≡ parts.text_len
end_read parts are =
    let many : length (pairs (first_record parts) parts.funcs) ≡ 2 * length parts.funcs = length-pairs (first_record parts) parts.funcs in
    let fits : parts.text_len < 2 ^ 32 = are.text_len in
    word_read (written parts) (start_of parts 4) (pair_list parts) (length (pairs (first_record parts) parts.funcs)) (start_of parts 4 + 8 * length parts.funcs) parts.text_len
    (pairs_stand parts) (omega (arith, length-append (pairs (first_record parts) parts.funcs) (parts.text_len ∷ [])))
    (get_or-append_seam (pairs (first_record parts) parts.funcs) parts.text_len [] 0)
    fits (omega arith)

-- names

name_there : (funcs : List FuncPart) (index : ℕ) (d : FuncPart) → index < length funcs
    → get_or (names_of funcs) index [] ≡ (get_or funcs index d).name
name_there [] index d inside = absurd (omega arith)
name_there (func ∷ funcs) zero d inside = refl
name_there (func ∷ funcs) (suc index) d inside = name_there funcs index d (omega arith)

length-names : (funcs : List FuncPart) → length (names_of funcs) ≡ length funcs
length-names [] = refl
length-names (func ∷ funcs) = ap suc (length-names funcs)

-- where a function's name begins
abbrev pub name_start : TableParts → ℕ → ℕ
name_start parts index = length (texts (take index (names_of parts.funcs)))

pub name_read : (parts : TableParts) (index : ℕ) (d : FuncPart) → index < length parts.funcs
    → Stands (written parts) (start_of parts 0 + name_start parts index) (text_bytes (get_or parts.funcs index d).name)
unfolding texts
name_read parts index d inside =
    let one : Stands (written parts) (start_of parts 0 + length (flat_map text_bytes (take index (names_of parts.funcs)))) (text_bytes (get_or (names_of parts.funcs) index []))
    = stands_each text_bytes (written parts) (start_of parts 0) (names_of parts.funcs) index [] (part_stands parts 0 (omega arith))
    (omega (arith, length-names parts.funcs)) in
    rw (name_there parts.funcs index d inside) at one

texts_take : (list : List (List ℕ)) (index : ℕ) → length (texts (take index list)) ≤ length (texts list)
unfolding texts
texts_take [] zero = omega arith
texts_take [] (suc index) = omega arith
texts_take (text ∷ list) zero = omega arith
texts_take (text ∷ list) (suc index) =
    let rest : length (flat_map text_bytes (take index list)) ≤ length (flat_map text_bytes list) = texts_take list index in
    omega (arith, length-append (text_bytes text) (flat_map text_bytes (take index list)), length-append (text_bytes text) (flat_map text_bytes list))

pub name_start_within : (parts : TableParts) (index : ℕ) → name_start parts index ≤ length (texts (names_of parts.funcs))
name_start_within parts index = texts_take (names_of parts.funcs) index

-- records

abbrev row_at : TableParts → ℕ → FuncPart → Row
row_at parts index d = record { name = name_start parts index; func = get_or parts.funcs index d }

row_there : (at : ℕ) (funcs : List FuncPart) (index : ℕ) (d : FuncPart) → index < length funcs
    → get_or (rows at funcs) index (record { name = 0; func = d }) ≡ (record { name = at + length (texts (take index (names_of funcs))); func = get_or funcs index d })
unfolding rows texts
row_there at [] index d inside = absurd (omega arith)
row_there at (func ∷ funcs) zero d inside = let same : at ≡ at + 0 = omega arith in ap (λ n. record { name = n; func = func }) same
row_there at (func ∷ funcs) (suc index) d inside =
    let same : at + length (text_bytes func.name) + length (flat_map text_bytes (take index (names_of funcs)))
    ≡ at + length (text_bytes func.name ++ flat_map text_bytes (take index (names_of funcs)))
    = omega (arith, length-append (text_bytes func.name) (flat_map text_bytes (take index (names_of funcs)))) in
    row_there (at + length (text_bytes func.name)) funcs index d (omega arith)
    ∙ ap (λ n. record { name = n; func = get_or funcs index d }) same

-- the place of a record
abbrev pub record_start : TableParts → ℕ → ℕ
record_start parts index = start_of parts 4 + (first_record parts + 44 * index)

record_stands : (parts : TableParts) (index : ℕ) (d : FuncPart) → index < length parts.funcs
    → Stands (written parts) (record_start parts index) (record_bytes parts.quantum (kept_of parts) (row_at parts index d))
unfolding records
record_stands parts index d inside =
    let one : Stands (written parts) (start_of parts 4 + first_record parts + length (flat_map (record_bytes parts.quantum (kept_of parts)) (take index (rows 0 parts.funcs))))
    (record_bytes parts.quantum (kept_of parts) (get_or (rows 0 parts.funcs) index (record { name = 0; func = d })))
    = stands_each (record_bytes parts.quantum (kept_of parts)) (written parts) (start_of parts 4 + first_record parts) (rows 0 parts.funcs) index (record { name = 0; func = d })
    (records_stand parts) (omega (arith, length-rows 0 parts.funcs)) in
    let is : get_or (rows 0 parts.funcs) index (record { name = 0; func = d }) ≡ row_at parts index d
    = row_there 0 parts.funcs index d inside
    ∙ (let zero_less : 0 + name_start parts index ≡ name_start parts index = omega arith in ap (λ n. record { name = n; func = get_or parts.funcs index d }) zero_less) in
    stands_moved (written parts) (start_of parts 4 + first_record parts + length (flat_map (record_bytes parts.quantum (kept_of parts)) (take index (rows 0 parts.funcs))))
    (record_start parts index) (record_bytes parts.quantum (kept_of parts) (row_at parts index d))
    (omega (arith, length-flat_records parts.quantum (kept_of parts) (take index (rows 0 parts.funcs)), length-take index (rows 0 parts.funcs), length-rows 0 parts.funcs))
    (rw is at one)

-- each of its fields
pub field_read : (parts : TableParts) (index : ℕ) (d : FuncPart) (field place number : ℕ) → index < length parts.funcs → field < 10
    → get_or (fields parts.quantum (kept_of parts) (row_at parts index d)) field 0 ≡ number → number < 2 ^ 32
    → record_start parts index + 4 * field ≡ place → u32_at (written parts) place ≡ number
unfolding record_bytes
field_read parts index d field place number inside known is fits same =
    word_read (written parts) (record_start parts index) (fields parts.quantum (kept_of parts) (row_at parts index d)) field place number
    (stands_front (written parts) (record_start parts index) (words (fields parts.quantum (kept_of parts) (row_at parts index d))) (0 ∷ (get_or parts.funcs index d).flags ∷ 0 ∷ 0 ∷ [])
    (record_stands parts index d inside))
    known is fits same

tail_stands : (parts : TableParts) (index : ℕ) (d : FuncPart) → index < length parts.funcs
    → Stands (written parts) (record_start parts index + 40) (0 ∷ (get_or parts.funcs index d).flags ∷ 0 ∷ 0 ∷ [])
unfolding record_bytes
tail_stands parts index d inside =
    stands_moved (written parts) (record_start parts index + length (words (fields parts.quantum (kept_of parts) (row_at parts index d)))) (record_start parts index + 40)
    (0 ∷ (get_or parts.funcs index d).flags ∷ 0 ∷ 0 ∷ [])
    (omega (arith, length-words (fields parts.quantum (kept_of parts) (row_at parts index d))))
    (stands_back (written parts) (record_start parts index) (words (fields parts.quantum (kept_of parts) (row_at parts index d))) (0 ∷ (get_or parts.funcs index d).flags ∷ 0 ∷ 0 ∷ [])
    (record_stands parts index d inside))

pub flags_read : (parts : TableParts) (index : ℕ) (d : FuncPart) (place : ℕ) → index < length parts.funcs
    → record_start parts index + 41 ≡ place → slice_index (written parts) place ≡ (get_or parts.funcs index d).flags
flags_read parts index d place inside same =
    let at : record_start parts index + 40 + 1 ≡ place = omega arith in
    ap (λ n. slice_index (written parts) n) (sym at)
    ∙ stands_byte (written parts) (0 ∷ (get_or parts.funcs index d).flags ∷ 0 ∷ 0 ∷ []) (record_start parts index + 40) 1 (tail_stands parts index d inside)

pub data_read : (parts : TableParts) (index : ℕ) (d : FuncPart) (place : ℕ) → index < length parts.funcs
    → record_start parts index + 43 ≡ place → slice_index (written parts) place ≡ 0
data_read parts index d place inside same =
    let at : record_start parts index + 40 + 3 ≡ place = omega arith in
    ap (λ n. slice_index (written parts) n) (sym at)
    ∙ stands_byte (written parts) (0 ∷ (get_or parts.funcs index d).flags ∷ 0 ∷ 0 ∷ []) (record_start parts index + 40) 3 (tail_stands parts index d inside)

-- a record ends within the table
pub record_within : (parts : TableParts) (index : ℕ) → index < length parts.funcs → record_start parts index + 44 ≤ length (written parts)
record_within parts index inside =
    let within : start_of parts 4 + length (funcs_bytes parts) ≤ length (written parts) = part_within parts 4 (omega arith) in
    omega (arith, length-funcs_bytes parts)

-- files

start_there : (at : ℕ) (files : List (List ℕ)) (index : ℕ) → index < length files
    → get_or (starts at files) index 0 ≡ at + length (texts (take index files))
unfolding starts texts
start_there at [] index inside = absurd (omega arith)
start_there at (file ∷ files) zero inside = omega arith
start_there at (file ∷ files) (suc index) inside =
    let same : at + length (text_bytes file) + length (flat_map text_bytes (take index files)) ≡ at + length (text_bytes file ++ flat_map text_bytes (take index files))
    = omega (arith, length-append (text_bytes file) (flat_map text_bytes (take index files))) in
    start_there (at + length (text_bytes file)) files index (omega arith) ∙ same

pub length-starts : (at : ℕ) (files : List (List ℕ)) → length (starts at files) ≡ length files
unfolding starts
length-starts at [] = refl
length-starts at (file ∷ files) = ap suc (length-starts (at + length (text_bytes file)) files)

pub unit_read : (parts : TableParts) (index place : ℕ) → AreParts parts → index < length parts.files
    → start_of parts 1 + 4 * index ≡ place → u32_at (written parts) place ≡ length (texts (take index parts.files))
unit_read parts index place are inside same =
    let fit : length (texts parts.files) < 2 ^ 32 = (words_fit parts are).files in
    let within : length (texts (take index parts.files)) ≤ length (texts parts.files) = texts_take parts.files index in
    let is : get_or (starts 0 parts.files) index 0 ≡ 0 + length (texts (take index parts.files)) = start_there 0 parts.files index inside in
    word_read (written parts) (start_of parts 1) (starts 0 parts.files) index place (length (texts (take index parts.files)))
    (part_stands parts 1 (omega arith)) (omega (arith, length-starts 0 parts.files)) (omega arith) (omega arith) same

pub unit_within : (parts : TableParts) (index : ℕ) → index < length parts.files → start_of parts 1 + 4 * index + 4 ≤ length (written parts)
unit_within parts index inside =
    let within : start_of parts 1 + length (words (starts 0 parts.files)) ≤ length (written parts) = part_within parts 1 (omega arith) in
    omega (arith, length-words (starts 0 parts.files), length-starts 0 parts.files)

pub file_read : (parts : TableParts) (index : ℕ) → index < length parts.files
    → text_at (written parts) (start_of parts 2 + length (texts (take index parts.files))) ≡ Some (to_zero (get_or parts.files index []))
unfolding texts
file_read parts index inside =
    text_read (written parts) (start_of parts 2 + length (flat_map text_bytes (take index parts.files))) (get_or parts.files index [])
    (stands_each text_bytes (written parts) (start_of parts 2) parts.files index [] (part_stands parts 2 (omega arith)) inside)

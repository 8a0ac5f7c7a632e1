-- How long the parts of a written table are.
use Rattle.std.proofs.Common.{◌≡◌, ℕ, suc, ◌+◌, ◌*◌, ◌^◌, ◌<◌, ◌≤◌, List, [], ◌∷◌, ◌++◌, length, get_or, refl, sym, ◌∙◌, ap, arith, append_assoc, append-nil, length-append}
use Rattle.std.specs.List.{flat_map}
use Rattle.std.proofs.lemmas.Grind.{flat_map-append}
use Rattle.byteorder.specs.Endian.{little_bytes}
use Rattle.byteorder.specs.Numbers.{length-bytes_low_first}
use Rattle.byte_layout.specs.Joined.{aligned, places, ends}
use Rattle.byte_layout.proofs.JoinedLemmas.{aligned-le, length-joined, joined_within}
use Rattle.pclntab.specs.declared.parts.TableParts.{TableParts}
use Rattle.pclntab.specs.declared.parts.FuncPart.{FuncPart}
use Rattle.pclntab.specs.Written.{text_bytes, texts, starts, words, longs, kept_of, stored, Row, rows, fields, record_bytes, records, pairs, first_record, funcs_bytes, names_of, tables, header_over, written_over, written}
use Rattle.pclntab.specs.Parts.{AreParts}
use Rattle.pclntab.specs.Writing.{FitWords, HasRuns}

pub length-words : (numbers : List ℕ) → length (words numbers) ≡ 4 * length numbers
unfolding words
length-words [] = refl
length-words (number ∷ numbers) =
    let rest : length (flat_map (little_bytes 4) numbers) ≡ 4 * length numbers = length-words numbers in
    omega (arith, length-append (little_bytes 4 number) (flat_map (little_bytes 4) numbers), length-bytes_low_first 0 4 number)

pub length-longs : (numbers : List ℕ) → length (longs numbers) ≡ 8 * length numbers
unfolding longs
length-longs [] = refl
length-longs (number ∷ numbers) =
    let rest : length (flat_map (little_bytes 8) numbers) ≡ 8 * length numbers = length-longs numbers in
    omega (arith, length-append (little_bytes 8 number) (flat_map (little_bytes 8) numbers), length-bytes_low_first 0 8 number)

pub length-places : (unit at : ℕ) (parts : List (List ℕ)) → length (places unit at parts) ≡ length parts
unfolding places
length-places unit at [] = refl
length-places unit at (part ∷ parts) =
    let rest : length (places unit (aligned unit at + length part) parts) ≡ length parts = length-places unit (aligned unit at + length part) parts in
    omega arith

pub length-header : (parts : TableParts) (five : List (List ℕ)) → length five ≡ 5 → length (header_over parts five) ≡ 72
unfolding header_over
length-header parts five count =
    omega (
      arith,
      length-append (little_bytes 4 4294967281) ((0 ∷ 0 ∷ parts.quantum ∷ 8 ∷ []) ++ longs (length parts.funcs ∷ length parts.files ∷ parts.text_start ∷ places 8 72 five)),
      length-bytes_low_first 0 4 4294967281,
      length-longs (length parts.funcs ∷ length parts.files ∷ parts.text_start ∷ places 8 72 five),
      length-places 8 72 five,
    )

pub length-pairs : (at : ℕ) (funcs : List FuncPart) → length (pairs at funcs) ≡ 2 * length funcs
unfolding pairs
length-pairs at [] = refl
length-pairs at (func ∷ funcs) =
    let rest : length (pairs (at + 44) funcs) ≡ 2 * length funcs = length-pairs (at + 44) funcs in
    omega arith

pub length-rows : (at : ℕ) (funcs : List FuncPart) → length (rows at funcs) ≡ length funcs
unfolding rows
length-rows at [] = refl
length-rows at (func ∷ funcs) = ap suc (length-rows (at + length (text_bytes func.name)) funcs)

pub length-record : (quantum : ℕ) (kept : List (List ℕ)) (row : Row) → length (record_bytes quantum kept row) ≡ 44
unfolding record_bytes
length-record quantum kept row =
    omega (arith, length-append (words (fields quantum kept row)) (0 ∷ row.func.flags ∷ 0 ∷ 0 ∷ []), length-words (fields quantum kept row))

pub length-flat_records : (quantum : ℕ) (kept : List (List ℕ)) (list : List Row) → length (flat_map (record_bytes quantum kept) list) ≡ 44 * length list
length-flat_records quantum kept [] = refl
length-flat_records quantum kept (row ∷ list) =
    let rest : length (flat_map (record_bytes quantum kept) list) ≡ 44 * length list = length-flat_records quantum kept list in
    omega (arith, length-append (record_bytes quantum kept row) (flat_map (record_bytes quantum kept) list), length-record quantum kept row)

pub length-pair_words : (parts : TableParts) → length (words (pairs (first_record parts) parts.funcs ++ parts.text_len ∷ [])) ≡ first_record parts
length-pair_words parts =
    omega (
      arith,
      length-words (pairs (first_record parts) parts.funcs ++ parts.text_len ∷ []),
      length-append (pairs (first_record parts) parts.funcs) (parts.text_len ∷ []),
      length-pairs (first_record parts) parts.funcs,
    )

pub length-funcs_bytes : (parts : TableParts) → length (funcs_bytes parts) ≡ first_record parts + 44 * length parts.funcs
unfolding funcs_bytes records
length-funcs_bytes parts =
    omega (
      arith,
      length-append (words (pairs (first_record parts) parts.funcs ++ parts.text_len ∷ [])) (flat_map (record_bytes parts.quantum (kept_of parts)) (rows 0 parts.funcs)),
      length-pair_words parts,
      length-flat_records parts.quantum (kept_of parts) (rows 0 parts.funcs),
      length-rows 0 parts.funcs,
    )

-- a part ends within the table
pub part_within : (parts : TableParts) (index : ℕ) → index < 5
    → get_or (places 8 72 (tables parts)) index 0 + length (get_or (tables parts) index []) ≤ length (written parts)
unfolding written written_over
part_within parts index inside =
    joined_within 8 72 (header_over parts (tables parts)) (tables parts) index (length-header parts (tables parts) refl) inside

pub words_fit : (parts : TableParts) → AreParts parts → FitWords parts
words_fit parts are =
    let short : length (written parts) < 2 ^ 32 = are.short in
    let names : get_or (places 8 72 (tables parts)) 0 0 + length (texts (names_of parts.funcs)) ≤ length (written parts) = part_within parts 0 (omega arith) in
    let files : get_or (places 8 72 (tables parts)) 2 0 + length (texts parts.files) ≤ length (written parts) = part_within parts 2 (omega arith) in
    let pcs : get_or (places 8 72 (tables parts)) 3 0 + length (stored (kept_of parts)) ≤ length (written parts) = part_within parts 3 (omega arith) in
    let funcs : get_or (places 8 72 (tables parts)) 4 0 + length (funcs_bytes parts) ≤ length (written parts) = part_within parts 4 (omega arith) in
    record {
      names = omega arith;
      files = omega arith;
      pcs = omega arith;
      funcs = omega (arith, length-funcs_bytes parts);
    }

pub runs_are : (parts : TableParts) → AreParts parts → (index : ℕ) (d : FuncPart) → index < length parts.funcs → HasRuns parts.quantum (get_or parts.funcs index d)
runs_are parts are index d inside =
    let part = are.funcs index d inside in
    record { depth = part.depth; file = part.file; line = part.line }

-- all lengths together
unfoldable pub sum_lengths : List (List ℕ) → ℕ
sum_lengths [] = 0
sum_lengths (part ∷ parts) = length part + sum_lengths parts

pub ends_sum : (unit at : ℕ) (parts : List (List ℕ)) → at + sum_lengths parts ≤ ends unit at parts
unfolding ends sum_lengths
ends_sum unit at [] = omega arith
ends_sum unit at (part ∷ parts) =
    let rest : aligned unit at + length part + sum_lengths parts ≤ ends unit (aligned unit at + length part) parts
    = ends_sum unit (aligned unit at + length part) parts in
    omega (arith, aligned-le unit at)

pub five_short : (parts : TableParts) (one two three four five : List ℕ) → AreParts parts
    → (one ∷ two ∷ three ∷ four ∷ five ∷ []) ≡ tables parts
    → length one + length two + length three + length four + length five < 2 ^ 32
unfolding written written_over sum_lengths
five_short parts one two three four five are same =
    let short : length (written parts) < 2 ^ 32 = are.short in
    let long : length (written parts) ≡ ends 8 72 (tables parts)
    = length-joined 8 72 (header_over parts (tables parts)) (tables parts) (length-header parts (tables parts) refl) in
    let sum : 72 + sum_lengths (one ∷ two ∷ three ∷ four ∷ five ∷ []) ≤ ends 8 72 (one ∷ two ∷ three ∷ four ∷ five ∷ []) = ends_sum 8 72 _ in
    omega (arith, ap (ends 8 72) same)

pub words_push : (numbers : List ℕ) (number : ℕ) → words (numbers ++ number ∷ []) ≡ words numbers ++ little_bytes 4 number
unfolding words
words_push numbers number = flat_map-append (little_bytes 4) numbers (number ∷ []) ∙ ap (λ rest. flat_map (little_bytes 4) numbers ++ rest) (append-nil (little_bytes 4 number))

-- the five tables as they were written
pub five_is : (parts : TableParts) (one two three four five : List ℕ)
    → one ≡ texts (names_of parts.funcs) → two ≡ words (starts 0 parts.files) → three ≡ texts parts.files
    → four ≡ stored (kept_of parts) → five ≡ funcs_bytes parts
    → (one ∷ two ∷ three ∷ four ∷ five ∷ []) ≡ tables parts
five_is parts one two three four five a b c d e = cc

pub funcs_told : (parts : TableParts) (pair_bytes word_bytes record_part all : List ℕ)
    → pair_bytes ≡ words (pairs (first_record parts) parts.funcs) → word_bytes ≡ pair_bytes ++ little_bytes 4 parts.text_len
    → record_part ≡ records parts → all ≡ word_bytes ++ record_part → all ≡ funcs_bytes parts
unfolding funcs_bytes
funcs_told parts pair_bytes word_bytes record_part all pairs_are words_are records_are is =
    is
    ∙ ap (λ bytes. bytes ++ record_part)
    (words_are ∙ ap (λ bytes. bytes ++ little_bytes 4 parts.text_len) pairs_are ∙ sym (words_push (pairs (first_record parts) parts.funcs) parts.text_len))
    ∙ ap (λ bytes. words (pairs (first_record parts) parts.funcs ++ parts.text_len ∷ []) ++ bytes) records_are

pub regrouped : (old a b c d e f : List ℕ) → (((((old ++ a) ++ b) ++ c) ++ d) ++ e) ++ f ≡ old ++ (a ++ (b ++ (c ++ (d ++ (e ++ f)))))
regrouped old a b c d e f = simp append_assoc

-- How long a written table is at least and at most.
use Rattle.std.proofs.Common.{◌≡◌, ℕ, zero, suc, ◌+◌, ◌-◌, ◌*◌, ◌/◌, ◌<◌, ◌≤◌, ◌-ℤ◌, List, [], ◌∷◌, ◌++◌, length, inl, inr, refl, arith, length-append}
use Rattle.std.specs.List.{flat_map, sum_by}
use Rattle.std.proofs.lemmas.Bool.{cases_Bool, cases_lt, lt-ltb, le-ltb}
use Rattle.std.proofs.lemmas.List.Sums.{sum_by-cons}
use Rattle.byte_layout.specs.Joined.{aligned, ends}
use Rattle.byte_layout.proofs.JoinedLemmas.{aligned_near, length-joined}
use Rattle.pcvalue.specs.declared.run.Run.{Run}
use Rattle.pcvalue.specs.Writing.{number_bytes_within, number_bytes, zigzag_code, no_run, run_bytes, bytes_behind, table_bytes}
use Rattle.pclntab.specs.declared.parts.TableParts.{TableParts}
use Rattle.pclntab.specs.declared.parts.FuncPart.{FuncPart}
use Rattle.pclntab.specs.Written.{text_bytes, texts, starts, has_table, kept, all_kept, tables_of, kept_of, stored, names_of, tables, header_over, written_over, written, run_count, length_bound}
use Rattle.pclntab.proofs.StockLemmas.{kept_there, kept_new, stored_push}
use Rattle.pclntab.proofs.LengthLemmas.{length-words, length-header, length-funcs_bytes, sum_lengths, ends_sum}
use Rattle.pclntab.proofs.RowLemmas.{length-starts}

-- pc-value tables

number_most : (most number : ℕ) → length (number_bytes_within most number) ≤ most
unfolding number_bytes_within
number_most zero number = omega arith
number_most (suc most) number =
    elim (cases_lt number 128) [
      | inl small ↦ rw (lt-ltb _ _ small) (omega arith)
      | inr large ↦
          let rest : length (number_bytes_within most (number / 128)) ≤ most = number_most most (number / 128) in
          rw (le-ltb _ _ large) (omega arith)
    ]

run_most : (quantum : ℕ) (last run : Run) → length (run_bytes quantum last run) ≤ 10
unfolding run_bytes number_bytes
run_most quantum last run =
    let code = zigzag_code (run.value -ℤ last.value) in
    let quanta = (run.end - last.end) / quantum in
    omega (
      arith,
      length-append (number_bytes_within 5 code) (number_bytes_within 5 quanta),
      number_most 5 code,
      number_most 5 quanta,
    )

behind_most : (quantum : ℕ) (last : Run) (runs : List Run) → length (bytes_behind quantum last runs) ≤ 10 * length runs + 1
unfolding bytes_behind
behind_most quantum last [] = omega arith
behind_most quantum last (run ∷ runs) =
    let rest : length (bytes_behind quantum run runs) ≤ 10 * length runs + 1 = behind_most quantum run runs in
    omega (arith, length-append (run_bytes quantum last run) (bytes_behind quantum run runs), run_most quantum last run)

table_most : (quantum : ℕ) (runs : List Run) → length (table_bytes quantum runs) ≤ 10 * length runs + 1
unfolding table_bytes
table_most quantum runs = behind_most quantum no_run runs

-- what is kept of them

kept_most : (stock : List (List ℕ)) (table : List ℕ) → length (stored (kept stock table)) ≤ length (stored stock) + length table
kept_most stock table =
    elim (cases_Bool (has_table stock table)) [
      | inl there ↦ rw (kept_there stock table there) (omega arith)
      | inr absent ↦ rw (kept_new stock table absent, stored_push stock table) (omega (arith, length-append (stored stock) table))
    ]

all_kept_most : (stock others : List (List ℕ)) → length (stored (all_kept stock others)) ≤ length (stored stock) + sum_lengths others
unfolding all_kept sum_lengths
all_kept_most stock [] = omega arith
all_kept_most stock (next ∷ others) =
    let one : length (stored (kept stock next)) ≤ length (stored stock) + length next = kept_most stock next in
    let rest : length (stored (all_kept (kept stock next) others)) ≤ length (stored (kept stock next)) + sum_lengths others
    = all_kept_most (kept stock next) others in
    omega arith

tables_most : (quantum : ℕ) (funcs : List FuncPart)
    → sum_lengths (flat_map (tables_of quantum) funcs) ≤ 3 * length funcs + 10 * sum_by run_count funcs
unfolding sum_lengths
tables_most quantum [] = omega arith
tables_most quantum (func ∷ funcs) =
    let rest : sum_lengths (flat_map (tables_of quantum) funcs) ≤ 3 * length funcs + 10 * sum_by run_count funcs
    = tables_most quantum funcs in
    omega (
      arith,
      table_most quantum func.depth,
      table_most quantum func.file,
      table_most quantum func.line,
      sum_by-cons run_count func funcs,
    )

one_zero : length (stored []) ≡ 1
unfolding stored
one_zero = refl

stored_most : (parts : TableParts) → length (stored (kept_of parts)) ≤ 1 + 3 * length parts.funcs + 10 * sum_by run_count parts.funcs
unfolding kept_of
stored_most parts =
    let all : length (stored (all_kept [] (flat_map (tables_of parts.quantum) parts.funcs)))
    ≤ length (stored []) + sum_lengths (flat_map (tables_of parts.quantum) parts.funcs)
    = all_kept_most [] (flat_map (tables_of parts.quantum) parts.funcs) in
    omega (arith, one_zero, tables_most parts.quantum parts.funcs)

-- all tables

ends_most : (at : ℕ) (parts : List (List ℕ)) → ends 8 at parts ≤ at + sum_lengths parts + 7 * length parts
unfolding ends sum_lengths
ends_most at [] = omega arith
ends_most at (part ∷ parts) =
    let near : aligned 8 at < at + 8 = aligned_near 8 at (omega arith) in
    let rest : ends 8 (aligned 8 at + length part) parts ≤ aligned 8 at + length part + sum_lengths parts + 7 * length parts
    = ends_most (aligned 8 at + length part) parts in
    omega arith

length-written : (parts : TableParts) → length (written parts) ≡ ends 8 72 (tables parts)
unfolding written written_over
length-written parts =
    length-joined 8 72 (header_over parts (tables parts)) (tables parts) (length-header parts (tables parts) refl)

pub written_least : (parts : TableParts)
    → length (texts (names_of parts.funcs)) + length (texts parts.files) ≤ length (written parts)
unfolding sum_lengths
written_least parts =
    let sum : 72 + sum_lengths (tables parts) ≤ ends 8 72 (tables parts) = ends_sum 8 72 (tables parts) in
    omega (arith, length-written parts)

pub written_most : (parts : TableParts) → length (written parts) ≤ length_bound parts
unfolding sum_lengths
written_most parts =
    let most : ends 8 72 (tables parts) ≤ 72 + sum_lengths (tables parts) + 7 * length (tables parts) = ends_most 72 (tables parts) in
    omega (
      arith,
      length-written parts,
      length-words (starts 0 parts.files),
      length-starts 0 parts.files,
      stored_most parts,
      length-funcs_bytes parts,
    )

pub texts_sum : (names : List (List ℕ)) → length (texts names) ≡ sum_by (λ name. length name + 1) names
unfolding texts text_bytes
texts_sum [] = refl
texts_sum (name ∷ names) =
    let rest : length (flat_map text_bytes names) ≡ sum_by (λ one. length one + 1) names = texts_sum names in
    omega (
      arith,
      length-append (name ++ 0 ∷ []) (flat_map text_bytes names),
      length-append name (0 ∷ []),
      sum_by-cons (λ (one : List ℕ). length one + 1) name names,
    )

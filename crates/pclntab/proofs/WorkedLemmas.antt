-- The tables of the worked parts, each computed, and that the parts can be written.
use Rattle.std.proofs.Common.{◌≡◌, ℕ, zero, suc, pos, ◌<◌, List, [], ◌∷◌, length, get_or, inl, refl, ap, arith, rules}
use Rattle.std.specs.Prelude.{codes}
use Rattle.std.proofs.lemmas.Bool.{lt-ltb}
use Rattle.pcvalue.specs.declared.run.Run.{Run}
use Rattle.pclntab.specs.declared.parts.FuncPart.{FuncPart}
use Rattle.byte_layout.specs.Joined.{joined, padded, places, aligned}
use Rattle.pcvalue.specs.Writing.{AreRuns, number_bytes, number_bytes_within, run_bytes, bytes_behind, table_bytes}
use Rattle.pclntab.specs.Written.{text_bytes, texts, starts, words, longs, kept, all_kept, kept_of, stored, length_before, rows, record_bytes, records, pairs, funcs_bytes, header_over, written_over, written}
use Rattle.pclntab.specs.Parts.{AreParts, IsFuncPart, IsFile, EntriesRise}
use Rattle.pclntab.specs.Worked.{worked_table, worked_lines, worked_func, worked_parts, small_func, shared_parts}

worked_written : written worked_parts ≡ worked_table
unfolding written written_over joined padded places aligned header_over longs texts text_bytes words starts kept kept_of all_kept stored length_before rows record_bytes records pairs funcs_bytes table_bytes bytes_behind run_bytes number_bytes number_bytes_within
worked_written = refl

-- equal tables stand once: the depths and files of both functions, then the lines of each
shared_tables : stored (kept_of shared_parts) ≡ 0 ∷ 2 ∷ 1 ∷ 0 ∷ 8 ∷ 1 ∷ 0 ∷ 12 ∷ 1 ∷ 0 ∷ []
unfolding kept kept_of all_kept stored table_bytes bytes_behind run_bytes number_bytes number_bytes_within
shared_tables = refl

shared_long : length (written shared_parts) ≡ 228
unfolding written written_over joined padded places aligned header_over longs texts text_bytes words starts kept kept_of all_kept stored length_before rows record_bytes records pairs funcs_bytes table_bytes bytes_behind run_bytes number_bytes number_bytes_within
shared_long = refl

-- values that differ
apart : (m n : ℕ) → (m ≡ n → ⊥) → pos m ≡ pos n → ⊥
apart m n differ same = differ (let is : m ≡ n = cc in is)

first_file : (end index : ℕ) (d : Run) → index < 1 → IsFile 1 (get_or (record { end = end; value = pos 0 } ∷ []) index d)
first_file end zero d inside = (0, refl, omega arith)
first_file end (suc index) d inside = absurd (omega arith)

worked_run : AreRuns 1 (record { end = 23; value = pos 0 } ∷ [])
worked_run = (record { longer = omega arith; short = omega arith; whole = refl; value = refl; change = refl }, tt)

worked_lines_are : AreRuns 1 worked_lines
worked_lines_are = (
  record { longer = omega arith; short = omega arith; whole = refl; value = refl; change = refl },
  (
    record { longer = omega arith; short = omega arith; whole = refl; value = refl; change = refl },
    apart 4 3 (λ same. omega arith),
    (
      record { longer = omega arith; short = omega arith; whole = refl; value = refl; change = refl },
      apart 5 4 (λ same. omega arith),
      (
        record { longer = omega arith; short = omega arith; whole = refl; value = refl; change = refl },
        apart 7 5 (λ same. omega arith),
        (
          record { longer = omega arith; short = omega arith; whole = refl; value = refl; change = refl },
          apart 8 7 (λ same. omega arith),
          (
            record { longer = omega arith; short = omega arith; whole = refl; value = refl; change = refl },
            apart 9 8 (λ same. omega arith),
            tt,
          ),
        ),
      ),
    ),
  ),
)

worked_func_is : IsFuncPart 1 1 worked_func
worked_func_is = record {
  entry = omega arith;
  args = search rules;
  flags = omega arith;
  start_line = search rules;
  depth = worked_run;
  file = worked_run;
  line = worked_lines_are;
  indices = first_file 23;
}

worked_funcs_are : (index : ℕ) (d : FuncPart) → index < 1 → IsFuncPart 1 1 (get_or (worked_func ∷ []) index d)
worked_funcs_are zero d inside = worked_func_is
worked_funcs_are (suc index) d inside = absurd (omega arith)

pub worked_are : AreParts worked_parts
worked_are = record {
  quantum = inl refl;
  text_start = omega arith;
  text_len = omega arith;
  order = λ index d inside. absurd (omega arith);
  funcs = worked_funcs_are;
  short = omega (arith, ap length worked_written);
}

small_run : (value : ℕ) → value < 1000 → AreRuns 1 (record { end = 1; value = pos value } ∷ [])
small_run value small = (
  record {
    longer = omega arith;
    short = omega arith;
    whole = refl;
    value = lt-ltb _ _ (omega arith);
    change = lt-ltb _ _ (omega arith);
  },
  tt,
)

small_func_is : (name : List ℕ) (entry start_line line : ℕ) → entry < 1000 → start_line < 1000 → line < 1000
    → IsFuncPart 1 1 (small_func name entry start_line line)
small_func_is name entry start_line line a b c = record {
  entry = omega arith;
  args = search rules;
  flags = omega arith;
  start_line = search rules;
  depth = small_run 0 (omega arith);
  file = small_run 0 (omega arith);
  line = small_run line c;
  indices = first_file 1;
}

shared_funcs_are : (index : ℕ) (d : FuncPart) → index < 2 → IsFuncPart 1 1 (get_or shared_parts.funcs index d)
shared_funcs_are zero d inside = small_func_is (codes "main.a") 0 2 3 (omega arith) (omega arith) (omega arith)
shared_funcs_are (suc zero) d inside = small_func_is (codes "main.b") 16 4 5 (omega arith) (omega arith) (omega arith)
shared_funcs_are (suc (suc index)) d inside = absurd (omega arith)

shared_order : EntriesRise shared_parts.funcs
shared_order zero d inside = omega arith
shared_order (suc index) d inside = absurd (omega arith)

pub shared_are : AreParts shared_parts
shared_are = record {
  quantum = inl refl;
  text_start = omega arith;
  text_len = omega arith;
  order = shared_order;
  funcs = shared_funcs_are;
  short = omega (arith, shared_long);
}

-- How long a function table is, by the names in it and the runs of its functions.
use Rattle.std.proofs.Common.{◌≡◌, ℕ, ◌+◌, ◌*◌, ◌≤◌, ◌<◌, ◌^◌, List, [], ◌∷◌, length, min, refl, arith}
use Rattle.std.specs.Prelude.{sum_by}
use Rattle.std.proofs.lemmas.List.Sums.{sum_by-cons}
use Rattle.link_tables.specs.Table.{AreReady}
use Rattle.pclntab.specs.declared.parts.FuncPart.{FuncPart}
use Rattle.pclntab.specs.declared.parts.TableParts.{TableParts}
use Rattle.pclntab.specs.Parts.{AreParts}
use Rattle.pclntab.specs.Written.{length_bound, names_of, run_count, texts, written}

named_sum : (funcs : List FuncPart) → sum_by (λ name. length name + 1) (names_of funcs) ≡ sum_by (λ func. length func.name + 1) funcs
named_sum [] = refl
named_sum (func ∷ funcs) =
    omega (
      arith,
      named_sum funcs,
      sum_by-cons (λ (name : List ℕ). length name + 1) func.name (names_of funcs),
      sum_by-cons (λ (one : FuncPart). length one.name + 1) func funcs,
    )

count-le-sum : (names : List (List ℕ)) → length names ≤ sum_by (λ name. length name + 1) names
count-le-sum [] = omega arith
count-le-sum (name ∷ names) = omega (arith, count-le-sum names, sum_by-cons (λ (one : List ℕ). length one + 1) name names)

-- by what is known of the length of what is written
module _ (parts : TableParts) (texts_sum : (names : List (List ℕ)) → length (texts names) ≡ sum_by (λ name. length name + 1) names) where
  abbrev pub all_names : ℕ
  all_names = sum_by (λ func. length func.name + 1) parts.funcs + sum_by (λ file. length file + 1) parts.files

  texts_are : length (texts (names_of parts.funcs)) + length (texts parts.files) ≡ all_names
  texts_are = omega (arith, texts_sum (names_of parts.funcs), named_sum parts.funcs, texts_sum parts.files)

  -- with names that are too long alone
  pub long_written : length (texts (names_of parts.funcs)) + length (texts parts.files) ≤ length (written parts)
      → 2 ^ 26 < min all_names (2 ^ 32) → 2 ^ 26 < length (written parts)
  long_written least long = omega (arith, texts_are, least, long)

  pub short_written : length (written parts) ≤ length_bound parts → min all_names (2 ^ 32) ≤ 2 ^ 26 → length parts.funcs ≤ 65536
      → sum_by run_count parts.funcs ≤ 3 * 2 ^ 24 → length (written parts) < 2 ^ 32
  short_written most short few runs =
      let names : all_names ≤ 2 ^ 26 = omega (arith, short) in
      omega (arith, texts_are, most, names, few, runs, count-le-sum parts.files)

pub are_parts : (parts : TableParts) → AreReady parts → length (written parts) < 2 ^ 32 → AreParts parts
are_parts parts ready short =
    record {
      quantum = ready.quantum;
      text_start = ready.text_start;
      text_len = ready.text_len;
      order = ready.order;
      funcs = ready.funcs;
      short = short;
    }

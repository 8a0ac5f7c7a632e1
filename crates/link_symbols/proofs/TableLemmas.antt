-- What the symbols of an image tell: their number, their names, what lies outside, and an entry.
use Rattle.std.proofs.Common.{◌≡◌, ℕ, zero, suc, ◌+◌, ◌*◌, Bool, true, false, not, nat_eq, List, [], ◌∷◌, ◌++◌, length, map, filter, Some, inl, inr, refl, ◌∙◌, ap, arith, length-append}
use Rattle.std.specs.Prelude.{slice_get, sum_by}
use Rattle.std.specs.List.{list_any}
use Rattle.std.proofs.lemmas.Bool.{cases_Bool, eq-eqb, or_left, or_right}
use Rattle.std.proofs.lemmas.List.{length-map}
use Rattle.std.proofs.lemmas.List.Sums.{sum_by-cons, sum_by-append}
use Rattle.std.proofs.lemmas.List.Elements.{filter-append}
use Rattle.std.proofs.lemmas.List.Folds.{list_any-append}
use Rattle.elf_image.specs.declared.parts.SymbolPart.{SymbolPart}
use Rattle.elf_image.specs.Parts.{is_entry}
use Rattle.elf_image.specs.Contents.{outside_of}
use Rattle.elf_image.specs.Written.{symbol_bytes, string_bytes}
use Rattle.elf_image.proofs.ShortLemmas.{length_symbols, sum_strings}
use Rattle.link_symbols.specs.declared.defined.Defined.{Defined}
use Rattle.link_symbols.specs.Table.{is_among, symbol_of, outside_symbol, function_symbols, value_symbols, symbols_of, names_length}

abbrev symbols_among : ℕ → Bool → List Defined → List SymbolPart
symbols_among kind local defined = map (symbol_of kind) (filter (is_among local) defined)

abbrev name_size : SymbolPart → ℕ
name_size symbol = length symbol.name + 1

abbrev defined_size : Defined → ℕ
defined_size defined = length defined.name.now + 1

-- what is counted of those that only the image sees and of the others is what is counted of all
module _ (kind : ℕ) where
  both_count : (defined : List Defined)
      → length (symbols_among kind true defined) + length (symbols_among kind false defined) ≡ length defined
  both_count [] = refl
  both_count (one ∷ defined) =
      let rest = both_count defined in
      elim (cases_Bool one.local) [
        | inl local ↦ rw local (omega (arith, rest))
        | inr global ↦ rw global (omega (arith, rest))
      ]

  both_sums : (defined : List Defined)
      → sum_by name_size (symbols_among kind true defined) + sum_by name_size (symbols_among kind false defined) ≡ sum_by defined_size defined
  both_sums [] = refl
  both_sums (one ∷ defined) =
      let rest = both_sums defined in
      let all = sum_by-cons defined_size one defined in
      elim (cases_Bool one.local) [
        | inl local ↦ rw local (omega (arith, rest, all, sum_by-cons name_size (symbol_of kind one) (symbols_among kind true defined)))
        | inr global ↦ rw global (omega (arith, rest, all, sum_by-cons name_size (symbol_of kind one) (symbols_among kind false defined)))
      ]

outside_sum : (outside : List (List ℕ × ℕ))
    → sum_by name_size (map outside_symbol outside) ≡ sum_by (λ name. length name.0 + 1) outside
outside_sum [] = refl
outside_sum (one ∷ outside) =
    let rest = outside_sum outside in
    omega (
      arith,
      rest,
      sum_by-cons (λ name. length name.0 + 1) one outside,
      sum_by-cons name_size (outside_symbol one) (map outside_symbol outside),
    )

module _ (functions values : List Defined) (outside : List (List ℕ × ℕ)) where
  abbrev one : List SymbolPart
  one = function_symbols true functions

  abbrev two : List SymbolPart
  two = value_symbols true values

  abbrev three : List SymbolPart
  three = function_symbols false functions

  abbrev four : List SymbolPart
  four = value_symbols false values

  abbrev five : List SymbolPart
  five = map outside_symbol outside

  pub count_all : length (symbols_of functions values outside) ≡ length functions + length values + length outside
  count_all =
      omega (
        arith,
        length-append (one ++ two ++ three ++ four) five,
        length-append (one ++ two ++ three) four,
        length-append (one ++ two) three,
        length-append one two,
        both_count 0 functions,
        both_count 1 values,
        length-map outside outside_symbol,
      )

  pub sum_all : sum_by (λ symbol. length symbol.name + 1) (symbols_of functions values outside) ≡ names_length functions values outside
  sum_all =
      omega (
        arith,
        sum_by-append name_size (one ++ two ++ three ++ four) five,
        sum_by-append name_size (one ++ two ++ three) four,
        sum_by-append name_size (one ++ two) three,
        sum_by-append name_size one two,
        both_sums 0 functions,
        both_sums 1 values,
        outside_sum outside,
      )

  pub table_length : length (symbol_bytes (symbols_of functions values outside))
      ≡ 24 * (1 + (length functions + length values + length outside))
  table_length = length_symbols (symbols_of functions values outside) ∙ ap (λ n. 24 * (1 + n)) count_all

  pub strings_length : length (string_bytes (symbols_of functions values outside)) ≡ 1 + names_length functions values outside
  strings_length = sum_strings (symbols_of functions values outside) ∙ ap (λ n. 1 + n) sum_all

abbrev is_outside : SymbolPart → Bool
is_outside symbol = nat_eq symbol.kind 2

none_outside : (kind : ℕ) (local : Bool) (defined : List Defined) → nat_eq kind 2 ≡ false
    → filter is_outside (symbols_among kind local defined) ≡ []
none_outside kind local [] inside = refl
none_outside kind local (one ∷ defined) inside =
    let rest = none_outside kind local defined inside in
    elim (cases_Bool (is_among local one)) [
      | inl among ↦ rw (among, inside) rest
      | inr other ↦ rw other rest
    ]

told_outside : (outside : List (List ℕ × ℕ)) → outside_of (map outside_symbol outside) ≡ outside
told_outside [] = refl
told_outside (one ∷ outside) = ap (λ rest. one ∷ rest) (told_outside outside)

pub all_outside : (functions values : List Defined) (outside : List (List ℕ × ℕ)) → outside_of (symbols_of functions values outside) ≡ outside
all_outside functions values outside =
    rw (
      filter-append is_outside
          (function_symbols true functions ++ value_symbols true values ++ function_symbols false functions ++ value_symbols false values)
          (map outside_symbol outside),
      filter-append is_outside (function_symbols true functions ++ value_symbols true values ++ function_symbols false functions) (value_symbols false values),
      filter-append is_outside (function_symbols true functions ++ value_symbols true values) (function_symbols false functions),
      filter-append is_outside (function_symbols true functions) (value_symbols true values),
      none_outside 0 true functions refl,
      none_outside 1 true values refl,
      none_outside 0 false functions refl,
      none_outside 1 false values refl,
    ) (told_outside outside)

-- a function is an entry at its address
entry_here : (function : Defined) → is_entry function.at (symbol_of 0 function) ≡ true
entry_here function =
    let same = eq-eqb function.at function.at refl in
    elim (cases_Bool function.local) [
      | inl local ↦ rw local same
      | inr global ↦ rw global same
    ]

among_where : (local : Bool) (function : Defined) → function.local ≡ local → is_among local function ≡ true
among_where true function is = is
among_where false function is = ap not is

among_own : (function : Defined) → is_among function.local function ≡ true
among_own function = among_where function.local function refl

entry_among : (functions : List Defined) (number : ℕ) (function : Defined) → slice_get functions number ≡ Some function
    → list_any (is_entry function.at) (function_symbols function.local functions) ≡ true
entry_among [] number function here = absurd cc
entry_among (first ∷ functions) zero function here =
    let own : first ≡ function = cc in
    rw (own, among_own function, entry_here function) refl
entry_among (first ∷ functions) (suc number) function here =
    let rest = entry_among functions number function here in
    elim (cases_Bool (is_among function.local first)) [
      | inl among ↦ rw among (or_right (is_entry function.at (symbol_of 0 first)) _ rest)
      | inr other ↦ rw other rest
    ]

any_left : (p : SymbolPart → Bool) (front back : List SymbolPart) → list_any p front ≡ true → list_any p (front ++ back) ≡ true
any_left p front back is = list_any-append p front back ∙ or_left (list_any p front) (list_any p back) is

any_right : (p : SymbolPart → Bool) (front back : List SymbolPart) → list_any p back ≡ true → list_any p (front ++ back) ≡ true
any_right p front back is = list_any-append p front back ∙ or_right (list_any p front) (list_any p back) is

pub has_entry : (functions values : List Defined) (outside : List (List ℕ × ℕ)) (number : ℕ) (function : Defined)
    → slice_get functions number ≡ Some function → list_any (is_entry function.at) (symbols_of functions values outside) ≡ true
has_entry functions values outside number function here =
    let p = is_entry function.at in
    let first = function_symbols true functions in
    let second = value_symbols true values in
    let third = function_symbols false functions in
    let fourth = value_symbols false values in
    let among = entry_among functions number function here in
    let front : list_any p (first ++ second ++ third) ≡ true =
    elim (cases_Bool function.local) [
      | inl local ↦
          let found : list_any p first ≡ true = rw local at among in
          any_left p (first ++ second) third (any_left p first second found)
      | inr global ↦
          let found : list_any p third ≡ true = rw global at among in
          any_right p (first ++ second) third found
    ] in
    any_left p (first ++ second ++ third ++ fourth) (map outside_symbol outside) (any_left p (first ++ second ++ third) fourth front)

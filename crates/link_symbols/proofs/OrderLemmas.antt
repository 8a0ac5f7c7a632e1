-- The symbols of an image stand in order.
use Rattle.std.proofs.Common.{◌≡◌, ℕ, zero, suc, ◌<◌, Bool, true, false, List, [], ◌∷◌, ◌++◌, map, filter, Option, Some, None, inl, inr, refl, sym, ◌∙◌, ap, arith}
use Rattle.std.specs.Prelude.{All, AllPairs}
use Rattle.std.specs.List.Sorted.{IsStrictlyIncreasing}
use Rattle.std.proofs.lemmas.Bool.{cases_Bool}
use Rattle.std.proofs.lemmas.List.{get_or-map, length-map}
use Rattle.std.proofs.lemmas.List.Elements.{All-head, All-tail, All-append, All-map, All-weaker, filter_passes}
use Rattle.std.proofs.lemmas.List.Kept.{AllPairs-cons, AllPairs-filter, AllPairs-from_increasing}
use Rattle.elf_image.specs.declared.group.Group.{Group}
use Rattle.elf_image.specs.declared.group.Group.TheVariants.{LocalFunctions, LocalValues, GlobalFunctions, GlobalValues, Outside}
use Rattle.elf_image.specs.declared.parts.SymbolPart.{SymbolPart}
use Rattle.elf_image.specs.Groups.{rank, is_function}
use Rattle.elf_image.specs.Parts.{group_of_part, function_group, value_group, CanFollow, FollowsLast, AreOrdered}
use Rattle.link_symbols.specs.declared.defined.Defined.{Defined}
use Rattle.link_symbols.specs.Table.{is_among, symbol_of, outside_symbol, function_symbols, value_symbols, symbols_of, addresses_of}

-- where each part can follow each earlier one, they are in order
ordered_behind : (before : Option SymbolPart) (parts : List SymbolPart) → All (FollowsLast before) parts → AllPairs CanFollow parts
    → AreOrdered before parts
ordered_behind before [] follow pairs = tt
ordered_behind before (part ∷ parts) follow pairs = (
  All-head (FollowsLast before) part parts follow,
  ordered_behind (Some part) parts (λ k d within. pairs zero (suc k) d (omega arith) (omega arith))
      (λ i j d lt within. pairs (suc i) (suc j) d (omega arith) (omega arith)),
)

abbrev rank_of : SymbolPart → ℕ
rank_of part = rank (group_of_part part)

abbrev HasGroup : Group → SymbolPart → Type 0
HasGroup group part = group_of_part part ≡ group

abbrev IsBelow : ℕ → SymbolPart → Type 0
IsBelow limit part = rank_of part < limit

higher : (before part : SymbolPart) → rank_of before < rank_of part → CanFollow before part
higher before part less = record { groups = omega arith; rising = λ function same. absurd (omega (arith, same)) }

pairs_append : (group : Group) (front back : List SymbolPart) → AllPairs CanFollow front → AllPairs CanFollow back
    → All (IsBelow (rank group)) front → All (HasGroup group) back → AllPairs CanFollow (front ++ back)
pairs_append group [] back pairs more below has = more
pairs_append group (part ∷ front) back pairs more below has =
    let low = All-head (IsBelow (rank group)) part front below in
    let next : All (CanFollow part) front = λ k d within. pairs zero (suc k) d (omega arith) (omega arith) in
    let behind : All (CanFollow part) back
    = All-weaker (HasGroup group) (CanFollow part) (λ one is. higher part one (rw is low)) back has in
    AllPairs-cons CanFollow part (front ++ back) (All-append (CanFollow part) front back next behind)
    (pairs_append group front back (λ i j d lt within. pairs (suc i) (suc j) d (omega arith) (omega arith)) more
    (All-tail (IsBelow (rank group)) part front below) has)

below_append : (group : Group) (limit : ℕ) (front back : List SymbolPart) → All (IsBelow (rank group)) front → All (HasGroup group) back
    → rank group < limit → All (IsBelow limit) (front ++ back)
below_append group limit front back below has less =
    All-append (IsBelow limit) front back
    (All-weaker (IsBelow (rank group)) (IsBelow limit) (λ one low. omega (arith, low, less)) front below)
    (All-weaker (HasGroup group) (IsBelow limit) (λ one is. rw is less) back has)

-- symbols of one group that has no functions
same_group : (group : Group) (parts : List SymbolPart) → is_function group ≡ false → All (HasGroup group) parts → AllPairs CanFollow parts
same_group group parts plain has = λ i j d lt within.
    let one = has i d (omega arith) in
    let other = has j d within in
    record {
      groups = rw (one, other) (omega arith);
      rising = λ function same. let wrong : false ≡ true = sym plain ∙ (sym (ap is_function other) ∙ function) in absurd cc;
    }

-- functions of one group
rising_group : (group : Group) (parts : List SymbolPart) → All (HasGroup group) parts → AllPairs (λ one next. one.at < next.at) parts
    → AllPairs CanFollow parts
rising_group group parts has rises = λ i j d lt within.
    let one = has i d (omega arith) in
    let other = has j d within in
    record { groups = rw (one, other) (omega arith); rising = λ function same. rises i j d lt within }

abbrev Rises : Defined → Defined → Type 0
Rises one next = one.at < next.at

rising_functions : (functions : List Defined) → IsStrictlyIncreasing (addresses_of functions) → AllPairs Rises functions
rising_functions functions rises = λ i j d lt within.
    let pairs = AllPairs-from_increasing (addresses_of functions) rises in
    let first = get_or-map (λ function. function.at) functions i d d.at (omega arith) in
    let second = get_or-map (λ function. function.at) functions j d d.at within in
    let below = pairs i j d.at lt (omega (arith, length-map functions (λ function. function.at))) in
    omega (arith, first, second, below)

rising_symbols : (functions : List Defined) → AllPairs Rises functions
    → AllPairs (λ one next. one.at < next.at) (map (symbol_of 0) functions)
rising_symbols [] rises = λ i j d lt within. absurd (omega arith)
rising_symbols (function ∷ functions) rises =
    AllPairs-cons (λ one next. one.at < next.at) (symbol_of 0 function) (map (symbol_of 0) functions)
    (All-map (λ next. function.at < next.at) (symbol_of 0) functions (λ k d within. rises zero (suc k) d (omega arith) (omega arith)))
    (rising_symbols functions (λ i j d lt within. rises (suc i) (suc j) d (omega arith) (omega arith)))

local_is : (local : Bool) (defined : Defined) → is_among local defined ≡ true → defined.local ≡ local
local_is true defined among = among
local_is false defined among =
    elim (cases_Bool defined.local) [
      | inl local ↦ let wrong : false ≡ true = rw local at among in cc
      | inr global ↦ global
    ]

functions_grouped : (local : Bool) (functions : List Defined) → All (HasGroup (function_group local)) (function_symbols local functions)
functions_grouped local functions =
    All-map (HasGroup (function_group local)) (symbol_of 0) (filter (is_among local) functions)
    (All-weaker (λ one. is_among local one ≡ true) (λ one. HasGroup (function_group local) (symbol_of 0 one))
    (λ one among. ap function_group (local_is local one among)) (filter (is_among local) functions) (filter_passes (is_among local) functions))

values_grouped : (local : Bool) (values : List Defined) → All (HasGroup (value_group local)) (value_symbols local values)
values_grouped local values =
    All-map (HasGroup (value_group local)) (symbol_of 1) (filter (is_among local) values)
    (All-weaker (λ one. is_among local one ≡ true) (λ one. HasGroup (value_group local) (symbol_of 1 one))
    (λ one among. ap value_group (local_is local one among)) (filter (is_among local) values) (filter_passes (is_among local) values))

outside_grouped : (outside : List (List ℕ × ℕ)) → All (HasGroup Outside) (map outside_symbol outside)
outside_grouped outside = All-map (HasGroup Outside) outside_symbol outside (λ k d within. refl)

functions_paired : (local : Bool) (functions : List Defined) → IsStrictlyIncreasing (addresses_of functions)
    → AllPairs CanFollow (function_symbols local functions)
functions_paired local functions rises =
    rising_group (function_group local) (function_symbols local functions) (functions_grouped local functions)
    (rising_symbols (filter (is_among local) functions)
    (AllPairs-filter Rises (is_among local) functions (rising_functions functions rises)))

pub all_ordered : (functions values : List Defined) (outside : List (List ℕ × ℕ)) → IsStrictlyIncreasing (addresses_of functions)
    → AreOrdered None (symbols_of functions values outside)
all_ordered functions values outside rises =
    let one = function_symbols true functions in
    let two = value_symbols true values in
    let three = function_symbols false functions in
    let four = value_symbols false values in
    let five = map outside_symbol outside in
    let one_has = functions_grouped true functions in
    let two_has = values_grouped true values in
    let three_has = functions_grouped false functions in
    let four_has = values_grouped false values in
    let five_has = outside_grouped outside in
    let one_below : All (IsBelow 1) one = All-weaker (HasGroup LocalFunctions) (IsBelow 1) (λ part is. rw is (omega arith)) one one_has in
    let two_below = below_append LocalValues 2 one two one_below two_has (omega arith) in
    let three_below = below_append GlobalFunctions 3 (one ++ two) three two_below three_has (omega arith) in
    let four_below = below_append GlobalValues 4 (one ++ two ++ three) four three_below four_has (omega arith) in
    let two_pairs = pairs_append LocalValues one two (functions_paired true functions rises)
    (same_group LocalValues two refl two_has) one_below two_has in
    let three_pairs = pairs_append GlobalFunctions (one ++ two) three two_pairs (functions_paired false functions rises) two_below three_has in
    let four_pairs = pairs_append GlobalValues (one ++ two ++ three) four three_pairs (same_group GlobalValues four refl four_has) three_below four_has in
    let five_pairs = pairs_append Outside (one ++ two ++ three ++ four) five four_pairs (same_group Outside five refl five_has) four_below five_has in
    ordered_behind None (one ++ two ++ three ++ four ++ five) (λ k d within. tt) five_pairs

-- The symbols of an image, as they are made of functions, data and outside names.
use Rattle.std.proofs.Common.{◌≡◌, Bool, true, false, not, cond, ℕ, ◌+◌, ◌<◌, List, [], ◌∷◌, ◌++◌, length, map, filter, Some, None, refl, sym, ap, ◌∙◌, subst, arith}
use Rattle.std.specs.Prelude.{All, IsTrue, slice_get}
use Rattle.std.specs.List.{list_any}
use Rattle.std.specs.List.Sorted.{IsStrictlyIncreasing}
use Rattle.std.specs.Option.{option_map}
use Rattle.std.proofs.lemmas.List.{get_or-map, length-map}
use Rattle.std.proofs.lemmas.Option.{slice_get-map}
use Rattle.asm_parse.specs.declared.unit.Unit.{Unit as Said}
use Rattle.elf_image.specs.declared.parts.SymbolPart.{SymbolPart}
use Rattle.elf_image.specs.Contents.{outside_of}
use Rattle.elf_image.specs.Parts.{AreOrdered, IsPart, is_entry}
use Rattle.link_build.specs.declared.build.Build.{Build}
use Rattle.link_build.specs.Functions.{Seen}
use Rattle.link_build.proofs.PlaceLemmas.{some_mapped}
use Rattle.link_plan.specs.Addresses.{text_address}
use Rattle.link_plan.specs.declared.planning.Plan.{Plan}
use Rattle.link_symbols.specs.declared.defined.Defined.{Defined}
use Rattle.link_symbols.specs.Table.{addresses_of, outside_symbol, symbol_of, symbols_of}
use Rattle.link_symbols.specs.Table as made
use Rattle.link_values.specs.declared.kept.KeptValue.{KeptValue}
use Rattle.link_parts.specs.Image.{planned_symbols}
use Rattle.link_parts.specs.Planned.{AreListable}
use Rattle.link_parts.specs.Symbols.{AreSymbols, Thing, function_symbols, function_thing, in_order, is_among, parts_behind, value_symbols}

kept_made : {X Y : Type 0} (make : X → Y) (keep : Bool) (x : X) (xs : List X) (ys : List Y) → ys ≡ map make xs
    → cond keep (make x ∷ ys) ys ≡ map make (cond keep (x ∷ xs) xs)
kept_made make true x xs ys are = ap (λ rest. make x ∷ rest) are
kept_made make false x xs ys are = are

filter_made : (kind : ℕ) (among : Bool) (defined : List Defined)
    → filter (is_among among) (map (symbol_of kind) defined) ≡ map (symbol_of kind) (filter (made.is_among among) defined)
filter_made kind true [] = refl
filter_made kind false [] = refl
filter_made kind true (one ∷ defined) =
    kept_made (symbol_of kind) one.local one (filter (made.is_among true) defined) (filter (is_among true) (map (symbol_of kind) defined))
    (filter_made kind true defined)
filter_made kind false (one ∷ defined) =
    kept_made (symbol_of kind) (not one.local) one (filter (made.is_among false) defined) (filter (is_among false) (map (symbol_of kind) defined))
    (filter_made kind false defined)

five_same : (a b c d e one two three four : List SymbolPart) → a ≡ one → b ≡ two → c ≡ three → d ≡ four
    → a ++ b ++ c ++ d ++ e ≡ one ++ two ++ three ++ four ++ e
five_same a b c d e one two three four first second third fourth = cc

module _ (functions values : List Defined) (outside : List (List ℕ × ℕ)) where
  ordered_made : in_order (map (symbol_of 0) functions) (map (symbol_of 1) values) outside ≡ symbols_of functions values outside
  ordered_made =
      five_same (filter (is_among true) (map (symbol_of 0) functions)) (filter (is_among true) (map (symbol_of 1) values))
      (filter (is_among false) (map (symbol_of 0) functions)) (filter (is_among false) (map (symbol_of 1) values)) (map outside_symbol outside)
      (made.function_symbols true functions) (made.value_symbols true values) (made.function_symbols false functions) (made.value_symbols false values)
      (filter_made 0 true functions) (filter_made 1 true values) (filter_made 0 false functions) (filter_made 1 false values)

  pub ordered_are : (one two : List SymbolPart) → map (symbol_of 0) functions ≡ one → map (symbol_of 1) values ≡ two
      → symbols_of functions values outside ≡ in_order one two outside
  ordered_are one two one_is two_is =
      sym ordered_made
      ∙ ap (λ (all : List SymbolPart). in_order all (map (symbol_of 1) values) outside) one_is
      ∙ ap (λ (all : List SymbolPart). in_order one all outside) two_is

  -- what holds of the symbols
  pub are_symbols : (one symbols : List SymbolPart) → map (symbol_of 0) functions ≡ one → All IsPart symbols → AreOrdered None symbols
      → outside_of symbols ≡ outside
      → ((number : ℕ) (function : Defined) → slice_get functions number ≡ Some function → IsTrue (list_any (is_entry function.at) symbols))
      → AreSymbols one outside symbols
  are_symbols one symbols one_is parts order told entries =
      record {
        parts = parts;
        order = order;
        outside_are = told;
        entries = λ number function here.
            let found : option_map (symbol_of 0) (slice_get functions number) ≡ Some function
            = sym (slice_get-map (symbol_of 0) functions number) ∙ ap (λ (all : List SymbolPart). slice_get all number) one_is ∙ here in
            let it = some_mapped (symbol_of 0) (slice_get functions number) function found in
            subst (λ (at : ℕ). IsTrue (list_any (is_entry at) symbols)) (ap (λ (symbol : SymbolPart). symbol.at) it.2)
            (entries number it.0 it.1);
      }

-- the places of functions behind the address of the text
module _ (kind from : ℕ) where
  places_of : (things : List Thing) (places : List ℕ) → length things ≡ length places
      → map (λ symbol. symbol.at) (parts_behind kind from things places) ≡ map (λ place. from + place) places
  unfolding parts_behind
  places_of [] [] same = refl
  places_of [] (place ∷ places) same = absurd (omega (arith, same))
  places_of (thing ∷ things) [] same = absurd (omega (arith, same))
  places_of (thing ∷ things) (place ∷ places) same =
      ap (λ (rest : List ℕ). (from + place) ∷ rest) (places_of things places (omega (arith, same)))

  rising_behind : (places : List ℕ) → IsStrictlyIncreasing places → IsStrictlyIncreasing (map (λ place. from + place) places)
  rising_behind places rising k within =
      let inside : k + 1 < length places = omega (arith, within, length-map places (λ (place : ℕ). from + place)) in
      let less = rising k inside in
      omega (
        arith,
        less,
        get_or-map (λ (place : ℕ). from + place) places k 0 0 (omega (arith, inside)),
        get_or-map (λ (place : ℕ). from + place) places (k + 1) 0 0 inside,
      )

  addresses_are : (defined : List Defined) → addresses_of defined ≡ map (λ symbol. symbol.at) (map (symbol_of kind) defined)
  addresses_are [] = refl
  addresses_are (one ∷ defined) = ap (λ (rest : List ℕ). one.at ∷ rest) (addresses_are defined)

  pub made_rise : (things : List Thing) (places : List ℕ) (defined : List Defined) → length things ≡ length places
      → map (symbol_of kind) defined ≡ parts_behind kind from things places → IsStrictlyIncreasing places
      → IsStrictlyIncreasing (addresses_of defined)
  made_rise things places defined same are rising =
      subst IsStrictlyIncreasing
      (sym (addresses_are defined ∙ ap (map (λ (symbol : SymbolPart). symbol.at)) are ∙ places_of things places same))
      (rising_behind places rising)

-- what was made of a plan's functions and data
pub record AreOf {Instr : Type 0} (build : Build) (funcs : List (Seen Instr)) (plan : Plan) (values_at : ℕ) (functions values : List Defined) : Type 0 where
  pub functions_are : map (symbol_of 0) functions ≡ function_symbols funcs plan.functions.at
  pub values_are : map (symbol_of 1) values ≡ value_symbols build.units plan.kept.items values_at plan.values.at

module _ {Instr : Type 0} (build : Build) (funcs : List (Seen Instr)) (plan : Plan) (values_at : ℕ) where
  -- as they are read from the plan
  pub are_of : (units : List Said) (kept : List KeptValue) (at places : List ℕ) (functions values now others : List Defined)
      → units ≡ build.units → kept ≡ plan.kept.items → at ≡ plan.functions.at → places ≡ plan.values.at → now ≡ functions → others ≡ values
      → map (symbol_of 0) functions ≡ function_symbols funcs at → map (symbol_of 1) values ≡ value_symbols units kept values_at places
      → AreOf build funcs plan values_at now others
  are_of units kept at places functions values now others units_are kept_are at_are places_are now_are others_are functions_are values_are =
      record {
        functions_are = ap (map (symbol_of 0)) now_are ∙ functions_are ∙ ap (function_symbols funcs) at_are;
        values_are = ap (map (symbol_of 1)) others_are ∙ values_are
            ∙ ap (λ (all : List Said). value_symbols all kept values_at places) units_are
            ∙ ap (λ (all : List KeptValue). value_symbols build.units all values_at places) kept_are
            ∙ ap (value_symbols build.units plan.kept.items values_at) places_are;
      }

  module _ (functions values : List Defined) (are : AreOf build funcs plan values_at functions values) where
    pub planned_are : (outside : List (List ℕ × ℕ)) → outside ≡ build.outside
        → symbols_of functions values outside ≡ planned_symbols build funcs plan values_at
    planned_are outside outside_are =
        ordered_are functions values outside (function_symbols funcs plan.functions.at)
        (value_symbols build.units plan.kept.items values_at plan.values.at) are.functions_are are.values_are
        ∙ ap (in_order (function_symbols funcs plan.functions.at) (value_symbols build.units plan.kept.items values_at plan.values.at)) outside_are

    pub functions_rise : AreListable build funcs plan → IsStrictlyIncreasing (addresses_of functions)
    functions_rise listable =
        made_rise 0 text_address (map function_thing funcs) plan.functions.at functions
        (length-map funcs function_thing ∙ listable.function_places.as_many) are.functions_are listable.rising

    pub are_planned : (symbols : List SymbolPart) (outside : List (List ℕ × ℕ)) → outside ≡ build.outside → All IsPart symbols → AreOrdered None symbols
        → outside_of symbols ≡ outside
        → ((number : ℕ) (function : Defined) → slice_get functions number ≡ Some function → IsTrue (list_any (is_entry function.at) symbols))
        → AreSymbols (function_symbols funcs plan.functions.at) build.outside symbols
    are_planned symbols outside outside_are parts order told entries =
        are_symbols functions values build.outside (function_symbols funcs plan.functions.at) symbols are.functions_are parts order
        (told ∙ outside_are) entries

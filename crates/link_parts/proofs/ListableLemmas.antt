-- The functions and the data of a build have symbols and places.
use Rattle.std.proofs.Common.{◌≡◌, Bool, true, false, ℕ, zero, suc, ◌+◌, ◌≤◌, ◌<◌, List, [], ◌∷◌, ◌++◌, length, map, Some, refl, sym, ap, ◌∙◌, subst, arith}
use Rattle.std.specs.Prelude.{All, slice_get, sum, if◌then◌else◌}
use Rattle.std.specs.List.Sorted.{IsStrictlyIncreasing}
use Rattle.std.proofs.lemmas.List.{length-map, map-append}
use Rattle.std.proofs.lemmas.List.Elements.{All-cons, All-nil, All-weaker, All-get_or}
use Rattle.std.proofs.lemmas.List.Sums.{sum_by-cons}
use Rattle.asm_parse.specs.Valid.{IsValidGlobal, IsValidSymbol, IsValidUnit}
use Rattle.asm_parse.specs.declared.unit.GlobalPart.{GlobalPart}
use Rattle.asm_parse.specs.declared.unit.Symbol.{Symbol}
use Rattle.asm_parse.specs.declared.unit.Unit.{Unit as Said}
use Rattle.byte_layout.specs.Joined.{aligned}
use Rattle.byte_layout.proofs.JoinedLemmas.{aligned-le}
use Rattle.link_build.specs.declared.build.Build.{Build}
use Rattle.link_build.specs.Functions.{IsSound, Seen, functions_in, functions_of, seen_in}
use Rattle.link_build.specs.Resolved.{IsValidBuild}
use Rattle.link_build.proofs.PlaceLemmas.{all_each, all_got}
use Rattle.link_functions.specs.declared.code.Part.{Part}
use Rattle.link_functions.specs.declared.code.UnitCode.{UnitCode}
use Rattle.link_names.specs.Definitions.{Entry, each_from, key_at, meaning_in}
use Rattle.link_places.specs.Places.{end_from, places_from}
use Rattle.link_places.proofs.PlaceLemmas.{length-places, place_behind}
use Rattle.link_plan.specs.declared.planning.Plan.{Plan}
use Rattle.link_plan.specs.Sizes.{code_sizes, part_sizes, unit_sizes}
use Rattle.link_plan.proofs.PlacedLemmas.{all_near, one_each}
use Rattle.link_values.specs.declared.kept.KeptValue.{KeptValue}
use Rattle.link_values.specs.Kept.{is_value, kept_values, sizes_of, unit_kept, value_kept}
use Rattle.unit_listing.specs.Kit.{Kit}
use Rattle.link_parts.specs.Fitted.{IsPlanned}
use Rattle.link_parts.specs.Planned.{AreListable, HasSymbol, IsDeclared}

-- one of so many
pub got_within : {X : Type 0} (xs : List X) (number : ℕ) → number < length xs → (x : X) × (slice_get xs number ≡ Some x)
got_within [] number within = absurd (omega (arith, within))
got_within (x ∷ xs) zero within = (x, refl)
got_within (x ∷ xs) (suc number) within = got_within xs number (omega (arith, within))

-- a symbol of a valid unit
record Named (said : Said) (number : ℕ) : Type 0 where
  symbol : Symbol
  here : slice_get said.symbols number ≡ Some symbol
  name : IsValidSymbol symbol

named : (said : Said) (number : ℕ) → IsValidUnit said → number < length said.symbols → Named said number
named said number valid within =
    let it = got_within said.symbols number within in
    record { symbol = it.0; here = it.1; name = all_got IsValidSymbol said.symbols number it.0 valid.names it.1 }

module _ {Instr : Type 0} (kit : Kit Instr) (build : Build) where
  has_symbol : (func : Seen Instr) → IsSound kit build func → HasSymbol func
  has_symbol func sound =
      let it = named func.unit func.part.function.now.sym sound.valid sound.form.symbol in
      record { symbol = it.symbol; here = it.here; name = it.name }

  pub have_symbols : (funcs : List (Seen Instr)) → All (IsSound kit build) funcs → All HasSymbol funcs
  have_symbols funcs sound = All-weaker (IsSound kit build) HasSymbol has_symbol funcs sound

module _ (names : List Entry) (units : List Said) (valid : All IsValidUnit units) where
  one_declared : (unit : ℕ) (said : Said) (number : ℕ) (global : GlobalPart) → slice_get units unit ≡ Some said
      → slice_get said.globals number ≡ Some global → IsDeclared units (record { unit = unit; number = number; size = global.size })
  one_declared unit said number global here there =
      let fine : IsValidUnit said = all_got IsValidUnit units unit said valid here in
      let within : global.sym < length said.symbols
      = all_got (IsValidGlobal (length said.symbols)) said.globals number global fine.globals there in
      let it = named said global.sym fine within in
      record {
        said = said;
        unit = here;
        global = global;
        declaration = there;
        symbol = it.symbol;
        here = it.here;
        name = it.name;
      }

  if_kept : (is : Bool) (value : KeptValue) → IsDeclared units value → All (IsDeclared units) (if is then value ∷ [] else [])
  if_kept true value fine = All-cons (IsDeclared units) value [] fine (All-nil (IsDeclared units))
  if_kept false value fine = All-nil (IsDeclared units)

  pub all_declared : All (IsDeclared units) (kept_values names units)
  all_declared =
      all_each (unit_kept names) (IsDeclared units) units (λ unit said here.
      all_each (value_kept names unit said.symbols) (IsDeclared units) said.globals (λ number global there.
      if_kept (is_value unit number (meaning_in names (key_at unit said.symbols global.sym)))
      (record { unit = unit; number = number; size = global.size }) (one_declared unit said number global here there)))

-- the functions are those whose sizes are placed
module _ {Instr : Type 0} where
  abbrev pub length_of : Seen Instr → ℕ
  length_of func = func.part.laid.sizes.length

  unit_lengths : (number : ℕ) (unit : Said) (parts : List (Part Instr)) → map length_of (map (seen_in number unit) parts) ≡ part_sizes parts
  unit_lengths number unit [] = refl
  unit_lengths number unit (part ∷ parts) = ap (λ (rest : List ℕ). part.laid.sizes.length ∷ rest) (unit_lengths number unit parts)

  lengths_from : (number : ℕ) (code : List (UnitCode Instr)) → map length_of (each_from number functions_of code) ≡ each_from number unit_sizes code
  unfolding each_from
  lengths_from number [] = refl
  lengths_from number (unit ∷ code) =
      map-append length_of (functions_of number unit) (each_from (number + 1) functions_of code)
      ∙ ap (λ (front : List ℕ). front ++ map length_of (each_from (number + 1) functions_of code))
      (unit_lengths number unit.unit.now unit.parts.items)
      ∙ ap (λ (rest : List ℕ). unit_sizes number unit ++ rest) (lengths_from (number + 1) code)

  pub lengths_are : (code : List (UnitCode Instr)) → map length_of (functions_in code) ≡ code_sizes code
  lengths_are code = lengths_from 0 code

  pub functions_count : (code : List (UnitCode Instr)) → length (functions_in code) ≡ length (code_sizes code)
  functions_count code = sym (length-map (functions_in code) length_of) ∙ ap length (lengths_are code)

-- things that have bytes rise
pub places_rise : (sizes : List ℕ) → All (λ size. 0 < size) sizes → IsStrictlyIncreasing (places_from 0 sizes)
places_rise sizes some k within =
    let inside : k + 1 < length sizes = omega (arith, within, length-places 0 sizes) in
    omega (
      arith,
      place_behind 0 k (k + 1) sizes (omega arith) inside,
      All-get_or (λ size. 0 < size) sizes k 0 (omega (arith, inside)) some,
    )

sum_from : (end : ℕ) (sizes : List ℕ) → end + sum sizes ≤ end_from end sizes
unfolding end_from
sum_from end [] = omega arith
sum_from end (size ∷ sizes) =
    omega (arith, aligned-le 16 end, sum_from (aligned 16 end + size) sizes, sum_by-cons (λ (n : ℕ). n) size sizes)

-- all that is placed has no more bytes than end before the last one's end
pub sum-le-end : (sizes : List ℕ) → sum sizes ≤ end_from 0 sizes
sum-le-end sizes = omega (arith, sum_from 0 sizes)

module _ {Instr : Type 0} (kit : Kit Instr) (build : Build) (names : List Entry) (code : List (UnitCode Instr)) (plan : Plan) where
  values_many : IsPlanned build names code plan → length plan.kept.items ≡ length plan.values.at
  values_many planned =
      sym (one_each (sizes_of plan.kept.items) plan.values planned.values ∙ length-map plan.kept.items (λ (value : KeptValue). value.size))

  pub are_listable : (funcs : List (Seen Instr)) → IsValidBuild build → All (IsSound kit build) funcs → funcs ≡ functions_in code
      → IsPlanned build names code plan → All (λ size. 0 < size) (code_sizes code) → AreListable build funcs plan
  are_listable funcs valid sound are planned some =
      record {
        functions = have_symbols kit build funcs sound;
        function_places = record {
          as_many = ap length are ∙ functions_count code ∙ sym (one_each (code_sizes code) plan.functions planned.functions);
          near = all_near (code_sizes code) plan.functions planned.functions;
        };
        rising = subst IsStrictlyIncreasing (sym planned.functions.at) (places_rise (code_sizes code) some);
        values = subst (All (IsDeclared build.units)) (sym planned.kept) (all_declared names build.units valid.units);
        value_places = record {
          as_many = values_many planned;
          near = all_near (sizes_of plan.kept.items) plan.values planned.values;
        };
        end = planned.values.small;
        outside = valid.outside;
      }

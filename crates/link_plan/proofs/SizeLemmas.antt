-- What is made of items, one behind the other.
use Rattle.std.proofs.Common.{◌≡◌, ℕ, suc, ◌+◌, ◌<◌, ◌≤◌, List, [], ◌∷◌, ◌++◌, length, map, get_or, drop, refl, sym, ap, ◌∙◌, append_assoc, append-nil, length-append}
use Rattle.std.proofs.lemmas.List.{at_drop_more, at_drop_all}
use Rattle.link_names.specs.Definitions.{each_from}
use Rattle.link_functions.specs.declared.code.Part.{Part}
use Rattle.link_functions.specs.declared.code.UnitCode.{UnitCode}
use Rattle.link_values.specs.declared.kept.KeptValue.{KeptValue}
use Rattle.link_values.specs.Kept.{sizes_of}
use Rattle.link_plan.specs.Sizes.{unit_sizes, code_sizes}
use Rattle.link_plan.specs.Addresses.{part_meaning, unit_meanings, code_meanings, value_meaning, value_meanings}

module _ {X Y : Type 0} (make : X → Y) (items : List X) where
  -- what is appended, item by item
  pub mapped_more : (number : ℕ) (item : X) (before now all : List Y) → number < length items → item ≡ get_or items number item
      → before ++ map make (drop number items) ≡ all → now ≡ before ++ make item ∷ [] → now ++ map make (drop (number + 1) items) ≡ all
  mapped_more number item before now all within read so_far pushed =
      let rest = map make (drop (number + 1) items) in
      ap (λ front. front ++ rest) pushed
      ∙ append_assoc before (make item ∷ []) rest
      ∙ ap (λ x. before ++ make x ∷ rest) read
      ∙ ap (λ more. before ++ more) (sym (at_drop_more (map make) items number item within))
      ∙ so_far

  pub mapped_all : (number : ℕ) (now all : List Y) → length items ≤ number → now ++ map make (drop number items) ≡ all → now ≡ all
  mapped_all number now all past so_far =
      sym (append-nil now) ∙ ap (λ rest. now ++ rest) (sym (at_drop_all (map make) items number past)) ∙ so_far

length_mapped : {X Y Z : Type 0} (one : X → Y) (other : X → Z) (items : List X) → length (map one items) ≡ length (map other items)
length_mapped one other [] = refl
length_mapped one other (item ∷ items) = ap suc (length_mapped one other items)

-- each function and each part of data has a size
module _ {Instr : Type 0} where
  as_many : (number : ℕ) (code : List (UnitCode Instr)) → length (each_from number unit_meanings code) ≡ length (each_from number unit_sizes code)
  unfolding each_from
  as_many number [] = refl
  as_many number (unit ∷ code) =
      length-append (unit_meanings number unit) (each_from (number + 1) unit_meanings code)
      ∙ ap (λ n. n + length (each_from (number + 1) unit_meanings code))
      (length_mapped (λ (part : Part Instr). part_meaning number part) (λ (part : Part Instr). part.laid.sizes.length) unit.parts.items)
      ∙ ap (λ n. length (unit_sizes number unit) + n) (as_many (number + 1) code)
      ∙ sym (length-append (unit_sizes number unit) (each_from (number + 1) unit_sizes code))

  pub functions_as_many : (code : List (UnitCode Instr)) → length (code_meanings code) ≡ length (code_sizes code)
  functions_as_many code = as_many 0 code

pub values_as_many : (kept : List KeptValue) → length (value_meanings kept) ≡ length (sizes_of kept)
values_as_many kept = length_mapped value_meaning (λ (value : KeptValue). value.size) kept

-- What is said of functions is said of those that are the same but for the tables of their goals.
use Rattle.std.proofs.Common.{◌≡◌, ℕ, ◌+◌, List, [], ◌∷◌, length, map, refl, sym, ap, ◌∙◌, length-append}
use Rattle.std.proofs.lemmas.List.{length-map}
use Rattle.std.specs.List.{AllZip, slice_get}
use Rattle.goasm_base.specs.declared.statement.Function.{Function}
use Rattle.asm_parse.specs.declared.unit.Unit.{Unit as Said}
use Rattle.least_forms.specs.declared.sizes.Sizes.{Sizes}
use Rattle.unit_listing.specs.Laid.{IsSameLaid}
use Rattle.link_names.specs.Definitions.{each_from}
use Rattle.link_names.specs.declared.definition.Meaning.TheVariants as means
use Rattle.link_functions.specs.declared.code.UnitCode.{UnitCode}
use Rattle.link_plan.specs.Addresses.{code_meanings, part_meaning, unit_meanings}
use Rattle.link_plan.specs.Sizes.{code_sizes, part_size, unit_sizes}
use Rattle.link_build.specs.Functions.{Seen, functions_in, functions_of, seen_in}
use Rattle.link_parts.specs.Symbols.{function_thing}
use Rattle.build_answer.specs.Same.{IsSameCode, IsSamePart, IsSameUnit}
use Rattle.parts_answer.proofs.ZipLemmas.{same_each, same_map, zip_each, zip_map}

module _ {Instr : Type 0} where
  -- a function, seen in two of them
  pub record IsSameSeen (one other : Seen Instr) : Type 0 where
    pub unit : one.unit ≡ other.unit
    pub function : one.part.function.now ≡ other.part.function.now
    pub laid : IsSameLaid one.part.laid other.part.laid

  same_unit_sizes : (number : ℕ) (one other : UnitCode Instr) → IsSameUnit one other → unit_sizes number one ≡ unit_sizes number other
  same_unit_sizes number one other same =
      same_map IsSamePart part_size (λ one other same. ap (λ (sizes : Sizes). sizes.length) same.laid.sizes)
      one.parts.items other.parts.items same.parts

  pub same_sizes : (code again : List (UnitCode Instr)) → IsSameCode code again → code_sizes code ≡ code_sizes again
  same_sizes code again same = same_each IsSameUnit unit_sizes same_unit_sizes 0 code again same

  same_unit_meanings : (number : ℕ) (one other : UnitCode Instr) → IsSameUnit one other → unit_meanings number one ≡ unit_meanings number other
  same_unit_meanings number one other same =
      same_map IsSamePart (part_meaning number) (λ one other same. ap (means.Function number) same.number)
      one.parts.items other.parts.items same.parts

  pub same_meanings : (code again : List (UnitCode Instr)) → IsSameCode code again → code_meanings code ≡ code_meanings again
  same_meanings code again same = same_each IsSameUnit unit_meanings same_unit_meanings 0 code again same

  same_seen : (number : ℕ) (one other : UnitCode Instr) → IsSameUnit one other
      → AllZip IsSameSeen (functions_of number one) (functions_of number other)
  same_seen number one other same =
      zip_map IsSamePart IsSameSeen (seen_in number one.unit.now) (seen_in number other.unit.now)
      (λ part its alike. record { unit = same.unit; function = alike.function; laid = alike.laid })
      one.parts.items other.parts.items same.parts

  pub same_functions : (code again : List (UnitCode Instr)) → IsSameCode code again → AllZip IsSameSeen (functions_in code) (functions_in again)
  same_functions code again same = zip_each IsSameUnit IsSameSeen functions_of functions_of same_seen 0 code again same

  -- each function has a size
  unit_as_many : (number : ℕ) (unit : UnitCode Instr) → length (functions_of number unit) ≡ length (unit_sizes number unit)
  unit_as_many number unit =
      length-map unit.parts.items (seen_in number unit.unit.now) ∙ sym (length-map unit.parts.items part_size)

  each_as_many : (number : ℕ) (code : List (UnitCode Instr))
      → length (each_from number functions_of code) ≡ length (each_from number unit_sizes code)
  unfolding each_from
  each_as_many number [] = refl
  each_as_many number (unit ∷ code) =
      length-append (functions_of number unit) (each_from (number + 1) functions_of code)
      ∙ ap (λ n. n + length (each_from (number + 1) functions_of code)) (unit_as_many number unit)
      ∙ ap (λ n. length (unit_sizes number unit) + n) (each_as_many (number + 1) code)
      ∙ sym (length-append (unit_sizes number unit) (each_from (number + 1) unit_sizes code))

  pub as_many : (code : List (UnitCode Instr)) → length (functions_in code) ≡ length (code_sizes code)
  as_many code = each_as_many 0 code

  -- a function has the same symbol
  same_thing : (one other : Seen Instr) → IsSameSeen one other → function_thing one ≡ function_thing other
  same_thing one other same =
      ap (λ (unit : Said). (slice_get unit.symbols one.part.function.now.sym, one.part.laid.sizes.length)) same.unit
      ∙ ap (λ (function : Function). (slice_get other.unit.symbols function.sym, one.part.laid.sizes.length)) same.function
      ∙ ap (λ (sizes : Sizes). (slice_get other.unit.symbols other.part.function.now.sym, sizes.length)) same.laid.sizes

  pub same_things : (code again : List (UnitCode Instr)) → IsSameCode code again
      → map function_thing (functions_in code) ≡ map function_thing (functions_in again)
  same_things code again same =
      same_map IsSameSeen function_thing same_thing (functions_in code) (functions_in again) (same_functions code again same)

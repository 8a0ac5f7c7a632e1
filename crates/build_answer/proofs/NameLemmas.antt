-- Names by which each symbol stands for the same have the same room, functions and references.
use Rattle.std.proofs.Common.{◌≡◌, Bool, ℕ, ℤ, List, [], ◌∷◌, ◌++◌, Option, Some, None, refl, ap, ◌∙◌}
use Rattle.std.specs.Prelude.{is_some, if◌then◌else◌}
use Rattle.goasm_base.specs.declared.statement.Function.{Function}
use Rattle.asm_target.specs.declared.refer.Refer.{Refer}
use Rattle.asm_target.specs.declared.refer.To.{To}
use Rattle.asm_target.specs.declared.refer.To.TheVariants as to
use Rattle.asm_parse.specs.declared.unit.DataPart.{DataPart}
use Rattle.asm_parse.specs.declared.unit.Symbol.{Symbol}
use Rattle.asm_parse.specs.declared.unit.Unit.{Unit as Said}
use Rattle.link_names.specs.Data.{address_undefined, has_room, is_within, misplaced, part_end, part_misplaced, size_of, undefined, undefined_in, unit_misplaced, unit_undefined}
use Rattle.link_names.specs.Definitions.{Entry, Key, MeansAs, key_at}
use Rattle.link_names.specs.declared.definition.Meaning.{Meaning}
use Rattle.link_functions.specs.Kept.{is_function_at, kept, kept_in, kept_of}
use Rattle.link_functions.specs.References.{all_undefined, code_undefined, goal_undefined, line_undefined, part_undefined, parts_undefined, refer_undefined}
use Rattle.link_functions.specs.declared.code.Part.{Part}
use Rattle.link_functions.specs.declared.code.UnitCode.{UnitCode}
use Rattle.unit_listing.specs.Lines.{growth_name}
use Rattle.build_answer.proofs.ListLemmas.{each_same}

module _ (names others : List Entry) (means : MeansAs names others) where
  room_same : (units : List Said) (unit : ℕ) (symbols : List Symbol) (part : DataPart)
      → has_room units names unit symbols part ≡ has_room units others unit symbols part
  room_same units unit symbols part =
      ap (λ (found : Option Meaning). is_within (size_of units found) (part_end part)) (means (key_at unit symbols part.sym))

  pub misplaced_same : (units : List Said) → misplaced units names ≡ misplaced units others
  misplaced_same units =
      each_same (unit_misplaced units names) (unit_misplaced units others) (λ unit said.
      each_same (part_misplaced units names unit said.symbols) (part_misplaced units others unit said.symbols) (λ number part.
      ap (λ (room : Bool). if room then [] else (key_at unit said.symbols part.sym).0 ∷ []) (room_same units unit said.symbols part))
      said.values)
      units

  kept_same : (unit : ℕ) (symbols : List Symbol) (number : ℕ) (function : Function)
      → kept names unit symbols number function ≡ kept others unit symbols number function
  kept_same unit symbols number function =
      ap (λ (found : Option Meaning). if is_function_at unit number found then (number, function) ∷ [] else [])
      (means (key_at unit symbols function.sym))

  pub kept_in_same : (unit : ℕ) (said : Said) → kept_in names unit said ≡ kept_in others unit said
  kept_in_same unit said =
      each_same (kept names unit said.symbols) (kept others unit said.symbols) (kept_same unit said.symbols) said.functions

  pub kept_of_same : (units : List Said) → kept_of names units ≡ kept_of others units
  kept_of_same units = each_same (kept_in names) (kept_in others) kept_in_same units

  undefined_same : (key : Key) → undefined names key ≡ undefined others key
  undefined_same key = ap (λ (found : Option Meaning). if is_some found then [] else key.0 ∷ []) (means key)

  address_same : (unit : ℕ) (symbols : List Symbol) (address : Option (ℕ × ℤ))
      → undefined_in names unit symbols address ≡ undefined_in others unit symbols address
  address_same unit symbols None = refl
  address_same unit symbols (Some to) = undefined_same (key_at unit symbols to.0)

  data_same : (unit : ℕ) (said : Said) → unit_undefined names unit said ≡ unit_undefined others unit said
  data_same unit said =
      each_same (address_undefined names unit said.symbols) (address_undefined others unit said.symbols)
      (λ number part. address_same unit said.symbols part.address) said.values

  goal_same : (unit : ℕ) (symbols : List Symbol) (flags : ℕ) (goal : To)
      → goal_undefined names unit symbols flags goal ≡ goal_undefined others unit symbols flags goal
  goal_same unit symbols flags (to.Symbol sym off) = undefined_same (key_at unit symbols sym)
  goal_same unit symbols flags to.Grow = undefined_same (growth_name flags, None)
  goal_same unit symbols flags _ = refl

  refer_same : (unit : ℕ) (symbols : List Symbol) (flags : ℕ) (refer : Option Refer)
      → refer_undefined names unit symbols flags refer ≡ refer_undefined others unit symbols flags refer
  refer_same unit symbols flags None = refl
  refer_same unit symbols flags (Some refer) = goal_same unit symbols flags refer.to

  module _ {Instr : Type 0} where
    part_same : (unit : ℕ) (symbols : List Symbol) (number : ℕ) (part : Part Instr)
        → part_undefined names unit symbols number part ≡ part_undefined others unit symbols number part
    part_same unit symbols number part =
        each_same (line_undefined names unit symbols part.laid.flags) (line_undefined others unit symbols part.laid.flags)
        (λ number line. refer_same unit symbols part.laid.flags line.refer) part.laid.body.code

    code_same : (number : ℕ) (code : UnitCode Instr) → code_undefined names number code ≡ code_undefined others number code
    code_same number code =
        let symbols = code.unit.now.symbols in
        let parts : parts_undefined names number symbols code.parts.items ≡ parts_undefined others number symbols code.parts.items
        = each_same (part_undefined names number symbols) (part_undefined others number symbols) (part_same number symbols) code.parts.items in
        ap (λ front. front ++ unit_undefined names number code.unit.now) parts
        ∙ ap (λ back. parts_undefined others number symbols code.parts.items ++ back) (data_same number code.unit.now)

    pub undefined_by : (code : List (UnitCode Instr)) → all_undefined names code ≡ all_undefined others code
    undefined_by code = each_same (code_undefined names) (code_undefined others) code_same code

-- Which functions of a build count.
use Rattle.std.specs.Prelude.{ℕ, Bool, false, ◌==◌, ◌&&◌, List, [], ◌∷◌, Option, Some, if◌then◌else◌}
use Rattle.goasm_base.specs.declared.statement.Function.{Function}
use Rattle.asm_parse.specs.declared.unit.Symbol.{Symbol}
use Rattle.asm_parse.specs.declared.unit.Unit.{Unit as Said}
use Rattle.link_names.specs.declared.definition.Meaning.{Meaning}
use Rattle.link_names.specs.declared.definition.Meaning.TheVariants as means
use Rattle.link_names.specs.Definitions.{Entry, each, key_at, meaning_in}

-- it is the function of this number in this unit
abbrev pub is_function_at : ℕ → ℕ → Option Meaning → Bool
is_function_at unit number (Some (means.Function other at)) = (other == unit) && (at == number)
is_function_at unit number _ = false

module _ (names : List Entry) where
  -- a function counts where its symbol stands for it
  abbrev pub is_kept : ℕ → List Symbol → ℕ → Function → Bool
  is_kept unit symbols number function = is_function_at unit number (meaning_in names (key_at unit symbols function.sym))

  -- a function with its number in its unit, where it counts
  abbrev pub kept : ℕ → List Symbol → ℕ → Function → List (ℕ × Function)
  kept unit symbols number function = if is_kept unit symbols number function then (number, function) ∷ [] else []

  abbrev pub kept_among : ℕ → List Symbol → List Function → List (ℕ × Function)
  kept_among unit symbols functions = each (kept unit symbols) functions

  -- the functions of a unit that count, each with its number in the unit
  abbrev pub kept_in : ℕ → Said → List (ℕ × Function)
  kept_in unit said = kept_among unit said.symbols said.functions

  -- the functions of a build that count, by units
  abbrev pub kept_of : List Said → List (ℕ × Function)
  kept_of units = each kept_in units

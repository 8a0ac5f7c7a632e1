-- The parts of a build's image, and their sizes, where its function table is told these lines of its functions.
use Rattle.std.specs.Prelude.{ℕ, ◌+◌, List, length}
use Rattle.byte_layout.specs.Joined.{aligned}
use Rattle.elf_image.specs.declared.layout.Sizes.{Sizes}
use Rattle.elf_image.specs.declared.parts.SymbolPart.{SymbolPart}
use Rattle.elf_image.specs.Layout as elf
use Rattle.elf_image.specs.Written.{string_bytes, symbol_bytes}
use Rattle.link_build.specs.declared.build.Build.{Build}
use Rattle.link_build.specs.Functions.{Seen, functions_in}
use Rattle.link_functions.specs.declared.code.UnitCode.{UnitCode}
use Rattle.link_names.specs.Definitions.{Entry}
use Rattle.link_places.specs.Places.{places_from}
use Rattle.link_plan.specs.declared.planning.Plan.{Plan}
use Rattle.link_plan.specs.Plan.{text_size}
use Rattle.link_plan.specs.Sizes.{code_sizes}
use Rattle.link_tables.specs.declared.func_lines.FuncLines.{FuncLines}
use Rattle.link_tables.specs.Table.{parts_of}
use Rattle.link_values.specs.Kept.{kept_values}
use Rattle.link_values.specs.Values.{value_sizes, values_end}
use Rattle.pclntab.specs.declared.parts.TableParts.{TableParts}
use Rattle.pclntab.specs.Written.{written}
use Rattle.link_parts.specs.Symbols.{function_symbols, in_order, value_symbols}

-- the address of the data behind a text and a table of so many bytes
abbrev pub address_behind : ℕ → ℕ → ℕ
address_behind text table = elf.address_of (aligned 4096 (aligned 4096 (elf.text_offset + text) + table))

-- the sizes of an image's parts
abbrev pub sizes_with : ℕ → ℕ → ℕ → List SymbolPart → Sizes
sizes_with text table values symbols = record {
  text = text;
  table = table;
  values = values;
  symbols = length (symbol_bytes symbols);
  strings = length (string_bytes symbols);
}

module _ {Instr : Type 0} where
  -- the symbols of an image whose data stands at this address, by the plan of its build
  abbrev pub planned_symbols : Build → List (Seen Instr) → Plan → ℕ → List SymbolPart
  planned_symbols build funcs plan values_at =
      in_order (function_symbols funcs plan.functions.at)
      (value_symbols build.units plan.kept.items values_at plan.values.at) build.outside

  -- where the functions stand in the text
  abbrev pub function_places : List (UnitCode Instr) → List ℕ
  function_places code = places_from 0 (code_sizes code)

  module _ (quantum : ℕ) (build : Build) (names : List Entry) (code : List (UnitCode Instr)) (lines : List (FuncLines Instr)) where
    abbrev pub table_parts : TableParts
    table_parts = parts_of build.files quantum (text_size code) lines

    abbrev pub table_size : ℕ
    table_size = length (written table_parts)

    abbrev pub values_address : ℕ
    values_address = address_behind (text_size code) table_size

    abbrev pub image_functions : List SymbolPart
    image_functions = function_symbols (functions_in code) (function_places code)

    abbrev pub image_values : List SymbolPart
    image_values =
        value_symbols build.units (kept_values names build.units) values_address
        (places_from 0 (value_sizes names build.units))

    abbrev pub image_symbols : List SymbolPart
    image_symbols = in_order image_functions image_values build.outside

    abbrev pub image_sizes : Sizes
    image_sizes = sizes_with (text_size code) table_size (values_end names build.units) image_symbols

-- The parts of a build's image, once they are made.
use Rattle.std.proofs.Common.{◌≡◌, ℕ, ◌≤◌, ◌<◌, ◌^◌, List, length, ap, ◌∙◌, subst, arith}
use Rattle.byte_layout.specs.Joined.{aligned}
use Rattle.elf_image.specs.declared.layout.Sizes.{Sizes}
use Rattle.elf_image.specs.declared.parts.SymbolPart.{SymbolPart}
use Rattle.elf_image.specs.Layout.{image_length}
use Rattle.link_build.specs.declared.build.Build.{Build}
use Rattle.link_build.specs.Functions.{Seen, functions_in}
use Rattle.link_functions.specs.declared.code.UnitCode.{UnitCode}
use Rattle.link_names.specs.Definitions.{Entry}
use Rattle.link_places.specs.Places.{end_from, places_from}
use Rattle.link_plan.specs.declared.planning.Plan.{Plan}
use Rattle.link_plan.specs.Plan.{text_size}
use Rattle.link_tables.specs.declared.func_lines.FuncLines.{FuncLines}
use Rattle.link_values.specs.declared.kept.KeptValue.{KeptValue}
use Rattle.link_values.specs.Kept.{sizes_of}
use Rattle.link_values.specs.Values.{values_end}
use Rattle.pclntab.specs.Written.{written}
use Rattle.link_parts.specs.Fitted.{AreLines, IsPlanned, IsTooLong}
use Rattle.link_parts.specs.Image.{address_behind, image_functions, image_sizes, image_symbols, image_values, planned_symbols, sizes_with, table_parts, table_size, values_address}
use Rattle.link_parts.specs.Symbols.{function_symbols, in_order, value_symbols}
use Rattle.link_parts.proofs.LengthLemmas.{table_within}

module _ {Instr : Type 0} (quantum : ℕ) (build : Build) (names : List Entry) (code : List (UnitCode Instr)) (lines : List (FuncLines Instr)) where
  pub long_table : AreLines quantum build code lines → 2 ^ 26 < length (written (table_parts quantum build names code lines))
      → IsTooLong quantum build names code
  long_table are long =
      record {
        lines = lines;
        lines_are = are;
        long = omega (arith, long, table_within (image_sizes quantum build names code lines));
      }

  module _ (plan : Plan) (planned : IsPlanned build names code plan) where
    pub text_is : aligned 16 plan.functions.end ≡ text_size code
    text_is = ap (aligned 16) planned.functions.end

    end_is : plan.values.end ≡ values_end names build.units
    end_is = planned.values.end ∙ ap (λ (kept : List KeptValue). end_from 0 (sizes_of kept)) planned.kept

    module _ (funcs : List (Seen Instr)) (funcs_are : funcs ≡ functions_in code) where
      pub functions_are : function_symbols funcs plan.functions.at ≡ image_functions quantum build names code lines
      functions_are =
          ap (λ (all : List (Seen Instr)). function_symbols all plan.functions.at) funcs_are
          ∙ ap (function_symbols (functions_in code)) planned.functions.at

      values_are : (values_at : ℕ) → values_at ≡ values_address quantum build names code lines
          → value_symbols build.units plan.kept.items values_at plan.values.at ≡ image_values quantum build names code lines
      values_are values_at at_is =
          ap (λ (from : ℕ). value_symbols build.units plan.kept.items from plan.values.at) at_is
          ∙ ap (value_symbols build.units plan.kept.items (values_address quantum build names code lines)) planned.values.at
          ∙ ap (λ (kept : List KeptValue). value_symbols build.units kept (values_address quantum build names code lines) (places_from 0 (sizes_of kept)))
          planned.kept

      pub symbols_are : (values_at : ℕ) → values_at ≡ values_address quantum build names code lines
          → planned_symbols build funcs plan values_at ≡ image_symbols quantum build names code lines
      symbols_are values_at at_is =
          ap (λ (all : List SymbolPart). in_order all (value_symbols build.units plan.kept.items values_at plan.values.at) build.outside) functions_are
          ∙ ap (λ (all : List SymbolPart). in_order (image_functions quantum build names code lines) all build.outside) (values_are values_at at_is)

      module _ (text table_len values_at : ℕ) (text_same : text ≡ text_size code) (table_same : table_len ≡ table_size quantum build names code lines)
          (at_same : values_at ≡ address_behind text table_len) where
        pub at_is : values_at ≡ values_address quantum build names code lines
        at_is =
            at_same ∙ ap (λ (n : ℕ). address_behind n table_len) text_same ∙ ap (address_behind (text_size code)) table_same

        abbrev planned_sizes : Sizes
        planned_sizes = sizes_with text table_len plan.values.end (planned_symbols build funcs plan values_at)

        sizes_are : planned_sizes ≡ image_sizes quantum build names code lines
        sizes_are =
            let symbols = planned_symbols build funcs plan values_at in
            ap (λ (n : ℕ). sizes_with n table_len plan.values.end symbols) text_same
            ∙ ap (λ (n : ℕ). sizes_with (text_size code) n plan.values.end symbols) table_same
            ∙ ap (λ (n : ℕ). sizes_with (text_size code) (table_size quantum build names code lines) n symbols) end_is
            ∙ ap (sizes_with (text_size code) (table_size quantum build names code lines) (values_end names build.units)) (symbols_are values_at at_is)

        pub short_image : image_length planned_sizes ≤ 2 ^ 26 → image_length (image_sizes quantum build names code lines) ≤ 2 ^ 26
        short_image short = subst (λ (sizes : Sizes). image_length sizes ≤ 2 ^ 26) sizes_are short

        pub long_image : AreLines quantum build code lines → 2 ^ 26 < image_length planned_sizes → IsTooLong quantum build names code
        long_image are long =
            record { lines = lines; lines_are = are; long = subst (λ (sizes : Sizes). 2 ^ 26 < image_length sizes) sizes_are long }

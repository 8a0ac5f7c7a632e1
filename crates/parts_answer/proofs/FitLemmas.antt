-- What an image has beside its code is settled by its build.
use Rattle.std.proofs.Common.{◌≡◌, ℕ, List, length, sym, ap, ◌∙◌, inl, inr, arith}
use Rattle.std.specs.Prelude.{◌++◌, ◌⊎◌}
use Rattle.byte_layout.specs.Joined.{aligned}
use Rattle.byte_layout.proofs.JoinedLemmas.{aligned_near, aligned_whole}
use Rattle.elf_image.specs.declared.parts.SymbolPart.{SymbolPart}
use Rattle.elf_image.specs.Layout.{image_length}
use Rattle.pclntab.specs.declared.parts.TableParts.{TableParts}
use Rattle.pclntab.specs.Written.{written}
use Rattle.link_names.specs.declared.definition.Meaning.{Meaning}
use Rattle.link_names.specs.Definitions.{Entry, MeansAs}
use Rattle.link_functions.specs.declared.code.UnitCode.{UnitCode}
use Rattle.link_places.specs.Addresses.{TellsAs, address_in}
use Rattle.link_places.specs.Places.{end_from, places_from}
use Rattle.link_places.proofs.PlaceLemmas.{length-places}
use Rattle.link_values.specs.declared.kept.KeptValue.{KeptValue}
use Rattle.link_values.specs.Kept.{kept_values, sizes_of}
use Rattle.link_plan.specs.Addresses.{behind, build_addresses, code_meanings, outside_addresses, text_address, value_meanings}
use Rattle.link_plan.specs.Plan.{PassesLimit, text_size}
use Rattle.link_plan.specs.Sizes.{code_sizes}
use Rattle.link_build.specs.declared.build.Build.{Build}
use Rattle.link_build.specs.Functions.{functions_in}
use Rattle.link_tables.specs.declared.func_lines.FuncLines.{FuncLines}
use Rattle.link_parts.specs.declared.fitting.Fitted.{Fitted}
use Rattle.link_parts.specs.Fitted.{AreLines, IsFitted, IsTooLong}
use Rattle.link_parts.specs.Image.{address_behind, function_places, image_functions, image_sizes, image_symbols, image_values, sizes_with, table_parts, table_size, values_address}
use Rattle.link_parts.specs.Symbols.{Thing, function_symbols, in_order, parts_behind, value_symbols}
use Rattle.build_answer.specs.Same.{IsSameCode}
use Rattle.parts_answer.proofs.LineLemmas.{all_alike, same_parts}
use Rattle.parts_answer.proofs.SameLemmas.{same_meanings, same_sizes, same_things}
use Rattle.parts_answer.proofs.ValueLemmas.{same_kept}

module _ {Instr : Type 0} where
  pub same_places : (code again : List (UnitCode Instr)) → IsSameCode code again → function_places code ≡ function_places again
  same_places code again same = ap (places_from 0) (same_sizes code again same)

  pub same_text : (code again : List (UnitCode Instr)) → IsSameCode code again → text_size code ≡ text_size again
  same_text code again same = ap (λ (sizes : List ℕ). aligned 16 (end_from 0 sizes)) (same_sizes code again same)

  module _ (quantum : ℕ) (build : Build) (names others : List Entry) (code again : List (UnitCode Instr)) (means : MeansAs names others)
      (same : IsSameCode code again) where
    module _ (lines more : List (FuncLines Instr)) (a : AreLines quantum build code lines) (b : AreLines quantum build again more) where
      same_table : table_parts quantum build names code lines ≡ table_parts quantum build others again more
      same_table =
          same_parts build.files quantum (text_size code) (text_size again) lines more (same_text code again same)
          (all_alike quantum build code again lines more same a b)

      same_values_at : values_address quantum build names code lines ≡ values_address quantum build others again more
      same_values_at =
          ap (λ (text : ℕ). address_behind text (table_size quantum build names code lines)) (same_text code again same)
          ∙ ap (λ (parts : TableParts). address_behind (text_size again) (length (written parts))) same_table

      same_image_functions : image_functions quantum build names code lines ≡ image_functions quantum build others again more
      same_image_functions =
          ap (λ (things : List Thing). parts_behind 0 text_address things (function_places code)) (same_things code again same)
          ∙ ap (λ (places : List ℕ). function_symbols (functions_in again) places) (same_places code again same)

      same_image_values : image_values quantum build names code lines ≡ image_values quantum build others again more
      same_image_values =
          ap (λ (kept : List KeptValue). value_symbols build.units kept (values_address quantum build names code lines)
          (places_from 0 (sizes_of kept))) (same_kept names others means build.units)
          ∙ ap (λ (at : ℕ). value_symbols build.units (kept_values others build.units) at
          (places_from 0 (sizes_of (kept_values others build.units)))) same_values_at

      same_symbols : image_symbols quantum build names code lines ≡ image_symbols quantum build others again more
      same_symbols =
          ap (λ (functions : List SymbolPart). in_order functions (image_values quantum build names code lines) build.outside) same_image_functions
          ∙ ap (λ (values : List SymbolPart). in_order (image_functions quantum build others again more) values build.outside) same_image_values

      same_image_sizes : image_sizes quantum build names code lines ≡ image_sizes quantum build others again more
      same_image_sizes =
          ap (λ (text : ℕ). sizes_with text (table_size quantum build names code lines) (end_from 0 (sizes_of (kept_values names build.units)))
          (image_symbols quantum build names code lines)) (same_text code again same)
          ∙ ap (λ (parts : TableParts). sizes_with (text_size again) (length (written parts)) (end_from 0 (sizes_of (kept_values names build.units)))
          (image_symbols quantum build names code lines)) same_table
          ∙ ap (λ (kept : List KeptValue). sizes_with (text_size again) (table_size quantum build others again more) (end_from 0 (sizes_of kept))
          (image_symbols quantum build names code lines)) (same_kept names others means build.units)
          ∙ ap (λ (symbols : List SymbolPart). sizes_with (text_size again) (table_size quantum build others again more)
          (end_from 0 (sizes_of (kept_values others build.units))) symbols) same_symbols

    module _ (fitted : Fitted) (a : IsFitted quantum build names code fitted) where
      pub never_fitted : ¬ (PassesLimit others build.units again ⊎ IsTooLong quantum build others again)
      never_fitted (inl (inl (inl many))) =
          let count : length fitted.plan.functions.at ≡ length (code_sizes again)
          = ap length a.plan.functions.at ∙ length-places 0 (code_sizes code) ∙ ap length (same_sizes code again same) in
          omega (arith, count, many, a.plan.few)
      never_fitted (inl (inl (inr long))) =
          let end : fitted.plan.functions.end ≡ end_from 0 (code_sizes again)
          = a.plan.functions.end ∙ ap (end_from 0) (same_sizes code again same) in
          omega (
            arith,
            end,
            long,
            a.plan.functions.small,
            aligned_near 16 (end_from 0 (code_sizes again)) (omega arith),
            aligned_whole 16 (end_from 0 (code_sizes again)) (omega arith),
          )
      never_fitted (inl (inr much)) =
          let end : fitted.plan.values.end ≡ end_from 0 (sizes_of (kept_values others build.units))
          = a.plan.values.end
          ∙ ap (λ (kept : List KeptValue). end_from 0 (sizes_of kept)) (a.plan.kept ∙ same_kept names others means build.units) in
          omega (arith, end, much, a.plan.values.small)
      never_fitted (inr long) =
          let sizes = same_image_sizes a.lines long.lines a.lines_are long.lines_are in
          omega (arith, ap image_length sizes, a.short, long.long)

      module _ (other : Fitted) (b : IsFitted quantum build others again other) where
        pub one_table : fitted.table ≡ other.table
        one_table = a.table.bytes ∙ ap written (same_table a.lines b.lines a.lines_are b.lines_are) ∙ sym b.table.bytes

        pub one_symbols : fitted.symbols ≡ other.symbols
        one_symbols = a.listed ∙ same_symbols a.lines b.lines a.lines_are b.lines_are ∙ sym b.listed

        -- the addresses by the parts of a plan
        abbrev addresses_by : List Meaning → List ℕ → ℕ → List KeptValue → List ℕ → List (Meaning × ℕ)
        addresses_by meanings at values_at kept values =
            behind text_address meanings at ++ behind values_at (value_meanings kept) values ++ outside_addresses build.outside

        same_build_addresses : build_addresses code fitted.plan build.outside fitted.values_at
            ≡ build_addresses again other.plan build.outside other.values_at
        same_build_addresses =
            let functions : fitted.plan.functions.at ≡ other.plan.functions.at
            = a.plan.functions.at ∙ ap (places_from 0) (same_sizes code again same) ∙ sym b.plan.functions.at in
            let kept : fitted.plan.kept.items ≡ other.plan.kept.items
            = a.plan.kept ∙ same_kept names others means build.units ∙ sym b.plan.kept in
            let values : fitted.plan.values.at ≡ other.plan.values.at
            = a.plan.values.at ∙ ap (λ (kept : List KeptValue). places_from 0 (sizes_of kept)) kept ∙ sym b.plan.values.at in
            let at : fitted.values_at ≡ other.values_at
            = a.values_at ∙ same_values_at a.lines b.lines a.lines_are b.lines_are ∙ sym b.values_at in
            ap (λ (meanings : List Meaning). addresses_by meanings fitted.plan.functions.at fitted.values_at fitted.plan.kept.items
            fitted.plan.values.at) (same_meanings code again same)
            ∙ ap (λ (places : List ℕ). addresses_by (code_meanings again) places fitted.values_at fitted.plan.kept.items
            fitted.plan.values.at) functions
            ∙ ap (λ (at : ℕ). addresses_by (code_meanings again) other.plan.functions.at at fitted.plan.kept.items fitted.plan.values.at) at
            ∙ ap (λ (kept : List KeptValue). addresses_by (code_meanings again) other.plan.functions.at other.values_at kept
            fitted.plan.values.at) kept
            ∙ ap (λ (places : List ℕ). addresses_by (code_meanings again) other.plan.functions.at other.values_at other.plan.kept.items places)
            values

        pub one_addresses : TellsAs fitted.addresses other.addresses
        one_addresses meaning =
            a.addresses meaning ∙ ap (λ (pairs : List (Meaning × ℕ)). address_in pairs meaning) same_build_addresses ∙ sym (b.addresses meaning)

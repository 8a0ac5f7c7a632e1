-- The parts of a build's image can be written.
use Rattle.std.proofs.Common.{◌≡◌, ℕ, zero, suc, ◌+◌, ◌<◌, inl, inr, List, [], ◌∷◌, length, map, Some, refl, sym, ap, ◌∙◌, subst, arith}
use Rattle.std.specs.Prelude.{IsTrue, slice_index}
use Rattle.std.specs.List.{list_any, slice_get}
use Rattle.std.specs.Option.{option_map}
use Rattle.std.proofs.lemmas.List.{length-map}
use Rattle.std.proofs.lemmas.Option.{slice_get-map}
use Rattle.asm_target.proofs.PlaceLemmas.{item_at}
use Rattle.asm_target.specs.Architecture.{Architecture, IsArchitecture}
use Rattle.elf_image.specs.declared.parts.ImageParts.{ImageParts}
use Rattle.elf_image.specs.declared.rows.Wanted.TheVariants.{Machine}
use Rattle.elf_image.specs.Layout.{image_length}
use Rattle.elf_image.specs.Parts.{is_entry}
use Rattle.elf_image.specs.Rows.{meets}
use Rattle.elf_image.specs.Written.{AreParts, image_bytes, sizes_of}
use Rattle.link_build.specs.declared.build.Build.{Build}
use Rattle.link_build.specs.Functions.{functions_in}
use Rattle.link_functions.specs.declared.code.UnitCode.{UnitCode}
use Rattle.link_names.specs.Definitions.{Entry}
use Rattle.link_parts.specs.declared.fitting.Fitted.{Fitted}
use Rattle.link_parts.specs.Image.{function_places, image_sizes, sizes_with, table_size}
use Rattle.link_parts.specs.Symbols.{Thing, function_thing, part_of, parts_behind}
use Rattle.link_parts.proofs.ListableLemmas.{functions_count}
use Rattle.link_places.proofs.PlaceLemmas.{length-places}
use Rattle.link_plan.specs.Addresses.{text_address}
use Rattle.link_plan.specs.Plan.{text_size}
use Rattle.link_plan.specs.Sizes.{code_sizes}
use Rattle.link_tables.specs.declared.func_lines.FuncLines.{FuncLines}
use Rattle.link_values.specs.Values.{values_end}
use Rattle.unit_listing.specs.Kit.{Kit}
use Rattle.image_link.specs.Linked.{IsFit}
use Rattle.image_link.proofs.NumberLemmas.{some_same}

pub known_machine : (known : Architecture) → IsArchitecture known → IsTrue (meets Machine known.machine)
known_machine known is =
    elim is [
      | inl amd64 ↦ subst (λ (one : Architecture). IsTrue (meets Machine one.machine)) (sym amd64) refl
      | inr others ↦
          elim others [
            | inl arm64 ↦ subst (λ (one : Architecture). IsTrue (meets Machine one.machine)) (sym arm64) refl
            | inr riscv64 ↦ subst (λ (one : Architecture). IsTrue (meets Machine one.machine)) (sym riscv64) refl
          ]
    ]

-- what stands behind an address at the place of this number
part_there : (kind from : ℕ) (things : List Thing) (places : List ℕ) (number : ℕ) (thing : Thing) → length things ≡ length places
    → slice_get things number ≡ Some thing
    → slice_get (parts_behind kind from things places) number ≡ Some (part_of kind thing (from + slice_index places number))
unfolding parts_behind
part_there kind from [] places number thing same here = absurd cc
part_there kind from (first ∷ things) [] number thing same here = absurd (omega (arith, same))
part_there kind from (first ∷ things) (place ∷ places) zero thing same here =
    ap (λ (one : Thing). Some (part_of kind one (from + place))) (some_same here)
part_there kind from (first ∷ things) (place ∷ places) (suc number) thing same here =
    part_there kind from things places number thing (omega (arith, same)) here

module _ {Instr : Type 0} (kit : Kit Instr) (build : Build) (names : List Entry) (code : List (UnitCode Instr)) (fitted : Fitted)
    (fit : IsFit kit build names code fitted) where
  abbrev lines : List (FuncLines Instr)
  lines = fit.fits.lines

  -- each function can be the entry
  entry_told : (number : ℕ) → number < length (functions_in code)
      → IsTrue (list_any (is_entry (text_address + slice_index (function_places code) number)) fitted.symbols)
  entry_told number within =
      let func = item_at (functions_in code) number within in
      let same : length (map function_thing (functions_in code)) ≡ length (function_places code)
      = length-map (functions_in code) function_thing ∙ functions_count code ∙ sym (length-places 0 (code_sizes code)) in
      let symbol = part_of 0 (function_thing func.0) (text_address + slice_index (function_places code) number) in
      fit.fits.symbols.entries number symbol
      (part_there 0 text_address (map function_thing (functions_in code)) (function_places code) number (function_thing func.0) same
      (slice_get-map function_thing (functions_in code) number ∙ ap (option_map function_thing) func.1))

  module _ (machine : ℕ) (machine_is : machine ≡ kit.machine) (entry number : ℕ) (text values : List ℕ) where
    -- the parts that are written
    abbrev pub made_parts : ImageParts
    made_parts = record {
      machine = machine;
      entry = entry;
      text = text;
      table = fitted.table;
      values = values;
      symbols = fitted.symbols;
    }

    module _ (number_within : number < length (functions_in code)) (entry_is : entry ≡ text_address + slice_index fitted.plan.functions.at number) where
      entry_at : entry ≡ text_address + slice_index (function_places code) number
      entry_at = entry_is ∙ ap (λ (at : List ℕ). text_address + slice_index at number) fit.fits.plan.functions.at

      module _ (text_long : length text ≡ text_size code) (values_long : length values ≡ values_end names build.units) where
        sizes_same : sizes_of made_parts ≡ image_sizes kit.quantum build names code lines
        sizes_same =
            ap (λ (n : ℕ). sizes_with n (length fitted.table) (length values) fitted.symbols) text_long
            ∙ ap (λ (table : List ℕ). sizes_with (text_size code) (length table) (length values) fitted.symbols) fit.fits.table.bytes
            ∙ ap (λ (n : ℕ). sizes_with (text_size code) (table_size kit.quantum build names code lines) n fitted.symbols) values_long
            ∙ ap (sizes_with (text_size code) (table_size kit.quantum build names code lines) (values_end names build.units)) fit.fits.listed

        pub can_write : ((parts : ImageParts) → length (image_bytes parts) ≡ image_length (sizes_of parts))
            → IsTrue (meets Machine kit.machine) → AreParts made_parts
        can_write long known =
            record {
              machine = subst (λ (one : ℕ). IsTrue (meets Machine one)) (sym machine_is) known;
              symbols = fit.fits.symbols.parts;
              order = fit.fits.symbols.order;
              entry = subst (λ (at : ℕ). IsTrue (list_any (is_entry at) fitted.symbols)) (sym entry_at) (entry_told number number_within);
              short = omega (arith, long made_parts ∙ ap image_length sizes_same, fit.fits.short);
            }

-- The functions of an image have the sizes by which their places were planned.
use Rattle.std.proofs.Common.{◌≡◌, ℕ, ◌+◌, List, [], ◌∷◌, length, map, refl, sym, ap, ◌∙◌, subst, arith}
use Rattle.std.specs.Prelude.{All}
use Rattle.std.specs.List.{AllZip, slice_get}
use Rattle.std.specs.Option.{option_map}
use Rattle.std.proofs.lemmas.Option.{slice_get-map, slice_get_within}
use Rattle.asm_target.proofs.PlaceLemmas.{item_at}
use Rattle.asm_target.specs.Aiming as aiming
use Rattle.image_rules.specs.Functions.{placed_from}
use Rattle.link_build.specs.Functions.{functions_in}
use Rattle.link_code.specs.declared.placing.Code.{Code}
use Rattle.link_flow.specs.Codes.{AreCodes}
use Rattle.link_functions.specs.declared.code.UnitCode.{UnitCode}
use Rattle.link_names.specs.declared.definition.Meaning.{Meaning}
use Rattle.link_names.specs.Definitions.{Entry}
use Rattle.link_parts.specs.Image.{function_places}
use Rattle.link_parts.proofs.ListableLemmas.{functions_count, length_of, lengths_are}
use Rattle.link_plan.specs.Sizes.{code_sizes}
use Rattle.link_text.specs.Text.{HasSize, instructions_of}
use Rattle.unit_listing.specs.Kit.{Kit}
use Rattle.image_link.proofs.NumberLemmas.{some_same, zip_from_got}

module _ {Instr : Type 0} (kit : Kit Instr) where
  instrs_placed : (at : ℕ) (code : List Instr) → map (λ placed. placed.instr) (placed_from kit.set at code) ≡ code
  instrs_placed at [] = refl
  instrs_placed at (i ∷ code) = ap (λ rest. i ∷ rest) (instrs_placed (at + length (kit.set.spelling i)) code)

module _ {Instr : Type 0} (kit : Kit Instr) (names : List Entry) (addresses : List (Meaning × ℕ)) (code : List (UnitCode Instr))
    (codes : List (Code Instr)) (are : AreCodes names addresses kit (functions_in code) (function_places code) codes) where
  pub have_sizes : AllZip (HasSize kit) (code_sizes code) codes
  have_sizes =
      zip_from_got (HasSize kit) (code_sizes code) codes (sym (functions_count code) ∙ sym are.count) (λ number size code_is size_here here.
      let func = item_at (functions_in code) number (omega (arith, are.count, slice_get_within codes number code_is here)) in
      let is = are.each number func.0 code_is func.1 here in
      let instrs : instructions_of code_is ≡ is.placed.code
      = ap (map (λ placed. placed.instr)) is.placed.placed ∙ instrs_placed kit is.site.entry is.placed.code in
      let size_is : size ≡ func.0.part.laid.sizes.length
      = some_same (sym size_here ∙ ap (λ (sizes : List ℕ). slice_get sizes number) (sym (lengths_are code))
      ∙ slice_get-map length_of (functions_in code) number ∙ ap (option_map length_of) func.1) in
      record {
        fit = subst (All kit.fits) (sym instrs) is.placed.fit;
        long = ap (aiming.bytes_of kit.set) instrs ∙ is.placed.long ∙ sym size_is;
      })

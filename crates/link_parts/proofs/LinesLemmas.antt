-- What is known of a build's functions by their lines.
use Rattle.std.proofs.Common.{◌≡◌, ℕ, zero, suc, ◌+◌, ◌≤◌, ◌<◌, ◌^◌, List, [], ◌∷◌, length, map, Some, refl, sym, ap, ◌∙◌, subst, arith}
use Rattle.std.specs.Prelude.{All, slice_get, slice_index, sum}
use Rattle.std.specs.List.Sorted.{IsStrictlyIncreasing}
use Rattle.std.proofs.lemmas.List.Elements.{All-map, All-weaker}
use Rattle.std.proofs.lemmas.Option.{slice_get_within}
use Rattle.link_build.specs.declared.build.Build.{Build}
use Rattle.link_build.specs.Functions.{Seen, functions_in}
use Rattle.link_functions.specs.declared.code.UnitCode.{UnitCode}
use Rattle.link_lines.specs.Told.{AreToldBy}
use Rattle.link_places.specs.Places.{end_from}
use Rattle.link_places.proofs.PlaceLemmas.{length-places}
use Rattle.link_plan.specs.Sizes.{code_sizes}
use Rattle.link_tables.specs.declared.func_lines.FuncLines.{FuncLines}
use Rattle.link_tables.specs.Table.{EntriesAscend, IsLinked}
use Rattle.link_parts.specs.Fitted.{AreLines}
use Rattle.link_parts.specs.Image.{function_places}
use Rattle.link_parts.proofs.ListableLemmas.{functions_count, got_within, length_of, lengths_are, places_rise, sum-le-end}
use Rattle.link_parts.proofs.RunLemmas.{some_bytes}

-- lists as long as one another, with what the items of each number have in common
same_mapped : {X Y Z : Type 0} (f : X → Z) (g : Y → Z) (xs : List X) (ys : List Y) → length xs ≡ length ys
    → ((number : ℕ) (x : X) (y : Y) → slice_get xs number ≡ Some x → slice_get ys number ≡ Some y → f x ≡ g y) → map f xs ≡ map g ys
same_mapped f g [] [] same each = refl
same_mapped f g [] (y ∷ ys) same each = absurd (omega (arith, same))
same_mapped f g (x ∷ xs) [] same each = absurd (omega (arith, same))
same_mapped f g (x ∷ xs) (y ∷ ys) same each =
    let rest = same_mapped f g xs ys (omega (arith, same)) (λ number one other here there. each (suc number) one other here there) in
    ap (λ first. first ∷ map f xs) (each zero x y refl refl) ∙ ap (λ others. g y ∷ others) rest

map_id : (xs : List ℕ) → map (λ (x : ℕ). x) xs ≡ xs
map_id [] = refl
map_id (x ∷ xs) = ap (λ (rest : List ℕ). x ∷ rest) (map_id xs)

module _ {Instr : Type 0} (funcs : List (Seen Instr)) (entries : List ℕ) (all : List (FuncLines Instr)) (told : AreToldBy funcs entries all)
    (same : length entries ≡ length funcs) where
  entries_told : map (λ (lines : FuncLines Instr). lines.entry) all ≡ entries
  entries_told =
      same_mapped (λ (lines : FuncLines Instr). lines.entry) (λ (entry : ℕ). entry) all entries (told.as_many ∙ sym same)
      (λ number lines entry here there.
      let it = got_within funcs number (omega (arith, slice_get_within entries number entry there, same)) in
      (told.each number entry it.0 lines it.1 there here).begins)
      ∙ map_id entries

  lengths_told : map (λ (lines : FuncLines Instr). lines.length) all ≡ map length_of funcs
  lengths_told =
      same_mapped (λ (lines : FuncLines Instr). lines.length) length_of all funcs told.as_many (λ number lines func here there.
      let it = got_within entries number (omega (arith, slice_get_within funcs number func there, same)) in
      (told.each number it.0 func lines there it.1 here).long)

abbrev Ascend : List ℕ → Type 0
Ascend places = (index : ℕ) → index + 1 < length places → slice_index places index ≤ slice_index places (index + 1)

ascends : (places : List ℕ) → IsStrictlyIncreasing places → Ascend places
ascends places rising index within = omega (arith, rising index within)

module _ {Instr : Type 0} (quantum : ℕ) (build : Build) (code : List (UnitCode Instr)) (lines : List (FuncLines Instr))
    (are : AreLines quantum build code lines) where
  places_count : length (function_places code) ≡ length (functions_in code)
  places_count = length-places 0 (code_sizes code) ∙ sym (functions_count code)

  sizes_told : map (λ (func : FuncLines Instr). func.length) lines ≡ code_sizes code
  sizes_told = lengths_told (functions_in code) (function_places code) lines are.told places_count ∙ lengths_are code

  pub count_lines : length lines ≡ length (code_sizes code)
  count_lines = are.told.as_many ∙ functions_count code

  -- each function has at least one byte, and so they rise
  pub some_sizes : All (λ size. 0 < size) (code_sizes code)
  some_sizes =
      subst (All (λ (size : ℕ). 0 < size)) sizes_told
      (All-map (λ (size : ℕ). 0 < size) (λ (func : FuncLines Instr). func.length) lines
      (All-weaker (IsLinked quantum (length build.files)) (λ (func : FuncLines Instr). 0 < func.length)
      (some_bytes quantum (length build.files)) lines are.linked))

  pub entries_ascend : EntriesAscend lines
  entries_ascend =
      subst Ascend (sym (entries_told (functions_in code) (function_places code) lines are.told places_count))
      (ascends (function_places code) (places_rise (code_sizes code) some_sizes))

  pub short_lines : end_from 0 (code_sizes code) ≤ 2 ^ 24 → sum (map (λ func. func.length) lines) ≤ 2 ^ 24
  short_lines short = omega (arith, ap sum sizes_told, sum-le-end (code_sizes code))

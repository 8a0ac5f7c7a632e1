-- The functions of an image are an image as the machine sees it.
use Rattle.std.proofs.Common.{◌≡◌, ℕ, zero, suc, ◌+◌, ◌-◌, ◌≤◌, ◌<◌, ◌^◌, ◌==◌, true, false, List, [], ◌∷◌, All, length, filter, take, drop, get_or, refl, sym, ap, ◌∙◌, subst, arith, inl, inr, length-append, length-drop}
use Rattle.std.specs.List.{flat_map, slice_get}
use Rattle.std.proofs.lemmas.Bool.{cases_lt, eq-eqb, eqb-true}
use Rattle.std.proofs.lemmas.Bool.Decides.{nat_tests}
use Rattle.std.proofs.lemmas.List.Elements.{All-filter, All-map}
use Rattle.std.proofs.lemmas.List.Folds.{Any-from_list_any, list_any_at}
use Rattle.std.proofs.lemmas.List.FromFn.{get_or-map-range_with_len, length-map-range_with_len}
use Rattle.std.proofs.lemmas.List.Sorted.{All-permutation}
use Rattle.pcvalue.specs.Cover.{HasOneList}
use Rattle.asm_target.specs.declared.body.Placed.{Placed}
use Rattle.asm_target.specs.FlowFunction.{Range, is_within}
use Rattle.asm_target.specs.FlowRules.{IsFlowSound}
use Rattle.asm_target.specs.Laws.{HasLengths, IsPrefixFree}
use Rattle.elf_image.specs.Contents.{outside_in, text_address, text_in}
use Rattle.elf_image.specs.Layout.{sizes_in}
use Rattle.elf_image.proofs.LayoutLemmas.{ends_before}
use Rattle.flow_rules.specs.Placing.{ArePlaced, Surroundings, end_of, is_listed, place_of}
use Rattle.image_model.specs.Listed.{AreFunctions, AreSpelled, Listed, first_of, past_of}
use Rattle.image_rules.specs.Functions.{AreFunctionsOf, IsFunction}
use Rattle.image_rules.specs.Machine.{Machine}
use Rattle.image_rules.specs.Parts.{HasProfile, Surrounds, count_in, entry_in, growth_in, image_range, is_growth_name, offset_in, own_bytes, text_range}
use Rattle.image_rules.specs.Sound.{IsSoundImage, rules_of}
use Rattle.image_rules.proofs.AroundLemmas.{same_around}
use Rattle.image_rules.proofs.FunctionLemmas.{same_function}
use Rattle.image_rules.proofs.PlacedLemmas.{are_placed, placed_first, placed_last, placed_length, spelled}

take_most : {A : Type 0} (n : ℕ) (xs : List A) → length (take n xs) ≤ n
take_most {A} zero xs = omega arith
take_most {A} (suc n) [] = omega arith
take_most {A} (suc n) (x ∷ xs) = (let rest = take_most n xs in omega arith)

take_within : {A : Type 0} (n : ℕ) (xs : List A) → length (take n xs) ≤ length xs
take_within {A} zero xs = omega arith
take_within {A} (suc n) [] = omega arith
take_within {A} (suc n) (x ∷ xs) = (let rest = take_within n xs in omega arith)

-- what lies outside a range lies outside a part of it
smaller : (range part : Range) (at : ℕ) → part.first ≡ range.first → part.past ≤ range.past → is_within range at ≡ false
    → is_within part at ≡ false
smaller range part at first past outside = grind (arith, nat_tests)

module _ {Instr : Type 0} (machine : Machine Instr) (lengths : HasLengths machine.set machine.fits machine.quantum) (bytes : List ℕ) where
  module _ (profile : HasProfile bytes machine) where
    -- a function ends within the text, behind its first byte
    ends : (index : ℕ) → index < count_in bytes
        → (offset_in bytes index < offset_in bytes (suc index)) × (offset_in bytes (suc index) ≤ length (text_in bytes))
    ends index inside =
        elim (cases_lt (suc index) (count_in bytes)) as (λ _. (offset_in bytes index < offset_in bytes (suc index))
        × (offset_in bytes (suc index) ≤ length (text_in bytes))) [
          | inl more ↦ (profile.rises index more, (let less = profile.inside (suc index) more in omega arith))
          | inr last ↦
              (let same : suc index ≡ count_in bytes = omega arith in
              let end : offset_in bytes (suc index) ≡ length (text_in bytes) = ap (offset_in bytes) same ∙ profile.past in
              let less = profile.inside index inside in
              (omega arith, omega arith))
        ]

    further : (index n : ℕ) → index + suc n < count_in bytes → offset_in bytes (suc index) ≤ offset_in bytes (index + suc n)
    further index zero inside =
        let next : suc index ≡ index + suc zero = omega arith in
        subst (λ (k : ℕ). offset_in bytes (suc index) ≤ offset_in bytes k) next (omega arith)
    further index (suc n) inside =
        let before = further index n (omega arith) in
        let rise = profile.rises (index + suc n) (omega arith) in
        let next : suc (index + suc n) ≡ index + suc (suc n) = omega arith in
        subst (λ (k : ℕ). offset_in bytes (suc index) ≤ offset_in bytes k) next (omega arith)

    later : (index other : ℕ) → index < other → other < count_in bytes → offset_in bytes (suc index) ≤ offset_in bytes other
    later index other less inside =
        let same : index + suc (other - suc index) ≡ other = omega arith in
        subst (λ (k : ℕ). offset_in bytes (suc index) ≤ offset_in bytes k) same (further index (other - suc index) (omega arith))

    entry_is : (index : ℕ) → entry_in bytes index ≡ text_address + offset_in bytes index
    entry_is index = ap (λ start. start + offset_in bytes index) profile.start

    text_size : length (text_in bytes) ≤ length bytes
    text_size =
        let most = take_within (sizes_in bytes).text (drop 4096 bytes) in
        omega (arith, length-drop 4096 bytes)

    module _ (index : ℕ) (listed : Listed Instr) (inside : index < count_in bytes) (is : IsFunction machine bytes index listed) where
      some : 0 < length listed.code
      some =
          let size = ap (λ (code : List (Placed Instr)). length code) is.placed in
          let more = is.is_code.some in
          omega (arith, placed_length machine.set machine.fits (entry_in bytes index) is.code)

      first : first_of listed ≡ entry_in bytes index
      first =
          ap (λ (code : List (Placed Instr)). place_of (slice_get code 0)) is.placed
          ∙ placed_first machine.set machine.fits (entry_in bytes index) is.code is.is_code.some

      past : past_of listed ≡ entry_in bytes index + length (flat_map machine.set.spelling is.code)
      past =
          ap (λ (code : List (Placed Instr)). end_of (slice_get code (length code - 1))) is.placed
          ∙ placed_last machine.set machine.fits (entry_in bytes index) is.code is.is_code.some

      -- its instructions end where the next function begins, or before
      size : offset_in bytes index + length (flat_map machine.set.spelling is.code) ≤ offset_in bytes (suc index)
      size =
          let whole : length (own_bytes bytes index) ≡ length (flat_map machine.set.spelling is.code) + length is.is_code.rest =
          ap (λ (own : List ℕ). length own) is.is_code.listing.whole
          ∙ length-append (flat_map machine.set.spelling is.code) is.is_code.rest in
          let most = take_most (offset_in bytes (suc index) - offset_in bytes index) (drop (offset_in bytes index) (text_in bytes)) in
          let end = (ends index inside).0 in
          omega arith

      placed : length bytes < 2 ^ 63 → ArePlaced listed.code
      placed short =
          let end = (ends index inside).1 in
          let entry = entry_is index in
          let room : entry_in bytes index + length (flat_map machine.set.spelling is.code) ≤ 2 ^ 64 = omega (arith, size, text_size) in
          subst (λ (code : List (Placed Instr)). ArePlaced code) (sym is.placed)
          (are_placed machine.set machine.fits (λ instr fit. (lengths instr fit).least) (entry_in bytes index) is.code
          is.is_code.listing.fit room)

      are_spelled : AreSpelled machine.set machine.fits listed.code
      are_spelled =
          subst (λ (code : List (Placed Instr)). AreSpelled machine.set machine.fits code) (sym is.placed)
          (spelled machine.set machine.fits (entry_in bytes index) is.code is.is_code.listing.fit)

    module _ (around : Surroundings) (surrounds : Surrounds bytes around) where
      entry_at : (index d : ℕ) → index < count_in bytes → get_or around.entries index d ≡ entry_in bytes index
      entry_at index d inside =
          ap (λ (entries : List ℕ). get_or entries index d) surrounds.entries
          ∙ get_or-map-range_with_len (entry_in bytes) 0 (count_in bytes) index index d inside (omega arith)

      entries_count : length around.entries ≡ count_in bytes
      entries_count =
          ap (λ (entries : List ℕ). length entries) surrounds.entries
          ∙ length-map-range_with_len (entry_in bytes) 0 (count_in bytes)

      entry : (index : ℕ) → index < count_in bytes → is_listed around.entries (entry_in bytes index) ≡ true
      entry index inside =
          list_any_at (λ listed. listed == entry_in bytes index) around.entries index 0 (omega (arith, entries_count))
          (eq-eqb (get_or around.entries index 0) (entry_in bytes index) (entry_at index 0 inside))

      entries : (at : ℕ) → is_listed around.entries at ≡ true → (index : ℕ) × (index < count_in bytes) × (at ≡ entry_in bytes index)
      entries at is =
          let found = Any-from_list_any (λ listed. listed == at) around.entries is in
          let inside : found.0 < count_in bytes = (let less = found.2 in omega (arith, entries_count)) in
          (found.0, inside, sym (eqb-true found.1 at found.4) ∙ sym found.3 ∙ entry_at found.0 found.1 inside)

      -- the text ends before the values do
      text_past : (text_range bytes).past ≤ (image_range bytes).past
      text_past =
          let most = take_most (sizes_in bytes).text (drop 4096 bytes) in
          let before = ends_before (sizes_in bytes) in
          omega (arith, before.text, before.table)

      all_outside : All (λ at. is_within (text_range bytes) at ≡ false) around.growth
      all_outside =
          All-permutation (λ at. is_within (text_range bytes) at ≡ false) (growth_in bytes) around.growth surrounds.growth
          (All-map (λ at. is_within (text_range bytes) at ≡ false) (λ symbol. symbol.1)
          (filter (λ symbol. is_growth_name symbol.0) (outside_in bytes))
          (All-filter (λ symbol. is_growth_name symbol.0) (λ symbol. is_within (text_range bytes) symbol.1 ≡ false) (outside_in bytes)
          (λ k d inside. smaller (image_range bytes) (text_range bytes) _ refl text_past (profile.outside k d inside))))

      growth : (at : ℕ) → is_listed around.growth at ≡ true → is_within around.text at ≡ false
      growth at is =
          let found = Any-from_list_any (λ listed. listed == at) around.growth is in
          let outside = all_outside found.0 found.1 found.2 in
          let same : get_or around.growth found.0 found.1 ≡ at = found.3 ∙ eqb-true found.1 at found.4 in
          ap (λ (range : Range). is_within range at) surrounds.text
          ∙ subst (λ (address : ℕ). is_within (text_range bytes) address ≡ false) same outside

      pub are_functions : (functions : ℕ → Listed Instr) → length bytes < 2 ^ 63
          → AreFunctionsOf machine bytes functions (count_in bytes)
          → AreFunctions machine.set machine.fits around (count_in bytes) functions
      are_functions functions short are = record {
        some = λ i less. some i (functions i) less (are i less);
        placed = λ i less. placed i (functions i) less (are i less) short;
        spelled = λ i less. are_spelled i (functions i) less (are i less);
        apart = λ i j order less.
            let before : i < count_in bytes = omega arith in
            omega (
              arith,
              past i (functions i) before (are i before),
              size i (functions i) before (are i before),
              later i j order less,
              first j (functions j) less (are j less),
              entry_is i,
              entry_is j,
            );
        low = λ i less.
            let start = ap (λ (range : Range). range.first) surrounds.text in
            omega (arith, first i (functions i) less (are i less), entry_is i);
        high = λ i less.
            let end = ap (λ (range : Range). range.past) surrounds.text in
            let upto = (ends i less).1 in
            omega (arith, past i (functions i) less (are i less), size i (functions i) less (are i less), entry_is i);
        entry = λ i less.
            ap (λ (at : ℕ). is_listed around.entries at) (first i (functions i) less (are i less)) ∙ entry i less;
        entries = λ at is.
            let found = entries at is in
            (found.0, found.1, found.2 ∙ sym (first found.0 (functions found.0) found.1 (are found.0 found.1)));
        growth = growth;
      }

  pub flow_sound : IsPrefixFree machine.set machine.fits → HasOneList → (around : Surroundings) (functions : ℕ → Listed Instr)
      → IsSoundImage machine bytes → Surrounds bytes around → AreFunctionsOf machine bytes functions (count_in bytes)
      → (index : ℕ) → index < count_in bytes → IsFlowSound (rules_of machine bytes around (functions index))
  flow_sound prefix_free one_list around functions sound surrounds are index inside =
      let same = same_around bytes sound.around around sound.surrounds surrounds in
      let found = sound.functions index inside in
      let listed = same_function machine prefix_free lengths one_list bytes index found.0 (functions index) found.1.function (are index inside) in
      subst (λ (function : Listed Instr). IsFlowSound (rules_of machine bytes around function)) listed
      (subst (λ (others : Surroundings). IsFlowSound (rules_of machine bytes others found.0)) same found.1.flow)

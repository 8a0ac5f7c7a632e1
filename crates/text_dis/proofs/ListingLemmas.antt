-- How the text of an image is made, instruction by instruction and function by function, and that there is one.
use Rattle.std.proofs.Common.{◌≡◌, ℕ, zero, suc, List, [], ◌∷◌, ◌++◌, ◌+◌, ◌-◌, ◌<◌, ◌≤◌, ◌⊎◌, inl, inr, length, take, drop, codes, Some, refl, sym, ap, ◌∙◌, subst, arith, add-one, append_assoc, append-nil}
use Rattle.std.proofs.Math.Seq.{drop-append_seam, take-append_seam}
use Rattle.std.proofs.lemmas.Bool.{cases_lt}
use Rattle.std.proofs.lemmas.List.Elements.{All-head, All-tail}
use Rattle.std.specs.List.{flat_map}
use Rattle.std.specs.Option.{unwrap_or}
use Rattle.goasm_base.specs.Numbers.{hex_text}
use Rattle.asm_target.specs.InstructionSet.{InstructionSet, Begins, IsFirst, IsListing}
use Rattle.asm_target.specs.Laws.{IsPrefixFree}
use Rattle.elf_image.specs.Contents.{table_in, text_address, text_in}
use Rattle.pclntab.specs.Func.{FuncView, end_of, entry_of, name_of}
use Rattle.pclntab.specs.Places.{text_start}
use Rattle.image_model.specs.Listed.{Listed}
use Rattle.image_rules.specs.Functions.{AreFunctionsOf, IsFunction, placed_from}
use Rattle.image_rules.specs.Machine.{Machine}
use Rattle.image_rules.specs.Parts.{HasProfile, count_in, entry_in, offset_in, own_bytes}
use Rattle.image_rules.specs.Sound.{IsSoundImage}
use Rattle.text_dis.specs.Listing.{IsText, function_name, function_text, functions_text, instr_text}
use Rattle.text_dis.specs.Raw.{said_text}

-- the instructions of a function

module _ {Instr : Type 0} (set : InstructionSet Instr) where
  abbrev pub code_text : ℕ → List Instr → List ℕ
  code_text at code = flat_map (instr_text set) (placed_from set at code)

  module _ (fits : Instr → Type 0) where
    -- whatever listing the bytes have, what is left of it and of its text stands before the rest
    abbrev pub Left : List ℕ → ℕ → List ℕ → List ℕ → ℕ → List ℕ → Type 0
    Left bytes first before rest at text =
        (code : List Instr) (ends : List ℕ) → IsListing set fits bytes code ends
        → (left : List Instr) × IsListing set fits rest left ends × (text ++ code_text at left ≡ before ++ code_text first code)

    pub begun : (bytes : List ℕ) (first : ℕ) (before : List ℕ) → Left bytes first before bytes first before
    begun bytes first before code ends is = (code, is, refl)

    -- nothing is left before bytes that begin with no instruction
    none_left : (rest ends : List ℕ) (left : List Instr) → ((i : Instr) → fits i → ¬ Begins set rest i) → IsListing set fits rest left ends
        → left ≡ []
    none_left rest ends [] none is = refl
    none_left rest ends (i ∷ left) none is =
        let seam : rest ≡ set.spelling i ++ (flat_map set.spelling left ++ ends) =
        is.whole ∙ append_assoc (set.spelling i) (flat_map set.spelling left) ends in
        let begins : Begins set rest i =
        seam ∙ ap (λ s. set.spelling i ++ s) (sym (drop-append_seam (set.spelling i) (flat_map set.spelling left ++ ends))
        ∙ ap (drop (length (set.spelling i))) (sym seam)) in
        absurd (none i (All-head fits i left is.fit) begins)

    pub done : (bytes : List ℕ) (first : ℕ) (before rest : List ℕ) (at : ℕ) (text : List ℕ) → Left bytes first before rest at text
        → ((i : Instr) → fits i → ¬ Begins set rest i)
        → (code : List Instr) (ends : List ℕ) → IsListing set fits bytes code ends → text ≡ before ++ code_text first code
    done bytes first before rest at text told none code ends is =
        let found = told code ends is in
        sym (append-nil text) ∙ ap (λ left. text ++ code_text at left) (sym (none_left rest ends found.0 none found.1)) ∙ found.2

    -- the bytes of an instruction that others begin with
    pub spelled : (bytes : List ℕ) (i : Instr) (n : ℕ) → IsFirst set fits bytes i n → take n bytes ≡ set.spelling i
    spelled bytes i n first =
        ap (λ k. take k bytes) first.len ∙ ap (take (length (set.spelling i))) first.begins
        ∙ take-append_seam (set.spelling i) (drop (length (set.spelling i)) bytes)

    module _ (prefix_free : IsPrefixFree set fits) where
      -- an instruction that the rest begins with is the first one that is left
      taken : (rest ends text : List ℕ) (at : ℕ) (i : Instr) (n : ℕ) (left : List Instr) → IsFirst set fits rest i n
          → IsListing set fits rest left ends
          → (more : List Instr) × IsListing set fits (drop n rest) more ends
          × ((text ++ instr_text set (record { at = at; len = n; instr = i })) ++ code_text (at + n) more ≡ text ++ code_text at left)
      taken rest ends text at i n [] first is =
          absurd (is.ends i first.fit (subst (λ bytes. Begins set bytes i) is.whole first.begins))
      taken rest ends text at i n (j ∷ left) first is =
          let seam : rest ≡ set.spelling j ++ (flat_map set.spelling left ++ ends) =
          is.whole ∙ append_assoc (set.spelling j) (flat_map set.spelling left) ends in
          let begins : Begins set rest j =
          seam ∙ ap (λ s. set.spelling j ++ s) (sym (drop-append_seam (set.spelling j) (flat_map set.spelling left ++ ends))
          ∙ ap (drop (length (set.spelling j))) (sym seam)) in
          let same : i ≡ j = prefix_free i j rest first.fit (All-head fits j left is.fit) first.begins begins in
          let len : n ≡ length (set.spelling j) = first.len ∙ ap (λ k. length (set.spelling k)) same in
          let behind : drop n rest ≡ flat_map set.spelling left ++ ends =
          ap (λ k. drop k rest) len ∙ ap (drop (length (set.spelling j))) seam
          ∙ drop-append_seam (set.spelling j) (flat_map set.spelling left ++ ends) in (
            left,
            record { fit = All-tail fits j left is.fit; whole = behind; ends = is.ends },
            append_assoc text (instr_text set (record { at = at; len = n; instr = i })) (code_text (at + n) left)
                ∙ ap (λ (k : Instr). text ++ (instr_text set (record { at = at; len = n; instr = k }) ++ code_text (at + n) left)) same
                ∙ ap (λ (k : ℕ). text ++ (instr_text set (record { at = at; len = k; instr = j }) ++ code_text (at + k) left)) len,
          )

      pub on : (bytes : List ℕ) (first : ℕ) (before rest : List ℕ) (at : ℕ) (text : List ℕ) (i : Instr) (n : ℕ) (next after : List ℕ)
          → Left bytes first before rest at text → IsFirst set fits rest i n → next ≡ drop n rest
          → after ≡ text ++ (hex_text at ++ said_text (take n rest) (set.text i at))
          → Left bytes first before next (at + n) after
      on bytes first before rest at text i n next after told is left adds code ends listing =
          let found = told code ends listing in
          let more = taken rest ends text at i n found.0 is found.1 in
          let shown : after ≡ text ++ instr_text set (record { at = at; len = n; instr = i }) =
          adds ∙ ap (λ own. text ++ (hex_text at ++ said_text own (set.text i at))) (spelled rest i n is) in (
            more.0,
            subst (λ s. IsListing set fits s more.0 ends) (sym left) more.1,
            ap (λ s. s ++ code_text (at + n) more.0) shown ∙ more.2 ∙ found.2,
          )

-- where a function lies in the text
record IsWithin (bytes : List ℕ) (index : ℕ) : Type 0 where
  pub rises : offset_in bytes index ≤ offset_in bytes (suc index)
  pub within : offset_in bytes (suc index) ≤ length (text_in bytes)

-- the places of its first byte and of the one behind it, from the first of the text
pub record ArePlaces (bytes : List ℕ) (index start past : ℕ) : Type 0 where
  pub from : start ≡ offset_in bytes index
  pub to : past ≡ offset_in bytes (suc index)
  pub rises : start ≤ past
  pub within : past ≤ length (text_in bytes)

module _ {Instr : Type 0} (machine : Machine Instr) (bytes : List ℕ) where
  function_within : HasProfile bytes machine → (index : ℕ) → index < count_in bytes → IsWithin bytes index
  function_within profile index below =
      elim (cases_lt (suc index) (count_in bytes)) as (λ _. IsWithin bytes index) [
        | inl more ↦ record {
          rises = omega (arith, profile.rises index more);
          within = omega (arith, profile.inside (suc index) more);
        }
        | inr last ↦
            let behind : count_in bytes ≡ suc index = omega (arith, last, below) in
            let past : offset_in bytes (suc index) ≡ length (text_in bytes) =
            ap (offset_in bytes) (sym behind) ∙ profile.past in
            record {
              rises = omega (arith, past, profile.inside index below);
              within = omega (arith, past);
            }
      ]

  pub places : HasProfile bytes machine → (index : ℕ) → index < count_in bytes → (func : FuncView) (first entry past : ℕ)
      → func ≡ record { bytes = table_in bytes; index = index } → first ≡ text_address
      → entry ≡ entry_of func.bytes func.index → past ≡ end_of func.bytes func.index
      → ArePlaces bytes index (entry - first) (past - first)
  places profile index below func first entry past is at begins ends =
      let within = function_within profile index below in
      let from : entry ≡ text_start (table_in bytes) + offset_in bytes index = begins ∙ ap (λ f. entry_of f.bytes f.index) is in
      let to : past ≡ text_start (table_in bytes) + offset_in bytes (suc index) =
      ends ∙ ap (λ f. end_of f.bytes f.index) is ∙ ap (λ k. text_start (table_in bytes) + offset_in bytes k) (add-one index) in
      record {
        from = omega (arith, from, at, profile.start);
        to = omega (arith, to, at, profile.start);
        rises = omega (arith, from, to, at, profile.start, within.rises);
        within = omega (arith, to, at, profile.start, within.within);
      }

  pub own_is : (index start past : ℕ) (text own : List ℕ) → ArePlaces bytes index start past → text ≡ text_in bytes
      → own ≡ take (past - start) (drop start text) → own ≡ own_bytes bytes index
  own_is index start past text own are is cut = cc (are.from, are.to, is, cut)

  -- a function's name, and then its code

  pub own_listing : (index : ℕ) (listed : Listed Instr) (own : List ℕ) (is : IsFunction machine bytes index listed)
      → own ≡ own_bytes bytes index → IsListing machine.set machine.fits own is.code is.is_code.rest
  own_listing index listed own is same =
      subst (λ s. IsListing machine.set machine.fits s is.code is.is_code.rest) (sym same) is.is_code.listing

  pub function_told : (index at : ℕ) (listed : Listed Instr) (name before titled after : List ℕ) (is : IsFunction machine bytes index listed)
      → at ≡ entry_in bytes index → name_of (table_in bytes) index ≡ Some name
      → titled ≡ before ++ (codes "TEXT " ++ name ++ codes "\n")
      → after ≡ titled ++ flat_map (instr_text machine.set) (placed_from machine.set at is.code)
      → after ≡ before ++ function_text machine.set (function_name bytes index) listed.code
  function_told index at listed name before titled after is begins named title adds =
      let lines : List ℕ = flat_map (instr_text machine.set) listed.code in
      let placed : placed_from machine.set at is.code ≡ listed.code =
      ap (λ k. placed_from machine.set k is.code) begins ∙ sym is.placed in
      let whole : titled ++ lines ≡ before ++ function_text machine.set name listed.code =
      ap (λ t. t ++ lines) title ∙ append_assoc before (codes "TEXT " ++ name ++ codes "\n") lines in
      adds ∙ ap (λ code. titled ++ flat_map (instr_text machine.set) code) placed ∙ whole
      ∙ ap (λ found. before ++ function_text machine.set (unwrap_or found []) listed.code) (sym named)

  -- a sound image has functions

  chosen : IsSoundImage machine bytes → (index : ℕ) → (index < count_in bytes) ⊎ (count_in bytes ≤ index) → Listed Instr
  chosen sound index (inl below) = (sound.functions index below).0
  chosen sound index (inr past) = record { code = []; depths = [] }

  chosen_is : (sound : IsSoundImage machine bytes) (index : ℕ) → index < count_in bytes
      → (where_to : (index < count_in bytes) ⊎ (count_in bytes ≤ index)) → IsFunction machine bytes index (chosen sound index where_to)
  unfolding chosen
  chosen_is sound index is (inl below) = (sound.functions index below).1.function
  chosen_is sound index is (inr past) = absurd (omega (arith, is, past))

  pub has_text : IsSoundImage machine bytes → (text : List ℕ)
      → ((functions : ℕ → Listed Instr) → AreFunctionsOf machine bytes functions (count_in bytes)
      → text ≡ functions_text machine.set bytes functions (count_in bytes))
      → IsText machine bytes text
  has_text sound text exact =
      let functions : ℕ → Listed Instr = λ index. chosen sound index (cases_lt index (count_in bytes)) in
      let are : AreFunctionsOf machine bytes functions (count_in bytes) =
      λ index below. chosen_is sound index below (cases_lt index (count_in bytes)) in
      record { functions = functions; are = are; says = exact functions are }

  -- an image has one text

  module _ (one : (own : List ℕ) (code others : List Instr) (rest more : List ℕ)
      → IsListing machine.set machine.fits own code rest → IsListing machine.set machine.fits own others more
      → (code ≡ others) × (rest ≡ more)) where
    same_code : (index : ℕ) (listed other : Listed Instr) → IsFunction machine bytes index listed → IsFunction machine bytes index other
        → listed.code ≡ other.code
    same_code index listed other is that =
        is.placed ∙ ap (placed_from machine.set _) (one _ is.code that.code _ _ is.is_code.listing that.is_code.listing).0
        ∙ sym that.placed

    same_functions : (functions others : ℕ → Listed Instr) (count : ℕ)
        → AreFunctionsOf machine bytes functions count → AreFunctionsOf machine bytes others count
        → functions_text machine.set bytes functions count ≡ functions_text machine.set bytes others count
    same_functions functions others zero are those = refl
    same_functions functions others (suc index) are those =
        let front = same_functions functions others index (λ k below. are k (omega (arith, below))) (λ k below. those k (omega (arith, below))) in
        let last = same_code index (functions index) (others index) (are index (omega arith)) (those index (omega arith)) in
        ap (λ s. s ++ function_text machine.set (function_name bytes index) (functions index).code) front
        ∙ ap (λ code. functions_text machine.set bytes others index ++ function_text machine.set (function_name bytes index) code) last

    pub same_text : (text other : List ℕ) → IsText machine bytes text → IsText machine bytes other → text ≡ other
    same_text text other is that = is.says ∙ same_functions is.functions that.functions (count_in bytes) is.are that.are ∙ sym that.says

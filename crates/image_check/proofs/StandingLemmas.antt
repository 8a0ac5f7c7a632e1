-- What the flow rules ask of the instructions of a function of an image.
use Rattle.std.proofs.Common.{◌≡◌, ℕ, zero, suc, ℤ, pos, ◌+◌, ◌-◌, ◌^◌, ◌<◌, ◌≤◌, ◌++◌, List, [], ◌∷◌, All, length, map, drop, Some, refl, sym, ap, subst, ◌∙◌, arith, length-append, length-take, length-drop}
use Rattle.std.specs.List.{flat_map, slice_get}
use Rattle.std.proofs.lemmas.List.{length-map}
use Rattle.std.proofs.lemmas.List.Elements.{All-tail}
use Rattle.asm_target.specs.declared.body.Placed.{Placed}
use Rattle.asm_target.specs.InstructionSet.{InstructionSet}
use Rattle.asm_target.specs.Laws.{HasLengths}
use Rattle.elf_image.specs.Contents.{table_in, text_address, text_in}
use Rattle.flow_rules.specs.Placing.{ArePlaced}
use Rattle.pclntab.specs.Places.{text_start}
use Rattle.pcvalue.specs.declared.run.Run.{Run}
use Rattle.pcvalue.specs.Cover.{Covers}
use Rattle.image_model.specs.Listed.{Listed}
use Rattle.image_rules.specs.Functions.{IsFunction, ends_from, placed_from}
use Rattle.image_rules.specs.Machine.{Machine}
use Rattle.image_rules.specs.Parts.{count_in, entry_in, offset_in, own_bytes}
use Rattle.image_rules.specs.Sound.{IsReadable}
use Rattle.image_check.proofs.SizeLemmas.{text_low}

same_head : {A : Type 0} (x y : A) (xs : List A) → slice_get (x ∷ xs) 0 ≡ Some y → x ≡ y
same_head x y xs is = cc

module _ {Instr : Type 0} (set : InstructionSet Instr) where
  pub length_placed : (at : ℕ) (code : List Instr) → length (placed_from set at code) ≡ length code
  length_placed at [] = refl
  length_placed at (i ∷ code) = ap suc (length_placed (at + length (set.spelling i)) code)

  pub length_ends : (at : ℕ) (code : List Instr) → length (ends_from set at code) ≡ length code
  length_ends at [] = refl
  length_ends at (i ∷ code) = ap suc (length_ends (at + length (set.spelling i)) code)

  module _ (fits : Instr → Type 0) (quantum : ℕ) (lengths : HasLengths set fits quantum) where
    each_long : (at : ℕ) (code : List Instr) → All fits code → (k : ℕ) (one : Placed Instr)
        → slice_get (placed_from set at code) k ≡ Some one → 0 < one.len
    each_long at [] fit k one is = absurd (cc)
    each_long at (i ∷ code) fit zero one is =
        let least = (lengths i (fit 0 i (omega arith))).least in
        let first : Placed Instr = record { at = at; len = length (set.spelling i); instr = i } in
        subst (λ (x : Placed Instr). 0 < x.len) (same_head first one (placed_from set (at + length (set.spelling i)) code) is) (omega arith)
    each_long at (i ∷ code) fit (suc k) one is =
        each_long (at + length (set.spelling i)) code (All-tail fits i code fit) k one is

  each_below : (at : ℕ) (code : List Instr) (k : ℕ) (one : Placed Instr)
      → slice_get (placed_from set at code) k ≡ Some one → one.at + one.len ≤ at + length (flat_map set.spelling code)
  each_below at [] k one is = absurd (cc)
  each_below at (i ∷ code) zero one is =
      let first : Placed Instr = record { at = at; len = length (set.spelling i); instr = i } in
      let whole = length-append (set.spelling i) (flat_map set.spelling code) in
      subst (λ (x : Placed Instr). x.at + x.len ≤ at + length (flat_map set.spelling (i ∷ code)))
      (same_head first one (placed_from set (at + length (set.spelling i)) code) is) (omega arith)
  each_below at (i ∷ code) (suc k) one is =
      let whole = length-append (set.spelling i) (flat_map set.spelling code) in
      let rest = each_below (at + length (set.spelling i)) code k one is in
      omega arith

  each_follows : (at : ℕ) (code : List Instr) (k : ℕ) (one other : Placed Instr) → slice_get (placed_from set at code) k ≡ Some one
      → slice_get (placed_from set at code) (suc k) ≡ Some other → other.at ≡ one.at + one.len
  each_follows at [] k one other is next = absurd (cc)
  each_follows at (i ∷ []) k one other is next = absurd (cc)
  each_follows at (i ∷ j ∷ code) zero one other is next =
      let first : Placed Instr = record { at = at; len = length (set.spelling i); instr = i } in
      let past = at + length (set.spelling i) in
      let second : Placed Instr = record { at = past; len = length (set.spelling j); instr = j } in
      let here : first ≡ one = same_head first one (placed_from set past (j ∷ code)) is in
      let there : second ≡ other = same_head second other (placed_from set (past + length (set.spelling j)) code) next in
      ap (λ (x : Placed Instr). x.at) (sym there) ∙ ap (λ (x : Placed Instr). x.at + x.len) here
  each_follows at (i ∷ j ∷ code) (suc k) one other is next =
      each_follows (at + length (set.spelling i)) (j ∷ code) k one other is next

-- as many stretches are covered as there are values
covered : (from : ℕ) (ends : List ℕ) (values : List ℤ) (runs : List Run) → Covers from ends values runs → length values ≡ length ends
covered from [] [] runs covers = refl
covered from [] (value ∷ values) runs covers = absurd covers
covered from (end ∷ ends) [] runs covers = absurd covers
covered from (end ∷ ends) (value ∷ values) runs covers = ap suc (covered end ends values runs covers.1)

at_most : {a b c : ℕ} → a ≤ b → b ≤ c → a ≤ c
at_most low high = omega arith

low_sum : (start offset text bytes own code rest : ℕ) → start ≡ text_address → offset < text → text_address + text ≤ 0x400000 + bytes
    → bytes < 2 ^ 32 → own ≤ text → own ≡ code + rest → start + offset + code ≤ 2 ^ 64
low_sum start offset text bytes own code rest at inside low short fits parts = omega arith

module _ {Instr : Type 0} (machine : Machine Instr) (bytes : List ℕ) (index : ℕ) where
  pub as_many : (listed : Listed Instr) → IsFunction machine bytes index listed → length listed.depths ≡ length listed.code
  as_many listed is =
      sym (length-map listed.depths (λ (n : ℕ). pos n))
      ∙ covered 0 (ends_from machine.set 0 is.code) (map pos listed.depths) _ is.tables.depth.covers
      ∙ length_ends machine.set 0 is.code
      ∙ sym (ap length is.placed ∙ length_placed machine.set (entry_in bytes index) is.code)

  pub some_code : (listed : Listed Instr) → IsFunction machine bytes index listed → 0 < length listed.code
  some_code listed is =
      subst (λ (n : ℕ). 0 < n) (sym (ap length is.placed ∙ length_placed machine.set (entry_in bytes index) is.code)) is.is_code.some

  own_short : length (own_bytes bytes index) ≤ length (text_in bytes)
  own_short =
      let size = length-take (offset_in bytes (suc index) - offset_in bytes index) (drop (offset_in bytes index) (text_in bytes)) in
      let left = length-drop (offset_in bytes index) (text_in bytes) in
      omega arith

  -- its instructions end below 2 ^ 64
  low_end : (code rest : List ℕ) → IsReadable machine bytes → length bytes < 2 ^ 32 → index < count_in bytes
      → own_bytes bytes index ≡ code ++ rest → entry_in bytes index + length code ≤ 2 ^ 64
  low_end code rest readable short inside whole =
      let start : text_start (table_in bytes) ≡ text_address = readable.profile.start in
      let offset : offset_in bytes index < length (text_in bytes) = readable.profile.inside index inside in
      let low = text_low bytes readable.image in
      let own = own_short in
      let parts : length (own_bytes bytes index) ≡ length code + length rest = ap length whole ∙ length-append code rest in
      low_sum (text_start (table_in bytes)) (offset_in bytes index) (length (text_in bytes)) (length bytes) (length (own_bytes bytes index))
      (length code) (length rest) start offset low short own parts

  pub are_placed : (listed : Listed Instr) → IsFunction machine bytes index listed → HasLengths machine.set machine.fits machine.quantum
      → IsReadable machine bytes → length bytes < 2 ^ 32 → index < count_in bytes → ArePlaced listed.code
  are_placed listed is lengths readable short inside =
      let at = entry_in bytes index in
      let listing = is.is_code.listing in
      let end : at + length (flat_map machine.set.spelling is.code) ≤ 2 ^ 64 =
      low_end (flat_map machine.set.spelling is.code) is.is_code.rest readable short inside listing.whole in
      subst ArePlaced (sym is.placed) (record {
        some = each_long machine.set machine.fits machine.quantum lengths at is.code listing.fit;
        room = λ k one here. at_most (each_below machine.set at is.code k one here) end;
        follows = each_follows machine.set at is.code;
      })

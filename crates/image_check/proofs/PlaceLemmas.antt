-- Where the instructions of a function stand in the text.
use Rattle.std.proofs.Common.{◌≡◌, ℕ, zero, suc, ◌+◌, ◌-◌, ◌≤◌, ◌<◌, List, [], ◌∷◌, All, length, take, drop, sym, ap, ◌∙◌, subst, arith, length-append, length-drop}
use Rattle.std.specs.List.{flat_map}
use Rattle.std.proofs.lemmas.List.Elements.{All-cons, All-nil}
use Rattle.asm_target.specs.declared.body.Placed.{Placed}
use Rattle.asm_target.specs.InstructionSet.{InstructionSet}
use Rattle.elf_image.specs.Contents.{text_address, text_in}
use Rattle.image_check.specs.Marks.{AreInText, IsOfImage}
use Rattle.image_model.specs.Listed.{Listed}
use Rattle.image_rules.specs.Functions.{IsFunction, placed_from}
use Rattle.image_rules.specs.Machine.{Machine}
use Rattle.image_rules.specs.Parts.{HasProfile, count_in, entry_in, offset_in, own_bytes}

pub take_within : {A : Type 0} (n : ℕ) (xs : List A) → length (take n xs) ≤ length xs
take_within {A} zero xs = omega arith
take_within {A} (suc n) [] = omega arith
take_within {A} (suc n) (x ∷ xs) = (let rest = take_within n xs in omega arith)

within_from : {Instr : Type 0} (set : InstructionSet Instr) (first past at : ℕ) (code : List Instr) → first ≤ at
    → at + length (flat_map set.spelling code) < past
    → All (λ one. (first ≤ one.at) × (one.at + one.len < past)) (placed_from set at code)
within_from set first past at [] low high = All-nil (λ (one : Placed _). (first ≤ one.at) × (one.at + one.len < past))
within_from {Instr} set first past at (instr ∷ code) low high =
    let size = length-append (set.spelling instr) (flat_map set.spelling code) in
    All-cons (λ (one : Placed Instr). (first ≤ one.at) × (one.at + one.len < past))
    (record { at = at; len = length (set.spelling instr); instr = instr })
    (placed_from set (at + length (set.spelling instr)) code) (low, omega arith)
    (within_from set first past (at + length (set.spelling instr)) code (omega arith) (omega arith))

module _ {Instr : Type 0} (machine : Machine Instr) (bytes : List ℕ) (profile : HasProfile bytes machine) (index : ℕ)
    (inside : index < count_in bytes) where
  pub entry_is : entry_in bytes index ≡ text_address + offset_in bytes index
  entry_is = ap (λ start. start + offset_in bytes index) profile.start

  pub own_size : offset_in bytes index + length (own_bytes bytes index) ≤ length (text_in bytes)
  own_size =
      let most = take_within (offset_in bytes (suc index) - offset_in bytes index) (drop (offset_in bytes index) (text_in bytes)) in
      let less = profile.inside index inside in
      omega (arith, length-drop (offset_in bytes index) (text_in bytes))

  pub in_text : (listed : Listed Instr) (size : ℕ) → IsFunction machine bytes index listed → length (text_in bytes) < size
      → AreInText size listed.code
  in_text listed size is less =
      let whole : length (own_bytes bytes index) ≡ length (flat_map machine.set.spelling is.code) + length is.is_code.rest =
      ap (λ (own : List ℕ). length own) is.is_code.listing.whole ∙ length-append (flat_map machine.set.spelling is.code) is.is_code.rest in
      let entry = entry_is in
      let own = own_size in
      subst (λ (code : List (Placed Instr)). AreInText size code) (sym is.placed)
      (within_from machine.set text_address (text_address + size) (entry_in bytes index) is.code (omega arith) (omega arith))

pub in_text_of : {Instr : Type 0} (machine : Machine Instr) (bytes : List ℕ) (listed : Listed Instr) (size : ℕ)
    → IsOfImage machine bytes listed → length (text_in bytes) < size → AreInText size listed.code
in_text_of machine bytes listed size is less = in_text machine bytes is.readable.profile is.index is.inside listed size is.function less

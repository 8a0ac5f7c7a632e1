-- What is read of a text's bytes at a mark is the instruction that begins there.
use Rattle.std.proofs.Common.{◌≡◌, ℕ, ◌+◌, ◌-◌, ◌<◌, true, false, List, drop, Option, Some, None, is_some, refl, sym, ap, ◌∙◌, subst, arith}
use Rattle.std.specs.Option.{option_map}
use Rattle.asm_target.specs.declared.body.Placed.{Placed}
use Rattle.asm_target.specs.InstructionSet.{IsFirst}
use Rattle.elf_image.specs.Contents.{text_address, text_in}
use Rattle.image_check.specs.Kept.{IsMarked}
use Rattle.image_check.specs.Readers.{instr_among}
use Rattle.image_check.proofs.StartLemmas.{among_text}
use Rattle.image_marks.specs.Bits.{has}
use Rattle.image_model.specs.Listed.{Listed}
use Rattle.image_rules.specs.Functions.{AreFunctionsOf}
use Rattle.image_rules.specs.Machine.{Machine}
use Rattle.image_rules.specs.Parts.{count_in}

pub none_of : {A : Type 0} (found : Option A) → is_some found ≡ false → found ≡ None
none_of (Some x) none = absurd (cc)
none_of None none = refl

pub some_of : {A : Type 0} (found : Option A) → is_some found ≡ true → (x : A) × (found ≡ Some x)
some_of (Some x) some = (x, refl)
some_of None some = absurd (cc)

-- what is told of the instruction at an address
abbrev pub IsInstrAt : {Instr : Type 0} → Machine Instr → List ℕ → ℕ → Option (Placed Instr) → Type 0
IsInstrAt {Instr} machine bytes pc found = (functions : ℕ → Listed Instr) → AreFunctionsOf machine bytes functions (count_in bytes)
    → found ≡ instr_among functions (count_in bytes) pc

module _ {Instr : Type 0} (machine : Machine Instr) (bytes starts ends : List ℕ) (is : IsMarked machine bytes starts ends) where
  -- no instruction begins before the text
  pub not_before : (pc : ℕ) → pc < text_address → IsInstrAt machine bytes pc None
  not_before pc before functions are =
      elim (instr_among functions (count_in bytes) pc) as (λ (o : Option (Placed Instr)). instr_among functions (count_in bytes) pc ≡ o → None ≡ o) [
        | Some one ↦ (λ found.
            let low = (among_text machine bytes is.sound.readable functions pc one are found).low in
            absurd (omega arith))
        | None ↦ (λ found. refl)
      ] refl

  pub not_begun : (pc offset : ℕ) → pc ≡ text_address + offset → has starts offset ≡ false → IsInstrAt machine bytes pc None
  not_begun pc offset here unmarked functions are =
      let begun = (is.marks functions are).begun offset in
      sym (ap (instr_among functions (count_in bytes)) here
      ∙ none_of (instr_among functions (count_in bytes) (text_address + offset)) (sym begun ∙ unmarked))

  module _ (pc offset : ℕ) (here : pc ≡ text_address + offset) (marked : has starts offset ≡ true) where
    -- at a mark an instruction is found, with which the text's bytes begin there
    begun : (functions : ℕ → Listed Instr) → AreFunctionsOf machine bytes functions (count_in bytes)
        → (one : Placed Instr) × (instr_among functions (count_in bytes) pc ≡ Some one) × (one.at ≡ pc)
        × IsFirst machine.set machine.fits (drop offset (text_in bytes)) one.instr one.len
    begun functions are =
        let begun = (is.marks functions are).begun offset in
        let found = some_of (instr_among functions (count_in bytes) (text_address + offset)) (sym begun ∙ marked) in
        let there : instr_among functions (count_in bytes) pc ≡ Some found.0 = ap (instr_among functions (count_in bytes)) here ∙ found.1 in
        let it = among_text machine bytes is.sound.readable functions pc found.0 are there in
        let far : pc - text_address ≡ offset = omega arith in (
          found.0,
          there,
          it.place,
          subst (λ (n : ℕ). IsFirst machine.set machine.fits (drop n (text_in bytes)) found.0.instr found.0.len) far it.first,
        )

    -- so what is read of the bytes there is the instruction
    pub read_there : (tail : List ℕ) (read : Option (Instr × ℕ)) → tail ≡ drop offset (text_in bytes)
        → ((i : Instr) (n : ℕ) → IsFirst machine.set machine.fits tail i n → read ≡ Some (i, n))
        → IsInstrAt machine bytes pc (option_map (λ found. record { at = pc; len = found.1; instr = found.0 }) read)
    read_there tail read same only functions are =
        let it = begun functions are in
        let first = subst (λ (rest : List ℕ). IsFirst machine.set machine.fits rest it.0.instr it.0.len) (sym same) it.3 in
        let told : read ≡ Some (it.0.instr, it.0.len) = only it.0.instr it.0.len first in
        let placed : record { at = pc; len = it.0.len; instr = it.0.instr } ≡ it.0 =
        ap (λ (at : ℕ). record { at = at; len = it.0.len; instr = it.0.instr }) (sym it.2) in
        ap (option_map (λ found. record { at = pc; len = found.1; instr = found.0 })) told ∙ ap Some placed ∙ sym it.1

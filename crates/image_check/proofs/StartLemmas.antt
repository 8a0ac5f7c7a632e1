-- The instruction that begins at an address is the one that the text's bytes begin with there.
use Rattle.std.proofs.Common.{◌≡◌, ℕ, suc, ◌+◌, ◌-◌, ◌≤◌, ◌<◌, ◌==◌, true, false, List, [], ◌∷◌, ◌++◌, All, length, drop, Some, cond, refl, sym, ap, ◌∙◌, subst, arith, append_assoc}
use Rattle.std.specs.List.{find, flat_map}
use Rattle.std.proofs.Math.Seq.{drop-append-add, drop-append_seam}
use Rattle.std.proofs.lemmas.Bool.{eqb-true}
use Rattle.std.proofs.lemmas.List.{drop-drop, take-append-drop}
use Rattle.std.proofs.lemmas.List.Elements.{All-head, All-tail}
use Rattle.asm_target.specs.declared.body.Placed.{Placed}
use Rattle.asm_target.specs.InstructionSet.{InstructionSet, IsFirst}
use Rattle.elf_image.specs.Contents.{text_address, text_in}
use Rattle.image_check.specs.Marks.{begins_at}
use Rattle.image_check.specs.Readers.{instr_among, instr_of}
use Rattle.image_check.proofs.PlaceLemmas.{entry_is}
use Rattle.image_model.specs.Listed.{Listed}
use Rattle.image_model.proofs.FindLemmas.{some_is}
use Rattle.image_rules.specs.Functions.{AreFunctionsOf, IsFunction, placed_from}
use Rattle.image_rules.specs.Machine.{Machine}
use Rattle.image_rules.specs.Parts.{count_in, entry_in, offset_in, own_bytes}
use Rattle.image_rules.specs.Sound.{IsReadable}

module _ {Instr : Type 0} (set : InstructionSet Instr) (fits : Instr → Type 0) where
  -- bytes from an address on, with an instruction at another one
  pub record HasInstr (from : ℕ) (bytes : List ℕ) (address : ℕ) (one : Placed Instr) : Type 0 where
    pub place : one.at ≡ address
    pub low : from ≤ address
    pub first : IsFirst set fits (drop (address - from) bytes) one.instr one.len

  first_here : (instr : Instr) (more : List ℕ) (n : ℕ) → fits instr → n ≡ 0
      → IsFirst set fits (drop n (set.spelling instr ++ more)) instr (length (set.spelling instr))
  first_here instr more n fit none =
      subst (λ (k : ℕ). IsFirst set fits (drop k (set.spelling instr ++ more)) instr (length (set.spelling instr))) (sym none)
      (record {
        fit = fit;
        begins = ap (λ rest. set.spelling instr ++ rest) (sym (drop-append_seam (set.spelling instr) more));
        len = refl;
      })

  pub found_first : (address at : ℕ) (code : List Instr) (rest : List ℕ) (one : Placed Instr) → All fits code
      → find (begins_at address) (placed_from set at code) ≡ Some one → HasInstr at (flat_map set.spelling code ++ rest) address one
  found_first address at [] rest one fit found = absurd (cc)
  found_first address at (instr ∷ code) rest one fit found =
      let head : Placed Instr = record { at = at; len = length (set.spelling instr); instr = instr } in
      let others : List (Placed Instr) = placed_from set (at + length (set.spelling instr)) code in
      let bytes : List ℕ = flat_map set.spelling code ++ rest in
      let whole : (set.spelling instr ++ flat_map set.spelling code) ++ rest ≡ set.spelling instr ++ bytes =
      append_assoc (set.spelling instr) (flat_map set.spelling code) rest in
      subst (λ (all : List ℕ). HasInstr at all address one) (sym whole)
      (elim (at == address) as (λ b. (at == address) ≡ b → cond b (Some head) (find (begins_at address) others) ≡ Some one
      → HasInstr at (set.spelling instr ++ bytes) address one) [
        | true ↦ (λ here is.
            let place : at ≡ address = eqb-true at address here in
            let same : head ≡ one = cc in
            subst (λ (item : Placed Instr). HasInstr at (set.spelling instr ++ bytes) address item) same
            (record {
              place = place;
              low = omega arith;
              first = first_here instr bytes (address - at) (All-head fits instr code fit) (omega arith);
            }))
        | false ↦ (λ elsewhere is.
            let behind = found_first address (at + length (set.spelling instr)) code rest one (All-tail fits instr code fit) is in
            let low = behind.low in
            let far : address - at ≡ length (set.spelling instr) + (address - (at + length (set.spelling instr))) = omega arith in
            record {
              place = behind.place;
              low = omega arith;
              first = subst (λ (tail : List ℕ). IsFirst set fits tail one.instr one.len)
                  (sym (ap (λ (n : ℕ). drop n (set.spelling instr ++ bytes)) far
                  ∙ drop-append-add (set.spelling instr) bytes (address - (at + length (set.spelling instr)))))
                  behind.first;
            })
      ] refl found)

module _ {Instr : Type 0} (machine : Machine Instr) (bytes : List ℕ) (readable : IsReadable machine bytes) where
  text_behind : (index : ℕ) → drop (offset_in bytes index) (text_in bytes)
      ≡ own_bytes bytes index ++ drop (offset_in bytes (suc index) - offset_in bytes index) (drop (offset_in bytes index) (text_in bytes))
  text_behind index = sym (take-append-drop (offset_in bytes (suc index) - offset_in bytes index) (drop (offset_in bytes index) (text_in bytes)))

  in_function : (index : ℕ) (listed : Listed Instr) (address : ℕ) (one : Placed Instr) → index < count_in bytes
      → IsFunction machine bytes index listed → instr_of address listed ≡ Some one
      → HasInstr machine.set machine.fits text_address (text_in bytes) address one
  in_function index listed address one inside is found =
      let more : List ℕ = drop (offset_in bytes (suc index) - offset_in bytes index) (drop (offset_in bytes index) (text_in bytes)) in
      let code : List ℕ = flat_map machine.set.spelling is.code in
      let whole : drop (offset_in bytes index) (text_in bytes) ≡ code ++ (is.is_code.rest ++ more) =
      text_behind index ∙ ap (λ own. own ++ more) is.is_code.listing.whole ∙ append_assoc code is.is_code.rest more in
      let there = found_first machine.set machine.fits address (entry_in bytes index) is.code (is.is_code.rest ++ more) one
      is.is_code.listing.fit (ap (find (begins_at address)) (sym is.placed) ∙ found) in
      let low = there.low in
      let entry = entry_is machine bytes readable.profile index inside in
      let far : offset_in bytes index + (address - entry_in bytes index) ≡ address - text_address = omega arith in
      record {
        place = there.place;
        low = omega arith;
        first = subst (λ (tail : List ℕ). IsFirst machine.set machine.fits tail one.instr one.len)
            (ap (drop (address - entry_in bytes index)) (sym whole)
            ∙ drop-drop (address - entry_in bytes index) (offset_in bytes index) (text_in bytes)
            ∙ ap (λ (n : ℕ). drop n (text_in bytes)) far)
            there.first;
      }

  -- an instruction that is found among the image's functions
  pub among_text : (functions : ℕ → Listed Instr) (address : ℕ) (one : Placed Instr)
      → AreFunctionsOf machine bytes functions (count_in bytes) → instr_among functions (count_in bytes) address ≡ Some one
      → HasInstr machine.set machine.fits text_address (text_in bytes) address one
  among_text functions address one are found =
      let there = some_is (λ index. instr_of address (functions index)) (count_in bytes) one found in
      in_function there.0 (functions there.0) address one there.1 (are there.0 there.1) there.2

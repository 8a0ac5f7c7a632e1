-- One more instruction behind those that were read.
use Rattle.std.proofs.Common.{◌≡◌, ℕ, List, [], ◌∷◌, ◌++◌, ◌+◌, ◌≤◌, length, drop, sym, ap, ◌∙◌, subst, arith, append_assoc, length-drop, length-append, append-nil}
use Rattle.std.specs.Prelude.{All}
use Rattle.std.specs.List.{flat_map}
use Rattle.std.proofs.lemmas.List.{drop-drop}
use Rattle.std.proofs.lemmas.List.Concat.{flat_map-append}
use Rattle.std.proofs.lemmas.List.Elements.{All-head, All-push, All-tail}
use Rattle.asm_target.specs.declared.body.Placed.{Placed}
use Rattle.asm_target.specs.InstructionSet.{InstructionSet, IsFirst}
use Rattle.asm_target.specs.Laws.{HasLengths}
use Rattle.pcvalue.specs.Cover.{Ascends}
use Rattle.image_rules.specs.Functions.{ends_from, placed_from}
use Rattle.image_check.specs.Code.{IsCodeTo}

module _ {Instr : Type 0} (set : InstructionSet Instr) where
  placed_more : (code : List Instr) (at next : ℕ) (i : Instr) → next ≡ at + length (flat_map set.spelling code)
      → placed_from set at (code ++ i ∷ [])
      ≡ placed_from set at code ++ record { at = next; len = length (set.spelling i); instr = i } ∷ []
  placed_more [] at next i is =
      let here : at ≡ next = omega (arith, is) in
      ap (λ place. record { at = place; len = length (set.spelling i); instr = i } ∷ []) here
  placed_more (first ∷ code) at next i is =
      let here : next ≡ at + length (set.spelling first) + length (flat_map set.spelling code)
      = omega (arith, is, length-append (set.spelling first) (flat_map set.spelling code)) in
      ap (λ behind. record { at = at; len = length (set.spelling first); instr = first } ∷ behind)
      (placed_more code (at + length (set.spelling first)) next i here)

  ends_more : (code : List Instr) (at next : ℕ) (i : Instr) → next ≡ at + length (flat_map set.spelling code)
      → ends_from set at (code ++ i ∷ []) ≡ ends_from set at code ++ (next + length (set.spelling i)) ∷ []
  ends_more [] at next i is =
      let here : at ≡ next = omega (arith, is) in
      ap (λ place. (place + length (set.spelling i)) ∷ []) here
  ends_more (first ∷ code) at next i is =
      let here : next ≡ at + length (set.spelling first) + length (flat_map set.spelling code)
      = omega (arith, is, length-append (set.spelling first) (flat_map set.spelling code)) in
      ap (λ behind. (at + length (set.spelling first)) ∷ behind)
      (ends_more code (at + length (set.spelling first)) next i here)

-- the instruction behind those that were read ends within the bytes
pub left_of : (own rest : List ℕ) (size n : ℕ) → rest ≡ drop size own → n ≤ length rest → size ≤ length own → size + n ≤ length own
left_of own rest size n is within low = omega (arith, ap length is, length-drop size own, within, low)

module _ {Instr : Type 0} (set : InstructionSet Instr) (fits : Instr → Type 0) where
  ascends : (quantum : ℕ) → HasLengths set fits quantum → (code : List Instr) → All fits code → (at : ℕ)
      → Ascends at (ends_from set at code)
  ascends quantum lengths [] fit at = tt
  ascends quantum lengths (first ∷ code) fit at =
      let long = (lengths first (All-head fits first code fit)).least in
      (omega (arith, long), ascends quantum lengths code (All-tail fits first code fit) (at + length (set.spelling first)))

  pub ends_ascend : (quantum : ℕ) → HasLengths set fits quantum → (own : List ℕ) (entry : ℕ) (placed : List (Placed Instr))
      (ends : List ℕ) (size : ℕ) → IsCodeTo set fits own entry placed ends size → Ascends 0 ends
  ends_ascend quantum lengths own entry placed ends size known =
      subst (Ascends 0) (sym known.behind) (ascends quantum lengths known.code known.fit 0)

  code_more : (own : List ℕ) (entry : ℕ) (placed : List (Placed Instr)) (ends : List ℕ) (size n : ℕ) (i : Instr)
      → IsCodeTo set fits own entry placed ends size → IsFirst set fits (drop size own) i n
      → IsCodeTo set fits own entry (placed ++ record { at = entry + size; len = n; instr = i } ∷ []) (ends ++ (size + n) ∷ [])
      (size + n)
  code_more own entry placed ends size n i known first =
      let len : n ≡ length (set.spelling i) = first.len in
      let joined : flat_map set.spelling (known.code ++ i ∷ []) ≡ flat_map set.spelling known.code ++ set.spelling i
      = flat_map-append set.spelling known.code (i ∷ []) ∙ ap (λ more. flat_map set.spelling known.code ++ more) (append-nil (set.spelling i)) in
      let left : drop size own ≡ set.spelling i ++ drop (size + n) own
      = first.begins ∙ ap (λ more. set.spelling i ++ more) (ap (λ k. drop k (drop size own)) (sym len) ∙ drop-drop n size own) in
      record {
        code = known.code ++ i ∷ [];
        fit = All-push fits known.code i known.fit first.fit;
        whole = known.whole ∙ ap (λ more. flat_map set.spelling known.code ++ more) left
            ∙ sym (append_assoc (flat_map set.spelling known.code) (set.spelling i) (drop (size + n) own))
            ∙ ap (λ front. front ++ drop (size + n) own) (sym joined);
        long = omega (arith, known.long, len, ap length joined, length-append (flat_map set.spelling known.code) (set.spelling i));
        places = ap (λ front. front ++ record { at = entry + size; len = n; instr = i } ∷ []) known.places
            ∙ ap (λ k. placed_from set entry known.code ++ record { at = entry + size; len = k; instr = i } ∷ []) len
            ∙ sym (placed_more set known.code entry (entry + size) i (omega (arith, known.long)));
        behind = ap (λ front. front ++ (size + n) ∷ []) known.behind
            ∙ ap (λ k. ends_from set 0 known.code ++ (size + k) ∷ []) len
            ∙ sym (ends_more set known.code 0 size i (omega (arith, known.long)));
      }

  pub code_next : (own rest : List ℕ) (entry : ℕ) (placed more : List (Placed Instr)) (ends others : List ℕ) (size n : ℕ) (i : Instr)
      → IsCodeTo set fits own entry placed ends size → rest ≡ drop size own → IsFirst set fits rest i n
      → more ≡ placed ++ record { at = entry + size; len = n; instr = i } ∷ [] → others ≡ ends ++ (size + n) ∷ []
      → IsCodeTo set fits own entry more others (size + n)
  code_next own rest entry placed more ends others size n i known is first pushed ended =
      let here : IsFirst set fits (drop size own) i n = subst (λ bytes. IsFirst set fits bytes i n) is first in
      subst (λ list. IsCodeTo set fits own entry list others (size + n)) (sym pushed)
      (subst (λ list. IsCodeTo set fits own entry (placed ++ record { at = entry + size; len = n; instr = i } ∷ []) list (size + n)) (sym ended)
      (code_more own entry placed ends size n i known here))

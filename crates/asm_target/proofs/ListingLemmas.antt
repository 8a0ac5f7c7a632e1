-- What follows from the laws of spellings alone.
use Rattle.std.proofs.Common.{◌≡◌, ℕ, List, [], ◌∷◌, ◌++◌, length, drop, refl, sym, ap, ◌∙◌, append_assoc}
use Rattle.std.proofs.Math.Seq.{drop-append_seam}
use Rattle.std.proofs.lemmas.List.{append_cancel_left}
use Rattle.std.proofs.lemmas.List.Elements.{All-head, All-tail}
use Rattle.std.specs.Prelude.{All}
use Rattle.std.specs.List.{flat_map}
use Rattle.asm_target.specs.InstructionSet.{InstructionSet, Begins}
use Rattle.asm_target.specs.Laws.{IsPrefixFree}

module _ {Instr : Type 0} (set : InstructionSet Instr) where
  -- a spelling begins with its instruction, whatever follows
  pub begins : (i : Instr) (bytes rest : List ℕ) → bytes ≡ set.spelling i ++ rest → Begins set bytes i
  begins i bytes rest e =
      e ∙ ap (λ s. set.spelling i ++ s) (sym (drop-append_seam (set.spelling i) rest))
      ∙ ap (λ s. set.spelling i ++ drop (length (set.spelling i)) s) (sym e)

  module _ (fits : Instr → Type 0) (prefix_free : IsPrefixFree set fits) where
    -- one spelling, one instruction
    pub same_spelled : (i j : Instr) → fits i → fits j → set.spelling i ≡ set.spelling j → i ≡ j
    same_spelled i j fi fj e =
        prefix_free i j (set.spelling j ++ []) fi fj
        (begins i (set.spelling j ++ []) [] (ap (λ s. s ++ []) (sym e)))
        (begins j (set.spelling j ++ []) [] refl)

    pub same_listing : (code others : List Instr) (rest more : List ℕ) → All fits code → All fits others
        → flat_map set.spelling code ++ rest ≡ flat_map set.spelling others ++ more
        → ((i : Instr) → fits i → ¬ Begins set rest i) → ((i : Instr) → fits i → ¬ Begins set more i)
        → (code ≡ others) × (rest ≡ more)
    same_listing [] [] rest more fit_code fit_others e ends ends_too = (refl, e)
    same_listing [] (j ∷ others) rest more fit_code fit_others e ends ends_too =
        absurd (ends j (All-head fits j others fit_others)
        (begins j rest (flat_map set.spelling others ++ more)
        (e ∙ append_assoc (set.spelling j) (flat_map set.spelling others) more)))
    same_listing (i ∷ code) [] rest more fit_code fit_others e ends ends_too =
        absurd (ends_too i (All-head fits i code fit_code)
        (begins i more (flat_map set.spelling code ++ rest)
        (sym e ∙ append_assoc (set.spelling i) (flat_map set.spelling code) rest)))
    same_listing (i ∷ code) (j ∷ others) rest more fit_code fit_others e ends ends_too =
        let left : List ℕ = flat_map set.spelling code ++ rest in
        let right : List ℕ = flat_map set.spelling others ++ more in
        let seam : set.spelling i ++ left ≡ set.spelling j ++ right =
        sym (append_assoc (set.spelling i) (flat_map set.spelling code) rest)
        ∙ e ∙ append_assoc (set.spelling j) (flat_map set.spelling others) more in
        let same : i ≡ j =
        prefix_free i j (set.spelling i ++ left) (All-head fits i code fit_code) (All-head fits j others fit_others)
        (begins i (set.spelling i ++ left) left refl) (begins j (set.spelling i ++ left) right seam) in
        let tail : left ≡ right =
        append_cancel_left (set.spelling j) left right (ap (λ k. set.spelling k ++ left) (sym same) ∙ seam) in
        let both : (code ≡ others) × (rest ≡ more) =
        same_listing code others rest more (All-tail fits i code fit_code) (All-tail fits j others fit_others) tail
        ends ends_too in
        (cc (same, both.0), both.1)

-- Functions of which a function table is told, one after the other.
use Rattle.std.proofs.Common.{◌≡◌, ◌⊎◌, ◌+◌, ℕ, zero, suc, length, List, [], ◌∷◌, ◌++◌, map, take, Some, refl, sym, ap, ◌∙◌, subst, arith, inl, inr, length-append}
use Rattle.std.specs.List.{slice_get}
use Rattle.std.proofs.Math.Seq.{take-length}
use Rattle.std.proofs.lemmas.List.{map-append, take_more}
use Rattle.std.proofs.lemmas.Option.{slice_get_within, get_or_from_slice_get}
use Rattle.link_build.specs.Functions.{Seen}
use Rattle.link_tables.specs.declared.func_lines.FuncLines.{FuncLines}
use Rattle.link_lines.specs.Told.{AreToldBy, IsToldBy}

module _ {Instr : Type 0} (funcs : List (Seen Instr)) (entries : List ℕ) where
  -- the first functions are told, so many
  pub record AreToldFirst (number : ℕ) (all : List (FuncLines Instr)) : Type 0 where
    pub count : length all ≡ number
    pub each : (k entry : ℕ) (func : Seen Instr) (lines : FuncLines Instr) → slice_get funcs k ≡ Some func → slice_get entries k ≡ Some entry
        → slice_get all k ≡ Some lines → IsToldBy func entry lines
    pub begin : map (λ lines. lines.entry) all ≡ take number entries

  pub none_told : AreToldFirst 0 []
  none_told = record { count = refl; each = λ k entry func lines here there none. absurd cc; begin = refl }

  last_or_before : {X : Type 0} (xs : List X) (x y : X) (k : ℕ) → slice_get (xs ++ x ∷ []) k ≡ Some y
      → (slice_get xs k ≡ Some y) ⊎ ((k ≡ length xs) × (y ≡ x))
  last_or_before {X} [] x y zero here = inr (refl, cc)
  last_or_before {X} [] x y (suc k) here = absurd cc
  last_or_before {X} (z ∷ xs) x y zero here = inl here
  last_or_before {X} (z ∷ xs) x y (suc k) here = elim (last_or_before xs x y k here) [
    | inl before ↦ inl before
    | inr last ↦ inr ((let same = last.0 in omega (arith, same)), last.1)
  ]

  take_next : {X : Type 0} (xs : List X) (n : ℕ) (x : X) → slice_get xs n ≡ Some x → take (n + 1) xs ≡ take n xs ++ x ∷ []
  take_next xs n x here =
      take_more xs n x (slice_get_within xs n x here) ∙ ap (λ y. take n xs ++ y ∷ []) (get_or_from_slice_get xs n x x here)

  pub told_more : (number entry : ℕ) (func : Seen Instr) (lines : FuncLines Instr) (all : List (FuncLines Instr)) → AreToldFirst number all
      → slice_get funcs number ≡ Some func → slice_get entries number ≡ Some entry → IsToldBy func entry lines
      → AreToldFirst (number + 1) (all ++ lines ∷ [])
  told_more number entry func lines all are here there told = record {
    count = length-append all (lines ∷ []) ∙ (let count = are.count in omega (arith, count));
    each = λ k entry' func' lines' here' there' at.
        elim (last_or_before all lines lines' k at) as (λ _. IsToldBy func' entry' lines') [
          | inl before ↦ are.each k entry' func' lines' here' there' before
          | inr last ↦
              (let same : k ≡ number = last.0 ∙ are.count in
              let funcs_at : slice_get funcs number ≡ Some func' = subst (λ n. slice_get funcs n ≡ Some func') same here' in
              let entries_at : slice_get entries number ≡ Some entry' = subst (λ n. slice_get entries n ≡ Some entry') same there' in
              let func_is : func ≡ func' = cc in
              let entry_is : entry ≡ entry' = cc in
              subst (λ lines. IsToldBy func' entry' lines) (sym last.1)
              (subst (λ entry. IsToldBy func' entry lines) entry_is (subst (λ func. IsToldBy func entry lines) func_is told)))
        ];
    begin = map-append (λ (lines : FuncLines Instr). lines.entry) all (lines ∷ [])
        ∙ ap (λ front. front ++ lines.entry ∷ []) are.begin ∙ ap (λ last. take number entries ++ last ∷ []) told.begins
        ∙ sym (take_next entries number entry there);
  }

  pub all_told : (number : ℕ) (all : List (FuncLines Instr)) → number ≡ length funcs → AreToldFirst number all → AreToldBy funcs entries all
  all_told number all last are = record { as_many = are.count ∙ last; each = are.each }

  pub all_entries : (number : ℕ) (all : List (FuncLines Instr)) → number ≡ length entries → AreToldFirst number all
      → map (λ lines. lines.entry) all ≡ entries
  all_entries number all last are = are.begin ∙ ap (λ n. take n entries) last ∙ take-length entries

-- The instructions of a line.
use Rattle.std.proofs.Common.{◌≡◌, ℕ, ◌+◌, ◌-◌, ◌==◌, Bool, true, false, List, [], ◌∷◌, length, take, Option, Some, None, refl, sym, ap, ◌∙◌, subst, arith, if◌then◌else◌}
use Rattle.std.specs.List.{slice_get}
use Rattle.std.proofs.lemmas.Bool.{eqb-true}
use Rattle.asm_target.specs.declared.refer.Refer.{Refer}
use Rattle.asm_target.specs.declared.refer.To.{To}
use Rattle.asm_target.specs.Aiming.{KeepLengths, bytes_of}
use Rattle.unit_listing.specs.Kit.{Kit}
use Rattle.unit_listing.specs.Lines.{refer_in}
use Rattle.link_code.specs.Code.{IsAimed, IsBeyond, IsOnly, IsPart}

module _ {Instr : Type 0} (kit : Kit Instr) (goals : To → Option ℕ) where
  -- what stands for a listed instruction is listed, and has as many bytes
  pub aimed_fits : (refer : Option Refer) (back at : ℕ) (i j : Instr) → kit.fits i → IsAimed kit goals refer back at i j → kit.fits j
  aimed_fits None back at i j fit same = subst kit.fits (sym same) fit
  aimed_fits (Some refer) back at i j fit (goal, goes, aims) = aims.fit

  pub aimed_long : (refer : Option Refer) (back at : ℕ) (i j : Instr) → KeepLengths kit.set kit.fits kit.aiming → kit.fits i
      → IsAimed kit goals refer back at i j → length (kit.set.spelling j) ≡ length (kit.set.spelling i)
  aimed_long None back at i j keep fit same = ap (λ k. length (kit.set.spelling k)) same
  aimed_long (Some refer) back at i j keep fit (goal, goes, aims) = keep j i aims.fit fit aims.same

  -- one of a form
  pub part : (refer found : Option Refer) (back start at : ℕ) (form : List Instr) (number : ℕ) (i j : Instr)
      → slice_get form number ≡ Some i → at ≡ start + bytes_of kit.set (take number form) → found ≡ refer_in form number refer
      → IsAimed kit goals found back at i j → IsOnly kit goals found back at i j → IsPart kit goals refer back start form number (j ∷ [])
  part refer found back start at form number i j here there goes is only = (
    i,
    here,
    j,
    subst (λ at. IsAimed kit goals (refer_in form number refer) back at i j) there
        (subst (λ found. IsAimed kit goals found back at i j) goes is),
    subst (λ at. IsOnly kit goals (refer_in form number refer) back at i j) there
        (subst (λ found. IsOnly kit goals found back at i j) goes only),
    refl,
  )

  -- where nothing stands for an instruction, it's the last one of its form
  pub beyond : (refer found : Option Refer) (back start at : ℕ) (form : List Instr) (number : ℕ) (i : Instr)
      → slice_get form number ≡ Some i → at ≡ start + bytes_of kit.set (take number form) → found ≡ refer_in form number refer
      → ((j : Instr) → ¬ IsAimed kit goals found back at i j) → IsBeyond kit goals refer back start form
  beyond refer found back start at form number i here there goes none = by (number + 1 == length form) refl
    where
      by : (last : Bool) → (number + 1 == length form) ≡ last → IsBeyond kit goals refer back start form
      by false is =
          let nothing : found ≡ None = goes ∙ ap (λ (last : Bool). if last then refer else None) is in
          absurd (none i (subst (λ found. IsAimed kit goals found back at i i) (sym nothing) refl))
      by true is = λ one j here' aimed.
          let count : number + 1 ≡ length form = eqb-true (number + 1) (length form) is in
          let last : length form - 1 ≡ number = omega arith in
          let there' : slice_get form number ≡ Some one = subst (λ (n : ℕ). slice_get form n ≡ Some one) last here' in
          let same : i ≡ one = cc in
          let all : found ≡ refer = goes ∙ ap (λ (last : Bool). if last then refer else None) is in
          let place : start + bytes_of kit.set (take (length form - 1) form) ≡ at
          = ap (λ (n : ℕ). start + bytes_of kit.set (take n form)) last ∙ sym there in
          none j (subst (λ found. IsAimed kit goals found back at i j) (sym all)
          (subst (λ at. IsAimed kit goals refer back at i j) place
          (subst (λ k. IsAimed kit goals refer back (start + bytes_of kit.set (take (length form - 1) form)) k j) (sym same) aimed)))

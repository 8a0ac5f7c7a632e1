use Rattle.std.proofs.Common.{◌≡◌, ◌⊎◌, Some, sym, ◌∙◌, ap, inl, inr}
use Rattle.amd64_forms.specs.declared.rows.Spoken.{Spoken}
use Rattle.amd64_forms.specs.declared.rows.Spoken.TheVariants.{Listed}
use Rattle.amd64_forms.specs.Words.{Says}
use Rattle.amd64_forms.proofs.NamesApart.{mnemonics_apart, mnemonic_no_alias}
use Rattle.amd64_forms.proofs.words.spoken.Goals as goal

-- a name of the list is that of no other instruction, and no other name
pub returns-in-Some-clause-only : goal.returns-in-Some-clause-only
unfolding Says
returns-in-Some-clause-only c = λ s says.
    elim says as (λ _. Some (Listed c.in-Some.mnemonic) ≡ Some s) [
      | inl one ↦ ap (λ (s : Spoken). Some s)
          (ap Listed (mnemonics_apart c.in-Some.mnemonic one.0 (c.in-Some.ensures.found ∙ sym one.1)) ∙ sym one.2)
      | inr other ↦ absurd (mnemonic_no_alias c.in-Some.mnemonic other.0 (c.in-Some.ensures.found ∙ sym other.1))
    ]

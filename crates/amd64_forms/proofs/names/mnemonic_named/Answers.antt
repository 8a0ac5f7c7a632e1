use Rattle.std.proofs.Common.{◌≡◌, Some, sym, ◌∙◌, ap}
use Rattle.amd64_table.specs.declared.mnemonic.Mnemonic.{Mnemonic}
use Rattle.amd64_forms.proofs.NamesApart.{mnemonics_apart}
use Rattle.amd64_forms.proofs.names.mnemonic_named.Goals as goal

-- a name that is found is that of no other instruction

pub returns-in-Some-clause-only : goal.returns-in-Some-clause-only
returns-in-Some-clause-only c = λ m is.
    ap (λ (m : Mnemonic). Some m) (mnemonics_apart c.in-Some.whole m (c.in-Some.ensures.found ∙ sym is))

pub returns-in-Some-computing-clause-only : goal.returns-in-Some-computing-clause-only
returns-in-Some-computing-clause-only c = λ m is.
    ap (λ (m : Mnemonic). Some m)
    (mnemonics_apart c.in-Some-computing.computing m (c.in-Some-computing.ensures.found ∙ sym is))

pub returns-in-Some-moving-clause-only : goal.returns-in-Some-moving-clause-only
returns-in-Some-moving-clause-only c = λ m is.
    ap (λ (m : Mnemonic). Some m) (mnemonics_apart c.in-Some-moving.moving m (c.in-Some-moving.ensures.found ∙ sym is))

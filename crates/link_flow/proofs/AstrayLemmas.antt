-- Where instructions stand in the sources that go astray or break a rule.
use Rattle.std.proofs.Common.{◌≡◌, ℕ, zero, suc, ◌<◌, List, [], ◌∷◌, length, Some, inl, inr, refl, sym, ap, subst, arith}
use Rattle.std.specs.List.{slice_get}
use Rattle.std.proofs.lemmas.Bool.{cases_lt}
use Rattle.asm_target.specs.declared.body.Placed.{Placed}
use Rattle.asm_target.specs.FlowRules.{Breach, IsFirstBreach}
use Rattle.flow_rules.specs.Placing.{place_of}
use Rattle.link_build.specs.declared.link_no.LinkNo.{LinkNo}
use Rattle.link_build.specs.declared.link_no.LinkNo.TheVariants as numbers
use Rattle.link_build.specs.Functions.{Seen}
use Rattle.link_code.specs.declared.placing.Code.{Code}
use Rattle.link_code.specs.Astray.{IsFirstAstray, range_of}
use Rattle.link_code.specs.Positions.{IsNowhere, IsOfLine, count_before}
use Rattle.link_code.proofs.PositionLemmas.{within_lines}
use Rattle.unit_listing.specs.Kit.{Kit}
use Rattle.link_flow.specs.declared.around.Around.{Around}
use Rattle.link_flow.specs.Codes.{IsCodeSomewhere}
use Rattle.link_flow.specs.Named.{IsNamed}
use Rattle.link_flow.specs.Refusals.{IsAstray, rules_of}

item_there : {X : Type 0} (xs : List X) (k : ℕ) → k < length xs → (x : X) × (slice_get xs k ≡ Some x)
item_there [] k less = absurd (omega arith)
item_there (x ∷ xs) zero less = (x, refl)
item_there (x ∷ xs) (suc k) less = item_there xs k (omega arith)

place_there : {Instr : Type 0} (code : List (Placed Instr)) (number : ℕ) → number < length code
    → IsNowhere code (place_of (slice_get code number)) → ⊥
place_there code number within nowhere =
    let found = item_there code number within in
    nowhere number found.0 found.1 (ap place_of (sym found.1))

module _ {Instr : Type 0} (kit : Kit Instr) (around : Around) (func : Seen Instr) (code : Code Instr) (stands : IsCodeSomewhere kit func code) where
  pub within : (number : ℕ) → IsFirstAstray kit.set (range_of around.text) around.symbols.items code.placed.items number
      → number < count_before kit func.part.laid (length func.part.laid.body.code)
  within number astray =
      elim (cases_lt number (count_before kit func.part.laid (length func.part.laid.body.code))) [
        | inl below ↦ below
        | inr past ↦ absurd (within_lines kit stands.4.site func.part.laid code.placed.items number astray.one stands.4.placed astray.here past)
      ]

  pub goes_astray : (number : ℕ) (no : LinkNo) → IsFirstAstray kit.set (range_of around.text) around.symbols.items code.placed.items number
      → (line : ℕ) × IsOfLine kit func.part.laid number line × (name : List ℕ) × (no ≡ numbers.N7 name) × IsNamed func line name
      → IsAstray kit around func code no
  goes_astray number refusal astray (line, of, name, same, named) =
      subst (IsAstray kit around func code) (sym same) (record {
        number = number;
        astray = astray;
        line = line;
        of = of;
        named = named;
      })

  -- an instruction stands where a rule is broken
  pub breach_there : (breach : Breach) → IsFirstBreach (rules_of kit around code) breach → ¬ IsNowhere code.placed.items breach.address
  breach_there breach is = λ nowhere.
      place_there code.placed.items is.position is.inside
      (subst (IsNowhere code.placed.items) is.told.place nowhere)

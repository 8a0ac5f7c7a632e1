-- A name stands for at most one function of an image.
use Rattle.std.proofs.Common.{◌≡◌, ℕ, zero, suc, Bool, true, false, List, [], ◌∷◌, map, Some, None, refl, sym, ap, ◌∙◌, inl, inr, arith}
use Rattle.std.specs.Prelude.{All, if◌then◌else◌}
use Rattle.std.specs.List.{slice_get}
use Rattle.std.proofs.lemmas.Bool.{cases_order}
use Rattle.std.proofs.lemmas.List.Elements.{All-cons, All-map, All-nil}
use Rattle.std.proofs.lemmas.Option.{slice_get-map}
use Rattle.goasm_base.specs.declared.statement.Function.{Function}
use Rattle.asm_parse.specs.declared.unit.Unit.{Unit as Said}
use Rattle.unit_listing.specs.Kit.{Kit}
use Rattle.link_names.specs.Definitions.{Entry, MeansAs, numbered}
use Rattle.link_names.specs.declared.definition.Meaning.TheVariants as means
use Rattle.link_functions.specs.Code.{AreLaid, AreParts, IsPart, IsUnitLaid}
use Rattle.link_functions.specs.Kept.{is_kept, kept, kept_in}
use Rattle.link_functions.specs.declared.code.Part.{Part}
use Rattle.link_functions.specs.declared.code.UnitCode.{UnitCode}
use Rattle.link_build.specs.Functions.{IsEntryAt, Seen, functions_in, functions_of, seen_in}
use Rattle.link_build.proofs.FunctionLemmas.{pair}
use Rattle.link_build.proofs.PlaceLemmas.{all_from_got, some_mapped, zip_right}
use Rattle.build_answer.specs.Same.{IsSameCode}
use Rattle.link_answer.proofs.ListLemmas.{ArePairs, pairs_each}
use Rattle.link_answer.proofs.SameLemmas.{IsSameSeen, same_seen}

-- two functions of a unit have two numbers
abbrev AreApart : ℕ × Function → ℕ × Function → Type 0
AreApart one other = one.0 ≡ other.0 → ⊥

-- two functions of an image have two numbers, or stand in two units
abbrev Differ : {Instr : Type 0} → Seen Instr → Seen Instr → Type 0
Differ one other = one.number ≡ other.number → one.part.number ≡ other.part.number → ⊥

if_tagged : (is : Bool) (number : ℕ) (function : Function)
    → All (λ (one : ℕ × Function). one.0 ≡ number) (if is then (number, function) ∷ [] else [])
if_tagged true number function = All-cons (λ (one : ℕ × Function). one.0 ≡ number) (number, function) [] refl (All-nil (λ (one : ℕ × Function). one.0 ≡ number))
if_tagged false number function = All-nil (λ (one : ℕ × Function). one.0 ≡ number)

if_alone : {X : Type 0} (R : X → X → Type 0) (is : Bool) (item : X) → ArePairs R (if is then item ∷ [] else [])
if_alone R true item number zero one other less here there = absurd (omega arith)
if_alone R true item number (suc later) one other less here there = absurd cc
if_alone R false item number later one other less here there = absurd cc

-- the functions of a unit that count
kept_apart : (names : List Entry) (unit : ℕ) (said : Said) → ArePairs AreApart (kept_in names unit said)
kept_apart names unit said =
    pairs_each (kept names unit said.symbols) (λ (one : ℕ × Function). one.0)
    (λ number function. if_tagged (is_kept names unit said.symbols number function) number function)
    AreApart (λ one other less same. omega arith) 0 said.functions
    (all_from_got (λ function. (number : ℕ) → ArePairs AreApart (kept names unit said.symbols number function)) said.functions
    (λ place function here number. if_alone AreApart (is_kept names unit said.symbols number function) (number, function)))

module _ {Instr : Type 0} (kit : Kit Instr) where
  parts_apart : (number : ℕ) (said : Said) (its : List (ℕ × Function)) (parts : List (Part Instr)) → AreParts kit its parts
      → ArePairs AreApart its → ArePairs Differ (map (seen_in number said) parts)
  parts_apart number said its parts are apart place later one other less here there unit same =
      let first = some_mapped (seen_in number said) (slice_get parts place) one (sym (slice_get-map (seen_in number said) parts place) ∙ here) in
      let second = some_mapped (seen_in number said) (slice_get parts later) other
      (sym (slice_get-map (seen_in number said) parts later) ∙ there) in
      let a = zip_right (IsPart kit) its parts place first.0 are first.1 in
      let b = zip_right (IsPart kit) its parts later second.0 are second.1 in
      apart place later a.0 b.0 less a.1 b.1
      (sym a.2.number ∙ ap (λ (func : Seen Instr). func.part.number) first.2 ∙ same
      ∙ sym (ap (λ (func : Seen Instr). func.part.number) second.2) ∙ b.2.number)

  tagged_functions : (number : ℕ) (unit : UnitCode Instr) → All (λ (func : Seen Instr). func.number ≡ number) (functions_of number unit)
  tagged_functions number unit =
      All-map (λ (func : Seen Instr). func.number ≡ number) (seen_in number unit.unit.now) unit.parts.items
      (all_from_got (λ (part : Part Instr). number ≡ number) unit.parts.items (λ place part here. refl))

  functions_apart : (names : List Entry) (units : List Said) (code : List (UnitCode Instr)) → AreLaid kit names units code
      → ArePairs Differ (functions_in code)
  functions_apart names units code laid =
      pairs_each functions_of (λ (func : Seen Instr). func.number) tagged_functions Differ
      (λ one other less same part. omega arith) 0 code
      (all_from_got (λ (unit : UnitCode Instr). (number : ℕ) → ArePairs Differ (functions_of number unit)) code (λ place unit here number.
      let it = zip_right (IsUnitLaid kit names) (numbered pair units) code place unit laid here in
      parts_apart number unit.unit.now (kept_in names it.0.0 it.0.1) unit.parts.items it.2.parts (kept_apart names it.0.0 it.0.1)))

  -- so the entry is one function
  pub one_entry : (names others : List Entry) (units : List Said) (code again : List (UnitCode Instr)) → MeansAs names others
      → AreLaid kit names units code → IsSameCode code again → (entry : List ℕ) (index place : ℕ)
      → IsEntryAt names entry (functions_in code) index → IsEntryAt others entry (functions_in again) place → index ≡ place
  one_entry names others units code again alike laid same entry index place one two =
      let apart = functions_apart names units code laid in
      let found = zip_right IsSameSeen (functions_in code) (functions_in again) place two.func (same_seen code again same) two.here in
      let meant : Some (means.Function one.func.number one.func.part.number) ≡ Some (means.Function two.func.number two.func.part.number)
      = sym one.means ∙ alike (entry, None) ∙ two.means in
      let first : one.func.number ≡ two.func.number = cc in
      let second : one.func.part.number ≡ two.func.part.number = cc in
      let unit : one.func.number ≡ found.0.number = first ∙ sym found.2.number in
      let part : one.func.part.number ≡ found.0.part.number = second ∙ sym found.2.part.number in
      elim (cases_order index place) as (λ _. index ≡ place) [
        | inl equal ↦ equal
        | inr (inl less) ↦ absurd (apart index place one.func found.0 less one.here found.1 unit part)
        | inr (inr more) ↦ absurd (apart place index found.0 one.func more found.1 one.here (sym unit) (sym part))
      ]

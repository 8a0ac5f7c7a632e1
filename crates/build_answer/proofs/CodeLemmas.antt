-- The functions of a build that count have one list of instructions, or one first of them is refused.
use Rattle.std.proofs.Common.{◌≡◌, Bool, true, false, ℕ, List, [], ◌∷◌, ◌++◌, length, Some, sym, ap, ◌∙◌, subst}
use Rattle.std.specs.Prelude.{All, if◌then◌else◌}
use Rattle.std.specs.List.{slice_get}
use Rattle.std.specs.Option.{option_map}
use Rattle.std.proofs.lemmas.List.Elements.{All-cons, All-head, All-nil, All-tail}
use Rattle.goasm_base.specs.Statements.{IsValidFunction}
use Rattle.goasm_base.specs.declared.statement.Function.{Function}
use Rattle.asm_parse.specs.Valid.{IsValidUnit}
use Rattle.asm_parse.specs.declared.unit.Symbol.{Symbol}
use Rattle.asm_parse.specs.declared.unit.Unit.{Unit as Said}
use Rattle.asm_target.specs.declared.body.Body.{Body}
use Rattle.link_names.specs.Data.{unit_undefined}
use Rattle.link_names.specs.Definitions.{Entry, MeansAs, numbered}
use Rattle.link_functions.specs.Code.{AreLaid, AreParts, HasCode, IsFirstUnlaid, IsPart, IsUnitLaid}
use Rattle.link_functions.specs.Kept.{is_kept, kept, kept_in, kept_of}
use Rattle.link_functions.specs.References.{all_undefined, code_undefined, lines_undefined, part_undefined, parts_undefined}
use Rattle.link_functions.specs.declared.code.Part.{Part}
use Rattle.link_functions.specs.declared.code.UnitCode.{UnitCode}
use Rattle.unit_listing.specs.Kit.{Kit}
use Rattle.unit_listing.specs.Laid.{IsLaid, IsSameLaid}
use Rattle.unit_listing.specs.Listing.{IsRefused}
use Rattle.unit_listing.specs.declared.laid.Laid.{Laid}
use Rattle.unit_listing.specs.declared.listing_no.ListingNo.{ListingNo}
use Rattle.link_build.proofs.PlaceLemmas.{all_each, all_got, numbered_got, zip_left}
use Rattle.build_answer.specs.Same.{IsSameCode, IsSamePart, IsSameUnit}
use Rattle.build_answer.proofs.ListLemmas.{all_between, each_alike, zip_both, zip_weaker}
use Rattle.build_answer.proofs.NameLemmas.{kept_in_same}

-- each function has one answer: its instructions, or one refusal
pub record LaidLaws {Instr : Type 0} (kit : Kit Instr) : Type 0 where
  pub one : (function : Function) (laid other : Laid Instr) → IsLaid kit function laid → IsLaid kit function other → IsSameLaid laid other
  pub never : (symbols : ℕ) (function : Function) (laid : Laid Instr) (refusal : ListingNo) → IsValidFunction symbols function
      → IsLaid kit function laid → IsRefused kit function refusal → ⊥
  pub first : (symbols : ℕ) (function : Function) (refusal other : ListingNo) → IsValidFunction symbols function
      → IsRefused kit function refusal → IsRefused kit function other → refusal ≡ other

-- the function is one of a unit with some number of symbols
abbrev pub IsValid : ℕ × Function → Type 0
IsValid one = (symbols : ℕ) × IsValidFunction symbols one.1

pub kept_valid : (names : List Entry) (units : List Said) → All IsValidUnit units → All IsValid (kept_of names units)
kept_valid names units valid =
    all_each (kept_in names) IsValid units (λ unit said there.
    let fine = all_got IsValidUnit units unit said valid there in
    all_each (kept names unit said.symbols) IsValid said.functions (λ number function here.
    if_kept (is_kept names unit said.symbols number function) number function
    (length said.symbols, all_got (IsValidFunction (length said.symbols)) said.functions number function fine.functions here)))
  where
    if_kept : (is : Bool) (number : ℕ) (function : Function) → IsValid (number, function)
        → All IsValid (if is then (number, function) ∷ [] else [])
    if_kept true number function fine = All-cons IsValid (number, function) [] fine (All-nil IsValid)
    if_kept false number function fine = All-nil IsValid

abbrev pair : ℕ → Said → ℕ × Said
pair number unit = (number, unit)

module _ {Instr : Type 0} where
  part_alike : (names : List Entry) (unit : ℕ) (symbols : List Symbol) (number : ℕ) (one other : Part Instr) → IsSamePart one other
      → part_undefined names unit symbols number one ≡ part_undefined names unit symbols number other
  part_alike names unit symbols number one other same =
      ap (λ (flags : ℕ). lines_undefined names unit symbols flags one.laid.body.code) same.laid.flags
      ∙ ap (λ (body : Body Instr). lines_undefined names unit symbols other.laid.flags body.code) same.laid.body

  unit_alike : (names : List Entry) (number : ℕ) (one other : UnitCode Instr) → IsSameUnit one other
      → code_undefined names number one ≡ code_undefined names number other
  unit_alike names number one other same =
      ap (λ (said : Said). parts_undefined names number said.symbols one.parts.items ++ unit_undefined names number said) same.unit
      ∙ ap (λ (parts : List (List ℕ)). parts ++ unit_undefined names number other.unit.now)
      (each_alike (part_undefined names number other.unit.now.symbols) IsSamePart (part_alike names number other.unit.now.symbols) 0
      one.parts.items other.parts.items same.parts)

  -- by the same names the same is undefined in code that is the same
  pub undefined_in_code : (names : List Entry) (code again : List (UnitCode Instr)) → IsSameCode code again
      → all_undefined names code ≡ all_undefined names again
  undefined_in_code names code again same = each_alike (code_undefined names) IsSameUnit (unit_alike names) 0 code again same

module _ {Instr : Type 0} (kit : Kit Instr) where
  has_code : (kept : List (ℕ × Function)) (parts : List (Part Instr)) → AreParts kit kept parts → All (HasCode kit) kept
  has_code [] parts are = All-nil (HasCode kit)
  has_code (one ∷ kept) [] are = absurd are
  has_code (one ∷ kept) (part ∷ parts) are = All-cons (HasCode kit) one kept (part.laid, are.0.laid) (has_code kept parts are.1)

  -- the functions of code that is laid out have instructions
  pub all_code : (names : List Entry) (units : List Said) (code : List (UnitCode Instr)) → AreLaid kit names units code
      → All (HasCode kit) (kept_of names units)
  all_code names units code laid =
      all_each (kept_in names) (HasCode kit) units (λ unit said there.
      let here : slice_get (numbered pair units) unit ≡ Some (unit, said)
      = numbered_got pair units unit ∙ ap (option_map (pair unit)) there in
      let its = zip_left (IsUnitLaid kit names) (numbered pair units) code unit (unit, said) laid here in
      has_code (kept_in names unit said) its.0.parts.items its.2.parts)

  module _ (laws : LaidLaws kit) where
    same_unit : (names : List Entry) (unit : ℕ × Said) (one other : UnitCode Instr) → IsUnitLaid kit names unit one
        → IsUnitLaid kit names unit other → IsSameUnit one other
    same_unit names unit one other is that = record {
      unit = is.unit_is ∙ sym that.unit_is;
      parts = zip_both (IsPart kit) IsSamePart (λ function part again first second. record {
        number = first.number ∙ sym second.number;
        function = first.function ∙ sym second.function;
        laid = laws.one function.1 part.laid again.laid first.laid second.laid;
      }) (kept_in names unit.0 unit.1) one.parts.items other.parts.items is.parts that.parts;
    }

    pub same_code : (names others : List Entry) → MeansAs names others → (units : List Said) (code again : List (UnitCode Instr))
        → AreLaid kit names units code → AreLaid kit others units again → IsSameCode code again
    same_code names others means units code again laid that =
        zip_both (IsUnitLaid kit others) IsSameUnit (same_unit others) (numbered pair units) code again
        (zip_weaker (IsUnitLaid kit names) (IsUnitLaid kit others) (λ unit one is. record {
          unit_is = is.unit_is;
          parts = subst (λ (kept : List (ℕ × Function)). AreParts kit kept one.parts.items)
              (kept_in_same names others means unit.0 unit.1) is.parts;
        }) (numbered pair units) code laid)
        that

    -- a function that is refused has no instructions
    no_code : (function : ℕ × Function) (refusal : ListingNo) → IsValid function → HasCode kit function → IsRefused kit function.1 refusal → ⊥
    no_code function refusal valid has refused = laws.never valid.0 function.1 has.0 refusal valid.1 has.1 refused

    pub not_unlaid : (functions : List (ℕ × Function)) (refusal : ListingNo) → All IsValid functions → All (HasCode kit) functions
        → IsFirstUnlaid kit functions refusal → ⊥
    not_unlaid functions refusal valid has first =
        no_code first.kept refusal
        (all_between IsValid first.before first.kept first.behind (subst (All IsValid) first.whole valid))
        (all_between (HasCode kit) first.before first.kept first.behind (subst (All (HasCode kit)) first.whole has))
        first.refused

    -- two first functions that are refused are the same one
    one_first : (before : List (ℕ × Function)) (function : ℕ × Function) (behind front : List (ℕ × Function)) (other : ℕ × Function)
        (back : List (ℕ × Function)) (refusal again : ListingNo) → before ++ function ∷ behind ≡ front ++ other ∷ back
        → All IsValid (before ++ function ∷ behind) → All (HasCode kit) before → All (HasCode kit) front
        → IsRefused kit function.1 refusal → IsRefused kit other.1 again → refusal ≡ again
    one_first [] function behind [] other back refusal again same valid fine good is that =
        let one : other ≡ function = cc in
        let its = All-head IsValid function behind valid in
        laws.first its.0 function.1 refusal again its.1 is (subst (λ (one : ℕ × Function). IsRefused kit one.1 again) one that)
    one_first [] function behind (first ∷ front) other back refusal again same valid fine good is that =
        let one : first ≡ function = cc in
        absurd (no_code function refusal (All-head IsValid function behind valid)
        (subst (HasCode kit) one (All-head (HasCode kit) first front good)) is)
    one_first (first ∷ before) function behind [] other back refusal again same valid fine good is that =
        let one : first ≡ other = cc in
        let its = All-head IsValid first (before ++ function ∷ behind) valid in
        absurd (no_code other again (subst IsValid one its) (subst (HasCode kit) one (All-head (HasCode kit) first before fine)) that)
    one_first (first ∷ before) function behind (one ∷ front) other back refusal again same valid fine good is that =
        let rest : before ++ function ∷ behind ≡ front ++ other ∷ back = cc in
        one_first before function behind front other back refusal again rest
        (All-tail IsValid first (before ++ function ∷ behind) valid)
        (All-tail (HasCode kit) first before fine) (All-tail (HasCode kit) one front good) is that

    pub same_unlaid : (functions others : List (ℕ × Function)) (refusal again : ListingNo) → functions ≡ others → All IsValid functions
        → IsFirstUnlaid kit functions refusal → IsFirstUnlaid kit others again → refusal ≡ again
    same_unlaid functions others refusal again same valid one two =
        one_first one.before one.kept one.behind two.before two.kept two.behind refusal again (sym one.whole ∙ same ∙ two.whole)
        (subst (All IsValid) one.whole valid) one.fine two.fine one.refused two.refused

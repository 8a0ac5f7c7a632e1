-- Functions that are laid out one after the other.
use Rattle.std.proofs.Common.{◌≡◌, ℕ, ◌+◌, List, [], ◌∷◌, ◌++◌, length, take, Some, refl, sym, ap, ◌∙◌, subst, append_assoc, append-nil}
use Rattle.std.specs.Prelude.{All, slice_get}
use Rattle.std.specs.List.{AllZip}
use Rattle.std.proofs.lemmas.List.Elements.{All-append, All-cons, All-nil, All-push}
use Rattle.goasm_base.specs.declared.statement.Function.{Function}
use Rattle.asm_parse.specs.declared.unit.Unit.{Unit as Said}
use Rattle.asm_parse.specs.Valid.{IsValidUnit}
use Rattle.link_names.specs.Definitions.{Entry, each}
use Rattle.unit_listing.specs.declared.listing_no.ListingNo.{ListingNo}
use Rattle.unit_listing.specs.Kit.{Kit}
use Rattle.unit_listing.specs.Listing.{IsRefused}
use Rattle.link_functions.specs.declared.code.Part.{Part}
use Rattle.link_functions.specs.declared.code.UnitCode.{UnitCode}
use Rattle.link_functions.specs.Kept.{kept_in, kept_of}
use Rattle.link_functions.specs.Code.{Adds, AddsUnit, AreParts, HasCode, HasParts, IsFirstUnlaid, IsPart, IsPartWithin, IsUnitLaid, IsUnitWithin, IsValidCode}
use Rattle.link_functions.proofs.EachLemmas.{each_more, each_none, each_split, rest}

zip_append : {A B : Type 0} (R : A → B → Type 0) (xs ys : List A) (us vs : List B) → AllZip R xs us → AllZip R ys vs
    → AllZip R (xs ++ ys) (us ++ vs)
zip_append R [] ys [] vs front back = back
zip_append R [] ys (u ∷ us) vs front back = absurd front
zip_append R (x ∷ xs) ys [] vs front back = absurd front
zip_append R (x ∷ xs) ys (u ∷ us) vs front back = (front.0, zip_append R xs ys us vs front.1 back)

module _ {Instr : Type 0} (kit : Kit Instr) where
  module _ (symbols : ℕ) where
    pub adds_none : (parts : List (Part Instr)) → Adds kit symbols parts [] parts
    unfolding Adds
    adds_none parts = λ before has. subst (λ kept. HasParts kit symbols kept parts) (sym (append-nil before)) has

    pub adds_one : (old new : List (Part Instr)) (kept : ℕ × Function) (part : Part Instr) → new ≡ old ++ part ∷ []
        → IsPart kit kept part → IsPartWithin symbols part → Adds kit symbols old (kept ∷ []) new
    unfolding Adds
    adds_one old new kept part same is within = λ before has.
        subst (HasParts kit symbols (before ++ kept ∷ [])) (sym same) (record {
          parts_are = zip_append (IsPart kit) before (kept ∷ []) old (part ∷ []) has.parts_are (is, tt);
          within = All-push (IsPartWithin symbols) old part has.within within;
        })

    module _ {X : Type 0} (make : ℕ → X → List (ℕ × Function)) (items : List X) where
      -- the parts are the functions that the items below a number make
      abbrev pub HasBelow : ℕ → List (Part Instr) → Type 0
      HasBelow number parts = HasParts kit symbols (each make (take number items)) parts

      pub has_none : HasBelow 0 []
      has_none = subst (λ kept. HasParts kit symbols kept []) (sym (each_none make)) (record {
        parts_are = tt;
        within = All-nil (IsPartWithin symbols);
      })

      pub has_more : (number : ℕ) (item : X) (old new : List (Part Instr)) → slice_get items number ≡ Some item → HasBelow number old
          → Adds kit symbols old (make number item) new → HasBelow (number + 1) new
      unfolding Adds
      has_more number item old new here has adds =
          subst (λ kept. HasParts kit symbols kept new) (sym (each_more make items number item here)) (adds (each make (take number items)) has)

  has_code : (kept : List (ℕ × Function)) (parts : List (Part Instr)) → AreParts kit kept parts → All (HasCode kit) kept
  has_code [] parts are = All-nil (HasCode kit)
  has_code (one ∷ kept) [] are = absurd are
  has_code (one ∷ kept) (part ∷ parts) are =
      All-cons (HasCode kit) one kept (part.laid, are.0.laid) (has_code kept parts are.1)

  pub first_alone : (kept : ℕ × Function) (refusal : ListingNo) → IsRefused kit kept.1 refusal → IsFirstUnlaid kit (kept ∷ []) refusal
  first_alone kept refusal refused =
      record { before = []; kept = kept; behind = []; whole = refl; fine = All-nil (HasCode kit); refused = refused }

  module _ {X : Type 0} (make : ℕ → X → List (ℕ × Function)) (items : List X) where
    first_later : (number : ℕ) (item : X) (refusal : ListingNo) → slice_get items number ≡ Some item
        → All (HasCode kit) (each make (take number items)) → IsFirstUnlaid kit (make number item) refusal
        → IsFirstUnlaid kit (each make items) refusal
    first_later number item refusal here fine first =
        let front = each make (take number items) in
        let back = rest make items number item here in
        record {
          before = front ++ first.before;
          kept = first.kept;
          behind = first.behind ++ back;
          whole = each_split make items number item here ∙ ap (λ middle. front ++ (middle ++ back)) first.whole
              ∙ ap (λ more. front ++ more) (append_assoc first.before (first.kept ∷ first.behind) back)
              ∙ sym (append_assoc front first.before (first.kept ∷ (first.behind ++ back)));
          fine = All-append (HasCode kit) front first.before fine first.fine;
          refused = first.refused;
        }

    pub first_below : (symbols number : ℕ) (item : X) (parts : List (Part Instr)) (refusal : ListingNo) → slice_get items number ≡ Some item
        → HasBelow symbols make items number parts → IsFirstUnlaid kit (make number item) refusal → IsFirstUnlaid kit (each make items) refusal
    first_below symbols number item parts refusal here has =
        first_later number item refusal here (has_code (each make (take number items)) parts has.parts_are)

  module _ (names : List Entry) (units : List Said) where
    abbrev pair : ℕ → Said → List (ℕ × Said)
    pair number unit = (number, unit) ∷ []

    -- the code is that of the units below a number
    pub record HasUnits (number : ℕ) (code : List (UnitCode Instr)) : Type 0 where
      pub laid : AllZip (IsUnitLaid kit names) (each pair (take number units)) code
      pub valid : All IsValidCode code
      pub within : All IsUnitWithin code
      pub has : All (HasCode kit) (each (kept_in names) (take number units))

    pub no_units : HasUnits 0 []
    no_units = record {
      laid = subst (λ pairs. AllZip (IsUnitLaid kit names) pairs []) (sym (each_none pair)) tt;
      valid = All-nil IsValidCode;
      within = All-nil IsUnitWithin;
      has = subst (All (HasCode kit)) (sym (each_none (kept_in names))) (All-nil (HasCode kit));
    }

    pub units_more : (number : ℕ) (unit : Said) (old new : List (UnitCode Instr)) → slice_get units number ≡ Some unit → IsValidUnit unit
        → HasUnits number old → AddsUnit kit names number unit old new → HasUnits (number + 1) new
    units_more number unit old new here valid has adds =
        let Laid : ℕ × Said → UnitCode Instr → Type 0 = IsUnitLaid kit names in
        let one : Laid (number, unit) adds.code = record { unit_is = adds.unit_is; parts = adds.has.parts_are } in
        let within : IsUnitWithin adds.code =
        subst (λ (said : Said). All (IsPartWithin (length said.symbols)) adds.code.parts.items) (sym adds.unit_is) adds.has.within in
        subst (HasUnits (number + 1)) (sym adds.whole) (record {
          laid = subst (λ pairs. AllZip Laid pairs (old ++ adds.code ∷ [])) (sym (each_more pair units number unit here))
              (zip_append Laid (each pair (take number units)) (pair number unit) old (adds.code ∷ []) has.laid (one, tt));
          valid = All-push IsValidCode old adds.code has.valid (subst IsValidUnit (sym adds.unit_is) valid);
          within = All-push IsUnitWithin old adds.code has.within within;
          has = subst (All (HasCode kit)) (sym (each_more (kept_in names) units number unit here))
              (All-append (HasCode kit) (each (kept_in names) (take number units)) (kept_in names number unit) has.has
              (has_code (kept_in names number unit) adds.code.parts.items adds.has.parts_are));
        })

    pub first_unit : (number : ℕ) (unit : Said) (code : List (UnitCode Instr)) (refusal : ListingNo) → slice_get units number ≡ Some unit
        → HasUnits number code → IsFirstUnlaid kit (kept_in names number unit) refusal → IsFirstUnlaid kit (kept_of names units) refusal
    first_unit number unit code refusal here has = first_later (kept_in names) units number unit refusal here has.has

-- What is told of addresses, one behind the other.
use Rattle.std.proofs.Common.{◌≡◌, Bool, true, false, cond, inl, inr, ◌&&◌, ℕ, List, [], ◌∷◌, ◌++◌, Option, Some, None, refl, sym, ap, ◌∙◌, arith}
use Rattle.std.proofs.lemmas.Bool.{cases_Bool}
use Rattle.std.proofs.lemmas.Bool.Decides.{nat_tests}
use Rattle.std.specs.Prelude.{nat_eq}
use Rattle.std.specs.Option.{option_or}
use Rattle.link_names.specs.declared.definition.Meaning.{Meaning}
use Rattle.link_names.specs.declared.definition.Meaning.TheVariants.{Function, Value, Outside}
use Rattle.link_places.specs.Addresses.{is_same, address_in, TellsAs}

same_pair : (one other its theirs : ℕ) → (nat_eq one other && nat_eq its theirs) ≡ true → (one ≡ other) × (its ≡ theirs)
same_pair one other its theirs is =
    elim (cases_Bool (nat_eq one other)) [
      | inl first ↦
          let second : nat_eq its theirs ≡ true = rw first at is in
          (grind (arith, nat_tests), grind (arith, nat_tests))
      | inr apart ↦ let wrong : false ≡ true = rw apart at is in cc
    ]

-- two meanings are the same only where they are equal
pub same_meaning : (one other : Meaning) → is_same one other ≡ true → one ≡ other
same_meaning (Function unit number) (Function other its) is =
    let both = same_pair unit other number its is in rw (both.0, both.1) refl
same_meaning (Value unit number) (Value other its) is =
    let both = same_pair unit other number its is in rw (both.0, both.1) refl
same_meaning (Outside number) (Outside its) is = let same : number ≡ its = grind (arith, nat_tests) in rw same refl
same_meaning (Function unit number) (Value other its) is = absurd cc
same_meaning (Function unit number) (Outside its) is = absurd cc
same_meaning (Value unit number) (Function other its) is = absurd cc
same_meaning (Value unit number) (Outside its) is = absurd cc
same_meaning (Outside number) (Function other its) is = absurd cc
same_meaning (Outside number) (Value other its) is = absurd cc

one_same : (number : ℕ) → nat_eq number number ≡ true
one_same number = grind (arith, nat_tests)

pub same_itself : (meaning : Meaning) → is_same meaning meaning ≡ true
same_itself (Function unit number) = rw (one_same unit, one_same number) refl
same_itself (Value unit number) = rw (one_same unit, one_same number) refl
same_itself (Outside number) = one_same number

-- the address by two lists, one behind the other
pub address_in-append : (addresses others : List (Meaning × ℕ)) (meaning : Option Meaning)
    → address_in (addresses ++ others) meaning ≡ option_or (address_in addresses meaning) (address_in others meaning)
address_in-append addresses others None = refl
address_in-append [] others (Some meaning) = refl
address_in-append (first ∷ addresses) others (Some meaning) =
    elim (cases_Bool (is_same meaning first.0)) [
      | inl here ↦ rw here refl
      | inr later ↦ rw later (address_in-append addresses others (Some meaning))
    ]

-- what more is told changes nothing of what is equal so far
pub tells_more : (addresses others more : List (Meaning × ℕ)) → TellsAs addresses others → TellsAs (addresses ++ more) (others ++ more)
tells_more addresses others more tells meaning =
    address_in-append addresses more meaning
    ∙ ap (λ found. option_or found (address_in more meaning)) (tells meaning)
    ∙ sym (address_in-append others more meaning)

or_none : (found : Option ℕ) → found ≡ option_or found None
or_none None = refl
or_none (Some address) = refl

-- an address that was told before stays
pub stays : (addresses : List (Meaning × ℕ)) (meaning : Meaning) (first address : ℕ) → address_in addresses (Some meaning) ≡ Some first
    → TellsAs addresses (addresses ++ (meaning, address) ∷ [])
stays addresses meaning first address there None = refl
stays addresses meaning first address there (Some other) =
    elim (cases_Bool (is_same other meaning)) [
      | inl same ↦
          let equal : other ≡ meaning = same_meaning other meaning same in
          let found : address_in addresses (Some other) ≡ Some first = rw equal there in
          found ∙ sym (address_in-append addresses ((meaning, address) ∷ []) (Some other) ∙ ap (λ found. option_or found (address_in ((meaning, address) ∷ []) (Some other))) found)
      | inr apart ↦
          or_none (address_in addresses (Some other))
          ∙ ap (λ more. option_or (address_in addresses (Some other)) more) (sym (ap (λ (is : Bool). cond is (Some address) None) apart))
          ∙ sym (address_in-append addresses ((meaning, address) ∷ []) (Some other))
    ]

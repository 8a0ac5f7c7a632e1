-- Which symbols are the same, and the first definition of one.
use Rattle.std.proofs.Common.{◌≡◌, true, false, inl, inr, ℕ, zero, suc, List, [], ◌∷◌, ◌++◌, Option, Some, None, refl, sym, ap, arith}
use Rattle.std.proofs.lemmas.Bool.{cases_Bool}
use Rattle.std.specs.Prelude.{bytes_eq, nat_eq, slice_get}
use Rattle.std.specs.Cmp.Lexicographic.{same_text}
use Rattle.std.specs.Option.{option_eq, option_or}
use Rattle.std.proofs.lemmas.Bool.Decides.{nat_tests}
use Rattle.asm_parse.specs.declared.unit.Symbol.{Symbol}
use Rattle.link_names.specs.Definitions.{Key, Entry, is_same, key_of, key_at}
use Rattle.link_names.specs.Adding.{first_of}

units_same : (one other : Option ℕ) → option_eq nat_eq one other ≡ true → one ≡ other
units_same None None is = refl
units_same None (Some unit) is = absurd cc
units_same (Some unit) None is = absurd cc
units_same (Some unit) (Some other) is = let same : unit ≡ other = grind (arith, nat_tests) in ap Some same

-- two symbols are the same only where they are equal
pub same_key : (one other : Key) → is_same one other ≡ true → one ≡ other
same_key (name, unit) (other, its) is =
    elim (cases_Bool (bytes_eq name other)) [
      | inl same ↦
          let both : option_eq nat_eq unit its ≡ true = rw same at is in
          let names : name ≡ other = same_text name other (sym same) in
          let units : unit ≡ its = units_same unit its both in
          rw (names, units) refl
      | inr apart ↦ let wrong : false ≡ true = rw apart at is in cc
    ]

-- the first definition in a list and one more
pub first_more : (entries : List Entry) (entry : Entry) (key : Key)
    → first_of (entries ++ entry ∷ []) key ≡ option_or (first_of entries key) (first_of (entry ∷ []) key)
first_more [] entry key = refl
first_more (first ∷ entries) entry key =
    elim (cases_Bool (is_same key first.0)) [
      | inl here ↦ rw here refl
      | inr later ↦ rw later (first_more entries entry key)
    ]

-- a symbol that is defined has a first definition
pub has_first : (entries : List Entry) (number : ℕ) (entry : Entry) (key : Key) → slice_get entries number ≡ Some entry
    → is_same key entry.0 ≡ true → first_of entries key ≡ None → ⊥
has_first [] number entry key here same none = absurd cc
has_first (first ∷ entries) zero entry key here same none =
    let own : first ≡ entry = cc in
    let found : is_same key first.0 ≡ true = rw own same in
    let wrong : Some first.1 ≡ None = rw found at none in
    cc
has_first (first ∷ entries) (suc number) entry key here same none =
    elim (cases_Bool (is_same key first.0)) [
      | inl found ↦ let wrong : Some first.1 ≡ None = rw found at none in cc
      | inr later ↦
          let rest : first_of entries key ≡ None = rw later at none in
          has_first entries number entry key here same rest
    ]

-- the symbol of a number, by its name and by the unit that alone sees it
pub key_found : (unit : ℕ) (symbols : List Symbol) (number : ℕ) (symbol : Symbol) (name : List ℕ) (its : Option ℕ)
    → slice_get symbols number ≡ Some symbol → name ≡ symbol.name → (symbol.name, its) ≡ key_of unit symbol
    → (name, its) ≡ key_at unit symbols number
key_found unit symbols number symbol name its here same is = rw (here, same) is

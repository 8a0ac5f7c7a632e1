-- Maps from names.
use std.Path.{fun_ext}
use Rattle.std.proofs.Common.{◌≡◌, ℕ, true, cond, List, Option, Some, None, is_none, inl, inr, refl, sym, ap, ◌∙◌, bytes_eq}
use Rattle.std.specs.Ordering.{nat_cmp}
use Rattle.std.specs.Cmp.Lexicographic.{slice_cmp}
use Rattle.std.specs.Borrow.{Bor}
use Rattle.std.specs.BTreeMap.{BTreeMap, get_by, Updates}
use Rattle.std.specs.Option.{option_or}
use Rattle.std.proofs.lemmas.Bool.{cases_Bool}
use Rattle.std.proofs.lemmas.Slice.Eq.{bytes_eq-Decides}
use Rattle.std.proofs.lemmas.Map.Text.{is_eq-slice_cmp}
use Rattle.asm_directive.specs.Names.{Names, with_name}

-- a name, as a key
abbrev key_of : List ℕ → Bor (List ℕ)
key_of name = record { ref_ptr = (0, 0); now = name }

abbrev pub names_in : {T : Type 0} → BTreeMap (Bor (List ℕ)) T → Names T
names_in map name = get_by (λ key. slice_cmp nat_cmp name key.now) map

pub put_name : {T : Type 0} (before after : BTreeMap (Bor (List ℕ)) T) (key : Bor (List ℕ)) (value : Option T)
    → Updates (λ a b. slice_cmp nat_cmp a.now b.now) before after key value
    → names_in after ≡ with_name (names_in before) key.now value
unfolding with_name
put_name before after key value updates =
    fun_ext (λ name. updates.0 (key_of name) ∙ ap (λ same. cond same value (names_in before name)) (is_eq-slice_cmp key.now name))

pub or_nothing : {T : Type 0} (value : Option T) → option_or value None ≡ value
or_nothing (Some value) = refl
or_nothing None = refl

none_of : {T : Type 0} (value : Option T) → is_none value ≡ true → value ≡ None
none_of (Some value) none = cc
none_of None none = refl

-- a name that stood for nothing gets a value, where each other one stands for what it did, or else for what it does in others
pub put_first : {T : Type 0} (names : Names T) (name : List ℕ) (value : T) (others : Names T) (other : List ℕ) → is_none (names name) ≡ true
    → option_or (with_name names name (Some value) other) (others other)
    ≡ option_or (names other) (cond (bytes_eq name other) (Some value) (others other))
unfolding with_name
put_first names name value others other new =
    elim (cases_Bool (bytes_eq name other)) [
      | inl is ↦
          let none : names other ≡ None = ap names (sym ((bytes_eq-Decides name other).0 is)) ∙ none_of (names name) new in
          rw (is, none) refl
      | inr apart ↦ rw apart refl
    ]

-- The numbers of the files that `#line` names, given one after the other.
use std.Path.{fun_ext}
use Rattle.std.proofs.Common.{◌≡◌, ℕ, ◌+◌, true, false, cond, List, [], ◌∷◌, Option, Some, None, is_some, is_none, inl, inr, refl, sym, ap, ◌∙◌, bytes_eq, if◌then◌else◌}
use Rattle.std.specs.List.{position_from}
use Rattle.std.specs.Option.{option_or}
use Rattle.std.proofs.lemmas.Bool.{cases_Bool}
use Rattle.std.proofs.lemmas.Slice.Eq.{bytes_eq-Decides}
use Rattle.asm_directive.specs.Names.{Names, nothing, with_name}
use Rattle.asm_directive.proofs.NameLemmas.{put_first, or_nothing}
use Rattle.asm_macro.specs.Builds.{numbered}

-- a name that has a number keeps it
abbrev pub with_number : Names ℕ → List ℕ → ℕ → Names ℕ
with_number files name number = if is_some (files name) then files else with_name files name (Some number)

-- the numbers that there are, and behind them those of more names
unfoldable pub numbered_with : ℕ → Names ℕ → List (List ℕ) → Names ℕ
numbered_with number files [] = files
numbered_with number files (name ∷ names) = numbered_with (number + 1) (with_number files name number) names

none_unless_some : (value : Option ℕ) → is_some value ≡ false → is_none value ≡ true
none_unless_some (Some value) none = cc
none_unless_some None none = refl

-- a number that is there hides those behind it
hidden : (value : Option ℕ) (one other : Option ℕ) → is_some value ≡ true → option_or value one ≡ option_or value other
hidden (Some value) one other some = refl
hidden None one other some = cc

one_more : (number : ℕ) (files : Names ℕ) (name : List ℕ) (others : Names ℕ) (other : List ℕ)
    → option_or (with_number files name number other) (others other)
    ≡ option_or (files other) (cond (bytes_eq name other) (Some number) (others other))
one_more number files name others other =
    elim (cases_Bool (is_some (files name))) [
      | inr new ↦ rw new (put_first files name number others other (none_unless_some (files name) new))
      | inl there ↦ elim (cases_Bool (bytes_eq name other)) [
        | inr apart ↦ rw (there, apart) refl
        | inl is ↦
            let some : is_some (files other) ≡ true = ap (λ one. is_some (files one)) (sym ((bytes_eq-Decides name other).0 is)) ∙ there in
            rw (there, is) (hidden (files other) (others other) (Some number) some)
      ]
    ]

with_is : (number : ℕ) (files : Names ℕ) (names : List (List ℕ)) (other : List ℕ)
    → numbered_with number files names other ≡ option_or (files other) (position_from (λ one. bytes_eq one other) number names)
unfolding numbered_with
with_is number files [] other = sym (or_nothing (files other))
with_is number files (name ∷ names) other =
    with_is (number + 1) (with_number files name number) names other
    ∙ one_more number files name (λ two. position_from (λ one. bytes_eq one two) (number + 1) names) other

-- from no names
pub numbered_is : (number : ℕ) (names : List (List ℕ)) → numbered_with number nothing names ≡ numbered number names
unfolding numbered
numbered_is number names = fun_ext (λ other. with_is number nothing names other)

-- Which lists of arguments are closed.
use Rattle.std.proofs.Common.{◌≡◌, ℕ, ◌+◌, ◌-◌, ◌<◌, ◌&&◌, true, false, nat_eq, nat_lt, List, [], ◌∷◌, ◌++◌, length, get_or, is_some, inl, inr, refl, sym, ap, ◌∙◌, arith}
use Rattle.std.proofs.lemmas.Bool.{cases_Bool}
use Rattle.std.proofs.lemmas.Bool.Decides.{nat_tests}
use Rattle.asm_macro.specs.declared.placed.Placed.{Placed}
use Rattle.asm_macro.specs.declared.pending.Entry.{Entry}
use Rattle.asm_directive.specs.Tokens.{is_end, is_sign, opening, closing, comma}
use Rattle.asm_macro.specs.Arguments.{part_of, arguments_behind}
use Rattle.asm_macro.specs.Pending.{closers_from, closers, tokens_in, AreCounted}
use Rattle.asm_macro.proofs.ArgumentLemmas.{arguments_with, from_is}

none : (nest : ℕ) → false ≡ nat_lt nest 0
none nest = grind (arith, nat_tests)

here : (nest count : ℕ) → nat_eq nest 0 ≡ true → true ≡ nat_lt nest (count + 1)
here nest count is = grind (arith, nat_tests)

less : (nest count : ℕ) → nat_eq nest 0 ≡ false → nat_lt (nest - 1) count ≡ nat_lt nest (count + 1)
less nest count is = grind (arith, nat_tests)

more : (nest count : ℕ) → nat_lt (nest + 1) count ≡ nat_lt nest (count - 1)
more nest count = grind (arith, nat_tests)

is_none : (nest : ℕ) → nat_eq nest 0 ≡ true → nest ≡ 0
is_none nest is = grind (arith, nat_tests)

-- a list is closed where more brackets close nothing than are open in it
pub opens : (nest : ℕ) (lists : List (List Placed)) (list : List Placed) (pending : List Placed)
    → is_some (arguments_with nest lists list pending) ≡ nat_lt nest (closers pending)
unfolding arguments_with closers closers_from part_of
opens nest lists list [] = none nest
opens nest lists list (placed ∷ rest) =
    elim (cases_Bool (is_end placed.token)) [
      | inl ends ↦ rw (ends, arguments_with) (none nest)
      | inr goes ↦ elim (cases_Bool (is_sign closing placed.token)) [
        | inl closes ↦ elim (cases_Bool (nat_eq nest 0)) [
          | inl last ↦ rw (goes, closes, last, arguments_with) (here nest (closers rest) last)
          | inr inside ↦ rw (goes, closes, inside, arguments_with) (opens (nest - 1) lists (list ++ placed ∷ []) rest ∙ less nest (closers rest) inside)
        ]
        | inr other ↦ elim (cases_Bool (is_sign opening placed.token)) [
          | inl deeper ↦ rw (goes, other, deeper, arguments_with) (opens (nest + 1) lists (list ++ placed ∷ []) rest ∙ more nest (closers rest))
          | inr plain ↦ elim (cases_Bool (nat_eq nest 0 && is_sign comma placed.token)) [
            | inl next ↦ rw (goes, other, plain, next, arguments_with) (opens nest (lists ++ list ∷ []) [] rest)
            | inr part ↦ rw (goes, other, plain, part, arguments_with) (opens nest lists (list ++ placed ∷ []) rest)
          ]
        ]
      ]
    ]

-- a closed list begins with a bracket before which it is counted
pub begins : (entry : Entry) (entries : List Entry) → AreCounted (entry ∷ entries)
    → is_some (arguments_behind (tokens_in (entry ∷ entries))) ≡ (is_sign opening entry.placed.token && nat_lt 0 entry.behind)
unfolding arguments_behind
begins entry entries counted =
    elim (cases_Bool (is_sign opening entry.placed.token)) [
      | inl is ↦ rw (is, counted.0) (ap is_some (sym (from_is (tokens_in entries))) ∙ opens 0 [] [] (tokens_in entries))
      | inr not ↦ rw not refl
    ]

pub begins_at : (entries : List Entry) (entry : Entry) → 0 < length entries → entry ≡ get_or entries 0 entry → AreCounted entries
    → is_some (arguments_behind (tokens_in entries)) ≡ (is_sign opening entry.placed.token && nat_lt 0 entry.behind)
begins_at [] entry some is counted = absurd (omega arith)
begins_at (first ∷ entries) entry some is counted = rw is (begins first entries counted)

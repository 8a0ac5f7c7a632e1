-- A file, cut into statements.
use Rattle.std.proofs.Common.{◌≡◌, suc, ◌+◌, ◌<◌, ◌≤◌, Bool, List, [], ◌∷◌, ◌++◌, map, take, drop, length, inl, inr, refl, sym, ap, ◌∙◌, append_assoc, append-nil, arith}
use Rattle.std.specs.List.{flat_map, onto_first, position_or_len}
use Rattle.std.proofs.lemmas.Bool.{cases_Bool}
use Rattle.std.proofs.lemmas.List.{map-append}
use Rattle.asm_lex.specs.declared.token.Token.{Token}
use Rattle.asm_directive.specs.declared.statements.Statement as declared
use Rattle.asm_directive.specs.Tokens.{is_end, is_newline}
use Rattle.asm_directive.specs.Statements.{Statement, split_inclusive, plain, statements_on}
use Rattle.asm_directive.specs.Views.{statement_of}

split_first : {A : Type 0} (ends : A → Bool) (first : A) (rest : List A)
    → split_inclusive ends (first ∷ rest)
    ≡ take (position_or_len ends (first ∷ rest) + 1) (first ∷ rest) ∷ split_inclusive ends (drop (position_or_len ends (first ∷ rest) + 1) (first ∷ rest))
unfolding split_inclusive
split_first ends first [] =
    elim (cases_Bool (ends first)) [
      | inl is ↦ rw is refl
      | inr goes ↦ rw goes refl
    ]
split_first ends first (next ∷ rest) =
    elim (cases_Bool (ends first)) [
      | inl is ↦ rw is refl
      | inr goes ↦
          let one : (1 + position_or_len ends (next ∷ rest)) + 1 ≡ suc (position_or_len ends (next ∷ rest) + 1) = omega arith in
          rw (goes, one) (ap (onto_first first) (split_first ends next rest))
    ]

-- the first part of a list, and those of what is left behind it
split_next : {A : Type 0} (ends : A → Bool) (rest : List A) → 0 < length rest
    → split_inclusive ends rest ≡ take (position_or_len ends rest + 1) rest ∷ split_inclusive ends (drop (position_or_len ends rest + 1) rest)
split_next ends [] some = absurd (omega (arith, some))
split_next ends (first ∷ rest) some = split_first ends first rest

split_none : {A : Type 0} (ends : A → Bool) (rest : List A) → length rest ≤ 0 → split_inclusive ends rest ≡ []
unfolding split_inclusive
split_none ends [] none = refl
split_none ends (first ∷ rest) none = absurd (omega arith)

-- a part more of a line
pub parts_next : (before after : List declared.Statement) (statement : declared.Statement) (rest next : List Token) (whole : List Statement)
    → 0 < length rest → after ≡ before ++ statement ∷ []
    → statement_of statement ≡ plain (take (position_or_len is_end rest + 1) rest) → next ≡ drop (position_or_len is_end rest + 1) rest
    → map statement_of before ++ map plain (split_inclusive is_end rest) ≡ whole
    → map statement_of after ++ map plain (split_inclusive is_end next) ≡ whole
parts_next before after statement rest next whole some adds is there known =
    let step : map statement_of before ++ (plain (take (position_or_len is_end rest + 1) rest) ∷ map plain (split_inclusive is_end (drop (position_or_len is_end rest + 1) rest))) ≡ whole
    = rw (split_next is_end rest some) at known in
    rw (adds, map-append, append_assoc, is, there) step

pub parts_end : (before : List Statement) (rest : List Token) (whole : List Statement) → length rest ≤ 0
    → before ++ map plain (split_inclusive is_end rest) ≡ whole → before ≡ whole
parts_end before rest whole none known = sym (append-nil before) ∙ (rw (split_none is_end rest none) at known)

-- a line more of a file
pub lines_next : (before after : List Statement) (line rest next : List Token) (whole : List Statement)
    → 0 < length rest → after ≡ before ++ statements_on line
    → line ≡ take (position_or_len is_newline rest + 1) rest → next ≡ drop (position_or_len is_newline rest + 1) rest
    → before ++ flat_map statements_on (split_inclusive is_newline rest) ≡ whole
    → after ++ flat_map statements_on (split_inclusive is_newline next) ≡ whole
lines_next before after line rest next whole some adds is there known =
    let step : before ++ (statements_on (take (position_or_len is_newline rest + 1) rest) ++ flat_map statements_on (split_inclusive is_newline (drop (position_or_len is_newline rest + 1) rest))) ≡ whole
    = rw (split_next is_newline rest some) at known in
    rw (adds, append_assoc, is, there) step

pub lines_end : (before : List Statement) (rest : List Token) (whole : List Statement) → length rest ≤ 0
    → before ++ flat_map statements_on (split_inclusive is_newline rest) ≡ whole → before ≡ whole
lines_end before rest whole none known = sym (append-nil before) ∙ (rw (split_none is_newline rest none) at known)

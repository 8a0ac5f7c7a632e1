-- The statements of tokens that may be handed on.
use Rattle.std.proofs.Common.{◌≡◌, ◌&&◌, Bool, true, false, List, [], ◌∷◌, All, inl, inr, refl, map}
use Rattle.std.specs.List.{flat_map, onto_first}
use Rattle.std.proofs.lemmas.Bool.{cases_Bool}
use Rattle.std.proofs.lemmas.List.Elements.{All-nil, All-cons, All-head, All-tail, All-append, All-map, All-weaker}
use Rattle.goasm_base.specs.declared.pos.Pos.{Pos}
use Rattle.asm_lex.specs.declared.token.Kind.TheVariants as kinds
use Rattle.asm_lex.specs.declared.token.Token.{Token}
use Rattle.asm_lex.specs.Form.{EndsWithEnd}
use Rattle.asm_directive.specs.Tokens.{is_end, is_newline}
use Rattle.asm_directive.specs.Statements.{Statement, split_inclusive, begins_with_hash, directive, plain, statements_on, statements_of}
use Rattle.asm_macro.proofs.RefusalLemmas.{holds_either}
use Rattle.asm_macro.proofs.FormLemmas.{IsFormed, Formed, IsSound, Sound, end_is}

pub formed_of : (P : Pos → Type 0) (tokens : List Token) → Sound P tokens → Formed tokens
formed_of P tokens sound = All-weaker (IsSound P) IsFormed (λ token sound. sound.form) tokens sound

-- tokens that may be handed on
pub record AreGood (P : Pos → Type 0) (tokens : List Token) : Type 0 where
  pub sound : Sound P tokens
  pub ends : EndsWithEnd tokens

-- parts of lists

onto_all : {A : Type 0} (Q : A → Type 0) (first : A) (lists : List (List A)) → Q first → All (All Q) lists → All (All Q) (onto_first first lists)
onto_all Q first [] one all = All-cons (All Q) (first ∷ []) [] (All-cons Q first [] one (All-nil Q)) (All-nil (All Q))
onto_all Q first (list ∷ lists) one all =
    All-cons (All Q) (first ∷ list) lists (All-cons Q first list one (All-head (All Q) list lists all)) (All-tail (All Q) list lists all)

split_all : {A : Type 0} (Q : A → Type 0) (ends : A → Bool) (list : List A) → All Q list → All (All Q) (split_inclusive ends list)
unfolding split_inclusive
split_all Q ends [] all = All-nil (All Q)
split_all Q ends (first ∷ rest) all =
    let one : Q first = All-head Q first rest all in
    let others : All (All Q) (split_inclusive ends rest) = split_all Q ends rest (All-tail Q first rest all) in
    holds_either (All (All Q)) (ends first) _ _
    (All-cons (All Q) (first ∷ []) (split_inclusive ends rest) (All-cons Q first [] one (All-nil Q)) others)
    (onto_all Q first (split_inclusive ends rest) one others)

-- there are tokens, and the last one is an end
abbrev pub AreEnded : List Token → Type 0
AreEnded [] = ⊥
AreEnded (token ∷ []) = token.kind ≡ kinds.End
AreEnded (token ∷ next ∷ tokens) = AreEnded (next ∷ tokens)

ended_cons : (token : Token) (tokens : List Token) → AreEnded tokens → AreEnded (token ∷ tokens)
ended_cons token [] ended = absurd ended
ended_cons token (next ∷ tokens) ended = ended

ended_of : (token : Token) (tokens : List Token) → EndsWithEnd (token ∷ tokens) → AreEnded (token ∷ tokens)
ended_of token [] ends = ends
ended_of token (next ∷ tokens) ends = ended_of next tokens ends

onto_ended : (first : Token) (lists : List (List Token)) → (lists ≡ [] → first.kind ≡ kinds.End) → All AreEnded lists → All AreEnded (onto_first first lists)
onto_ended first [] last all = All-cons AreEnded (first ∷ []) [] (last refl) (All-nil AreEnded)
onto_ended first (list ∷ lists) last all =
    All-cons AreEnded (first ∷ list) lists (ended_cons first list (All-head AreEnded list lists all)) (All-tail AreEnded list lists all)

onto_some : {A : Type 0} (first : A) (lists : List (List A)) → onto_first first lists ≡ [] → ⊥
onto_some first [] is = cc
onto_some first (list ∷ lists) is = cc

split_some : {A : Type 0} (ends : A → Bool) (first : A) (rest : List A) → split_inclusive ends (first ∷ rest) ≡ [] → ⊥
unfolding split_inclusive
split_some ends first rest =
    elim (cases_Bool (ends first)) [
      | inl is ↦ rw is (λ none. cc)
      | inr goes ↦ rw goes (λ none. onto_some first (split_inclusive ends rest) none)
    ]

-- where only ends end a part, each part of ended tokens is ended
split_ended : (ends : Token → Bool) → ((token : Token) → ends token ≡ true → token.kind ≡ kinds.End)
    → (tokens : List Token) → EndsWithEnd tokens → All AreEnded (split_inclusive ends tokens)
unfolding split_inclusive
split_ended ends are [] all = All-nil AreEnded
split_ended ends are (token ∷ []) all =
    elim (cases_Bool (ends token)) [
      | inl is ↦ rw is (All-cons AreEnded (token ∷ []) [] all (All-nil AreEnded))
      | inr goes ↦ rw goes (All-cons AreEnded (token ∷ []) [] all (All-nil AreEnded))
    ]
split_ended ends are (token ∷ next ∷ tokens) all =
    let others : All AreEnded (split_inclusive ends (next ∷ tokens)) = split_ended ends are (next ∷ tokens) all in
    elim (cases_Bool (ends token)) [
      | inl is ↦ rw is (All-cons AreEnded (token ∷ []) (split_inclusive ends (next ∷ tokens)) (are token is) others)
      | inr goes ↦ rw goes (onto_ended token (split_inclusive ends (next ∷ tokens)) (λ none. absurd (split_some ends next tokens none)) others)
    ]

both_first : (one other : Bool) → (one && other) ≡ true → one ≡ true
both_first true other is = refl
both_first false other is = cc

newline_ends : (token : Token) → is_newline token ≡ true → token.kind ≡ kinds.End
unfolding is_newline is_end
newline_ends token is = end_is token (both_first _ _ is)

-- a statement, whose tokens end with an end where it is no directive
pub record GoodStatement (P : Pos → Type 0) (statement : Statement) : Type 0 where
  pub sound : Sound P statement.tokens
  pub ends : statement.directive ≡ false → AreEnded statement.tokens

parts_good : (P : Pos → Type 0) (parts : List (List Token)) → All (Sound P) parts → All AreEnded parts → All (GoodStatement P) (map plain parts)
parts_good P parts sound ended = All-map (GoodStatement P) plain parts (λ k d inside. record { sound = sound k d inside; ends = λ is. ended k d inside })

ends_from : (tokens : List Token) → AreEnded tokens → EndsWithEnd tokens
ends_from [] ended = tt
ends_from (token ∷ []) ended = ended
ends_from (token ∷ next ∷ tokens) ended = ends_from (next ∷ tokens) ended

line_good : (P : Pos → Type 0) (line : List Token) → Sound P line → AreEnded line → All (GoodStatement P) (statements_on line)
unfolding statements_on
line_good P line sound ended =
    holds_either (All (GoodStatement P)) (begins_with_hash line) _ _
    (All-cons (GoodStatement P) (directive line) [] (record { sound = sound; ends = λ is. ended }) (All-nil (GoodStatement P)))
    (parts_good P (split_inclusive is_end line) (split_all (IsSound P) is_end line sound) (split_ended is_end end_is line (ends_from line ended)))

lines_good : (P : Pos → Type 0) (lines : List (List Token)) → All (Sound P) lines → All AreEnded lines → All (GoodStatement P) (flat_map statements_on lines)
lines_good P [] sound ended = All-nil (GoodStatement P)
lines_good P (line ∷ lines) sound ended =
    All-append (GoodStatement P) (statements_on line) (flat_map statements_on lines)
    (line_good P line (All-head (Sound P) line lines sound) (All-head AreEnded line lines ended))
    (lines_good P lines (All-tail (Sound P) line lines sound) (All-tail AreEnded line lines ended))

pub statements_good : (P : Pos → Type 0) (tokens : List Token) → AreGood P tokens → All (GoodStatement P) (statements_of tokens)
unfolding statements_of
statements_good P tokens good =
    lines_good P (split_inclusive is_newline tokens) (split_all (IsSound P) is_newline tokens good.sound) (split_ended is_newline newline_ends tokens good.ends)

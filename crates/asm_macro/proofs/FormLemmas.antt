-- What is read and put out has the form of tokens and one of these positions: statements and their uses.
use Rattle.std.proofs.Common.{◌≡◌, ℕ, zero, suc, ◌+◌, ◌-◌, ◌<◌, ◌&&◌, ◌==◌, nat_eq, Bool, true, false, List, [], ◌∷◌, ◌++◌, length, get_or, All, Option, Some, None, Result, inl, inr, refl, sym, subst, ◌∙◌, if◌then◌else◌, arith, length-append}
use Rattle.std.proofs.lemmas.Bool.{cases_Bool, cases_lt}
use Rattle.std.proofs.lemmas.Bool.Decides.{nat_tests}
use Rattle.std.proofs.lemmas.List.Elements.{All-nil, All-cons, All-head, All-tail, All-append, All-push, All-map, All-get_or}
use Rattle.std.proofs.Math.ListN.{get_or-eq_default}
use Rattle.goasm_base.specs.declared.pos.Pos.{Pos}
use Rattle.asm_lex.specs.declared.token.Kind.{Kind}
use Rattle.asm_lex.specs.declared.token.Kind.TheVariants as kinds
use Rattle.asm_lex.specs.declared.token.Token.{Token}
use Rattle.asm_lex.specs.Form.{HasForm, EndsWithEnd}
use Rattle.asm_macro.specs.declared.placed.Placed.{Placed}
use Rattle.asm_macro.specs.declared.arguments.Part.{Part}
use Rattle.asm_macro.specs.declared.arguments.Part.TheVariants.{End, Close, Comma, Inside}
use Rattle.asm_macro.specs.declared.refusal.MacroNo.{MacroNo}
use Rattle.asm_macro.specs.declared.cause.Cause.{Cause}
use Rattle.asm_macro.specs.declared.cause.Cause.TheVariants.{ArgumentCount, MissingArguments, Nesting, TooMany}
use Rattle.asm_directive.specs.Tokens.{is_word_kind, is_sign_kind, is_end_kind, is_word, is_end, is_sign, opening}
use Rattle.asm_directive.specs.Directives.{Parameters}
use Rattle.asm_macro.specs.Definitions.{Definition, Definitions, in_force}
use Rattle.asm_macro.specs.Arguments.{Arguments, part_of, arguments_behind, taken_by, fit}
use Rattle.asm_macro.specs.Refusals.{lower, refusal}
use Rattle.asm_macro.specs.Places.{RefusedAt}
use Rattle.asm_macro.specs.Uses.{Work, Read, Front, Ended, Full, Met, placed_at, parameter_in, tokens_for, substitution, use_with, use_of, limit_cause, front, ended, with_uses, run}
use Rattle.asm_macro.proofs.RefusalLemmas.{Holds, holds_either}
use Rattle.asm_macro.proofs.ArgumentLemmas.{arguments_with, from_is}
use Rattle.asm_macro.proofs.UseLemmas.{run_ended, run_full, run_passed, run_next}

abbrev pub IsFormed : Token → Type 0
IsFormed token = HasForm token.kind token.text

abbrev pub Formed : List Token → Type 0
Formed tokens = All IsFormed tokens

-- a token that has a form, at one of these positions
pub record IsSound (P : Pos → Type 0) (token : Token) : Type 0 where
  pub form : IsFormed token
  pub place : P token.pos

abbrev pub Sound : (Pos → Type 0) → List Token → Type 0
Sound P tokens = All (IsSound P) tokens

abbrev pub SoundPlaced : (Pos → Type 0) → List Placed → Type 0
SoundPlaced P pending = All (λ placed. IsSound P placed.token) pending

-- the last token is an end
abbrev pub LastEnd : List Placed → Type 0
LastEnd [] = ⊥
LastEnd (placed ∷ []) = is_end placed.token ≡ true
LastEnd (placed ∷ next ∷ rest) = LastEnd (next ∷ rest)

-- what is left of a statement before its end
pub record Ready (P : Pos → Type 0) (pending : List Placed) : Type 0 where
  pub forms : SoundPlaced P pending
  pub last : LastEnd pending

end_kind : (kind : Kind) → is_end_kind kind ≡ true → kind ≡ kinds.End
end_kind kinds.Word is = cc
end_kind (kinds.Number value) is = cc
end_kind kinds.Text is = cc
end_kind kinds.Sign is = cc
end_kind kinds.End is = refl

pub end_is : (token : Token) → is_end token ≡ true → token.kind ≡ kinds.End
unfolding is_end
end_is token is = end_kind token.kind is

pub is_end_from : (token : Token) → token.kind ≡ kinds.End → is_end token ≡ true
unfolding is_end
is_end_from token is = rw is refl

sign_kind : (kind : Kind) (more : Bool) → (is_sign_kind kind && more) ≡ true → is_end_kind kind ≡ false
sign_kind kinds.Word more is = refl
sign_kind (kinds.Number value) more is = refl
sign_kind kinds.Text more is = refl
sign_kind kinds.Sign more is = refl
sign_kind kinds.End more is = cc

sign_goes : (character : ℕ) (token : Token) → is_sign character token ≡ true → is_end token ≡ false
unfolding is_sign is_end
sign_goes character token is = sign_kind token.kind _ is

word_kind : (kind : Kind) → is_word_kind kind ≡ true → is_end_kind kind ≡ false
word_kind kinds.Word is = refl
word_kind (kinds.Number value) is = refl
word_kind kinds.Text is = refl
word_kind kinds.Sign is = refl
word_kind kinds.End is = cc

word_goes : (token : Token) → is_word token ≡ true → is_end token ≡ false
unfolding is_word is_end
word_goes token is = word_kind token.kind is

last_rest : (placed : Placed) (rest : List Placed) → is_end placed.token ≡ false → LastEnd (placed ∷ rest) → LastEnd rest
last_rest placed [] goes last = let no : true ≡ false = sym last ∙ goes in cc
last_rest placed (next ∷ rest) goes last = last

ready_rest : (P : Pos → Type 0) (placed : Placed) (rest : List Placed) → is_end placed.token ≡ false → Ready P (placed ∷ rest) → Ready P rest
ready_rest P placed rest goes ready = record {
  forms = All-tail (λ placed. IsSound P placed.token) placed rest ready.forms;
  last = last_rest placed rest goes ready.last;
}

last_cons : (placed : Placed) (rest : List Placed) → LastEnd rest → LastEnd (placed ∷ rest)
last_cons placed [] last = absurd last
last_cons placed (next ∷ rest) last = last

last_append : (one rest : List Placed) → LastEnd rest → LastEnd (one ++ rest)
last_append [] rest last = last
last_append (placed ∷ one) rest last = last_cons placed (one ++ rest) (last_append one rest last)

ready_append : (P : Pos → Type 0) (one rest : List Placed) → SoundPlaced P one → Ready P rest → Ready P (one ++ rest)
ready_append P one rest forms ready = record {
  forms = All-append (λ placed. IsSound P placed.token) one rest forms ready.forms;
  last = last_append one rest ready.last;
}

pub record ReadyArguments (P : Pos → Type 0) (arguments : Arguments) : Type 0 where
  pub lists : All (SoundPlaced P) arguments.lists
  pub rest : Ready P arguments.rest

abbrev pub GoodArguments : (Pos → Type 0) → Option Arguments → Type 0
GoodArguments P None = Unit {0}
GoodArguments P (Some arguments) = ReadyArguments P arguments

by_part : (P : Pos → Type 0) (nest : ℕ) (lists : List (List Placed)) (list : List Placed) (placed : Placed) (rest : List Placed) (part : Part)
    → part_of nest placed ≡ part
    → ReadyArguments P (record { lists = lists ++ list ∷ []; levels = placed.levels; rest = rest })
    → GoodArguments P (arguments_with nest (lists ++ list ∷ []) [] rest)
    → ((deeper : ℕ) → GoodArguments P (arguments_with deeper lists (list ++ placed ∷ []) rest))
    → GoodArguments P (arguments_with nest lists list (placed ∷ rest))
unfolding arguments_with
by_part P nest lists list placed rest End is closed comma inside = rw (is, arguments_with) tt
by_part P nest lists list placed rest Close is closed comma inside = rw (is, arguments_with) closed
by_part P nest lists list placed rest Comma is closed comma inside = rw (is, arguments_with) comma
by_part P nest lists list placed rest (Inside deeper) is closed comma inside = rw (is, arguments_with) (inside deeper)

ends_part : (nest : ℕ) (placed : Placed) → is_end placed.token ≡ true → part_of nest placed ≡ End
unfolding part_of
ends_part nest placed is = rw is refl

at_end_none : (P : Pos → Type 0) (nest : ℕ) (lists : List (List Placed)) (list : List Placed) (placed : Placed) (rest : List Placed)
    → is_end placed.token ≡ true → GoodArguments P (arguments_with nest lists list (placed ∷ rest))
unfolding arguments_with
at_end_none P nest lists list placed rest is = rw (ends_part nest placed is, arguments_with) tt

arguments_sound : (P : Pos → Type 0) (nest : ℕ) (lists : List (List Placed)) (list : List Placed) (pending : List Placed)
    → All (SoundPlaced P) lists → SoundPlaced P list → Ready P pending → GoodArguments P (arguments_with nest lists list pending)
arguments_sound P nest lists list [] some sound ready = absurd ready.last
arguments_sound P nest lists list (placed ∷ rest) some sound ready =
    elim (cases_Bool (is_end placed.token)) [
      | inl ends ↦ at_end_none P nest lists list placed rest ends
      | inr goes ↦
          let left : Ready P rest = ready_rest P placed rest goes ready in
          let all : All (SoundPlaced P) (lists ++ list ∷ []) = All-push (SoundPlaced P) lists list some sound in
          let more : SoundPlaced P (list ++ placed ∷ []) = All-push (λ placed. IsSound P placed.token) list placed sound (All-head (λ placed. IsSound P placed.token) placed rest ready.forms) in
          by_part P nest lists list placed rest (part_of nest placed) refl
          (record { lists = all; rest = left })
          (arguments_sound P nest (lists ++ list ∷ []) [] rest all (All-nil (λ placed. IsSound P placed.token)) left)
          (λ deeper. arguments_sound P deeper lists (list ++ placed ∷ []) rest some more left)
    ]

behind_sound : (P : Pos → Type 0) (pending : List Placed) → Ready P pending → GoodArguments P (arguments_behind pending)
unfolding arguments_behind
behind_sound P [] ready = absurd ready.last
behind_sound P (placed ∷ rest) ready =
    elim (cases_Bool (is_sign opening placed.token)) [
      | inl opens ↦ rw opens (subst (GoodArguments P) (from_is rest)
          (arguments_sound P 0 [] [] rest (All-nil (SoundPlaced P)) (All-nil (λ placed. IsSound P placed.token))
          (ready_rest P placed rest (sign_goes opening placed.token opens) ready)))
      | inr other ↦ rw other tt
    ]

taken_sound : (P : Pos → Type 0) (parameters : Option Parameters) (name : Placed) (rest : List Placed) → Ready P rest → GoodArguments P (taken_by parameters name rest)
taken_sound P None name rest ready = record { lists = All-nil (SoundPlaced P); rest = ready }
taken_sound P (Some parameters) name rest ready = behind_sound P rest ready

pub placed_sound : (P : Pos → Type 0) (pos : Pos) (levels : ℕ) (token : Token) → P pos → IsFormed token → IsSound P (placed_at pos levels token).token
unfolding placed_at
placed_sound P pos levels token here formed = record { form = formed; place = here }

list_sound : (P : Pos → Type 0) (lists : List (List Placed)) (place : ℕ) → All (SoundPlaced P) lists → SoundPlaced P (get_or lists place [])
list_sound P lists place all =
    elim (cases_lt place (length lists)) [
      | inl inside ↦ All-get_or (SoundPlaced P) lists place [] inside all
      | inr past ↦ rw (get_or-eq_default lists [] past) (All-nil (λ placed. IsSound P placed.token))
    ]

standing_sound : (P : Pos → Type 0) (pos : Pos) (levels : ℕ) (lists : List (List Placed)) (token : Token) (place : Option ℕ)
    → P pos → All (SoundPlaced P) lists → IsFormed token → SoundPlaced P (tokens_for pos levels lists token place)
standing_sound P pos levels lists token None here all formed =
    All-cons (λ placed. IsSound P placed.token) (placed_at pos levels token) [] (placed_sound P pos levels token here formed) (All-nil (λ placed. IsSound P placed.token))
standing_sound P pos levels lists token (Some place) here all formed =
    All-map (λ placed. IsSound P placed.token) (λ placed. placed_at pos levels placed.token) (get_or lists place [])
    (λ k d inside. placed_sound P pos levels (get_or (get_or lists place []) k d).token here (list_sound P lists place all k d inside).form)

filled_sound : (P : Pos → Type 0) (pos : Pos) (levels : ℕ) (parameters : Option Parameters) (lists : List (List Placed)) (body : List Token)
    → P pos → All (SoundPlaced P) lists → Formed body → SoundPlaced P (substitution pos levels parameters lists body)
unfolding substitution
filled_sound P pos levels parameters lists [] here all formed = All-nil (λ placed. IsSound P placed.token)
filled_sound P pos levels parameters lists (token ∷ body) here all formed =
    All-append (λ placed. IsSound P placed.token) (tokens_for pos levels lists token (parameter_in parameters token)) (substitution pos levels parameters lists body)
    (standing_sound P pos levels lists token (parameter_in parameters token) here all (All-head IsFormed token body formed))
    (filled_sound P pos levels parameters lists body here all (All-tail IsFormed token body formed))

abbrev GoodRead : (Pos → Type 0) → Read → Type 0
GoodRead P read = Ready P read.pending

use_with_sound : (P : Pos → Type 0) (found : Option Cause) (definition : Definition) (name : Placed) (rest : List Placed) (taken : Option Arguments)
    → Formed definition.body → P name.token.pos → Ready P rest → GoodArguments P taken → GoodRead P (use_with found definition name rest taken)
use_with_sound P found definition name rest None body here ready good = ready
use_with_sound P found definition name rest (Some arguments) body here ready good =
    holds_either (GoodRead P) (fit definition.parameters arguments.lists) _ _
    (holds_either (GoodRead P) (arguments.levels == 0) _ _ good.rest
    (ready_append P _ arguments.rest (filled_sound P name.token.pos (arguments.levels - 1) definition.parameters arguments.lists definition.body here good.lists body) good.rest))
    good.rest

use_sound : (P : Pos → Type 0) (found : Option Cause) (definition : Definition) (name : Placed) (rest : List Placed)
    → Formed definition.body → P name.token.pos → Ready P rest → GoodRead P (use_of found definition name rest)
unfolding use_of
use_sound P found definition name rest body here ready =
    use_with_sound P found definition name rest (taken_by definition.parameters name rest) body here ready (taken_sound P definition.parameters name rest ready)

-- the bodies of the macros in force
abbrev pub FormedDefinitions : Definitions → Type 0
FormedDefinitions definitions = (name : List ℕ) (definition : Definition) → definitions name ≡ Some definition → Formed definition.body

-- what a statement has put out ends with an end once nothing of it is left
abbrev pub Goes : (Pos → Type 0) → List Placed → List Token → Type 0
Goes P [] out = EndsWithEnd out
Goes P (placed ∷ rest) out = Ready P (placed ∷ rest)

pub ready_goes : (P : Pos → Type 0) (pending : List Placed) (out : List Token) → Ready P pending → Goes P pending out
ready_goes P [] out ready = absurd ready.last
ready_goes P (placed ∷ rest) out ready = ready

ends_push : (out : List Token) (token : Token) → token.kind ≡ kinds.End → EndsWithEnd (out ++ token ∷ [])
ends_push [] token is = is
ends_push (first ∷ []) token is = is
ends_push (first ∷ next ∷ out) token is = ends_push (next ∷ out) token is

put_goes : (P : Pos → Type 0) (placed : Placed) (rest : List Placed) (out : List Token) → Ready P (placed ∷ rest) → Goes P rest (out ++ placed.token ∷ [])
put_goes P placed [] out ready = ends_push out placed.token (end_is placed.token ready.last)
put_goes P placed (next ∷ rest) out ready = record {
  forms = All-tail (λ placed. IsSound P placed.token) placed (next ∷ rest) ready.forms;
  last = ready.last;
}

-- what is made, of which there may be so many tokens with those that may still be made
pub record Within (P : Pos → Type 0) (most : ℕ) (work : Work) : Type 0 where
  pub out : Sound P work.out
  pub count : length work.out + work.room ≡ most

pub record GoodMet (P : Pos → Type 0) (most : ℕ) (name : Placed) (definition : Definition) (rest : List Placed) (work : Work) : Type 0 where
  pub body : Formed definition.body
  pub here : P name.token.pos
  pub left : Ready P rest
  pub made : Within P most work

-- what is made between statements
pub record GoodWork (P : Pos → Type 0) (most : ℕ) (work : Work) : Type 0 where
  pub made : Within P most work
  pub ends : EndsWithEnd work.out

abbrev pub GoodFront : (Pos → Type 0) → ℕ → Front → Type 0
GoodFront P most (Ended work) = GoodWork P most work
GoodFront P most Full = Unit {0}
GoodFront P most (Met name definition rest work) = GoodMet P most name definition rest work

force_of : (word : Bool) (definitions : Definitions) (name : List ℕ) (definition : Definition)
    → (if word then definitions name else None) ≡ Some definition → (word ≡ true) × (definitions name ≡ Some definition)
force_of true definitions name definition is = (refl, is)
force_of false definitions name definition is = cc

force_is : (definitions : Definitions) (token : Token) (definition : Definition)
    → in_force definitions token ≡ Some definition → (is_word token ≡ true) × (definitions token.text ≡ Some definition)
unfolding in_force
force_is definitions token definition is = force_of (is_word token) definitions token.text definition is

abbrev with_token : Work → Token → Work
with_token work token = record { out = work.out ++ token ∷ []; room = work.room - 1; uses = work.uses }

front_by : (P : Pos → Type 0) (most : ℕ) (definitions : Definitions) (placed : Placed) (rest : List Placed) (work : Work) (named : Option Definition)
    → in_force definitions placed.token ≡ named
    → ((definition : Definition) → named ≡ Some definition → GoodMet P most placed definition rest work)
    → (nat_eq work.room 0 ≡ false → GoodFront P most (front definitions rest (with_token work placed.token)))
    → GoodFront P most (front definitions (placed ∷ rest) work)
unfolding front
front_by P most definitions placed rest work (Some definition) is met next = rw (is, front) (met definition refl)
front_by P most definitions placed rest work None is met next =
    elim (cases_Bool (nat_eq work.room 0)) [
      | inl full ↦ rw (is, full, front) tt
      | inr room ↦ rw (is, room, front) (next room)
    ]

some_room : (room : ℕ) → nat_eq room 0 ≡ false → 0 < room
some_room room some = grind (arith, nat_tests)

put_within : (P : Pos → Type 0) (most : ℕ) (work : Work) (token : Token) → nat_eq work.room 0 ≡ false → Within P most work → IsSound P token
    → Within P most (with_token work token)
put_within P most work token room made sound =
    let some = some_room work.room room in
    record {
      out = All-push (IsSound P) work.out token made.out sound;
      count = omega (arith, some, made.count, length-append work.out (token ∷ []));
    }

front_sound : (P : Pos → Type 0) (most : ℕ) (definitions : Definitions) (pending : List Placed) (work : Work)
    → FormedDefinitions definitions → Goes P pending work.out → Within P most work → GoodFront P most (front definitions pending work)
unfolding front
front_sound P most definitions [] work bodies goes made = record { made = made; ends = goes }
front_sound P most definitions (placed ∷ rest) work bodies ready made =
    let first : IsSound P placed.token = All-head (λ placed. IsSound P placed.token) placed rest ready.forms in
    front_by P most definitions placed rest work (in_force definitions placed.token) refl
    (λ definition is. let named = force_is definitions placed.token definition is in record {
      body = bodies placed.token.text definition named.1;
      here = first.place;
      left = ready_rest P placed rest (word_goes placed.token named.0) ready;
      made = made;
    })
    (λ room. front_sound P most definitions rest (with_token work placed.token) bodies (put_goes P placed rest work.out ready)
    (put_within P most work placed.token room made first))

refusal_in : (P : Pos → Type 0) (cause : Cause) (pos : Pos) → P pos → RefusedAt P (refusal cause pos)
unfolding refusal
refusal_in P ArgumentCount pos here = here
refusal_in P MissingArguments pos here = here
refusal_in P Nesting pos here = here
refusal_in P TooMany pos here = here

abbrev pub WorkOrRefusal : (Pos → Type 0) → ℕ → Result Work MacroNo → Type 0
WorkOrRefusal P most answer = Holds (GoodWork P most) (RefusedAt P) answer

ended_sound : (P : Pos → Type 0) (most : ℕ) (pos : Pos) (found : Option Cause) (work : Work) → P pos → GoodWork P most work → WorkOrRefusal P most (ended pos found work)
ended_sound P most pos None work here good = good
ended_sound P most pos (Some cause) work here good = refusal_in P cause pos here

run_by : (P : Pos → Type 0) (most uses : ℕ) (definitions : Definitions) (pos : Pos) (found : Option Cause) (pending : List Placed) (work : Work) (at : Front)
    → P pos → front definitions pending work ≡ at → GoodFront P most at
    → ((name : Placed) (definition : Definition) (rest : List Placed) (next : Work) → GoodMet P most name definition rest next
    → 0 < uses → WorkOrRefusal P most (run (uses - 1) definitions pos (use_of found definition name rest).found (use_of found definition name rest).pending (with_uses next (uses - 1))))
    → WorkOrRefusal P most (run uses definitions pos found pending work)
run_by P most uses definitions pos found pending work (Ended next) here is good on =
    rw (run_ended uses definitions pos found pending work next is) (ended_sound P most pos found next here good)
run_by P most uses definitions pos found pending work Full here is good on =
    rw (run_full uses definitions pos found pending work is) (refusal_in P (lower found TooMany) pos here)
run_by P most zero definitions pos found pending work (Met name definition rest next) here is good on =
    rw (run_passed zero definitions pos found pending rest work next name definition refl is) (refusal_in P (lower found (limit_cause definition name rest)) pos here)
run_by P most (suc uses) definitions pos found pending work (Met name definition rest next) here is good on =
    rw (run_next (suc uses) definitions pos found pending rest work next name definition (use_of found definition name rest) (omega arith) is refl)
    (on name definition rest next good (omega arith))

with_uses_within : (P : Pos → Type 0) (most : ℕ) (work : Work) (uses : ℕ) → Within P most work → Within P most (with_uses work uses)
with_uses_within P most work uses made = record { out = made.out; count = made.count }

pub run_sound : (P : Pos → Type 0) (most uses : ℕ) (definitions : Definitions) (pos : Pos) (found : Option Cause) (pending : List Placed) (work : Work)
    → P pos → FormedDefinitions definitions → Goes P pending work.out → Within P most work → WorkOrRefusal P most (run uses definitions pos found pending work)
run_sound P most zero definitions pos found pending work here bodies goes made =
    run_by P most zero definitions pos found pending work (front definitions pending work) here refl (front_sound P most definitions pending work bodies goes made)
    (λ name definition rest next good some. absurd (omega arith))
run_sound P most (suc uses) definitions pos found pending work here bodies goes made =
    run_by P most (suc uses) definitions pos found pending work (front definitions pending work) here refl (front_sound P most definitions pending work bodies goes made)
    (λ name definition rest next good some.
    let less : suc uses - 1 ≡ uses = omega arith in
    let read = use_of found definition name rest in
    rw less (run_sound P most uses definitions pos read.found read.pending (with_uses next uses) here bodies
    (ready_goes P read.pending next.out (use_sound P found definition name rest good.body good.here good.left)) (with_uses_within P most next uses good.made)))

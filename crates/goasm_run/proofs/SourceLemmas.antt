-- The tokens of a build's parts.
use Rattle.std.specs.Prelude.{All, Ok, Err, None}
use Rattle.std.proofs.Common.{◌≡◌, ◌<◌, ◌≤◌, ◌+◌, add-one, arith, length-append, ℕ, suc, List, [], ◌∷◌, ◌++◌, Some, map, length, drop, get_or, drop-cons, append_assoc, append-nil, refl, sym, subst, ap, ◌∙◌}
use Rattle.std.proofs.lemmas.List.Elements.{All-map}
use Rattle.std.specs.List.{cons_option}
use Rattle.goasm_base.specs.Lines.{last_line}
use Rattle.asm_lex.specs.declared.token.Token.{Token}
use Rattle.asm_lex.specs.declared.token.Tokens.{Tokens}
use Rattle.asm_lex.specs.Cut.{tokens_of}
use Rattle.asm_macro.specs.Places.{AreInTheirFile, StandsIn}
use Rattle.asm_lex.specs.Form.{HasForm, EndsWithEnd, AreTokens}
use Rattle.goasm_run.specs.declared.part.Role.{Role}
use Rattle.goasm_run.specs.declared.part.Role.TheVariants as roles
use Rattle.goasm_run.specs.declared.part.Part.{Part}
use Rattle.goasm_run.specs.declared.stop.Stop.{Stop}
use Rattle.goasm_run.specs.declared.stop.Stop.TheVariants as stops
use Rattle.goasm_run.specs.Sources.{Sources, file_name, token_on, tokens_on, part_tokens, refusal_by, source_by, include_by, define_by, first_refusal, sources_of, lexed, names_of}
use Rattle.goasm_run.specs.SourcesLexed.{IsLexed, AreLexed, with_part, PartStopped, LexStopped}

abbrev made_of : List Tokens → List (List ℕ × Tokens) → List (List ℕ × Tokens) → Sources
made_of sources includes defines = record { sources = sources; includes = includes; defines = defines }

-- the sources of some parts, and behind them those of others
abbrev pub joined : Sources → Sources → Sources
joined done rest =
    made_of (done.sources ++ rest.sources) (done.includes ++ rest.includes) (done.defines ++ rest.defines)

-- the parts before the rest are lexed
pub record LexedUpTo (names : List (List ℕ)) (all rest : List Part) (done : Sources) : Type 0 where
  pub unrefused : first_refusal names rest ≡ first_refusal names all
  pub tokens : joined done (sources_of rest) ≡ sources_of all
  pub lexed_tokens : AreLexed (length names) done
  pub few : length done.sources + length done.includes + length (names_of rest) ≤ 1000

-- tokens keep their form on another line

forms_on : (line : ℕ) (list : List Token) → All (λ token. HasForm token.kind token.text) list
    → All (λ token. HasForm token.kind token.text) (map (token_on line) list)
forms_on line list all = All-map (λ token. HasForm token.kind token.text) (token_on line) list all

ended_on : (line : ℕ) (list : List Token) → EndsWithEnd list → EndsWithEnd (map (token_on line) list)
ended_on line [] ended = ended
ended_on line (token ∷ []) ended = ended
ended_on line (token ∷ next ∷ list) ended = ended_on line (next ∷ list) ended

pub formed_on : (line : ℕ) (tokens : Tokens) → AreTokens tokens → AreTokens (tokens_on line tokens)
formed_on line tokens formed = record {
  forms = forms_on line tokens.list formed.forms;
  ended = ended_on line tokens.list formed.ended;
}

-- where tokens stand that are lexed, and on another line

pub in_their_file : (file : ℕ) (list : List Token) → All (λ token. token.pos.file ≡ file) list → All (λ token. token.pos.line ≤ last_line) list
    → All (λ token. StandsIn (λ f. f ≡ file) token.pos) list
in_their_file file list places lines = λ k d inside. record { file = places k d inside; line = lines k d inside }

placed_on : (line file : ℕ) (list : List Token) → line ≤ last_line → All (λ token. token.pos.file ≡ file) list
    → All (λ token. StandsIn (λ f. f ≡ file) token.pos) (map (token_on line) list)
placed_on line file list counted all =
    All-map (λ token. StandsIn (λ f. f ≡ file) token.pos) (token_on line) list (λ k d inside. record { file = all k d inside; line = counted })

on_line : (line files : ℕ) (tokens : Tokens) → line ≤ last_line → AreTokens tokens → All (λ token. token.pos.file ≡ tokens.file) tokens.list
    → tokens.file < files → IsLexed files (tokens_on line tokens)
on_line line files tokens counted formed places below = record {
  formed = formed_on line tokens formed;
  placed = placed_on line tokens.file tokens.list counted places;
  below = below;
}

pub value_lexed : (line file files : ℕ) (bytes : List ℕ) (tokens moved : Tokens)
    → moved ≡ tokens_on line tokens → tokens ≡ tokens_of file bytes → AreTokens tokens
    → All (λ token. token.pos.file ≡ file) (tokens_of file bytes).list → line ≤ last_line → file < files → IsLexed files moved
value_lexed line file files bytes tokens moved is same formed places counted below =
    subst (IsLexed files) (sym is) (on_line line files tokens counted formed
    (subst (λ (t : Tokens). All (λ token. token.pos.file ≡ t.file) t.list) (sym same) places)
    (subst (λ (t : Tokens). t.file < files) (sym same) below))

pub file_lexed : (file files : ℕ) (bytes : List ℕ) (tokens : Tokens)
    → tokens ≡ tokens_of file bytes → AreTokens tokens → All (λ token. token.pos.file ≡ file) (tokens_of file bytes).list
    → All (λ token. token.pos.line ≤ last_line) (tokens_of file bytes).list → file < files → IsLexed files tokens
file_lexed file files bytes tokens same formed places lines below = record {
  formed = formed;
  placed = subst AreInTheirFile (sym same) (in_their_file file (tokens_of file bytes).list places lines);
  below = subst (λ (t : Tokens). t.file < files) (sym same) below;
}

-- one part after the other

few_on : (role : Role) (name : List ℕ) (tokens : Tokens) (done : Sources) (rest : List Part)
    → length done.sources + length done.includes + length (cons_option (file_name role name) (names_of rest)) ≤ 1000
    → length (with_part done role name tokens).sources + length (with_part done role name tokens).includes + length (names_of rest) ≤ 1000
few_on roles.Source name tokens done rest few = omega (arith, few, length-append done.sources (tokens ∷ []))
few_on roles.Include name tokens done rest few = omega (arith, few, length-append done.includes ((name, tokens) ∷ []))
few_on roles.Value name tokens done rest few = few

pub part_at : (parts : List Part) (index : ℕ) (part : Part)
    → index < length parts → part ≡ get_or parts index part → drop index parts ≡ part ∷ drop (index + 1) parts
part_at parts index part below is =
    rw add-one (drop-cons parts index part below ∙ ap (λ p. p ∷ drop (suc index) parts) (sym is))

abbrev with_front : Role → List ℕ → Tokens → Sources → Sources
with_front role name tokens rest =
    made_of (cons_option (source_by role tokens) rest.sources) (cons_option (include_by role name tokens) rest.includes)
    (cons_option (define_by role name tokens) rest.defines)

joined_on : (role : Role) (name : List ℕ) (tokens : Tokens) (done rest : Sources)
    → joined (with_part done role name tokens) rest ≡ joined done (with_front role name tokens rest)
joined_on roles.Source name tokens done rest =
    ap (λ sources. made_of sources (done.includes ++ rest.includes) (done.defines ++ rest.defines))
    (append_assoc done.sources (tokens ∷ []) rest.sources)
joined_on roles.Include name tokens done rest =
    ap (λ includes. made_of (done.sources ++ rest.sources) includes (done.defines ++ rest.defines))
    (append_assoc done.includes ((name, tokens) ∷ []) rest.includes)
joined_on roles.Value name tokens done rest =
    ap (λ defines. made_of (done.sources ++ rest.sources) (done.includes ++ rest.includes) defines)
    (append_assoc done.defines ((name, tokens) ∷ []) rest.defines)

with_front_part : (part : Part) (parts : List Part)
    → with_front part.role part.name (part_tokens part) (sources_of parts) ≡ sources_of (part ∷ parts)
unfolding sources_of
with_front_part part parts = refl

unrefused_part : (names : List (List ℕ)) (part : Part) (parts : List Part)
    → refusal_by part.role names part ≡ None → first_refusal names (part ∷ parts) ≡ first_refusal names parts
unfolding first_refusal
unrefused_part names part parts is = rw is refl

refused_part : (names : List (List ℕ)) (part : Part) (parts : List Part) (line : List ℕ)
    → refusal_by part.role names part ≡ Some line → first_refusal names (part ∷ parts) ≡ Some line
unfolding first_refusal
refused_part names part parts line is = rw is refl

pub lexed_on : (names : List (List ℕ)) (all left rest : List Part) (part : Part) (done after : Sources)
    → LexedUpTo names all left done → left ≡ part ∷ rest → refusal_by part.role names part ≡ None
    → after ≡ with_part done part.role part.name (part_tokens part) → AreLexed (length names) after → LexedUpTo names all rest after
lexed_on names all left rest part done after reached is unrefused added formed = record {
  unrefused = sym (unrefused_part names part rest unrefused) ∙ ap (first_refusal names) (sym is) ∙ reached.unrefused;
  tokens = ap (λ d. joined d (sources_of rest)) added
      ∙ joined_on part.role part.name (part_tokens part) done (sources_of rest)
      ∙ ap (joined done) (with_front_part part rest ∙ ap sources_of (sym is)) ∙ reached.tokens;
  lexed_tokens = formed;
  few = subst (λ s. length s.sources + length s.includes + length (names_of rest) ≤ 1000) (sym added)
      (few_on part.role part.name (part_tokens part) done rest
      (subst (λ parts. length done.sources + length done.includes + length (names_of parts) ≤ 1000) is reached.few));
}

refusal_lexed : (names : List (List ℕ)) (all : List Part) (line : List ℕ)
    → first_refusal names all ≡ Some line → lexed names all ≡ Err line
unfolding lexed
refusal_lexed names all line is = rw is refl

pub lex_stopped : (names : List (List ℕ)) (all left rest : List Part) (part : Part) (done : Sources) (stop : Stop)
    → LexedUpTo names all left done → left ≡ part ∷ rest → PartStopped (refusal_by part.role names part) stop
    → LexStopped (lexed names all) stop
lex_stopped names all left rest part done (stops.Refused line) reached is stopped =
    refusal_lexed names all line
    (sym reached.unrefused ∙ ap (first_refusal names) is ∙ refused_part names part rest line stopped)
lex_stopped names all left rest part done stops.Words reached is stopped = stopped
lex_stopped names all left rest part done stops.Memory reached is stopped = tt
lex_stopped names all left rest part done (stops.Unread name) reached is stopped = stopped

append_nothing : (done : Sources) → joined done (sources_of []) ≡ done
unfolding sources_of
append_nothing done =
    ap (λ sources. made_of sources (done.includes ++ []) (done.defines ++ [])) (append-nil done.sources)
    ∙ ap (λ includes. made_of done.sources includes (done.defines ++ [])) (append-nil done.includes)
    ∙ ap (λ defines. made_of done.sources done.includes defines) (append-nil done.defines)

no_refusal : (names : List (List ℕ)) → first_refusal names [] ≡ None
unfolding first_refusal
no_refusal names = refl

over_none : (names : List (List ℕ)) (all : List Part) → first_refusal names all ≡ None → lexed names all ≡ Ok (sources_of all)
unfolding lexed
over_none names all is = rw is refl

-- all parts are lexed
pub lexed_all : (names : List (List ℕ)) (all left : List Part) (done : Sources)
    → LexedUpTo names all left done → left ≡ [] → lexed names all ≡ Ok done
lexed_all names all left done reached is =
    over_none names all (sym reached.unrefused ∙ ap (first_refusal names) is ∙ no_refusal names)
    ∙ ap Ok (sym reached.tokens ∙ ap (λ rest. joined done (sources_of rest)) is ∙ append_nothing done)

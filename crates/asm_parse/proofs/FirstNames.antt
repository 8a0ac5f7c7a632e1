-- The first refusal of a source, by its statements and then by its names, is the one that reading and resolving give.
use Rattle.std.proofs.Common.{◌≡◌, ◌≢◌, ℕ, suc, ◌+◌, ◌≤◌, Bool, true, false, cond, ◌||◌, not, List, [], ◌∷◌, ◌++◌, length, map, Option, Some, None, Result, Ok, Err, refl, sym, ap, ◌∙◌, subst, arith, inl, inr}
use Rattle.std.specs.Prelude.{All, IfErr, OnOk, ◌&&◌, fold, is_none}
use Rattle.std.specs.List.{list_any}
use Rattle.std.specs.Option.{option_map, option_or}
use Rattle.std.proofs.lemmas.List.{length_push}
use Rattle.std.proofs.lemmas.List.Elements.{All-nil, All-append, All-weaker}
use Rattle.goasm_base.specs.Refusals as refusals
use Rattle.goasm_base.proofs.RefusalLemmas.{first_found, none_found as nothing_found}
use Rattle.goasm_base.specs.declared.statement.Operand.{Operand}
use Rattle.goasm_base.specs.declared.statement.Operand.TheVariants as operands
use Rattle.asm_lex.specs.declared.token.Token.{Token}
use Rattle.asm_grammar.specs.declared.draft.Draft.{Draft}
use Rattle.asm_grammar.specs.declared.draft.Draft.TheVariants.{Imm, Bare, Mem, Symbol, Arg, Auto, Away, Pair, Shifted}
use Rattle.asm_parse.specs.declared.lines.Body.{Body}
use Rattle.asm_parse.specs.declared.lines.Line.{Line}
use Rattle.asm_parse.specs.declared.parse_no.ParseNo.{ParseNo}
use Rattle.asm_parse.specs.declared.parse_no.ParseNo.TheVariants.{P3, P8, Memory}
use Rattle.asm_parse.specs.declared.unit.Unit.{Unit as Said}
use Rattle.asm_parse.specs.Refusals.{◌>>=◌, traversed}
use Rattle.asm_parse.specs.Ahead.{outlook_of}
use Rattle.asm_parse.specs.Numbering.{Key}
use Rattle.asm_parse.specs.Progress.{State, nothing_yet, ended}
use Rattle.asm_parse.specs.Steps.{step, steps}
use Rattle.asm_parse.specs.Resolve.{reached, goal_of, labelled, away_to, is_unknown, has_unknown, operand_of, statement_of, function_of}
use Rattle.asm_parse.specs.Parse.{statements_of, read_of, unit_of, parsed}
use Rattle.asm_parse.specs.First.{Refused, first_of, when, placed, refused_at, refused_from, kept_at, is_lost, unnamed_at, unnamed_from, unnamed_in, bodies_of, no_of, first_in, refusal_of, place_of, number_of, of_statements, of_names, IsFirstOf, IsFirstRefusal}
use Rattle.asm_parse.proofs.FirstLists.{told, Says, passes, stops_there, at_place, says_here, lt_itself, eq_itself, answer_of}
use Rattle.asm_parse.proofs.FirstLabels.{or_none}
use Rattle.asm_parse.proofs.FirstLemmas.{Agrees, begun_agrees, step_told, step_next}

-- Statements, one after the other.

abbrev IsFrom : ℕ → List Refused → Type 0
IsFrom low all = All (λ (r : Refused). low ≤ r.place) all

refused_places : (word : List ℕ → Bool) (front rest : List (List Token)) → IsFrom (length front) (refused_from word front rest)
unfolding refused_from
refused_places word front [] = All-nil (λ (r : Refused). length front ≤ r.place)
refused_places word front (statement ∷ rest) =
    All-append (λ (r : Refused). length front ≤ r.place) (map (placed (length front)) (refused_at word front statement rest)) (refused_from word (front ++ statement ∷ []) rest)
    (at_place (length front) (refused_at word front statement rest))
    (All-weaker (λ (r : Refused). length (front ++ statement ∷ []) ≤ r.place) (λ (r : Refused). length front ≤ r.place) (λ r within. omega (arith, length_push front statement)) (refused_from word (front ++ statement ∷ []) rest) (refused_places word (front ++ statement ∷ []) rest))

pub record IsRead (word : List ℕ → Bool) (front : List (List Token)) (state : State) (rest : List (List Token)) : Type 0 where
  pub says : Says (refused_from word front rest) (length front) (length front + length rest) (told (steps word state rest))
  pub kept : (last : State) → steps word state rest ≡ Ok last → last ≡ fold kept_at state rest

no_value : {A : Type 0} (refused : ParseNo) (value : A) → Err refused ≡ Ok value → ⊥
no_value refused value is = absurd cc

module _ (word : List ℕ → Bool) (front : List (List Token)) (state : State) (statement : List Token) (rest : List (List Token)) (agrees : Agrees front state) where
  abbrev here : List ParseNo
  here = refused_at word front statement rest

  abbrev further : List (List Token)
  further = front ++ statement ∷ []

  own : (answer : Result State ParseNo) → step word state (outlook_of statement rest) statement ≡ answer → Says (map (placed (length front)) here) (length front) (length front + 1) (told answer)
  own answer is = says_here (length front) here (told answer) (step_told word front state statement rest (length front) agrees ∙ ap (λ (a : Result State ParseNo). option_map (placed (length front)) (told a)) is)

  read_by : ((next : State) → Agrees further next → IsRead word further next rest) → (answer : Result State ParseNo) → step word state (outlook_of statement rest) statement ≡ answer
      → IsRead word front state (statement ∷ rest)
  unfolding refused_from steps
  read_by again (Err refused) is = record {
    says = rw is (stops_there (map (placed (length front)) here) (refused_from word further rest) (length front) (length front + 1) (length front + length (statement ∷ rest)) refused (omega arith) (omega arith)
        (own (Err refused) is)
        (All-weaker (λ (r : Refused). length further ≤ r.place) (λ (r : Refused). length front + 1 ≤ r.place) (λ r within. omega (arith, length_push front statement)) (refused_from word further rest) (refused_places word further rest)));
    kept = λ last answer. (let wrong : Err refused ≡ Ok last = rw is at answer in absurd (no_value refused last wrong));
  }
  read_by again (Ok next) is =
      let following = step_next word front state statement rest next agrees is in
      let read = again next following.1 in
      let count : length further ≡ length front + 1 = length_push front statement in
      let high : length further + length rest ≡ length front + length (statement ∷ rest) = omega (arith, count) in
      let behind : Says (refused_from word further rest) (length front + 1) (length front + length (statement ∷ rest)) (told (steps word next rest))
      = subst (λ (n : ℕ). Says (refused_from word further rest) n (length front + length (statement ∷ rest)) (told (steps word next rest))) count
      (subst (λ (n : ℕ). Says (refused_from word further rest) (length further) n (told (steps word next rest))) high read.says) in record {
        says = rw is (passes (map (placed (length front)) here) (refused_from word further rest) (length front) (length front + 1) (length front + length (statement ∷ rest)) (told (steps word next rest)) (omega arith)
            (own (Ok next) is) behind);
        kept = λ last answer. read.kept last (rw is at answer) ∙ ap (λ (s : State). fold kept_at s rest) following.0;
      }

reads : (word : List ℕ → Bool) (front : List (List Token)) (state : State) (rest : List (List Token)) → Agrees front state → IsRead word front state rest
unfolding refused_from steps
reads word front state [] agrees = record {
  says = record { from = All-nil (λ (r : Refused). length front ≤ r.place); first = refl };
  kept = λ last answer. (let same : state ≡ last = cc in sym same);
}
reads word front state (statement ∷ rest) agrees =
    read_by word front state statement rest agrees (λ next agree. reads word (front ++ statement ∷ []) next rest agree) (step word state (outlook_of statement rest) statement) refl

-- Names, by the statements of their functions.

told_then : {A B : Type 0} (answer : Result A ParseNo) (f : A → B) → told (answer >>= λ value. Ok (f value)) ≡ told answer
told_then (Ok value) f = refl
told_then (Err refused) f = refl

module _ (word : List ℕ → Bool) (symbols : List Key) (body : Body) (line : Line) where
  abbrev lost : Bool → Option ParseNo
  lost test = cond test (Some (P8 line.pos)) None

  bare_told : (is_word : Bool) (name : List ℕ) (goal : Option ℕ) → (not is_word && is_none goal) ≡ false → told (cond is_word (Ok (operands.Word name)) (labelled line.pos goal)) ≡ None
  bare_told true name goal known = refl
  bare_told false name None known = absurd cc
  bare_told false name (Some statement) known = refl

  away_told : (goal : Option ℕ) → told (away_to line.pos goal) ≡ lost (is_none goal)
  away_told None = refl
  away_told (Some statement) = refl

  operand_told : (draft : Draft) → is_unknown word body draft ≡ false → told (operand_of word symbols body line draft) ≡ lost (is_lost body line draft)
  operand_told (Imm value) known = refl
  operand_told (Bare name) known = bare_told (word name) name (goal_of body name) known
  operand_told (Mem off base index) known = refl
  operand_told (Symbol symbol off address) known = refl
  operand_told (Arg name off address) known = refl
  operand_told (Auto off address) known = refl
  operand_told (Away away) known = away_told (reached body line away)
  operand_told (Pair first second) known = refl
  operand_told (Shifted reg kind amount) known = refl

  both : (one : Result Operand ParseNo) (test other : Bool) (rest : Result (List Operand) ParseNo) → told one ≡ lost test → told rest ≡ lost other
      → told (one >>= λ value. rest >>= λ values. Ok (value ∷ values)) ≡ lost (test || other)
  both (Ok value) true other rest one later = absurd cc
  both (Ok value) false other rest one later = told_then rest (λ (values : List Operand). value ∷ values) ∙ later
  both (Err refused) true other rest one later = one
  both (Err refused) false other rest one later = absurd cc

  operands_told : (drafts : List Draft) → has_unknown word body drafts ≡ false → told (traversed (operand_of word symbols body line) drafts) ≡ lost (list_any (is_lost body line) drafts)
  unfolding traversed
  operands_told [] known = refl
  operands_told (draft ∷ drafts) known =
      let none = or_none (is_unknown word body draft) (has_unknown word body drafts) known in
      both (operand_of word symbols body line draft) (is_lost body line draft) (list_any (is_lost body line) drafts) (traversed (operand_of word symbols body line) drafts) (operand_told draft none.0) (operands_told drafts none.1)

  known_told : (p : ℕ) (test : Bool) → first_of (map (placed p) (when test (P8 line.pos))) ≡ option_map (placed p) (lost test)
  known_told p true = refl
  known_told p false = refl

  unknown_told : (p : ℕ) (test : Bool) → first_of (map (placed p) (P3 line.pos ∷ when test (P8 line.pos))) ≡ Some (placed p (P3 line.pos))
  unknown_told p false = refl
  unknown_told p true = rw (lt_itself p, eq_itself p) refl

  line_by : (p : ℕ) (unknown : Bool) → has_unknown word body line.code.operands ≡ unknown
      → first_of (map (placed p) (unnamed_at word body line)) ≡ option_map (placed p) (told (statement_of word symbols body line))
  unfolding statement_of
  line_by p true is = rw is (unknown_told p (list_any (is_lost body line) line.code.operands))
  line_by p false is =
      rw is (known_told p (list_any (is_lost body line) line.code.operands)
      ∙ ap (option_map (placed p)) (sym (told_then (traversed (operand_of word symbols body line) line.code.operands) _ ∙ operands_told line.code.operands is)))

  pub line_told : (p : ℕ) → Says (map (placed p) (unnamed_at word body line)) p (p + 1) (told (statement_of word symbols body line))
  line_told p = says_here p (unnamed_at word body line) (told (statement_of word symbols body line)) (line_by p (has_unknown word body line.code.operands) refl)

-- One after the other again: what a rule refuses of a list is the first that is refused of its parts.
abbrev told_both : {A B : Type 0} → Result A ParseNo → Result (List B) ParseNo → Option ParseNo
told_both (Ok value) rest = told rest
told_both (Err refused) rest = Some refused

told_pair : {A : Type 0} (one : Result A ParseNo) (rest : Result (List A) ParseNo) → told (one >>= λ value. rest >>= λ values. Ok (value ∷ values)) ≡ told_both one rest
told_pair (Ok value) rest = told_then rest _
told_pair (Err refused) rest = refl

says_both : {A : Type 0} (here behind : List Refused) (low mid high : ℕ) (one : Result A ParseNo) (rest : Result (List A) ParseNo) → low ≤ mid → mid ≤ high
    → Says here low mid (told one) → Says behind mid high (told rest) → Says (here ++ behind) low high (told_both one rest)
says_both here behind low mid high (Ok value) rest up on first next = passes here behind low mid high (told rest) up first next
says_both here behind low mid high (Err refused) rest up on first next = stops_there here behind low mid high refused up on first next.from

module _ (word : List ℕ → Bool) (symbols : List Key) where
  lines_told : (body : Body) (lines : List Line) (place : ℕ) → Says (unnamed_from word body place lines) place (place + length lines) (told (traversed (statement_of word symbols body) lines))
  unfolding unnamed_from traversed
  lines_told body [] place = record { from = All-nil (λ (r : Refused). place ≤ r.place); first = refl }
  lines_told body (line ∷ lines) place =
      let one = statement_of word symbols body line in
      let rest = traversed (statement_of word symbols body) lines in
      let suc_is : place + 1 ≡ suc place = omega arith in
      let count : suc place + length lines ≡ place + length (line ∷ lines) = omega arith in
      let here : Says (map (placed place) (unnamed_at word body line)) place (suc place) (told one)
      = subst (λ (n : ℕ). Says (map (placed place) (unnamed_at word body line)) place n (told one)) suc_is (line_told word symbols body line place) in
      let behind : Says (unnamed_from word body (suc place) lines) (suc place) (place + length (line ∷ lines)) (told rest)
      = subst (λ (n : ℕ). Says (unnamed_from word body (suc place) lines) (suc place) n (told rest)) count (lines_told body lines (suc place)) in
      subst (λ (said : Option ParseNo). Says (map (placed place) (unnamed_at word body line) ++ unnamed_from word body (suc place) lines) place (place + length (line ∷ lines)) said) (sym (told_pair one rest))
      (says_both (map (placed place) (unnamed_at word body line)) (unnamed_from word body (suc place) lines) place (suc place) (place + length (line ∷ lines)) one rest (omega arith) (omega arith) here behind)

  function_told : (body : Body) → told (traversed (statement_of word symbols body) body.lines) ≡ told (function_of word symbols body)
  unfolding function_of
  function_told body = sym (told_then (traversed (statement_of word symbols body) body.lines) _)

  abbrev end_of : ℕ → List Body → ℕ
  end_of place [] = place
  end_of place (body ∷ bodies) = end_of (place + length body.lines) bodies

  end_within : (place : ℕ) (bodies : List Body) → place ≤ end_of place bodies
  end_within place [] = omega arith
  end_within place (body ∷ bodies) = omega (arith, end_within (place + length body.lines) bodies)

  bodies_told : (bodies : List Body) (place : ℕ) → Says (unnamed_in word place bodies) place (end_of place bodies) (told (traversed (function_of word symbols) bodies))
  unfolding unnamed_in traversed
  bodies_told [] place = record { from = All-nil (λ (r : Refused). place ≤ r.place); first = refl }
  bodies_told (body ∷ bodies) place =
      let one = function_of word symbols body in
      let rest = traversed (function_of word symbols) bodies in
      let mid = place + length body.lines in
      let high = end_of mid bodies in
      let here : Says (unnamed_from word body place body.lines) place mid (told one)
      = subst (Says (unnamed_from word body place body.lines) place mid) (function_told body) (lines_told body body.lines place) in
      subst (λ (said : Option ParseNo). Says (unnamed_from word body place body.lines ++ unnamed_in word mid bodies) place high said) (sym (told_pair one rest))
      (says_both (unnamed_from word body place body.lines) (unnamed_in word mid bodies) place mid high one rest (omega arith) (end_within mid bodies) here (bodies_told bodies mid))

-- All of a source.

unit_told : (word : List ℕ → Bool) (state : State) → told (unit_of word state) ≡ told (traversed (function_of word state.symbols) state.bodies)
unfolding unit_of
unit_told word state = told_then (traversed (function_of word state.symbols) state.bodies) _

module _ (word : List ℕ → Bool) (statements : List (List Token)) where
  abbrev late : Option Refused
  late = first_of (unnamed_in word 0 (bodies_of statements))

  first_by : (answer : Result State ParseNo) → steps word nothing_yet statements ≡ answer → option_map no_of (first_in word statements) ≡ told (read_of word statements >>= unit_of word)
  unfolding read_of bodies_of
  first_by (Err refused) is =
      let read = reads word [] nothing_yet statements begun_agrees in
      let says : Says (refused_from word [] statements) 0 (0 + length statements) (Some refused) = subst (λ (a : Result State ParseNo). Says (refused_from word [] statements) 0 (0 + length statements) (told a)) is read.says in
      rw is (ap (λ (first : Option Refused). option_map no_of (option_or first late)) says.first.1)
  first_by (Ok state) is =
      let read = reads word [] nothing_yet statements begun_agrees in
      let says : Says (refused_from word [] statements) 0 (0 + length statements) None = subst (λ (a : Result State ParseNo). Says (refused_from word [] statements) 0 (0 + length statements) (told a)) is read.says in
      let kept : state ≡ fold kept_at nothing_yet statements = read.kept state is in
      let last = ended state in
      rw is (ap (λ (first : Option Refused). option_map no_of (option_or first late)) says.first
      ∙ ap (λ (s : State). option_map no_of (first_of (unnamed_in word 0 (ended s).bodies))) (sym kept)
      ∙ answer_of (first_of (unnamed_in word 0 last.bodies)) (end_of word last.symbols 0 last.bodies) (told (traversed (function_of word last.symbols) last.bodies)) (bodies_told word last.symbols last.bodies 0).first
      ∙ sym (unit_told word last))

pub first_told : (word : List ℕ → Bool) (tokens : List Token) → refusal_of word tokens ≡ told (parsed word tokens)
unfolding parsed
first_told word tokens = first_by word (statements_of tokens) (steps word nothing_yet (statements_of tokens)) refl

-- an answer that a definition gives has the refusal that it has
judges_by : (said : Result Said ParseNo) (first : Option ParseNo) (answer : Result Said ParseNo) → first ≡ told said → refusals.Gives Memory said answer → refusals.Judges Memory answer first
judges_by said first (Ok unit) same gives = same ∙ ap (λ (a : Result Said ParseNo). told a) gives
judges_by said first (Err refused) same gives = λ kept. same ∙ ap (λ (a : Result Said ParseNo). told a) (gives kept)

pub judged : (word : List ℕ → Bool) (tokens : List Token) (answer : Result Said ParseNo) → refusals.Gives Memory (parsed word tokens) answer → refusals.Judges Memory answer (refusal_of word tokens)
judged word tokens answer gives = judges_by (parsed word tokens) (refusal_of word tokens) answer (first_told word tokens) gives

-- The first of all, as a refusal before which none comes.

first_is : (all : List Refused) (found : ParseNo) (best : Option Refused) → first_of all ≡ best → option_map no_of best ≡ Some found → IsFirstOf all found
first_is all found None is same = absurd cc
first_is all found (Some refused) is same =
    let own : refused.no ≡ found = cc in record { refused = refused; is = own; first = first_found place_of number_of all refused is }

module _ (word : List ℕ → Bool) (tokens : List Token) where
  first_in_all : (found : ParseNo) (best : Option Refused) → first_of (of_statements word tokens) ≡ best → refusal_of word tokens ≡ Some found → IsFirstRefusal word tokens found
  first_in_all found (Some refused) is same =
      inl (first_is (of_statements word tokens) found (Some refused) is (sym (ap (λ (b : Option Refused). option_map no_of (option_or b (first_of (of_names word tokens)))) is) ∙ same))
  first_in_all found None is same =
      inr (
        nothing_found place_of number_of (of_statements word tokens) is,
        first_is (of_names word tokens) found (first_of (of_names word tokens)) refl (sym (ap (λ (b : Option Refused). option_map no_of (option_or b (first_of (of_names word tokens)))) is) ∙ same),
      )

  nothing : (best late : Option Refused) → option_map no_of (option_or best late) ≡ None → (best ≡ None) × (late ≡ None)
  nothing None None is = (refl, refl)
  nothing None (Some refused) is = absurd cc
  nothing (Some refused) late is = absurd cc

  pub is_first : (answer : Result Said ParseNo) → refusals.Judges Memory answer (refusal_of word tokens) → IfErr answer (λ refused. refused ≢ Memory → IsFirstRefusal word tokens refused)
  is_first (Ok unit) judges = tt
  is_first (Err refused) judges = λ kept. first_in_all refused (first_of (of_statements word tokens)) refl (judges kept)

  pub none_refused : (answer : Result Said ParseNo) → refusals.Judges Memory answer (refusal_of word tokens) → OnOk answer ((of_statements word tokens ≡ []) × (of_names word tokens ≡ []))
  none_refused (Ok unit) judges =
      let none = nothing (first_of (of_statements word tokens)) (first_of (of_names word tokens)) judges in
      (nothing_found place_of number_of (of_statements word tokens) none.0, nothing_found place_of number_of (of_names word tokens) none.1)
  none_refused (Err refused) judges = tt

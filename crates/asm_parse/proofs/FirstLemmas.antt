-- What is refused as statements are read, one by one, is what the facts about them say.
use Rattle.std.proofs.Common.{◌≡◌, ℕ, Bool, true, false, cond, ◌||◌, not, List, [], ◌∷◌, ◌++◌, map, Option, Some, None, Ok, Err, refl, sym, ap, ◌∙◌, subst}
use Rattle.std.specs.Prelude.{◌&&◌, is_some}
use Rattle.std.specs.Option.{option_map}
use Rattle.std.proofs.Math.Bool.{or-false}
use Rattle.std.proofs.lemmas.Bool.{or_right}
use Rattle.goasm_base.specs.declared.pos.Pos.{Pos}
use Rattle.asm_lex.specs.declared.token.Token.{Token}
use Rattle.asm_grammar.specs.declared.cause.Cause.{Cause}
use Rattle.asm_grammar.specs.declared.cause.Cause.TheVariants.{DuplicateLabel, DataOrder, OutsideText}
use Rattle.asm_grammar.specs.declared.directive.DataLine.{DataLine}
use Rattle.asm_grammar.specs.declared.directive.DataValue.{DataValue}
use Rattle.asm_grammar.specs.declared.directive.DataValue.TheVariants.{Bytes, Address}
use Rattle.asm_grammar.specs.declared.directive.TextLine.{TextLine}
use Rattle.asm_grammar.specs.declared.draft.Draft.{Draft}
use Rattle.asm_grammar.specs.declared.draft.Draft.TheVariants.{Imm, Bare, Mem, Symbol, Arg, Auto, Away, Pair, Shifted}
use Rattle.asm_grammar.specs.declared.statement.Form.{Form}
use Rattle.asm_grammar.specs.declared.statement.Form.TheVariants.{Empty, Lock, Text, Data, Global, Code}
use Rattle.asm_grammar.specs.declared.statement.Statement.{Statement}
use Rattle.asm_grammar.specs.Reader.{Reading, going_on, eat_label}
use Rattle.asm_grammar.specs.Statements.{statement, labels, form}
use Rattle.asm_grammar.specs.Statements as grammar
use Rattle.asm_parse.specs.declared.ahead.Outlook.{Outlook}
use Rattle.asm_parse.specs.declared.parse_no.ParseNo.TheVariants.{P1}
use Rattle.asm_parse.specs.declared.progress.Head.{Head}
use Rattle.asm_parse.specs.declared.step.Read.{Read}
use Rattle.asm_parse.specs.Refusals.{◌>>=◌, refusal}
use Rattle.asm_parse.specs.Ahead.{outlook_of}
use Rattle.asm_parse.specs.Lines.{Gathered, none_yet, labelled}
use Rattle.asm_parse.specs.Progress.{State, nothing_yet, key_of, with_symbol, with_name_of, with_names, with_labels, with_value, ended_by, ended}
use Rattle.asm_parse.specs.Steps.{read_or_refused, read, has_place, names_words, found_if, form_cause, kept_form, kept, cause_of, unless_refused, judged, step}
use Rattle.asm_parse.specs.First.{first_of, said, read_in, is_text, begins_in, begins, labels_in, labels_of, data_of, data_in, data_at, is_code, is_inside, labels_before, repeats, is_reached, is_disordered, refused_in, refused_at, placed, kept_in, kept_at}
use Rattle.asm_parse.proofs.SymbolLemmas.{names_operands}
use Rattle.asm_parse.proofs.KnownLemmas.{ended_lines, after_code, after_data}
use Rattle.asm_parse.proofs.FirstLists.{told, judged_first}
use Rattle.asm_parse.proofs.FirstLabels.{own, new_labels, kept_labels, line_labels, inside_push, labels_begin, labels_push}
use Rattle.asm_parse.proofs.FirstData.{IsStored, stored_with, stored_other, stored_data}

-- the state is what the facts about the statements say
pub record Agrees (front : List (List Token)) (state : State) : Type 0 where
  pub inside : is_some state.head ≡ is_inside front
  pub labels : state.lines.labels ≡ map own (labels_before front)
  pub stored : IsStored state.symbols state.offsets front

pub begun_agrees : Agrees [] nothing_yet
begun_agrees = record { inside = refl; labels = refl; stored = record { below = λ n past. refl; at = λ key off. refl } }

-- What is refused of one statement.

not_not : (b : Bool) → not (not b) ≡ b
not_not true = refl
not_not false = refl

form_refused : (front : List (List Token)) (state : State) (form : Form) (found : Option Cause) → is_some state.head ≡ is_inside front → IsStored state.symbols state.offsets front
    → form_cause state form found ≡ found_if (is_code form && not (is_inside front)) OutsideText (found_if (is_disordered front form) DataOrder found)
form_refused front state Empty found inside stored = refl
form_refused front state Lock found inside stored = ap (λ (b : Bool). found_if (not b) OutsideText found) inside
form_refused front state (Text line) found inside stored = refl
form_refused front state (Data line) found inside stored = ap (λ (b : Bool). found_if b DataOrder found) (sym (stored.at (key_of line.symbol) line.off))
form_refused front state (Global line) found inside stored = refl
form_refused front state (Code line) found inside stored = ap (λ (b : Bool). found_if (not b) OutsideText found) inside

abbrev refused_of : List (List Token) → Read → Option Cause
refused_of front read =
    found_if (is_code read.statement.form && not (is_inside front)) OutsideText
    (found_if (is_disordered front read.statement.form) DataOrder (found_if (repeats (labels_before front) read.statement.labels) DuplicateLabel read.found))

statement_refused : (front : List (List Token)) (state : State) (read : Read) → Agrees front state → cause_of state read.statement read.found ≡ refused_of front read
statement_refused front state read agrees =
    let new = ap not (new_labels state.lines (labels_before front) read.statement.labels agrees.labels) ∙ not_not (repeats (labels_before front) read.statement.labels) in
    ap (λ (b : Bool). form_cause (with_labels state read.statement.labels) read.statement.form (found_if b DuplicateLabel read.found)) new
    ∙ form_refused front (with_labels state read.statement.labels) read.statement.form (found_if (repeats (labels_before front) read.statement.labels) DuplicateLabel read.found) agrees.inside agrees.stored

told_judged : (fit : Bool) (pos : Pos) (cause : Option Cause) (next : State)
    → told (cond fit (unless_refused pos cause next) (Err (P1 pos))) ≡ cond fit (option_map (λ c. refusal c pos) cause) (Some (P1 pos))
told_judged true pos None next = refl
told_judged true pos (Some cause) next = refl
told_judged false pos cause next = refl

module _ (word : List ℕ → Bool) (front : List (List Token)) (state : State) (outlook : Outlook) (pos : Pos) (agrees : Agrees front state) where
  read_told : (p : ℕ) (found : Option (Statement × Reading))
      → first_of (map (placed p) (refused_in word front outlook pos (read_in found))) ≡ option_map (placed p) (told (read_or_refused pos found >>= judged word state outlook pos))
  read_told p None = refl
  read_told p (Some pair) =
      let read : Read = record { statement = pair.0; found = pair.1.found } in
      let named = names_words word read.statement.form in
      let fit = has_place (is_inside front) outlook read.statement in
      judged_first p pos fit named (repeats (labels_before front) read.statement.labels) (is_disordered front read.statement.form) (is_code read.statement.form && not (is_inside front)) read.found
      ∙ ap (option_map (placed p))
      (ap (λ (c : Option Cause). cond (fit && named) (option_map (λ (cause : Cause). refusal cause pos) c) (Some (P1 pos))) (sym (statement_refused front state read agrees))
      ∙ ap (λ (b : Bool). cond (has_place b outlook read.statement && named) (option_map (λ (cause : Cause). refusal cause pos) (cause_of state read.statement read.found)) (Some (P1 pos))) (sym agrees.inside)
      ∙ sym (told_judged (has_place (is_some state.head) outlook read.statement && named) pos (cause_of state read.statement read.found) (kept state pos read.statement)))

pub step_told : (word : List ℕ → Bool) (front : List (List Token)) (state : State) (statement : List Token) (behind : List (List Token)) (p : ℕ) → Agrees front state
    → first_of (map (placed p) (refused_at word front statement behind)) ≡ option_map (placed p) (told (step word state (outlook_of statement behind) statement))
unfolding step read said
step_told word front state [] behind p agrees = refl
step_told word front state (token ∷ tokens) behind p agrees =
    read_told word front state (outlook_of (token ∷ tokens) behind) token.pos agrees p (grammar.statement (record { rest = token ∷ tokens; found = None }))

-- What is kept of one that isn't refused.

stored_name : (state : State) (draft : Draft) (offsets : List (ℕ × ℕ)) (front : List (List Token)) → IsStored state.symbols offsets front → IsStored (with_name_of state draft).symbols offsets front
stored_name state (Imm value) offsets front stored = stored
stored_name state (Bare name) offsets front stored = stored
stored_name state (Mem off base index) offsets front stored = stored
stored_name state (Symbol symbol off address) offsets front stored = stored_with state.symbols offsets front (key_of symbol) stored
stored_name state (Arg name off address) offsets front stored = stored
stored_name state (Auto off address) offsets front stored = stored
stored_name state (Away away) offsets front stored = stored
stored_name state (Pair first second) offsets front stored = stored
stored_name state (Shifted reg kind amount) offsets front stored = stored

stored_names : (state : State) (drafts : List Draft) (offsets : List (ℕ × ℕ)) (front : List (List Token)) → IsStored state.symbols offsets front → IsStored (with_names state drafts).symbols offsets front
stored_names state [] offsets front stored = stored
stored_names state (draft ∷ drafts) offsets front stored = stored_names (with_name_of state draft) drafts offsets front (stored_name state draft offsets front stored)

ended_stored : (state : State) (head : Option Head) (front : List (List Token)) → IsStored state.symbols state.offsets front → IsStored (ended_by state head).symbols (ended_by state head).offsets front
ended_stored state None front stored = stored
ended_stored state (Some head) front stored = stored

module _ (front : List (List Token)) (statement : List Token) (state : State) (pos : Pos) (labels : List (List ℕ)) (agrees : Agrees front state)
    (labels-are : labels_of statement ≡ labels) (new : repeats (labels_before front) labels ≡ false) where
  abbrev longer : List (List Token)
  longer = front ++ statement ∷ []

  abbrev labelled_state : State
  labelled_state = with_labels state labels

  still_inside : begins statement ≡ false → is_some state.head ≡ is_inside longer
  still_inside other = agrees.inside ∙ sym (inside_push front statement ∙ ap (λ (b : Bool). is_inside front || b) other ∙ or-false (is_inside front))

  more_labels : begins statement ≡ false → (labelled state.lines labels).labels ≡ map own (labels_before longer)
  more_labels other =
      kept_labels state.lines (labels_before front) labels agrees.labels new
      ∙ ap (map own) (sym (labels_push front statement other ∙ ap (λ (own : List (List ℕ)). labels_before front ++ own) labels-are))

  text_agrees : (ended_state : State) (line : TextLine) → begins statement ≡ true → ended_state.lines ≡ none_yet → IsStored ended_state.symbols ended_state.offsets longer
      → Agrees longer (record (with_symbol ended_state line.symbol) { head = Some (record { pos = pos; line = line }) })
  text_agrees ended_state line first empty stored = record {
    inside = sym (inside_push front statement ∙ ap (λ (b : Bool). is_inside front || b) first ∙ or_right (is_inside front) true refl);
    labels = ap (λ (g : Gathered). g.labels) empty ∙ ap (map own) (sym (labels_begin front statement first));
    stored = stored_with ended_state.symbols ended_state.offsets longer (key_of line.symbol) stored;
  }

  data_agrees : (line : DataLine) (value : DataValue) → begins statement ≡ false → data_at statement ≡ Some line → is_reached front (key_of line.symbol) line.off ≡ false
      → Agrees longer (after_data labelled_state (with_value (with_symbol labelled_state line.symbol) value) pos line)
  data_agrees line (Bytes bytes) other is above = record {
    inside = still_inside other;
    labels = more_labels other;
    stored = stored_data front statement state.symbols state.offsets line is above agrees.stored;
  }
  data_agrees line (Address symbol off) other is above = record {
    inside = still_inside other;
    labels = more_labels other;
    stored = stored_with _ _ longer (key_of symbol) (stored_data front statement state.symbols state.offsets line is above agrees.stored);
  }

  form_agrees : (form : Form) → begins statement ≡ is_text form → data_at statement ≡ data_of form → is_disordered front form ≡ false → Agrees longer (kept_form labelled_state pos form)
  form_agrees Empty first data-is ordered =
      record { inside = still_inside first; labels = more_labels first; stored = stored_other front statement state.symbols state.offsets data-is agrees.stored }
  form_agrees Lock first data-is ordered =
      record { inside = still_inside first; labels = more_labels first; stored = stored_other front statement state.symbols state.offsets data-is agrees.stored }
  form_agrees (Text line) first data-is ordered =
      text_agrees (ended labelled_state) line first (ended_lines labelled_state state.head)
      (ended_stored labelled_state state.head longer (stored_other front statement state.symbols state.offsets data-is agrees.stored))
  form_agrees (Data line) first data-is ordered = data_agrees line line.value first data-is ordered
  form_agrees (Global line) first data-is ordered = record {
    inside = still_inside first;
    labels = more_labels first;
    stored = stored_with state.symbols state.offsets longer (key_of line.symbol) (stored_other front statement state.symbols state.offsets data-is agrees.stored);
  }
  form_agrees (Code line) first data-is ordered =
      let names = names_operands labelled_state line.operands in
      subst (λ (s : State). Agrees longer (after_code s pos line)) (sym names.same)
      (record {
        inside = still_inside first;
        labels = line_labels (labelled state.lines labels) pos state.locked line ∙ more_labels first;
        stored = stored_names labelled_state line.operands state.offsets longer (stored_other front statement state.symbols state.offsets data-is agrees.stored);
      })

judged_ok : (fit : Bool) (pos : Pos) (cause : Option Cause) (state next : State) → cond fit (unless_refused pos cause state) (Err (P1 pos)) ≡ Ok next → (cause ≡ None) × (next ≡ state)
judged_ok true pos None state next is = let same : state ≡ next = cc in (refl, sym same)
judged_ok true pos (Some cause) state next is = absurd cc
judged_ok false pos cause state next is = absurd cc

none_found : (test : Bool) (cause : Cause) (found : Option Cause) → found_if test cause found ≡ None → (test ≡ false) × (found ≡ None)
none_found true cause found is = absurd cc
none_found false cause found is = (refl, is)

abbrev pub IsNext : List (List Token) → State → List Token → State → Type 0
IsNext front state statement next = (next ≡ kept_at state statement) × Agrees (front ++ statement ∷ []) next

module _ (word : List ℕ → Bool) (front : List (List Token)) (state : State) (outlook : Outlook) (token : Token) (tokens : List Token) (agrees : Agrees front state) (next : State) where
  read_next : (found : Option (Statement × Reading)) → said (token ∷ tokens) ≡ read_in found → (read_or_refused token.pos found >>= judged word state outlook token.pos) ≡ Ok next
      → IsNext front state (token ∷ tokens) next
  read_next None is answer = absurd cc
  read_next (Some pair) is answer =
      let read : Read = record { statement = pair.0; found = pair.1.found } in
      let fit = has_place (is_some state.head) outlook read.statement && names_words word read.statement.form in
      let ok = judged_ok fit token.pos (cause_of state read.statement read.found) (kept state token.pos read.statement) next answer in
      let code = none_found (is_code read.statement.form && not (is_inside front)) OutsideText _ (sym (statement_refused front state read agrees) ∙ ok.0) in
      let ordered = none_found (is_disordered front read.statement.form) DataOrder _ code.1 in
      let repeat = none_found (repeats (labels_before front) read.statement.labels) DuplicateLabel read.found ordered.1 in
      let agree = form_agrees front (token ∷ tokens) state token.pos read.statement.labels agrees (ap labels_in is) repeat.0 read.statement.form (ap begins_in is) (ap data_in is) ordered.0 in
      (ok.1 ∙ ap (kept_in state token.pos) (sym is), subst (Agrees (front ++ (token ∷ tokens) ∷ [])) (sym ok.1) agree)

empty_said : said [] ≡ Some (record { statement = record { labels = []; form = Empty }; found = None })
unfolding said statement labels form going_on eat_label
empty_said = refl

empty_agrees : (front : List (List Token)) (state : State) → Agrees front state → Agrees (front ++ [] ∷ []) state
empty_agrees front state agrees =
    form_agrees front [] state (record { file = 0; line = 0 }) [] agrees (ap labels_in empty_said) refl Empty (ap begins_in empty_said) (ap data_in empty_said) refl

pub step_next : (word : List ℕ → Bool) (front : List (List Token)) (state : State) (statement : List Token) (behind : List (List Token)) (next : State) → Agrees front state
    → step word state (outlook_of statement behind) statement ≡ Ok next → IsNext front state statement next
unfolding step read said
step_next word front state [] behind next agrees answer =
    let same : state ≡ next = cc in
    (sym same, subst (Agrees (front ++ [] ∷ [])) same (empty_agrees front state agrees))
step_next word front state (token ∷ tokens) behind next agrees answer =
    read_next word front state (outlook_of (token ∷ tokens) behind) token tokens agrees next (grammar.statement (record { rest = token ∷ tokens; found = None })) refl answer

-- What is read has the places of its tokens.
use Rattle.std.proofs.Common.{◌≡◌, ℕ, ◌<◌, Bool, true, false, List, [], ◌∷◌, length, get_or, map, Option, Some, None, refl, sym, ap, ◌∙◌, subst}
use Rattle.std.specs.Prelude.{All, IfSome}
use Rattle.std.specs.List.{onto_first}
use Rattle.asm_parse.specs.declared.unread.Unread.{Unread}
use Rattle.std.proofs.lemmas.List.{get_or-map, length-map}
use Rattle.std.proofs.lemmas.List.Elements.{All-nil, All-cons, All-head, All-tail, All-push, All-map}
use Rattle.std.proofs.lemmas.List.Splits.{slice_split-cons_yes, slice_split-cons_no}
use Rattle.goasm_base.specs.declared.pos.Pos.{Pos}
use Rattle.asm_lex.specs.declared.token.Token.{Token}
use Rattle.asm_grammar.specs.declared.cause.Cause.{Cause}
use Rattle.asm_grammar.specs.declared.cause.Cause.TheVariants.{DuplicateLabel, NamelessArgument, ArgumentSizeMissing, DataOrder, ZeroDivisor, OutsideText, RawCode}
use Rattle.asm_grammar.specs.declared.statement.Form.{Form}
use Rattle.asm_grammar.specs.declared.statement.Form.TheVariants.{Empty, Lock, Text, Data, Global, Code}
use Rattle.asm_grammar.specs.declared.statement.Statement.{Statement}
use Rattle.asm_parse.specs.declared.lines.Line.{Line}
use Rattle.asm_parse.specs.declared.progress.Head.{Head}
use Rattle.asm_parse.specs.declared.progress.PlacedData.{PlacedData}
use Rattle.asm_parse.specs.declared.progress.PlacedGlobal.{PlacedGlobal}
use Rattle.asm_parse.specs.Ahead.{seen}
use Rattle.asm_parse.specs.Refusals.{refusal}
use Rattle.asm_parse.specs.Numbering.{Key}
use Rattle.asm_parse.specs.Progress.{State, nothing_yet, with_labels, ended_by, ended}
use Rattle.asm_parse.specs.Steps.{kept_form, kept}
use Rattle.asm_parse.specs.Parse.{is_end, statements_of, value_of, global_of}
use Rattle.asm_parse.specs.Placed.{IsIn, TokenIn, NoIn, DataIn, GlobalIn, LineIn, BodyIn, ValueIn, DeclaredIn, StateIn}
use Rattle.asm_parse.proofs.KnownLemmas.{labelled_lines, after_code, after_data}
use Rattle.asm_parse.proofs.SymbolLemmas.{names_operands, names_data}

module _ (count : ℕ) where
  -- Statements have the tokens of their source.

  onto : (token : Token) (parts : List (List Token)) → TokenIn count token → All (All (TokenIn count)) parts → All (All (TokenIn count)) (onto_first token parts)
  onto token [] own all = All-cons (All (TokenIn count)) (token ∷ []) [] (All-cons (TokenIn count) token [] own (All-nil (TokenIn count))) (All-nil (All (TokenIn count)))
  onto token (part ∷ parts) own all =
      All-cons (All (TokenIn count)) (token ∷ part) parts (All-cons (TokenIn count) token part own (All-head (All (TokenIn count)) part parts all)) (All-tail (All (TokenIn count)) part parts all)

  pub statements_in : (tokens : List Token) → All (TokenIn count) tokens → All (All (TokenIn count)) (statements_of tokens)
  statements_in [] all = All-cons (All (TokenIn count)) [] [] (All-nil (TokenIn count)) (All-nil (All (TokenIn count)))
  statements_in (token ∷ tokens) all =
      by (statements_in tokens (All-tail (TokenIn count) token tokens all)) (is_end token) refl where
        by : All (All (TokenIn count)) (statements_of tokens) → (ended : Bool) → is_end token ≡ ended → All (All (TokenIn count)) (statements_of (token ∷ tokens))
        by rest true is = rw (slice_split-cons_yes is_end token tokens is) (All-cons (All (TokenIn count)) [] (statements_of tokens) (All-nil (TokenIn count)) rest)
        by rest false is = rw (slice_split-cons_no is_end token tokens is) (onto token (statements_of tokens) (All-head (TokenIn count) token tokens all) rest)

  pub statement_in : (statements : List Unread) (at : ℕ) (statement : Unread) → at < length statements → statement ≡ get_or statements at statement
      → All (All (TokenIn count)) (seen statements) → All (TokenIn count) statement.tokens.now
  statement_in statements at statement within item all =
      let inside : at < length (seen statements) = rw length-map within in
      let own : get_or (seen statements) at statement.tokens.now ≡ statement.tokens.now
      = get_or-map (λ (x : Unread). x.tokens.now) statements at statement statement.tokens.now within ∙ ap (λ (x : Unread). x.tokens.now) (sym item) in
      subst (All (TokenIn count)) own (all at statement.tokens.now inside)

  -- A refusal has the place of its statement.
  pub refusal_in : (cause : Cause) (pos : Pos) → IsIn count pos → NoIn count (refusal cause pos)
  refusal_in DuplicateLabel pos own = own
  refusal_in NamelessArgument pos own = own
  refusal_in ArgumentSizeMissing pos own = own
  refusal_in DataOrder pos own = own
  refusal_in ZeroDivisor pos own = own
  refusal_in OutsideText pos own = own
  refusal_in RawCode pos own = own

  -- What is kept has the place of its statement.

  pub nothing_in : StateIn count nothing_yet
  nothing_in = record {
    bodies = All-nil (BodyIn count);
    head = tt;
    lines = All-nil (LineIn count);
    values = All-nil (ValueIn count);
    globals = All-nil (DeclaredIn count);
  }

  labels_in : (state : State) (labels : List (List ℕ)) → StateIn count state → StateIn count (with_labels state labels)
  labels_in state labels placed = record {
    bodies = placed.bodies;
    head = placed.head;
    lines = subst (λ (lines : List Line). All (LineIn count) lines) (sym (labelled_lines state.lines labels)) placed.lines;
    values = placed.values;
    globals = placed.globals;
  }

  ended_by_in : (state : State) (head : Option Head) → state.head ≡ head → StateIn count state → StateIn count (ended_by state head)
  ended_by_in state None is placed = record {
    bodies = placed.bodies;
    head = tt;
    lines = All-nil (LineIn count);
    values = placed.values;
    globals = placed.globals;
  }
  ended_by_in state (Some head) is placed =
      let own : IsIn count head.pos = subst (λ (head : Option Head). IfSome head (λ head. IsIn count head.pos)) is placed.head in record {
        bodies = All-push (BodyIn count) state.bodies _ placed.bodies (record { pos = own; lines = placed.lines });
        head = tt;
        lines = All-nil (LineIn count);
        values = placed.values;
        globals = placed.globals;
      }

  pub ended_in : (state : State) → StateIn count state → StateIn count (ended state)
  ended_in state placed = ended_by_in state state.head refl placed

  form_in : (state : State) (pos : Pos) (form : Form) → IsIn count pos → StateIn count state → StateIn count (kept_form state pos form)
  form_in state pos Empty own placed = placed
  form_in state pos Lock own placed =
      record { bodies = placed.bodies; head = placed.head; lines = placed.lines; values = placed.values; globals = placed.globals }
  form_in state pos (Text line) own placed =
      let before = ended_in state placed in
      record { bodies = before.bodies; head = own; lines = before.lines; values = before.values; globals = before.globals }
  form_in state pos (Data line) own placed =
      subst (λ (s : State). StateIn count (after_data state s pos line)) (sym (names_data state line.symbol line.value).same)
      (record { bodies = placed.bodies; head = placed.head; lines = placed.lines; values = All-push (ValueIn count) state.values _ placed.values own; globals = placed.globals })
  form_in state pos (Global line) own placed =
      record { bodies = placed.bodies; head = placed.head; lines = placed.lines; values = placed.values; globals = All-push (DeclaredIn count) state.globals _ placed.globals own }
  form_in state pos (Code line) own placed =
      subst (λ (s : State). StateIn count (after_code s pos line)) (sym (names_operands state line.operands).same)
      (record { bodies = placed.bodies; head = placed.head; lines = All-push (LineIn count) state.lines.lines _ placed.lines own; values = placed.values; globals = placed.globals })

  pub kept_in : (state : State) (pos : Pos) (statement : Statement) → IsIn count pos → StateIn count state → StateIn count (kept state pos statement)
  kept_in state pos statement own placed = form_in (with_labels state statement.labels) pos statement.form own (labels_in state statement.labels placed)

  -- What is made of it has, too.

  pub values_in : (symbols : List Key) (placed : List PlacedData) → All (ValueIn count) placed → All (DataIn count) (map (value_of symbols) placed)
  values_in symbols placed all = All-map (DataIn count) (value_of symbols) placed all

  pub globals_in : (symbols : List Key) (placed : List PlacedGlobal) → All (DeclaredIn count) placed → All (GlobalIn count) (map (global_of symbols) placed)
  globals_in symbols placed all = All-map (GlobalIn count) (global_of symbols) placed all

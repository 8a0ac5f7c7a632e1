-- A statement that is kept leaves all that was read known.
use Rattle.std.proofs.Common.{◌≡◌, ℕ, ◌+◌, ◌*◌, ◌<◌, ◌≤◌, true, false, List, [], ◌∷◌, ◌++◌, length, Option, Some, None, refl, sym, ap, subst, arith}
use Rattle.std.specs.Prelude.{All, IfSome, nat_eq}
use Rattle.std.proofs.lemmas.List.{length_push}
use Rattle.std.proofs.lemmas.List.Elements.{All-nil, All-push}
use Rattle.goasm_base.specs.declared.pos.Pos.{Pos}
use Rattle.asm_grammar.specs.declared.directive.TextLine.{TextLine}
use Rattle.asm_grammar.specs.declared.directive.DataLine.{DataLine}
use Rattle.asm_grammar.specs.declared.directive.GlobalLine.{GlobalLine}
use Rattle.asm_grammar.specs.declared.statement.CodeLine.{CodeLine}
use Rattle.asm_grammar.specs.declared.statement.Form.{Form}
use Rattle.asm_grammar.specs.declared.statement.Form.TheVariants.{Empty, Lock, Text, Data, Global, Code}
use Rattle.asm_grammar.specs.declared.statement.Statement.{Statement}
use Rattle.asm_grammar.specs.Statements.{HasSizes, operand_count}
use Rattle.asm_grammar.specs.Directives.{IsSized}
use Rattle.asm_parse.specs.declared.lines.Line.{Line}
use Rattle.asm_parse.specs.declared.progress.Head.{Head}
use Rattle.asm_parse.specs.Numbering.{Key, has_name, with_name}
use Rattle.asm_parse.specs.Lines.{Gathered, none_yet, with_label, labelled, with_line}
use Rattle.indexmap.specs.IndexMap.{insert_entry}
use Rattle.asm_parse.specs.Progress.{State, nothing_yet, key_of, number_in, with_symbol, with_names, with_labels, with_lock, ended_by, ended, with_global}
use Rattle.asm_parse.specs.Steps.{kept_form, kept}
use Rattle.asm_parse.specs.Known.{IsNumbered, IsKnownHead, IsKnownOperand, IsKnownLine, IsKnownBody, IsKnownValue, IsKnownData, IsKnownGlobal, IsKnown}
use Rattle.asm_parse.proofs.SymbolLemmas.{grows_with, with_has, names_operands, names_data, operands_known, with_both, data_symbol, data_value, head_grown, lines_grown, bodies_grown, values_grown, globals_grown}

pub nothing_known : IsKnown 0 nothing_yet
nothing_known = record {
  count = omega arith;
  head = tt;
  lines = All-nil (IsKnownLine []);
  bodies = All-nil (IsKnownBody [] 0);
  values = All-nil (IsKnownData []);
  globals = All-nil (IsKnownGlobal []);
}

abbrev IsOpen : List Key → ℕ → ℕ → Option Head → Type 0
IsOpen symbols count tokens head = IfSome head (λ one. IsKnownHead symbols one.line × (count < tokens))

open_grown : (old new : List Key) → ((key : Key) → has_name old key ≡ true → has_name new key ≡ true) → (from to m n : ℕ) → (from < m → to < n)
    → (head : Option Head) → IsOpen old from m head → IsOpen new to n head
open_grown old new keeps from to m n less None known = tt
open_grown old new keeps from to m n less (Some head) known = (head_grown old new keeps head.line known.0, less known.1)

-- more symbols, and more tokens
symbols_known : (before after : ℕ) (state : State) (symbols : List Key) → ((key : Key) → has_name state.symbols key ≡ true → has_name symbols key ≡ true)
    → length symbols ≤ 2 * after → before ≤ after → IsKnown before state → IsKnown after (record state { symbols = symbols })
symbols_known before after state symbols keeps few within known = record {
  count = few;
  head = open_grown state.symbols symbols keeps (length state.lines.lines) (length state.lines.lines) before after (λ less. omega arith) state.head known.head;
  lines = lines_grown state.symbols symbols keeps state.lines.lines known.lines;
  bodies = bodies_grown state.symbols symbols keeps before after within state.bodies known.bodies;
  values = values_grown state.symbols symbols keeps state.values known.values;
  globals = globals_grown state.symbols symbols keeps state.globals known.globals;
}

pub known_more : (before after : ℕ) (state : State) → before ≤ after → IsKnown before state → IsKnown after state
known_more before after state within known =
    symbols_known before after state state.symbols (λ key there. there) (omega (arith, known.count)) within known

pub labelled_lines : (gathered : Gathered) (labels : List (List ℕ)) → (labelled gathered labels).lines ≡ gathered.lines
labelled_lines gathered [] = refl
labelled_lines gathered (label ∷ labels) = labelled_lines (with_label gathered label) labels

labels_known : (tokens : ℕ) (state : State) (labels : List (List ℕ)) → IsKnown tokens state → IsKnown tokens (with_labels state labels)
labels_known tokens state labels known =
    let same = labelled_lines state.lines labels in record {
      count = known.count;
      head = subst (λ (lines : List Line). IsOpen state.symbols (length lines) tokens state.head) (sym same) known.head;
      lines = subst (λ (lines : List Line). All (IsKnownLine state.symbols) lines) (sym same) known.lines;
      bodies = known.bodies;
      values = known.values;
      globals = known.globals;
    }

ended_by_known : (tokens : ℕ) (state : State) (head : Option Head) → state.head ≡ head → IsKnown tokens state → IsKnown tokens (ended_by state head)
ended_by_known tokens state None is known = record {
  count = known.count;
  head = tt;
  lines = All-nil (IsKnownLine state.symbols);
  bodies = known.bodies;
  values = known.values;
  globals = known.globals;
}
ended_by_known tokens state (Some head) is known =
    let own : IsOpen state.symbols (length state.lines.lines) tokens (Some head) = subst (IsOpen state.symbols (length state.lines.lines) tokens) is known.head in record {
      count = known.count;
      head = tt;
      lines = All-nil (IsKnownLine state.symbols);
      bodies = All-push (IsKnownBody state.symbols tokens) state.bodies _ known.bodies (record { head = own.0; lines = known.lines; count = own.1 });
      values = known.values;
      globals = known.globals;
    }

pub ended_known : (tokens : ℕ) (state : State) → IsKnown tokens state → IsKnown tokens (ended state)
ended_known tokens state known = ended_by_known tokens state state.head refl known

pub ended_lines : (state : State) (head : Option Head) → (ended_by state head).lines ≡ none_yet
ended_lines state None = refl
ended_lines state (Some head) = refl

begun_from : (before after : ℕ) (state : State) (pos : Pos) (line : TextLine) → before < after → IsSized line → state.lines ≡ none_yet → IsKnown before state
    → IsKnown after (record (with_symbol state line.symbol) { head = Some (record { pos = pos; line = line }) })
begun_from before after state pos line within sizes empty known =
    let grows = grows_with state.symbols (key_of line.symbol) in
    let all = with_name state.symbols (key_of line.symbol) in
    let named = symbols_known before after state all grows.keeps (omega (arith, grows.longer, known.count)) (omega arith) known in
    let none : length state.lines.lines ≡ 0 = ap (λ (g : Gathered). length g.lines) empty in record {
      count = named.count;
      head = (record { symbol = with_has state.symbols (key_of line.symbol); sizes = sizes }, omega (arith, none));
      lines = named.lines;
      bodies = named.bodies;
      values = named.values;
      globals = named.globals;
    }

abbrev pub after_code : State → Pos → CodeLine → State
after_code named pos code = record named { lines = with_line named.lines pos named.locked code; locked = false }

code_from : (before after : ℕ) (state : State) (symbols : List Key) (pos : Pos) (code : CodeLine) → ((key : Key) → has_name state.symbols key ≡ true → has_name symbols key ≡ true)
    → length symbols ≤ 2 * after → before < after → All (IsKnownOperand symbols) code.operands → IsKnown before state
    → IsKnown after (after_code (record state { symbols = symbols }) pos code)
code_from before after state symbols pos code keeps few within operands known =
    let lines = (with_line state.lines pos state.locked code).lines in
    let longer : length lines ≡ length state.lines.lines + 1 = length_push state.lines.lines _ in record {
      count = few;
      head = open_grown state.symbols symbols keeps (length state.lines.lines) (length lines) before after (λ less. omega (arith, longer)) state.head known.head;
      lines = All-push (IsKnownLine symbols) state.lines.lines _ (lines_grown state.symbols symbols keeps state.lines.lines known.lines) operands;
      bodies = bodies_grown state.symbols symbols keeps before after (omega arith) state.bodies known.bodies;
      values = values_grown state.symbols symbols keeps state.values known.values;
      globals = globals_grown state.symbols symbols keeps state.globals known.globals;
    }

abbrev pub after_data : State → State → Pos → DataLine → State
after_data state named pos line = record named {
  offsets = insert_entry nat_eq state.offsets (number_in state line) line.off;
  values = state.values ++ record { pos = pos; line = line } ∷ [];
}

data_from : (before after : ℕ) (state : State) (symbols : List Key) (pos : Pos) (line : DataLine) → ((key : Key) → has_name state.symbols key ≡ true → has_name symbols key ≡ true)
    → length symbols ≤ 2 * after → before < after → IsNumbered symbols line.symbol → IsKnownValue symbols line.value → IsKnown before state
    → IsKnown after (after_data state (record state { symbols = symbols }) pos line)
data_from before after state symbols pos line keeps few within symbol value known =
    let named = symbols_known before after state symbols keeps few (omega arith) known in record {
      count = named.count;
      head = named.head;
      lines = named.lines;
      bodies = named.bodies;
      values = All-push (IsKnownData symbols) state.values _ named.values (record { symbol = symbol; value = value });
      globals = named.globals;
    }

global_from : (before after : ℕ) (state : State) (pos : Pos) (line : GlobalLine) → before < after → IsKnown before state → IsKnown after (with_global state pos line)
global_from before after state pos line within known =
    let grows = grows_with state.symbols (key_of line.symbol) in
    let symbols = with_name state.symbols (key_of line.symbol) in
    let named = symbols_known before after state symbols grows.keeps (omega (arith, grows.longer, known.count)) (omega arith) known in record {
      count = named.count;
      head = named.head;
      lines = named.lines;
      bodies = named.bodies;
      values = named.values;
      globals = All-push (IsKnownGlobal symbols) state.globals _ named.globals (with_has state.symbols (key_of line.symbol));
    }

locked_known : (tokens : ℕ) (state : State) → IsKnown tokens state → IsKnown tokens (with_lock state)
locked_known tokens state known =
    record { count = known.count; head = known.head; lines = known.lines; bodies = known.bodies; values = known.values; globals = known.globals }

module _ (before size : ℕ) (state : State) (pos : Pos) (some : 0 < size) (known : IsKnown before state) where
  form_known : (form : Form) → HasSizes form → operand_count form ≤ size + 1 → IsKnown (before + size) (kept_form state pos form)
  form_known Empty sizes few = known_more before (before + size) state (omega arith) known
  form_known Lock sizes few = locked_known (before + size) state (known_more before (before + size) state (omega arith) known)
  form_known (Text line) sizes few =
      begun_from before (before + size) (ended state) pos line (omega arith) sizes (ended_lines state state.head) (ended_known before state known)
  form_known (Data line) sizes few =
      let names = names_data state line.symbol line.value in
      let named = with_both state line.symbol line.value in
      subst (λ (s : State). IsKnown (before + size) (after_data state s pos line)) (sym names.same)
      (data_from before (before + size) state named.symbols pos line names.grows.keeps (omega (arith, names.grows.longer, known.count)) (omega arith)
      (data_symbol state line.symbol line.value) (data_value state line.symbol line.value) known)
  form_known (Global line) sizes few = global_from before (before + size) state pos line (omega arith) known
  form_known (Code line) sizes few =
      let names = names_operands state line.operands in
      let named = with_names state line.operands in
      subst (λ (s : State). IsKnown (before + size) (after_code s pos line)) (sym names.same)
      (code_from before (before + size) state named.symbols pos line names.grows.keeps (omega (arith, names.grows.longer, known.count, few)) (omega arith)
      (operands_known state line.operands) known)

pub kept_known : (before size : ℕ) (state : State) (pos : Pos) (statement : Statement) → 0 < size → HasSizes statement.form → operand_count statement.form ≤ size + 1
    → IsKnown before state → IsKnown (before + size) (kept state pos statement)
kept_known before size state pos statement some sizes few known =
    form_known before size (with_labels state statement.labels) pos some (labels_known before state statement.labels known) statement.form sizes few

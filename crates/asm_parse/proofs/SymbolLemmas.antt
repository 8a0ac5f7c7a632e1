-- A symbol that has a number keeps it while others are added.
use Rattle.std.proofs.Common.{◌≡◌, ℕ, ◌+◌, ◌≤◌, Bool, true, false, cond, List, [], ◌∷◌, ◌++◌, length, refl, ap, ◌∙◌, arith}
use Rattle.std.specs.Prelude.{All, ◌||◌}
use Rattle.std.specs.List.{list_any}
use Rattle.std.proofs.Math.Bool.{beq}
use Rattle.std.proofs.lemmas.List.{length_push}
use Rattle.std.proofs.lemmas.List.Folds.{list_any-append}
use Rattle.std.proofs.lemmas.List.Elements.{All-nil, All-cons, All-weaker}
use Rattle.std.proofs.lemmas.Slice.Eq.{bytes_eq-Decides}
use Rattle.asm_grammar.specs.declared.directive.TextLine.{TextLine}
use Rattle.asm_grammar.specs.declared.directive.DataValue.{DataValue}
use Rattle.asm_grammar.specs.declared.directive.DataValue.TheVariants.{Bytes, Address}
use Rattle.asm_grammar.specs.declared.draft.Draft.{Draft}
use Rattle.asm_grammar.specs.declared.draft.Draft.TheVariants.{Imm, Bare, Mem, Symbol, Arg, Auto, Away, Pair, Shifted}
use Rattle.asm_grammar.specs.declared.draft.SymbolName.{SymbolName}
use Rattle.asm_parse.specs.declared.lines.Body.{Body}
use Rattle.asm_parse.specs.declared.lines.Line.{Line}
use Rattle.asm_parse.specs.declared.progress.PlacedData.{PlacedData}
use Rattle.asm_parse.specs.declared.progress.PlacedGlobal.{PlacedGlobal}
use Rattle.asm_parse.specs.Numbering.{Key, is_same, has_name, with_name}
use Rattle.asm_parse.specs.Progress.{State, key_of, with_symbol, with_name_of, with_names, with_value}
use Rattle.asm_parse.specs.Known.{IsNumbered, IsKnownOperand, IsKnownLine, IsKnownHead, IsKnownBody, IsKnownValue, IsKnownData, IsKnownGlobal}

beq_itself : (b : Bool) → beq b b ≡ true
beq_itself true = refl
beq_itself false = refl

pub is_itself : (key : Key) → is_same key key ≡ true
is_itself key = rw ((bytes_eq-Decides key.0 key.0).1 refl, beq_itself key.1) refl

module _ (names : List Key) (other : Key) where
  kept_by : (b : Bool) (key : Key) → has_name names key ≡ true → has_name (cond b names (names ++ other ∷ [])) key ≡ true
  kept_by true key there = there
  kept_by false key there = list_any-append (is_same key) names (other ∷ []) ∙ ap (λ (b : Bool). b || list_any (is_same key) (other ∷ [])) there

  there_by : (b : Bool) → has_name names other ≡ b → has_name (cond b names (names ++ other ∷ [])) other ≡ true
  there_by true is = is
  there_by false is = list_any-append (is_same other) names (other ∷ []) ∙ rw (is, is_itself other) refl

  longer_by : (b : Bool) → length (cond b names (names ++ other ∷ [])) ≤ length names + 1
  longer_by true = omega arith
  longer_by false = omega (arith, length_push names other)

-- names that have more after them, at most so many
pub record Grows (old new : List Key) (most : ℕ) : Type 0 where
  pub keeps : (key : Key) → has_name old key ≡ true → has_name new key ≡ true
  pub longer : length new ≤ length old + most

pub grows_not : (names : List Key) → Grows names names 0
grows_not names = record { keeps = λ key there. there; longer = omega arith }

pub grows_with : (names : List Key) (key : Key) → Grows names (with_name names key) 1
grows_with names key = record { keeps = kept_by names key (has_name names key); longer = longer_by names key (has_name names key) }

pub with_has : (names : List Key) (key : Key) → has_name (with_name names key) key ≡ true
with_has names key = there_by names key (has_name names key) refl

pub grows_then : (one two three : List Key) (m n most : ℕ) → Grows one two m → Grows two three n → m + n ≤ most → Grows one three most
grows_then one two three m n most first next within =
    record { keeps = λ key there. next.keeps key (first.keeps key there); longer = omega (arith, first.longer, next.longer) }

-- what was known stays known
module _ (old new : List Key) (keeps : (key : Key) → has_name old key ≡ true → has_name new key ≡ true) where
  pub operand_grown : (draft : Draft) → IsKnownOperand old draft → IsKnownOperand new draft
  operand_grown (Imm value) known = tt
  operand_grown (Bare name) known = tt
  operand_grown (Mem off base index) known = tt
  operand_grown (Symbol symbol off address) known = keeps (key_of symbol) known
  operand_grown (Arg name off address) known = tt
  operand_grown (Auto off address) known = tt
  operand_grown (Away away) known = tt
  operand_grown (Pair first second) known = tt
  operand_grown (Shifted reg kind amount) known = tt

  pub operands_grown : (drafts : List Draft) → All (IsKnownOperand old) drafts → All (IsKnownOperand new) drafts
  operands_grown drafts known = All-weaker (IsKnownOperand old) (IsKnownOperand new) operand_grown drafts known

  pub lines_grown : (lines : List Line) → All (IsKnownLine old) lines → All (IsKnownLine new) lines
  lines_grown lines known = All-weaker (IsKnownLine old) (IsKnownLine new) (λ line. operands_grown line.code.operands) lines known

  pub head_grown : (head : TextLine) → IsKnownHead old head → IsKnownHead new head
  head_grown head known = record { symbol = keeps (key_of head.symbol) known.symbol; sizes = known.sizes }

  pub bodies_grown : (before after : ℕ) → before ≤ after → (bodies : List Body) → All (IsKnownBody old before) bodies → All (IsKnownBody new after) bodies
  bodies_grown before after within bodies known = All-weaker (IsKnownBody old before) (IsKnownBody new after)
      (λ body one. record { head = head_grown body.head one.head; lines = lines_grown body.lines one.lines; count = omega (arith, one.count) }) bodies known

  pub value_grown : (value : DataValue) → IsKnownValue old value → IsKnownValue new value
  value_grown (Bytes bytes) known = tt
  value_grown (Address symbol off) known = keeps (key_of symbol) known

  pub values_grown : (values : List PlacedData) → All (IsKnownData old) values → All (IsKnownData new) values
  values_grown values known = All-weaker (IsKnownData old) (IsKnownData new)
      (λ placed one. record { symbol = keeps (key_of placed.line.symbol) one.symbol; value = value_grown placed.line.value one.value }) values known

  pub globals_grown : (globals : List PlacedGlobal) → All (IsKnownGlobal old) globals → All (IsKnownGlobal new) globals
  globals_grown globals known = All-weaker (IsKnownGlobal old) (IsKnownGlobal new) (λ placed one. keeps (key_of placed.line.symbol) one) globals known

-- a state in which more symbols have numbers, and all else is as before
pub record Names (state named : State) (most : ℕ) : Type 0 where
  pub same : named ≡ record state { symbols = named.symbols }
  pub grows : Grows state.symbols named.symbols most

pub names_symbol : (state : State) (symbol : SymbolName) → Names state (with_symbol state symbol) 1
names_symbol state symbol = record { same = refl; grows = grows_with state.symbols (key_of symbol) }

name_same : (state : State) (draft : Draft) → with_name_of state draft ≡ record state { symbols = (with_name_of state draft).symbols }
name_same state (Imm value) = refl
name_same state (Bare name) = refl
name_same state (Mem off base index) = refl
name_same state (Symbol symbol off address) = refl
name_same state (Arg name off address) = refl
name_same state (Auto off address) = refl
name_same state (Away away) = refl
name_same state (Pair first second) = refl
name_same state (Shifted reg kind amount) = refl

name_grows : (state : State) (draft : Draft) → Grows state.symbols (with_name_of state draft).symbols 1
name_grows state (Imm value) = record { keeps = λ key there. there; longer = omega arith }
name_grows state (Bare name) = record { keeps = λ key there. there; longer = omega arith }
name_grows state (Mem off base index) = record { keeps = λ key there. there; longer = omega arith }
name_grows state (Symbol symbol off address) = grows_with state.symbols (key_of symbol)
name_grows state (Arg name off address) = record { keeps = λ key there. there; longer = omega arith }
name_grows state (Auto off address) = record { keeps = λ key there. there; longer = omega arith }
name_grows state (Away away) = record { keeps = λ key there. there; longer = omega arith }
name_grows state (Pair first second) = record { keeps = λ key there. there; longer = omega arith }
name_grows state (Shifted reg kind amount) = record { keeps = λ key there. there; longer = omega arith }

name_known : (state : State) (draft : Draft) → IsKnownOperand (with_name_of state draft).symbols draft
name_known state (Imm value) = tt
name_known state (Bare name) = tt
name_known state (Mem off base index) = tt
name_known state (Symbol symbol off address) = with_has state.symbols (key_of symbol)
name_known state (Arg name off address) = tt
name_known state (Auto off address) = tt
name_known state (Away away) = tt
name_known state (Pair first second) = tt
name_known state (Shifted reg kind amount) = tt

operands_same : (state : State) (drafts : List Draft) → with_names state drafts ≡ record state { symbols = (with_names state drafts).symbols }
operands_same state [] = refl
operands_same state (draft ∷ drafts) =
    let next = with_name_of state draft in
    operands_same next drafts ∙ ap (λ (s : State). record s { symbols = (with_names next drafts).symbols }) (name_same state draft)

operands_grow : (state : State) (drafts : List Draft) → Grows state.symbols (with_names state drafts).symbols (length drafts)
operands_grow state [] = grows_not state.symbols
operands_grow state (draft ∷ drafts) =
    let next = with_name_of state draft in
    grows_then state.symbols next.symbols (with_names next drafts).symbols 1 (length drafts) (length (draft ∷ drafts))
    (name_grows state draft) (operands_grow next drafts) (omega arith)

pub names_operands : (state : State) (drafts : List Draft) → Names state (with_names state drafts) (length drafts)
names_operands state drafts = record { same = operands_same state drafts; grows = operands_grow state drafts }

pub operands_known : (state : State) (drafts : List Draft) → All (IsKnownOperand (with_names state drafts).symbols) drafts
operands_known state [] = All-nil (IsKnownOperand state.symbols)
operands_known state (draft ∷ drafts) =
    let next = with_name_of state draft in
    let all = (with_names next drafts).symbols in
    All-cons (IsKnownOperand all) draft drafts (operand_grown next.symbols all (operands_grow next drafts).keeps draft (name_known state draft)) (operands_known next drafts)

-- the symbols of a `DATA`
abbrev pub with_both : State → SymbolName → DataValue → State
with_both state symbol value = with_value (with_symbol state symbol) value

pub names_data : (state : State) (symbol : SymbolName) (value : DataValue) → Names state (with_both state symbol value) 2
names_data state symbol (Bytes bytes) =
    let one = grows_with state.symbols (key_of symbol) in
    record { same = refl; grows = record { keeps = one.keeps; longer = omega (arith, one.longer) } }
names_data state symbol (Address other off) =
    let next = with_name state.symbols (key_of symbol) in
    record { same = refl; grows = grows_then state.symbols next (with_name next (key_of other)) 1 1 2 (grows_with state.symbols (key_of symbol)) (grows_with next (key_of other)) (omega arith) }

pub data_symbol : (state : State) (symbol : SymbolName) (value : DataValue) → IsNumbered (with_both state symbol value).symbols symbol
data_symbol state symbol (Bytes bytes) = with_has state.symbols (key_of symbol)
data_symbol state symbol (Address other off) =
    let next = with_name state.symbols (key_of symbol) in
    (grows_with next (key_of other)).keeps (key_of symbol) (with_has state.symbols (key_of symbol))

pub data_value : (state : State) (symbol : SymbolName) (value : DataValue) → IsKnownValue (with_both state symbol value).symbols value
data_value state symbol (Bytes bytes) = tt
data_value state symbol (Address other off) = with_has (with_name state.symbols (key_of symbol)) (key_of other)

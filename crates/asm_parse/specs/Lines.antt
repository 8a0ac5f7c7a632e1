-- The statements and labels of a function, as they are gathered.
use Rattle.std.specs.Prelude.{ℕ, Bool, true, false, not, ◌||◌, ◌&&◌, fold, List, [], ◌∷◌, ◌++◌, length, bytes_eq, codes, Option, Some, None}
use Rattle.goasm_base.specs.declared.pos.Pos.{Pos}
use Rattle.asm_grammar.specs.declared.statement.CodeLine.{CodeLine}
use Rattle.asm_grammar.specs.declared.directive.TextLine.{TextLine}
use Rattle.asm_parse.specs.declared.lines.Line.{Line}
use Rattle.asm_parse.specs.declared.lines.Slot.{Slot}
use Rattle.asm_parse.specs.declared.lines.Body.{Body}
use Rattle.asm_parse.specs.Numbering.{Key, has_name, with_name}

-- Each source instruction has a place, and so has a LOCK. Places between which no PCDATA and no FUNCDATA stands have the
-- same start
pub record Gathered : Type 0 where
  pub lines : List Line
  pub slots : List Slot
  pub start : ℕ
  pub labels : List Key
  pub goals : List ℕ

abbrev pub none_yet : Gathered
none_yet = record { lines = []; slots = []; start = 0; labels = []; goals = [] }

-- a label stands before the next statement
abbrev pub with_label : Gathered → List ℕ → Gathered
with_label gathered label = record gathered {
  labels = with_name gathered.labels (label, false);
  goals = gathered.goals ++ length gathered.lines ∷ [];
}

abbrev pub labelled : Gathered → List (List ℕ) → Gathered
labelled gathered labels = fold with_label gathered labels

-- no label of these is one of the function, or another one of these
unfoldable pub are_new : Gathered → List (List ℕ) → Bool
are_new gathered [] = true
are_new gathered (label ∷ labels) = not (has_name gathered.labels (label, false)) && are_new (with_label gathered label) labels

abbrev pub with_slot : Gathered → Option ℕ → Gathered
with_slot gathered goal = record gathered { slots = gathered.slots ++ record { start = gathered.start; goal = goal } ∷ [] }

-- the mnemonics whose statements give no instruction
abbrev pub is_aside : List ℕ → Bool
is_aside op = bytes_eq op (codes "PCDATA") || bytes_eq op (codes "FUNCDATA")

-- the place of a LOCK, from which its pair begins
abbrev pub with_lock : Gathered → Bool → Gathered
with_lock gathered true = with_slot gathered (Some (length gathered.lines))
with_lock gathered false = gathered

-- a new stretch begins behind a PCDATA or FUNCDATA
abbrev pub with_own_slot : Gathered → Bool → Bool → Gathered
with_own_slot gathered lock true = let longer = with_slot gathered None in record longer { start = length longer.slots }
with_own_slot gathered true false = with_slot gathered None
with_own_slot gathered false false = with_slot gathered (Some (length gathered.lines))

abbrev pub with_line : Gathered → Pos → Bool → CodeLine → Gathered
with_line gathered pos lock code =
    let locked = with_lock gathered lock in
    let placed = with_own_slot locked lock (is_aside code.op) in
    record placed { lines = gathered.lines ++ record { index = length gathered.lines; pos = pos; lock = lock; place = length locked.slots; code = code } ∷ [] }

abbrev pub body_of : Gathered → Pos → TextLine → Body
body_of gathered pos head = record {
  pos = pos;
  head = head;
  lines = gathered.lines;
  slots = gathered.slots;
  labels = gathered.labels;
  goals = gathered.goals;
}

-- Reading the range lines one after the other finds their first fault.
use Rattle.std.proofs.Common.{◌≡◌, ℕ, suc, true, false, ◌*◌, ◌==◌, ◌+◌, ◌<◌, ◌≤◌, List, [], ◌∷◌, length, drop, Option, Some, None, refl, sym, ap, ◌∙◌, arith, add-one, drop-cons}
use Rattle.std.specs.Option.{option_map}
use Rattle.std.proofs.lemmas.Bool.{ne_eqb}
use Rattle.std.proofs.lemmas.List.{nil_from_length}
use Rattle.goasm_base.specs.Refusals.{first_below}
use Rattle.goasm_base.proofs.RefusalLemmas.{below_zero, below_next, below_found}
use Rattle.machine_dump.specs.declared.fault.DumpNo.{DumpNo}
use Rattle.machine_dump.specs.declared.fault.DumpNo.TheVariants.{DU1}
use Rattle.machine_dump.specs.Lines.{lines_of, is_ended, line_at}
use Rattle.machine_dump.specs.Form.{end_of, range_of}
use Rattle.machine_dump.specs.Faults.{body_fault, fault_behind, end_before, mem_fault}
use Rattle.machine_dump.specs.Search.{IsBody}
use Rattle.machine_dump.proofs.LineLemmas.{ended_none}
use Rattle.machine_dump.proofs.FormLemmas.{long_line}
use Rattle.machine_dump.proofs.RiseLemmas.{lines_rise}

-- what is known before the line with a number is read, with these bytes from it on, where no earlier one was at fault
pub record Reached (body rest : List ℕ) (end : Option ℕ) (number : ℕ) : Type 0 where
  pub index : ℕ
  pub number_is : number ≡ index + 5
  pub behind : drop index (lines_of body) ≡ lines_of rest
  pub count : index + length (lines_of rest) ≡ length (lines_of body)
  pub room : 2 * index + length rest ≤ length body
  pub ended : is_ended rest ≡ is_ended body
  pub end_is : end ≡ end_before (lines_of body) index
  pub none : first_below index (mem_fault (lines_of body)) ≡ None

pub reached_none : (body : List ℕ) → Reached body body None 5
reached_none body = record {
  index = 0;
  number_is = refl;
  behind = refl;
  count = omega arith;
  room = omega arith;
  ended = refl;
  end_is = refl;
  none = below_zero (mem_fault (lines_of body));
}

-- the next line
turn : (body rest : List ℕ) (end : Option ℕ) (number : ℕ) (text : List ℕ) (later : List (List ℕ)) (reached : Reached body rest end number)
    → lines_of rest ≡ text ∷ later
    → (reached.index < length (lines_of body)) × (line_at (lines_of body) reached.index ≡ text)
    × (drop (reached.index + 1) (lines_of body) ≡ later) × (reached.index + 1 + length later ≡ length (lines_of body))
turn body rest end number text later reached is =
    let longer : length (lines_of rest) ≡ suc (length later) = ap length is in
    let inside : reached.index < length (lines_of body) = omega (arith, reached.count, longer) in
    let whole : line_at (lines_of body) reached.index ∷ drop (suc reached.index) (lines_of body) ≡ text ∷ later
    = sym (drop-cons (lines_of body) reached.index [] inside) ∙ reached.behind ∙ is in
    (inside, cc, ap (λ k. drop k (lines_of body)) (add-one reached.index) ∙ cc, omega (arith, reached.count, longer))

fault_here : (lines : List (List ℕ)) (index number : ℕ) (text : List ℕ) (end : Option ℕ) → number ≡ index + 5 → line_at lines index ≡ text
    → end ≡ end_before lines index → mem_fault lines index ≡ fault_behind end number (range_of text)
unfolding mem_fault
fault_here lines index number text end number_is is end_is = rw (number_is, is, end_is) refl

pub reached_next : (body rest behind text : List ℕ) (end : Option ℕ) (next number : ℕ) → Reached body rest end number
    → lines_of rest ≡ text ∷ lines_of behind → is_ended behind ≡ is_ended rest → length text + 1 + length behind ≡ length rest
    → fault_behind end number (range_of text) ≡ None → option_map end_of (range_of text) ≡ Some next
    → Reached body behind (Some next) (number + 1)
reached_next body rest behind text end next number reached is ended size fine end_is =
    let here = turn body rest end number text (lines_of behind) reached is in
    record {
      index = reached.index + 1;
      number_is = omega (arith, reached.number_is);
      behind = here.2;
      count = here.3;
      room = omega (arith, reached.room, size, long_line text next end_is);
      ended = ended ∙ reached.ended;
      end_is = sym end_is ∙ ap (λ line. option_map end_of (range_of line)) (sym here.1)
          ∙ ap (end_before (lines_of body)) (sym (add-one reached.index));
      none = below_next (mem_fault (lines_of body)) reached.index reached.none
          (fault_here (lines_of body) reached.index number text end reached.number_is here.1 reached.end_is ∙ fine);
    }

pub reached_fault : (body rest text : List ℕ) (later : List (List ℕ)) (end : Option ℕ) (first : DumpNo) (number : ℕ) → Reached body rest end number
    → lines_of rest ≡ text ∷ later → fault_behind end number (range_of text) ≡ Some first
    → body_fault (lines_of body) (is_ended body) ≡ Some first
reached_fault body rest text later end first number reached is fault =
    let here = turn body rest end number text later reached is in
    let found : first_below (length (lines_of body)) (mem_fault (lines_of body)) ≡ Some first
    = below_found (mem_fault (lines_of body)) reached.index (length (lines_of body)) first here.0 reached.none
    (fault_here (lines_of body) reached.index number text end reached.number_is here.1 reached.end_is ∙ fault) in
    rw found refl

-- behind the last line
all_read : (body rest : List ℕ) (end : Option ℕ) (number : ℕ) (reached : Reached body rest end number) → lines_of rest ≡ []
    → (reached.index ≡ length (lines_of body)) × (first_below (length (lines_of body)) (mem_fault (lines_of body)) ≡ None)
all_read body rest end number reached none =
    let empty : length (lines_of rest) ≡ 0 = ap length none in
    let all : reached.index ≡ length (lines_of body) = omega (arith, reached.count, empty) in
    (all, rw all at reached.none)

pub reached_unended : (body rest : List ℕ) (end : Option ℕ) (number : ℕ) → Reached body rest end number → lines_of rest ≡ []
    → 0 < length rest → is_ended rest ≡ (length rest == 0) → body_fault (lines_of body) (is_ended body) ≡ Some (DU1 number)
reached_unended body rest end number reached none some unended =
    let all = all_read body rest end number reached none in
    let open_end : is_ended body ≡ false = sym reached.ended ∙ unended ∙ ne_eqb (length rest) 0 (λ empty. omega (arith, some, empty)) in
    let number_is : number ≡ length (lines_of body) + 5 = omega (arith, reached.number_is, all.0) in
    rw (all.1, open_end, number_is) refl

no_line : lines_of [] ≡ []
unfolding lines_of
no_line = refl

pub reached_all : (body rest : List ℕ) (end : Option ℕ) (number : ℕ) → Reached body rest end number → length rest ≡ 0
    → (body_fault (lines_of body) (is_ended body) ≡ None) × IsBody body
reached_all body rest end number reached empty =
    let nil : rest ≡ [] = nil_from_length rest empty in
    let all = all_read body rest end number reached (ap lines_of nil ∙ no_line) in
    let ended : is_ended body ≡ true = sym reached.ended ∙ ap is_ended nil ∙ ended_none in
    (rw (all.1, ended) refl, record { ended = ended; rises = lines_rise (lines_of body) all.1 })

use Rattle.std.proofs.Common.{◌≡◌, ◌≢◌, ℕ, ℤ, pos, negsuc, ◌+◌, ◌-◌, ◌*◌, ◌%◌, ◌^◌, ◌<◌, ◌≤◌, ◌==◌, Bool, true, false, not, ◌||◌, ◌&&◌, nat_lt, nat_le, List, [], ◌∷◌, length, get_or, set, take, drop, Option, Some, None, IfSome, refl, sym, ap, ◌∙◌, arith, if◌then◌else◌, length-set, get_or-set_same, get_or-set_other}
use Rattle.std.proofs.lemmas.Bool.{eqb-true, eqb-false, eq-eqb, or_parts, and_parts, false≢true, leb-true, le-leb}
use Rattle.std.proofs.lemmas.List.{take_rest}
use Rattle.std.specs.List.{list_any}
use Rattle.std.specs.Option.{option_map, option_and_then, option_or}
use Rattle.machine_effect.specs.declared.state.State.{State}
use Rattle.machine_effect.specs.declared.effect.Effect.{Effect}
use Rattle.machine_effect.specs.declared.effect.Value.{Value}
use Rattle.machine_effect.specs.declared.effect.Atom.{Atom}
use Rattle.machine_effect.specs.declared.effect.Atom.TheVariants.{Reg, Const, Loaded, Wide}
use Rattle.machine_effect.specs.declared.op.Op.{Op}
use Rattle.machine_effect.specs.declared.op.Op.TheVariants as op
use Rattle.machine_effect.specs.declared.flow.Shape.{Shape}
use Rattle.machine_effect.specs.declared.flow.SpMove.TheVariants.{Keep, By, Other}
use Rattle.machine_effect.specs.Numbers.{signed, unsigned}
use Rattle.machine_effect.specs.Operations.{IsOutcome, operate, difference}
use Rattle.machine_effect.specs.Values.{reg_of, atom_of, holds, Gives}
use Rattle.machine_effect.specs.Applies.{Writes, with_link, link_of}
use Rattle.machine_effect.specs.Flow.{written_to, is_named, writes_register, constant_after, added_by, added_to, is_stack_move, move_by, sole, sp_move_of, is_register, is_copy, is_copy_of, stores_register, of_link, flow_of}
use Rattle.machine_effect.specs.Steps.{KeepsRegister, MovesRegister, StoresCopy}

-- a register that isn't among the writes has no value in them
pub unwritten : (r : ℕ) (ws : List (ℕ × Value)) → list_any (λ w. w.0 == r) ws ≡ false → written_to r ws ≡ []
unwritten r [] none = refl
unwritten r (w ∷ ws) none =
    let parts = or_parts (w.0 == r) (list_any (λ v. v.0 == r) ws) none in
    rw parts.0 (unwritten r ws parts.1)

pub written : (r : ℕ) (ws : List (ℕ × Value)) → list_any (λ w. w.0 == r) ws ≡ true
    → (v : Value) × (vs : List Value) × (written_to r ws ≡ v ∷ vs)
written r [] some = absurd (false≢true some)
written r (w ∷ ws) some =
    elim (w.0 == r) as (λ here. (here || list_any (λ v. v.0 == r) ws) ≡ true
    → (v : Value) × (vs : List Value) × ((if here then w.1 ∷ written_to r ws else written_to r ws) ≡ v ∷ vs)) [
      | true ↦ λ _. (w.1, written_to r ws, refl)
      | false ↦ λ later. written r ws later
    ] some

-- nothing is written behind a sole write, and it is the value
alone : (r : ℕ) (ws : List (ℕ × Value)) (u v : Value) → sole (u ∷ written_to r ws) ≡ Some v
    → (list_any (λ w. w.0 == r) ws ≡ false) × (u ≡ v)
alone r ws u v is =
    elim (list_any (λ w. w.0 == r) ws) as (λ some. list_any (λ w. w.0 == r) ws ≡ some → (some ≡ false) × (u ≡ v)) [
      | true ↦ λ some. let more = written r ws some in let bad = rw more.2 at is in cc
      | false ↦ λ none. let rest = rw (unwritten r ws none) at is in (refl, cc)
    ] refl

-- a write of the list's head, as `sole_write` meets it
pub sole_again : (r : ℕ) (ws : List (ℕ × Value)) (d : ℕ × Value) → 1 ≤ length ws → (get_or ws 0 d).0 ≡ r
    → list_any (λ w. w.0 == r) (take (length ws - 1) (drop 1 ws)) ≡ true → None ≡ sole (written_to r ws)
sole_again r [] d some here more = absurd (omega arith)
sole_again r (w ∷ ws) d some here more =
    let later = written r ws (rw take_rest at more) in
    rw (eq-eqb w.0 r here, later.2) refl

pub sole_once : (r : ℕ) (ws : List (ℕ × Value)) (d : ℕ × Value) → 1 ≤ length ws → (get_or ws 0 d).0 ≡ r
    → list_any (λ w. w.0 == r) (take (length ws - 1) (drop 1 ws)) ≡ false → Some (get_or ws 0 d).1 ≡ sole (written_to r ws)
sole_once r [] d some here none = absurd (omega arith)
sole_once r (w ∷ ws) d some here none = rw (eq-eqb w.0 r here, unwritten r ws (rw take_rest at none)) refl

-- writes leave a register that isn't among them
pub untouched : (before : State) (loaded r : ℕ) (ws : List (ℕ × Value)) (regs after : List ℕ)
    → Writes before loaded ws regs after → list_any (λ w. w.0 == r) ws ≡ false → get_or after r 0 ≡ get_or regs r 0
untouched before loaded r [] regs after writes none = ap (λ xs. get_or xs r 0) writes
untouched before loaded r (w ∷ ws) regs after writes none =
    let parts = or_parts (w.0 == r) (list_any (λ v. v.0 == r) ws) none in
    let apart : r ≢ w.0 = λ same. eqb-false w.0 r parts.0 (sym same) in
    untouched before loaded r ws (set regs w.0 (writes.0 % 2 ^ 64)) after writes.2 parts.1
    ∙ get_or-set_other regs w.0 r (writes.0 % 2 ^ 64) 0 apart

pub unlinked : (r past : ℕ) (link : Option ℕ) (regs : List ℕ) → is_named r link ≡ false
    → get_or (with_link link past regs) r 0 ≡ get_or regs r 0
unlinked r past None regs none = refl
unlinked r past (Some l) regs none =
    let apart : r ≢ l = λ same. eqb-false l r none (sym same) in get_or-set_other regs l r past 0 apart

pub keeps : (effect : Effect) (r : ℕ) → writes_register effect r ≡ false → KeepsRegister effect r
keeps effect r none past before after applies =
    let parts = or_parts (is_named r (link_of effect.next)) (list_any (λ w. w.0 == r) effect.writes.items) none in
    ap (λ xs. get_or xs r 0) applies.regs
    ∙ unlinked r past (link_of effect.next) applies.written parts.0
    ∙ untouched before applies.loaded r effect.writes.items before.regs applies.written applies.writes parts.1

pub set_here : (xs : List ℕ) (i r a : ℕ) → i ≡ r → r < length xs → get_or (set xs i a) r 0 ≡ a
set_here xs i r a same inside = rw same (get_or-set_same xs r a 0 inside)

-- a sole write leaves its value in the register
Wrote : State → ℕ → Value → ℕ → Type 0
Wrote before loaded v final = (x : ℕ) × Gives before loaded v x × (final ≡ x % 2 ^ 64)

wrote : (before : State) (loaded r : ℕ) (v : Value) (ws : List (ℕ × Value)) (regs after : List ℕ)
    → Writes before loaded ws regs after → r < length regs → sole (written_to r ws) ≡ Some v
    → Wrote before loaded v (get_or after r 0)
unfolding Wrote
wrote before loaded r v [] regs after writes inside one = cc
wrote before loaded r v (w ∷ ws) regs after writes inside one =
    let x : ℕ = writes.0 in
    let regs' : List ℕ = set regs w.0 (x % 2 ^ 64) in
    elim (w.0 == r) as (λ here. (w.0 == r) ≡ here
    → sole (if here then w.1 ∷ written_to r ws else written_to r ws) ≡ Some v
    → (y : ℕ) × Gives before loaded v y × (get_or after r 0 ≡ y % 2 ^ 64)) [
      | true ↦ λ here one.
          let ends = alone r ws w.1 v one in
          let left : get_or after r 0 ≡ get_or regs' r 0 = untouched before loaded r ws regs' after writes.2 ends.0 in
          let same : get_or regs' r 0 ≡ x % 2 ^ 64 = set_here regs w.0 r (x % 2 ^ 64) (eqb-true w.0 r here) inside in
          (x, rw ends.1 at writes.1, left ∙ same)
      | false ↦ λ away one.
          let still : r < length regs' = rw length-set inside in
          wrote before loaded r v ws regs' after writes.2 still one
    ] refl one

-- a move that is written is never `Keep`
never_keep : (effect : Effect) (sp : ℕ) (links : Bool) (distance : Option ℕ)
    → (if links then Other else move_by effect sp distance) ≡ Keep → ⊥
never_keep effect sp true distance is = cc
never_keep effect sp false None is = cc
never_keep effect sp false (Some d) is =
    elim (is_stack_move effect sp d) as (λ moves. (if moves then By (signed 64 d) else Other) ≡ Keep → ⊥) [
      | true ↦ λ bad. cc
      | false ↦ λ bad. cc
    ] is

sp_unwritten : (effect : Effect) (sp : ℕ) → sp_move_of effect sp ≡ Keep → writes_register effect sp ≡ false
sp_unwritten effect sp is =
    elim (writes_register effect sp) as (λ some. (if not some then Keep
    else (if is_named sp (link_of effect.next) then Other
    else move_by effect sp (option_and_then (added_to sp) (sole (written_to sp effect.writes.items))))) ≡ Keep → some ≡ false) [
      | true ↦ λ bad. absurd (never_keep effect sp _ _ bad)
      | false ↦ λ _. refl
    ] is

pub flow_keeps : (effect : Effect) (shape : Shape) → (flow_of effect shape).sp ≡ Keep → KeepsRegister effect shape.sp
unfolding flow_of
flow_keeps effect shape keep = keeps effect shape.sp (sp_unwritten effect shape.sp keep)

-- the move by a constant
Moved : Effect → ℕ → ℤ → Option ℕ → Type 0
Moved effect sp k distance = (d : ℕ) × (distance ≡ Some d) × (signed 64 d ≡ k)

moved : (effect : Effect) (sp : ℕ) (k : ℤ) (distance : Option ℕ) → move_by effect sp distance ≡ By k
    → Moved effect sp k distance
unfolding Moved
moved effect sp k None is = cc
moved effect sp k (Some d) is =
    elim (is_stack_move effect sp d) as (λ moves. (if moves then By (signed 64 d) else Other) ≡ By k
    → (e : ℕ) × (Some d ≡ Some e) × (signed 64 e ≡ k)) [
      | true ↦ λ same. (d, refl, cc)
      | false ↦ λ bad. cc
    ] is

SpMoved : Effect → ℕ → ℤ → Type 0
SpMoved effect sp k =
    (is_named sp (link_of effect.next) ≡ false)
    × Moved effect sp k (option_and_then (added_to sp) (sole (written_to sp effect.writes.items)))

sp_moved : (effect : Effect) (sp : ℕ) (k : ℤ) → sp_move_of effect sp ≡ By k → SpMoved effect sp k
unfolding SpMoved
sp_moved effect sp k is =
    elim (writes_register effect sp) as (λ some. (if not some then Keep
    else (if is_named sp (link_of effect.next) then Other
    else move_by effect sp (option_and_then (added_to sp) (sole (written_to sp effect.writes.items))))) ≡ By k
    → (is_named sp (link_of effect.next) ≡ false)
    × Moved effect sp k (option_and_then (added_to sp) (sole (written_to sp effect.writes.items)))) [
      | true ↦ λ is.
          elim (is_named sp (link_of effect.next)) as (λ links. (if links then Other
          else move_by effect sp (option_and_then (added_to sp) (sole (written_to sp effect.writes.items)))) ≡ By k
          → (links ≡ false) × Moved effect sp k (option_and_then (added_to sp) (sole (written_to sp effect.writes.items)))) [
            | true ↦ λ bad. cc
            | false ↦ λ is. (refl, moved effect sp k _ is)
          ] is
      | false ↦ λ bad. cc
    ] is

-- the value behind a distance that was found
found_value : (sp d : ℕ) (one : Option Value) → option_and_then (added_to sp) one ≡ Some d
    → (v : Value) × (one ≡ Some v) × (added_to sp v ≡ Some d)
found_value sp d None is = cc
found_value sp d (Some v) is = (v, refl, is)

after_constant : (before : State) (loaded r d : ℕ) (a b : Atom) → constant_after r a b ≡ Some d
    → (atom_of before loaded a ≡ reg_of before r) × (atom_of before loaded b ≡ d)
after_constant before loaded r d (Reg first) (Const second) is =
    elim (first == r) as (λ same. (first == r) ≡ same → (if same then Some second else None) ≡ Some d
    → (reg_of before first ≡ reg_of before r) × (second ≡ d)) [
      | true ↦ λ same is. (ap (λ n. reg_of before n) (eqb-true first r same), cc)
      | false ↦ λ _ bad. cc
    ] refl is
after_constant before loaded r d (Reg first) (Reg second) is = cc
after_constant before loaded r d (Reg first) Loaded is = cc
after_constant before loaded r d (Reg first) (Wide second) is = cc
after_constant before loaded r d (Const first) b is = cc
after_constant before loaded r d Loaded b is = cc
after_constant before loaded r d (Wide first) b is = cc

sum_added : (a b d r x : ℕ) → a ≡ r → b ≡ d → x ≡ (a + b) % 2 ^ 64 → x % 2 ^ 64 ≡ (r + d) % 2 ^ 64
sum_added a b d r x at by is = omega arith

difference_added : (a b c d r x : ℕ) → a ≡ r → b ≡ c → (2 ^ 64 - c % 2 ^ 64) % 2 ^ 64 ≡ d → x ≡ difference 64 a b 0
    → x % 2 ^ 64 ≡ (r + d) % 2 ^ 64
difference_added a b c d r x at by found is = omega arith

-- the value of a register's sum or difference with a constant
Adds : State → ℕ → ℕ → ℕ → Type 0
Adds before r d x = x % 2 ^ 64 ≡ (reg_of before r + d) % 2 ^ 64

module _ (before : State) (loaded r d x : ℕ) (a b c : Atom) where
  AddsBy : Op → Type 0
  AddsBy o = added_by r o a b ≡ Some d
      → IsOutcome (operate (holds before loaded) before.flags.carry o 64 (atom_of before loaded a) (atom_of before loaded b) (atom_of before loaded c)) x
      → Adds before r d x

  adds_by : (o : Op) → AddsBy o
  unfolding AddsBy Adds operate
  adds_by op.Add is gives =
      elim (constant_after r a b) as (λ first. constant_after r a b ≡ first → option_or first (constant_after r b a) ≡ Some d
      → x % 2 ^ 64 ≡ (reg_of before r + d) % 2 ^ 64) [
        | Some e ↦ λ first is.
            let at = after_constant before loaded r e a b first in
            let same : e ≡ d = cc in
            sum_added (atom_of before loaded a) (atom_of before loaded b) d (reg_of before r) x at.0 (at.1 ∙ same) gives
        | None ↦ λ _ second.
            let at = after_constant before loaded r d b a second in
            let turned : x ≡ (atom_of before loaded b + atom_of before loaded a) % 2 ^ 64 = omega arith in
            sum_added (atom_of before loaded b) (atom_of before loaded a) d (reg_of before r) x at.0 at.1 turned
      ] refl is
  adds_by op.Subtract is gives =
      elim (constant_after r a b) as (λ first. constant_after r a b ≡ first
      → option_map (λ c. (2 ^ 64 - c % 2 ^ 64) % 2 ^ 64) first ≡ Some d
      → x % 2 ^ 64 ≡ (reg_of before r + d) % 2 ^ 64) [
        | Some e ↦ λ first is.
            let at = after_constant before loaded r e a b first in
            let same : (2 ^ 64 - e % 2 ^ 64) % 2 ^ 64 ≡ d = cc in
            difference_added (atom_of before loaded a) (atom_of before loaded b) e d (reg_of before r) x at.0 at.1 same gives
        | None ↦ λ _ bad. cc
      ] refl is
  adds_by _ is gives = cc

-- a value that is a register plus d
value_adds : (before : State) (loaded r d x : ℕ) (v : Value) → added_to r v ≡ Some d → Gives before loaded v x
    → Adds before r d x
unfolding AddsBy
value_adds before loaded r d x v is gives =
    elim (v.width == 64) as (λ wide. (v.width == 64) ≡ wide → (if wide then added_by r v.op v.a v.b else None) ≡ Some d
    → Adds before r d x) [
      | true ↦ λ wide is.
          let whole : v.width ≡ 64 = eqb-true v.width 64 wide in
          let gives' : IsOutcome (operate (holds before loaded) before.flags.carry v.op 64 (atom_of before loaded v.a) (atom_of before loaded v.b) (atom_of before loaded v.c)) x
          = rw whole at gives in
          adds_by before loaded r d x v.a v.b v.c v.op is gives'
      | false ↦ λ _ bad. cc
    ] refl is

-- a distance that is read as a signed number stays the same modulo 2 ^ 64
unsigned-signed : (d : ℕ) → unsigned 64 (signed 64 d) ≡ d % 2 ^ 64
unsigned-signed d =
    elim (nat_lt (2 * (d % 2 ^ 64)) (2 ^ 64)) as (λ low. unsigned 64 (if low then pos (d % 2 ^ 64) else negsuc (2 ^ 64 - 1 - d % 2 ^ 64)) ≡ d % 2 ^ 64) [
      | true ↦ omega arith
      | false ↦ omega arith
    ]

final_move : (reg d x u final : ℕ) → x % 2 ^ 64 ≡ (reg + d) % 2 ^ 64 → u ≡ d % 2 ^ 64 → final ≡ x % 2 ^ 64
    → final ≡ (reg + u) % 2 ^ 64
final_move reg d x u final adds same is = omega arith

pub flow_moves : (effect : Effect) (shape : Shape) (k : ℤ) → (flow_of effect shape).sp ≡ By k → MovesRegister effect shape.sp k
unfolding flow_of SpMoved Moved Wrote Adds
flow_moves effect shape k by past before after state inside applies =
    let how = sp_moved effect shape.sp k by in
    let d : ℕ = how.1.0 in
    let value = found_value shape.sp d (sole (written_to shape.sp effect.writes.items)) how.1.1 in
    let within : shape.sp < length before.regs = rw state.regs_len inside in
    let wrote_it = wrote before applies.loaded shape.sp value.0 effect.writes.items before.regs applies.written applies.writes within value.1 in
    let adds = value_adds before applies.loaded shape.sp d wrote_it.0 value.0 value.2 wrote_it.1 in
    let linked : get_or after.regs shape.sp 0 ≡ get_or applies.written shape.sp 0
    = ap (λ xs. get_or xs shape.sp 0) applies.regs ∙ unlinked shape.sp past (link_of effect.next) applies.written how.0 in
    let same : unsigned 64 k ≡ d % 2 ^ 64 = rw how.1.2 at (unsigned-signed d) in
    linked ∙ final_move (get_or before.regs shape.sp 0) d wrote_it.0 (unsigned 64 k) (get_or applies.written shape.sp 0) adds same wrote_it.2

pub flow_keeps_link : (effect : Effect) (shape : Shape)
    → IfSome shape.link (λ link. (flow_of effect shape).writes_link ≡ false → KeepsRegister effect link)
unfolding flow_of
flow_keeps_link effect shape =
    elim shape.link as (λ some. IfSome some (λ link. of_link some (writes_register effect) ≡ false → KeepsRegister effect link)) [
      | Some link ↦ λ none. keeps effect link none
      | None ↦ tt
    ]

copy_op : (o : Op) → is_copy o ≡ true → o ≡ op.Copy
copy_op op.Copy is = refl
copy_op _ is = absurd (false≢true is)

register_atom : (r : ℕ) (a : Atom) → is_register r a ≡ true → a ≡ Reg r
register_atom r (Reg first) is = ap Reg (eqb-true first r is)
register_atom r (Const number) is = absurd (false≢true is)
register_atom r Loaded is = absurd (false≢true is)
register_atom r (Wide number) is = absurd (false≢true is)

stores_copy : (effect : Effect) (r : ℕ) → StoresCopy effect r → stores_register r effect.store ≡ true
stores_copy effect r copy =
    rw (copy.store, copy.bytes, copy.copy, copy.from, le-leb 64 copy.value.width copy.whole, eq-eqb r r refl) refl

copy_stored : (effect : Effect) (r : ℕ) → stores_register r effect.store ≡ true → StoresCopy effect r
copy_stored effect r is =
    elim effect.store as (λ some. effect.store ≡ some → stores_register r some ≡ true → StoresCopy effect r) [
      | Some store ↦ λ stands is.
          let parts = and_parts (store.0.width == 8) (is_copy_of r store.1) is in
          let value = and_parts (is_copy store.1.op && nat_le 64 store.1.width) (is_register r store.1.a) parts.1 in
          let op = and_parts (is_copy store.1.op) (nat_le 64 store.1.width) value.0 in
          record {
            access = store.0;
            value = store.1;
            store = stands;
            bytes = eqb-true store.0.width 8 parts.0;
            copy = copy_op store.1.op op.0;
            from = register_atom r store.1.a value.1;
            whole = leb-true 64 store.1.width op.1;
          }
      | None ↦ λ _ bad. absurd (false≢true bad)
    ] refl is

pub flow_unstored : (effect : Effect) (shape : Shape)
    → IfSome shape.link (λ link. (flow_of effect shape).stores_link ≡ false → ¬ StoresCopy effect link)
unfolding flow_of
flow_unstored effect shape =
    elim shape.link as (λ some. IfSome some (λ link. of_link some (λ r. stores_register r effect.store) ≡ false → ¬ StoresCopy effect link)) [
      | Some link ↦ λ none copy. false≢true (sym none ∙ stores_copy effect link copy)
      | None ↦ tt
    ]

pub flow_stored : (effect : Effect) (shape : Shape)
    → IfSome shape.link (λ link. (flow_of effect shape).stores_link ≡ true → StoresCopy effect link)
unfolding flow_of
flow_stored effect shape =
    elim shape.link as (λ some. IfSome some (λ link. of_link some (λ r. stores_register r effect.store) ≡ true → StoresCopy effect link)) [
      | Some link ↦ λ some. copy_stored effect link some
      | None ↦ tt
    ]

use Rattle.std.proofs.Common.{◌≡◌, ℕ, zero, suc, ◌+◌, ◌-◌, ◌*◌, ◌%◌, ◌^◌, ◌<◌, ◌≤◌, List, ◌∷◌, length, get_or, set, Option, Some, None, refl, ap, ◌∙◌, arith, add-zero, ⊎_elim, get_or-set_other}
use Rattle.std.proofs.lemmas.Bool.{cases_lt}
use Rattle.std.proofs.lemmas.Nat.{pow-add}
use Rattle.std.specs.Option.{option_map, option_and_then}
use Rattle.machine_effect.specs.declared.state.State.{State}
use Rattle.machine_effect.specs.declared.effect.Effect.{Effect}
use Rattle.machine_effect.specs.declared.effect.Access.{Access}
use Rattle.machine_effect.specs.declared.effect.Atom.{Atom}
use Rattle.machine_effect.specs.declared.effect.Value.{Value}
use Rattle.machine_effect.specs.declared.op.Op.TheVariants.{Copy, Add, Subtract}
use Rattle.machine_effect.specs.Memory.{Memory, byte_at, bytes_at, number_at, word_at, number_of, bytes_of, put}
use Rattle.machine_effect.specs.Operations.{operate, difference}
use Rattle.machine_effect.specs.Values.{atom_of}
use Rattle.machine_effect.specs.Applies.{IsState, Stores, with_link, link_of, address_of}
use Rattle.machine_effect.specs.Steps.{LinksThrough, WritesOne, WritesValue, IsWord, GivesOnly}
use Rattle.machine_effect.specs.Stores.{HasLowNumbers, BytesStay, StoreMisses, LeavesMissed, LoadsNumber}
use Rattle.machine_effect.proofs.FlowLemmas.{set_here}
use Rattle.machine_effect.proofs.MemoryLemmas.{byte_at-put, below, above}
use Rattle.machine_effect.proofs.StateLemmas.{IsFile, writes_file, IsFineMemory, length-bytes_of}

pub links : (effect : Effect) (link : ℕ) → link_of effect.next ≡ Some link → LinksThrough effect link
links effect link is past before after state low applies =
    let written : IsFile 33 64 applies.written
    = writes_file before applies.loaded effect.writes.items before.regs applies.written applies.writes (state.regs_len, state.regs) in
    let inside : link < length applies.written = rw written.0 low in
    ap (λ xs. get_or xs link 0) (applies.regs ∙ ap (λ l. with_link l past applies.written) is)
    ∙ set_here applies.written link link past refl inside

pub writes_value : (effect : Effect) (register : ℕ) (value : Value) → WritesOne effect register value → WritesValue effect register value
writes_value effect register value one past before after state low applies =
    let wrote = rw one.writes at applies.writes in
    let regs : after.regs ≡ set before.regs register (wrote.0 % 2 ^ 64)
    = applies.regs ∙ ap (λ l. with_link l past applies.written) one.unlinked ∙ wrote.2 in
    let inside : register < length before.regs = rw state.regs_len low in
    record {
      number = wrote.0;
      gives = wrote.1;
      here = ap (λ xs. get_or xs register 0) regs ∙ set_here before.regs register register (wrote.0 % 2 ^ 64) refl inside;
      others = λ other apart. ap (λ xs. get_or xs other 0) regs ∙ get_or-set_other before.regs register other (wrote.0 % 2 ^ 64) 0 apart;
    }

pub copy_gives : (value : Value) (a b : Atom) → IsWord value Copy a b → GivesOnly value (λ state loaded. atom_of state loaded a % 2 ^ 64)
unfolding operate
copy_gives value a b is state loaded x gives = rw (is.op, is.a, is.width) at gives

pub sum_gives : (value : Value) (a b : Atom) → IsWord value Add a b
    → GivesOnly value (λ state loaded. (atom_of state loaded a + atom_of state loaded b) % 2 ^ 64)
unfolding operate
sum_gives value a b is state loaded x gives = rw (is.op, is.a, is.b, is.width) at gives

less : (a b x : ℕ) → x ≡ difference 64 a b 0 → x ≡ (a + (2 ^ 64 - b % 2 ^ 64)) % 2 ^ 64
less a b x is = omega arith

pub difference_gives : (value : Value) (a b : Atom) → IsWord value Subtract a b
    → GivesOnly value (λ state loaded. (atom_of state loaded a + (2 ^ 64 - atom_of state loaded b % 2 ^ 64)) % 2 ^ 64)
unfolding operate
difference_gives value a b is state loaded x gives =
    less (atom_of state loaded a) (atom_of state loaded b) x (rw (is.op, is.a, is.b, is.width) at gives)

pub loads : (effect : Effect) (access : Access) → effect.load ≡ Some access → LoadsNumber effect access
loads effect access is past before after applies = rw is at applies.loads

-- one more byte below a number
digit : (byte rest high : ℕ) → byte < 256 → rest < high → byte + 256 * rest < 256 * high
digit byte rest high low less = omega arith

bytes_low : (m : Memory) (count at number : ℕ) → IsFineMemory m → number_at m at count ≡ Some number → number < 2 ^ (8 * count)
unfolding bytes_at number_of
bytes_low m zero at number fine is = let none : 0 ≡ number = cc in omega arith
bytes_low m (suc count) at number fine is =
    elim (byte_at m at) as (λ first. byte_at m at ≡ first
    → option_map number_of (option_and_then (λ byte. option_map (λ rest. byte ∷ rest) (bytes_at m (at + 1) count)) first) ≡ Some number
    → number < 2 ^ (8 * suc count)) [
      | Some byte ↦ λ has is.
          elim (bytes_at m (at + 1) count) as (λ others. bytes_at m (at + 1) count ≡ others
          → option_map number_of (option_map (λ rest. byte ∷ rest) others) ≡ Some number → number < 2 ^ (8 * suc count)) [
            | Some rest ↦ λ stand is.
                let low : byte < 2 ^ 8 = (fine at byte has).1 in
                let less : number_of rest < 2 ^ (8 * count) = bytes_low m count (at + 1) (number_of rest) fine (rw stand refl) in
                let same : byte + 256 * number_of rest ≡ number = cc in
                let wide : 8 * suc count ≡ 8 + 8 * count = omega arith in
                let split : 2 ^ (8 * suc count) ≡ 256 * 2 ^ (8 * count) = ap (λ n. 2 ^ n) wide ∙ pow-add 2 8 (8 * count) in
                rw split (rw same at (digit byte (number_of rest) (2 ^ (8 * count)) low less))
            | None ↦ λ _ bad. cc
          ] refl is
      | None ↦ λ _ bad. cc
    ] refl is

pub numbers_low : (state : State) (width : ℕ) → IsState state → HasLowNumbers state width
numbers_low state width fine at number is =
    bytes_low state.mem width at number (λ at byte is. (fine.addresses at byte is, fine.bytes at byte is)) is

pub word_low : (state : State) (at word : ℕ) → IsState state → word_at state.mem at ≡ Some word → word < 2 ^ 64
word_low state at word fine is = numbers_low state 8 fine at word is

put_misses : (m : Memory) (to : ℕ) (bytes : List ℕ) (q : ℕ) → ((to + length bytes ≤ q → ⊥) → q < to) → byte_at (put m to bytes) q ≡ byte_at m q
put_misses m to bytes q apart =
    byte_at-put bytes m to q
    ∙ ⊎_elim (λ less. rw (below to (length bytes) q less) refl)
    (λ _. ⊎_elim (λ short. let less : q < to = apart (λ past. omega arith) in rw (below to (length bytes) q less) refl)
    (λ past. rw (above to (length bytes) q past) refl)
    (cases_lt q (to + length bytes)))
    (cases_lt q to)

missed : (before : State) (loaded : ℕ) (store : Option (Access × Value)) (after : Memory) (at count : ℕ)
    → Stores before loaded store after → StoreMisses before loaded store at count → BytesStay before.mem after at count
missed before loaded None after at count stores misses k low = ap (λ m. byte_at m (at + k)) stores
missed before loaded (Some store) after at count stores misses k low =
    let to : ℕ = address_of before loaded store.0 in
    let bytes : List ℕ = bytes_of store.0.width stores.1.0 in
    let size : length bytes ≡ store.0.width = length-bytes_of store.0.width stores.1.0 in
    ap (λ m. byte_at m (at + k)) stores.1.2
    ∙ put_misses before.mem to bytes (at + k) (λ short.
    ⊎_elim (λ under. absurd (short (omega arith))) (λ over. omega arith) misses)

pub leaves_missed : (effect : Effect) → LeavesMissed effect
leaves_missed effect past before after at count applies = missed before applies.loaded effect.store after.mem at count applies.mem

bytes_same : (before after : Memory) (count at : ℕ) → BytesStay before after at count → bytes_at after at count ≡ bytes_at before at count
unfolding bytes_at
bytes_same before after zero at stay = refl
bytes_same before after (suc count) at stay =
    let first : byte_at after at ≡ byte_at before at = rw add-zero at (stay 0 (omega arith)) in
    let rest : bytes_at after (at + 1) count ≡ bytes_at before (at + 1) count
    = bytes_same before after count (at + 1) (λ k low.
    let place : at + 1 + k ≡ at + suc k = omega arith in rw place (stay (suc k) (omega arith))) in
    rw (first, rest) refl

pub number_stays : (before after : Memory) (at count : ℕ) → BytesStay before after at count → number_at after at count ≡ number_at before at count
number_stays before after at count stay = ap (λ bytes. option_map number_of bytes) (bytes_same before after count at stay)

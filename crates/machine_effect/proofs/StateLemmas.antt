use Rattle.std.proofs.Common.{◌≡◌, ℕ, zero, suc, ◌+◌, ◌-◌, ◌*◌, ◌/◌, ◌%◌, ◌^◌, ◌<◌, ◌≤◌, true, false, List, [], ◌∷◌, length, get_or, set, slice_get, Option, Some, None, IsSome, refl, sym, ap, ◌∙◌, arith, add-zero, if◌then◌else◌, ⊎_elim, length-set, get_or-set_other}
use Rattle.std.proofs.lemmas.Bool.{cases_eq, cases_lt, and_parts, leb-true, false≢true}
use Rattle.std.proofs.lemmas.List.{set_past}
use Rattle.std.proofs.lemmas.Option.{slice_get_within, some_pair_parts, IfSome_then}
use Rattle.std.proofs.lemmas.Nat.{xor_lt, mod_below, pow_pos, mod-pow-add}
use Rattle.std.proofs.Math.Nat.{mod-eq_of_lt}
use Rattle.std.proofs.Math.Pow.{pow_mono}
use Rattle.machine_effect.specs.declared.state.State.{State}
use Rattle.machine_effect.specs.declared.effect.Effect.{Effect}
use Rattle.machine_effect.specs.declared.effect.Access.{Access}
use Rattle.machine_effect.specs.declared.effect.Value.{Value}
use Rattle.machine_effect.specs.declared.effect.WideValue.{WideValue}
use Rattle.machine_effect.specs.declared.effect.WideValue.TheVariants.{Loaded, Xor}
use Rattle.machine_effect.specs.Memory.{Memory, byte_at, bytes_at, number_at, number_of, bytes_of, IsMapped, put, is_within}
use Rattle.machine_effect.specs.declared.effect.Atom.TheVariants.{Reg}
use Rattle.machine_effect.specs.declared.op.Op.TheVariants.{Copy}
use Rattle.machine_effect.specs.Operations.{operate}
use Rattle.machine_effect.specs.Values.{reg_of, Gives}
use Rattle.machine_effect.specs.declared.flow.Shape.{Shape}
use Rattle.machine_effect.specs.Flow.{flow_of}
use Rattle.machine_effect.specs.Steps.{StoresCopy, SavesRegister, FlowTells}
use Rattle.machine_effect.specs.Applies.{IsState, Applies, Writes, with_link, link_of, with_wide, wide_of, Stores, address_of}
use Rattle.machine_effect.proofs.FlowLemmas.{set_here, flow_keeps, flow_moves, flow_keeps_link, flow_unstored, flow_stored}
use Rattle.machine_effect.proofs.MemoryLemmas.{byte_at-put, inside}

-- a register written below a bound leaves all of them below it
set_below : (regs : List ℕ) (i x bound : ℕ) → ((r : ℕ) → get_or regs r 0 < bound) → x < bound
    → (r : ℕ) → get_or (set regs i x) r 0 < bound
set_below regs i x bound small low r =
    ⊎_elim (λ inside. ⊎_elim (λ same. rw (set_here regs i r x (sym same) inside) low)
    (λ apart. rw (get_or-set_other regs i r x 0 apart) (small r))
    (cases_eq r i))
    (λ past. ⊎_elim (λ same. let end : length regs ≤ i = omega arith in rw (set_past regs i x end) (small r))
    (λ apart. rw (get_or-set_other regs i r x 0 apart) (small r))
    (cases_eq r i))
    (cases_lt r (length regs))

-- a list of this many registers of w bits
abbrev pub IsFile : ℕ → ℕ → List ℕ → Type 0
IsFile count w regs = (length regs ≡ count) × ((r : ℕ) → get_or regs r 0 < 2 ^ w)

set_file : (count w : ℕ) (regs : List ℕ) (i x : ℕ) → IsFile count w regs → x < 2 ^ w → IsFile count w (set regs i x)
set_file count w regs i x file low = (length-set regs i x ∙ file.0, set_below regs i x (2 ^ w) file.1 low)

pub writes_file : (before : State) (loaded : ℕ) (ws : List (ℕ × Value)) (regs after : List ℕ)
    → Writes before loaded ws regs after → IsFile 33 64 regs → IsFile 33 64 after
writes_file before loaded [] regs after writes file = rw writes file
writes_file before loaded (w ∷ ws) regs after writes file =
    writes_file before loaded ws (set regs w.0 (writes.0 % 2 ^ 64)) after writes.2
    (set_file 33 64 regs w.0 (writes.0 % 2 ^ 64) file (mod_below writes.0 (2 ^ 64) (pow_pos 64)))

link_file : (link : Option ℕ) (past : ℕ) (regs : List ℕ) → past < 2 ^ 64 → IsFile 33 64 regs
    → IsFile 33 64 (with_link link past regs)
link_file (Some link) past regs low file = set_file 33 64 regs link past file low
link_file None past regs low file = file

wide_below : (state : State) (loaded : ℕ) (value : WideValue) → ((r : ℕ) → get_or state.wide r 0 < 2 ^ 128)
    → wide_of state loaded value < 2 ^ 128
wide_below state loaded Loaded small = mod_below loaded (2 ^ 128) (pow_pos 128)
wide_below state loaded (Xor a b) small = xor_lt 128 (get_or state.wide a 0) (get_or state.wide b 0) (small a) (small b)

wide_file : (state : State) (loaded : ℕ) (write : Option (ℕ × WideValue)) → IsFile 16 128 state.wide
    → IsFile 16 128 (with_wide state loaded write)
wide_file state loaded None file = file
wide_file state loaded (Some write) file =
    set_file 16 128 state.wide write.0 (wide_of state loaded write.1) file (wide_below state loaded write.1 file.1)

pub length-bytes_of : (n x : ℕ) → length (bytes_of n x) ≡ n
unfolding bytes_of
length-bytes_of zero x = refl
length-bytes_of (suc n) x = ap suc (length-bytes_of n (x / 256))

bytes_of_below : (n x k byte : ℕ) → slice_get (bytes_of n x) k ≡ Some byte → byte < 2 ^ 8
unfolding bytes_of
bytes_of_below zero x k byte is = cc
bytes_of_below (suc n) x zero byte is =
    let same : x % 256 ≡ byte = cc in let low : x % 256 < 256 = omega arith in omega arith
bytes_of_below (suc n) x (suc k) byte is = bytes_of_below n (x / 256) k byte is

-- the bytes of a memory are bytes, and their addresses have 64 bits
abbrev pub IsFineMemory : Memory → Type 0
IsFineMemory m = (at byte : ℕ) → byte_at m at ≡ Some byte → (at < 2 ^ 64) × (byte < 2 ^ 8)

-- an address that has a byte
mapped_address : (m : Memory) (q : ℕ) → IsFineMemory m → IsSome (byte_at m q) → q < 2 ^ 64
mapped_address m q fine =
    elim (byte_at m q) as (λ some. byte_at m q ≡ some → IsSome some → q < 2 ^ 64) [
      | Some byte ↦ λ is _. (fine q byte is).0
      | None ↦ λ _ bad. absurd (false≢true bad)
    ] refl

put_fine : (m : Memory) (at n x : ℕ) → IsFineMemory m → IsMapped m at n → IsFineMemory (put m at (bytes_of n x))
put_fine m at n x fine mapped q byte is =
    let told : (if is_within at (length (bytes_of n x)) q then slice_get (bytes_of n x) (q - at) else byte_at m q) ≡ Some byte
    = sym (byte_at-put (bytes_of n x) m at q) ∙ is in
    elim (is_within at (length (bytes_of n x)) q) as (λ within. is_within at (length (bytes_of n x)) q ≡ within
    → (if within then slice_get (bytes_of n x) (q - at) else byte_at m q) ≡ Some byte → (q < 2 ^ 64) × (byte < 2 ^ 8)) [
      | true ↦ λ within told.
          let parts = and_parts _ _ within in
          let from : at ≤ q = leb-true at q parts.0 in
          let short : q - at < length (bytes_of n x) = slice_get_within (bytes_of n x) (q - at) byte told in
          let count : length (bytes_of n x) ≡ n = length-bytes_of n x in
          let near : q - at < n = omega arith in
          let same : at + (q - at) ≡ q = omega arith in
          (mapped_address m q fine (rw same at (mapped (q - at) near)), bytes_of_below n x (q - at) byte told)
      | false ↦ λ _ told. fine q byte told
    ] refl told

stores_fine : (before : State) (loaded : ℕ) (store : Option (Access × Value)) (after : Memory)
    → Stores before loaded store after → IsFineMemory before.mem → IsFineMemory after
stores_fine before loaded None after stores fine = rw stores fine
stores_fine before loaded (Some store) after stores fine =
    rw stores.1.2 (put_fine before.mem (address_of before loaded store.0) store.0.width stores.1.0 fine stores.0)

pub state_stays : (effect : Effect) (past : ℕ) (before after : State)
    → IsState before → past < 2 ^ 64 → after.pc < 2 ^ 64 → Applies effect past before after → IsState after
state_stays effect past before after state low pc applies =
    let written : IsFile 33 64 applies.written
    = writes_file before applies.loaded effect.writes.items before.regs applies.written applies.writes (state.regs_len, state.regs) in
    let regs : IsFile 33 64 after.regs = rw applies.regs (link_file (link_of effect.next) past applies.written low written) in
    let wide : IsFile 16 128 after.wide
    = rw applies.wide (wide_file before applies.loaded effect.wide (state.wide_len, state.wide)) in
    let fine : IsFineMemory after.mem
    = stores_fine before applies.loaded effect.store after.mem applies.mem
    (λ at byte is. (state.addresses at byte is, state.bytes at byte is)) in
    record {
      pc = pc;
      regs_len = regs.0;
      regs = regs.1;
      wide_len = wide.0;
      wide = wide.1;
      addresses = λ at byte is. (fine at byte is).0;
      bytes = λ at byte is. (fine at byte is).1;
    }

-- the number behind its lowest bytes
number_of-bytes_of : (n x : ℕ) → number_of (bytes_of n x) ≡ x % 2 ^ (8 * n)
unfolding number_of bytes_of
number_of-bytes_of zero x = omega arith
number_of-bytes_of (suc n) x =
    let rest = number_of-bytes_of n (x / 256) in
    let split = mod-pow-add x (8 * n) 8 in
    let wide : 8 * suc n ≡ 8 * n + 8 = omega arith in
    rw (rest, wide, split) (omega arith)

-- bytes that stand one after another
bytes_at-list : (bytes : List ℕ) (m : Memory) (at : ℕ) → ((k : ℕ) → k < length bytes → byte_at m (at + k) ≡ slice_get bytes k)
    → bytes_at m at (length bytes) ≡ Some bytes
unfolding bytes_at
bytes_at-list [] m at stand = refl
bytes_at-list (byte ∷ bytes) m at stand =
    let first : byte_at m at ≡ Some byte = rw add-zero at (stand 0 (omega arith)) in
    let rest : bytes_at m (at + 1) (length bytes) ≡ Some bytes
    = bytes_at-list bytes m (at + 1) (λ k low.
    let place : at + 1 + k ≡ at + suc k = omega arith in rw place (stand (suc k) (omega arith))) in
    rw (first, rest) refl

bytes_at-put : (bytes : List ℕ) (m : Memory) (at : ℕ) → bytes_at (put m at bytes) at (length bytes) ≡ Some bytes
bytes_at-put bytes m at =
    bytes_at-list bytes (put m at bytes) at (λ k low.
    let from : at ≤ at + k = omega arith in
    let short : at + k < at + length bytes = omega arith in
    let place : at + k - at ≡ k = omega arith in
    byte_at-put bytes m at (at + k)
    ∙ rw (inside at (length bytes) (at + k) from short, place) refl)

pub number_at-put : (m : Memory) (at n x : ℕ) → number_at (put m at (bytes_of n x)) at n ≡ Some (x % 2 ^ (8 * n))
number_at-put m at n x =
    let found : bytes_at (put m at (bytes_of n x)) at n ≡ Some (bytes_of n x)
    = rw (length-bytes_of n x) at (bytes_at-put (bytes_of n x) m at) in
    rw found (ap Some (number_of-bytes_of n x))

-- what a copy of a register stores
copied : (before : State) (loaded r x : ℕ) (value : Value) → value.op ≡ Copy → value.a ≡ Reg r → 64 ≤ value.width
    → reg_of before r < 2 ^ 64 → Gives before loaded value x → x ≡ reg_of before r
unfolding operate
copied before loaded r x value copy from whole low gives =
    let is : x ≡ reg_of before r % 2 ^ value.width = rw (copy, from) at gives in
    let wide : 2 ^ 64 ≤ 2 ^ value.width = pow_mono whole in
    is ∙ mod-eq_of_lt (omega arith)

pub copy_saved : (effect : Effect) (r : ℕ) → StoresCopy effect r → SavesRegister effect r
copy_saved effect r copy past before after access value state store applies =
    let parts = some_pair_parts copy.access access copy.value value (sym copy.store ∙ store) in
    let stores : Stores before applies.loaded (Some (access, value)) after.mem = rw store at applies.mem in
    let eight : access.width ≡ 8 = ap (λ a. a.width) (sym parts.0) ∙ copy.bytes in
    let is : stores.1.0 ≡ reg_of before r
    = copied before applies.loaded r stores.1.0 value (ap (λ v. v.op) (sym parts.1) ∙ copy.copy)
    (ap (λ v. v.a) (sym parts.1) ∙ copy.from) (rw parts.1 at copy.whole) (state.regs r) stores.1.1 in
    let low : stores.1.0 % 2 ^ 64 ≡ reg_of before r = rw is (mod-eq_of_lt (state.regs r)) in
    rw (stores.1.2, eight) (number_at-put before.mem (address_of before applies.loaded access) 8 stores.1.0 ∙ ap Some low)

pub flow_tells : (effect : Effect) (shape : Shape) → FlowTells effect shape (flow_of effect shape)
flow_tells effect shape = record {
  keep = flow_keeps effect shape;
  by = flow_moves effect shape;
  link_kept = flow_keeps_link effect shape;
  link_unstored = flow_unstored effect shape;
  link_stored = flow_stored effect shape;
  link_saved = IfSome_then shape.link (flow_stored effect shape) (λ link copy stores. copy_saved effect link (copy stores));
}

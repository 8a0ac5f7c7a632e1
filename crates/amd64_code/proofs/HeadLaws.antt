-- The head of a spelling is read back, whatever follows.
use Rattle.std.specs.Prelude.{◌==◌, not, slice_index, if◌then◌else◌}
use Rattle.std.proofs.Common.{◌≡◌, ℕ, Bool, true, false, List, [], ◌∷◌, ◌++◌, ◌/◌, ◌%◌, ◌≤◌, ◌||◌, refl, sym, ap, ◌∙◌, arith}
use Rattle.std.proofs.lemmas.Bool.{ne_eqb, not-true, or_parts}
use Rattle.std.proofs.lemmas.List.{append_assoc}
use Rattle.amd64_table.specs.declared.instr.Instr.{Instr}
use Rattle.amd64_code.specs.declared.rex.Rex.{Rex}
use Rattle.amd64_code.specs.declared.head.Legacy.{Legacy}
use Rattle.amd64_code.specs.declared.head.Legacy.TheVariants.{Absent}
use Rattle.amd64_code.specs.declared.head.Opcode.{Opcode}
use Rattle.amd64_code.specs.declared.head.Opcode.TheVariants.{One, Two}
use Rattle.amd64_code.specs.declared.head.Head.{Head}
use Rattle.amd64_code.specs.Heads.{one_if, lock_bytes, legacy_bytes, rex_byte, rex_bytes, opcode_bytes, head_bytes, lock_in, behind_lock, legacy_in, behind_legacy, no_rex, rex_at, rex_in, behind_rex, opcode_in, behind_opcode}
use Rattle.amd64_code.specs.Reading.{reading, by_opcode, with_opcode, with_rex, with_legacy}

abbrev first : List ℕ → ℕ
first bytes = slice_index bytes 0

-- neither LOCK nor a prefix between LOCK and REX
record IsUnprefixed (byte : ℕ) : Type 0 where
  not_lock : (byte == 0xf0) ≡ false
  not_size : (byte == 0x66) ≡ false
  not_repeat : (byte == 0xf3) ≡ false
  not_segment : (byte == 0x64) ≡ false

-- an opcode of one byte is none of these, nor REX, nor 0F
abbrev pub is_opcode : Opcode → Bool
is_opcode (One byte) = not (byte == 0xf0 || byte == 0x66 || byte == 0xf3 || byte == 0x64 || byte / 16 == 4 || byte == 0x0f)
is_opcode (Two byte) = true

-- the opcode is read of what begins with it
record ReadsOpcode (opcode : Opcode) (tail found : List ℕ) : Type 0 where
  is : opcode_in found ≡ opcode
  behind : behind_opcode found ≡ tail
  unprefixed : IsUnprefixed (first found)
  not_rex : (first found / 16 == 4) ≡ false

opcode_read : (opcode : Opcode) (tail : List ℕ) → is_opcode opcode ≡ true → ReadsOpcode opcode tail (opcode_bytes opcode ++ tail)
opcode_read (One byte) tail fit =
    let upto_rex : Bool = byte == 0xf0 || byte == 0x66 || byte == 0xf3 || byte == 0x64 || byte / 16 == 4 in
    let upto_segment : Bool = byte == 0xf0 || byte == 0x66 || byte == 0xf3 || byte == 0x64 in
    let six = or_parts upto_rex (byte == 0x0f) (not-true (upto_rex || byte == 0x0f) fit) in
    let five = or_parts upto_segment (byte / 16 == 4) six.0 in
    let four = or_parts (byte == 0xf0 || byte == 0x66 || byte == 0xf3) (byte == 0x64) five.0 in
    let three = or_parts (byte == 0xf0 || byte == 0x66) (byte == 0xf3) four.0 in
    let two = or_parts (byte == 0xf0) (byte == 0x66) three.0 in record {
      is = rw six.1 refl;
      behind = rw six.1 refl;
      unprefixed = record { not_lock = two.0; not_size = two.1; not_repeat = three.1; not_segment = four.1 };
      not_rex = five.1;
    }
opcode_read (Two byte) tail fit = record {
  is = refl;
  behind = refl;
  unprefixed = record { not_lock = refl; not_size = refl; not_repeat = refl; not_segment = refl };
  not_rex = refl;
}

-- the bits of REX

bit_most : (bit : Bool) → one_if bit ≤ 1
bit_most true = omega arith
bit_most false = omega arith

bit_back : (bit : Bool) → (one_if bit == 1) ≡ bit
bit_back true = refl
bit_back false = refl

pub rex_row : (rex : Rex) → rex_byte rex / 16 ≡ 4
rex_row rex = omega (arith, bit_most rex.w, bit_most rex.r, bit_most rex.x, bit_most rex.b)

rex_back : (rex : Rex) → rex_at (rex_byte rex) ≡ rex
rex_back rex =
    let most_w = bit_most rex.w in
    let most_r = bit_most rex.r in
    let most_x = bit_most rex.x in
    let most_b = bit_most rex.b in
    let w : rex_byte rex / 8 % 2 ≡ one_if rex.w = omega (arith, most_w, most_r, most_x, most_b) in
    let r : rex_byte rex / 4 % 2 ≡ one_if rex.r = omega (arith, most_w, most_r, most_x, most_b) in
    let x : rex_byte rex / 2 % 2 ≡ one_if rex.x = omega (arith, most_w, most_r, most_x, most_b) in
    let b : rex_byte rex % 2 ≡ one_if rex.b = omega (arith, most_w, most_r, most_x, most_b) in
    rw (w, r, x, b, bit_back rex.w, bit_back rex.r, bit_back rex.x, bit_back rex.b) refl

row_unprefixed : (byte : ℕ) → byte / 16 ≡ 4 → IsUnprefixed byte
row_unprefixed byte row = record {
  not_lock = ne_eqb byte 0xf0 (omega arith);
  not_size = ne_eqb byte 0x66 (omega arith);
  not_repeat = ne_eqb byte 0xf3 (omega arith);
  not_segment = ne_eqb byte 0x64 (omega arith);
}

-- REX is read of what begins with it, and where it is left out
record ReadsRex (rex : Rex) (bytes found : List ℕ) : Type 0 where
  is : rex_in found ≡ rex
  behind : behind_rex found ≡ bytes
  unprefixed : IsUnprefixed (first found)

rex_cases : (stands : Bool) (rex : Rex) (bytes : List ℕ) → (stands ≡ false → rex ≡ no_rex)
    → (first bytes / 16 == 4) ≡ false → IsUnprefixed (first bytes)
    → ReadsRex rex bytes ((if stands then rex_byte rex ∷ [] else []) ++ bytes)
unfolding rex_in
rex_cases true rex bytes none row free = record {
  is = rw (rex_row rex) (rex_back rex);
  behind = rw (rex_row rex) refl;
  unprefixed = row_unprefixed (rex_byte rex) (rex_row rex);
}
rex_cases false rex bytes none row free =
    record { is = rw row (sym (none refl)); behind = rw row refl; unprefixed = free }

none_set : (bare w r x b : Bool) → (bare || w || r || x || b) ≡ false → record { w = w; r = r; x = x; b = b } ≡ no_rex
none_set true w r x b is = cc is
none_set false true r x b is = cc is
none_set false false true x b is = cc is
none_set false false false true b is = cc is
none_set false false false false true is = cc is
none_set false false false false false is = refl

rex_read : (bare : Bool) (rex : Rex) (bytes : List ℕ) → (first bytes / 16 == 4) ≡ false → IsUnprefixed (first bytes)
    → ReadsRex rex bytes (rex_bytes bare rex ++ bytes)
unfolding rex_bytes
rex_read bare rex bytes = rex_cases (bare || rex.w || rex.r || rex.x || rex.b) rex bytes (none_set bare rex.w rex.r rex.x rex.b)

-- the prefix between LOCK and REX is read of what begins with it, and where there is none
record ReadsLegacy (legacy : Legacy) (bytes found : List ℕ) : Type 0 where
  is : legacy_in found ≡ legacy
  behind : behind_legacy found ≡ bytes
  not_lock : (first found == 0xf0) ≡ false

legacy_read : (legacy : Legacy) (bytes : List ℕ) → IsUnprefixed (first bytes)
    → ReadsLegacy legacy bytes (legacy_bytes legacy ++ bytes)
unfolding legacy_in
legacy_read Absent bytes free = record {
  is = rw (free.not_size, free.not_repeat, free.not_segment) refl;
  behind = rw (free.not_size, free.not_repeat, free.not_segment) refl;
  not_lock = free.not_lock;
}
legacy_read _ bytes free = record { is = refl; behind = refl; not_lock = refl }

lock_read : (lock : Bool) (bytes : List ℕ) → (first bytes == 0xf0) ≡ false
    → (lock_in (lock_bytes lock ++ bytes) ≡ lock) × (behind_lock (lock_bytes lock ++ bytes) ≡ bytes)
lock_read true bytes free = (refl, refl)
lock_read false bytes free = (free, rw free refl)

-- the instruction that its fields make of a head and what is behind it
abbrev pub by_head : Head → List ℕ → Instr
by_head head tail = by_opcode head.lock head.legacy head.rex head.opcode tail

pub head_read : (head : Head) (tail : List ℕ) → is_opcode head.opcode ≡ true → reading (head_bytes head ++ tail) ≡ by_head head tail
unfolding reading head_bytes
head_read head tail fit =
    let code : List ℕ = opcode_bytes head.opcode ++ tail in
    let rexed : List ℕ = rex_bytes head.bare head.rex ++ code in
    let prefixed : List ℕ = legacy_bytes head.legacy ++ rexed in
    let opcode = opcode_read head.opcode tail fit in
    let rex = rex_read head.bare head.rex code opcode.not_rex opcode.unprefixed in
    let legacy = legacy_read head.legacy rexed rex.unprefixed in
    let lock = lock_read head.lock prefixed legacy.not_lock in
    let whole : head_bytes head ++ tail ≡ lock_bytes head.lock ++ prefixed = simp append_assoc refl in
    ap reading whole
    ∙ ap (λ found. with_legacy found (behind_lock (lock_bytes head.lock ++ prefixed))) lock.0
    ∙ ap (with_legacy head.lock) lock.1
    ∙ ap (λ found. with_rex head.lock found (behind_legacy prefixed)) legacy.is
    ∙ ap (with_rex head.lock head.legacy) legacy.behind
    ∙ ap (λ found. with_opcode head.lock head.legacy found (behind_rex rexed)) rex.is
    ∙ ap (with_opcode head.lock head.legacy head.rex) rex.behind
    ∙ ap (λ found. by_opcode head.lock head.legacy head.rex found (behind_opcode code)) opcode.is
    ∙ ap (by_head head) opcode.behind

-- What the header of a written table says.
use Rattle.std.proofs.Common.{◌≡◌, ℕ, ◌+◌, ◌-◌, ◌*◌, ◌^◌, ◌<◌, ◌≤◌, List, [], ◌∷◌, ◌++◌, length, get_or, refl, arith}
use Rattle.byteorder.specs.Endian.{little_bytes}
use Rattle.byteorder.specs.Numbers.{length-bytes_low_first}
use Rattle.byte_layout.specs.Stands.{Stands}
use Rattle.byte_layout.specs.Joined.{places}
use Rattle.byte_layout.proofs.StandsLemmas.{stands_all, stands_front, stands_back, stands_moved, stands_byte}
use Rattle.byte_layout.proofs.JoinedLemmas.{joined_front, joined_stands}
use Rattle.pclntab.specs.declared.parts.TableParts.{TableParts}
use Rattle.pclntab.specs.Words.{u32_at}
use Rattle.pclntab.specs.Places.{magic, line_size, quantum, pointer_size, func_count, text_start, names_start, units_start, files_start, pcs_start, funcs_start}
use Rattle.pclntab.specs.Written.{longs, tables, header_over, written_over, written}
use Rattle.pclntab.specs.Parts.{AreParts}
use Rattle.pclntab.proofs.LengthLemmas.{length-header, length-places, part_within, words_fit}
use Rattle.pclntab.proofs.ReadLemmas.{u32_read, long_read}

-- where the five tables begin
abbrev pub start_of : TableParts → ℕ → ℕ
start_of parts index = get_or (places 8 72 (tables parts)) index 0

abbrev numbers : TableParts → List ℕ
numbers parts = length parts.funcs ∷ length parts.files ∷ parts.text_start ∷ places 8 72 (tables parts)

pub part_stands : (parts : TableParts) (index : ℕ) → index < 5 → Stands (written parts) (start_of parts index) (get_or (tables parts) index [])
unfolding written written_over
part_stands parts index inside =
    joined_stands 8 72 (header_over parts (tables parts)) (tables parts) index (length-header parts (tables parts) refl) inside

pub header_stands : (parts : TableParts) → Stands (written parts) 0 (header_over parts (tables parts))
unfolding written written_over
header_stands parts =
    joined_front 8 0 (header_over parts (tables parts)) (header_over parts (tables parts)) (tables parts) (stands_all (header_over parts (tables parts)))

behind_magic : (parts : TableParts)
    → Stands (written parts) 4 ((0 ∷ 0 ∷ parts.quantum ∷ 8 ∷ []) ++ longs (numbers parts))
unfolding header_over
behind_magic parts =
    stands_moved (written parts) (0 + length (little_bytes 4 4294967281)) 4 ((0 ∷ 0 ∷ parts.quantum ∷ 8 ∷ []) ++ longs (numbers parts))
    (omega (arith, length-bytes_low_first 0 4 4294967281))
    (stands_back (written parts) 0 (little_bytes 4 4294967281) ((0 ∷ 0 ∷ parts.quantum ∷ 8 ∷ []) ++ longs (numbers parts)) (header_stands parts))

pub ident_stands : (parts : TableParts) → Stands (written parts) 4 (0 ∷ 0 ∷ parts.quantum ∷ 8 ∷ [])
ident_stands parts = stands_front (written parts) 4 (0 ∷ 0 ∷ parts.quantum ∷ 8 ∷ []) (longs (numbers parts)) (behind_magic parts)

longs_stand : (parts : TableParts) → Stands (written parts) 8 (longs (numbers parts))
longs_stand parts = stands_back (written parts) 4 (0 ∷ 0 ∷ parts.quantum ∷ 8 ∷ []) (longs (numbers parts)) (behind_magic parts)

pub magic_read : (parts : TableParts) → u32_at (written parts) 0 ≡ magic
unfolding header_over
magic_read parts =
    u32_read (written parts) 0 4294967281
    (stands_front (written parts) 0 (little_bytes 4 4294967281) ((0 ∷ 0 ∷ parts.quantum ∷ 8 ∷ []) ++ longs (numbers parts)) (header_stands parts))
    (omega arith)

pub start_within : (parts : TableParts) (index : ℕ) → index < 5 → start_of parts index ≤ length (written parts)
start_within parts index inside =
    let within : start_of parts index + length (get_or (tables parts) index []) ≤ length (written parts) = part_within parts index inside in
    omega arith

-- what a reader finds in the header
pub record Told (parts : TableParts) (bytes : List ℕ) : Type 0 where
  pub count : func_count bytes ≡ length parts.funcs
  pub text : text_start bytes ≡ parts.text_start
  pub names : names_start bytes ≡ start_of parts 0
  pub units : units_start bytes ≡ start_of parts 1
  pub files : files_start bytes ≡ start_of parts 2
  pub pcs : pcs_start bytes ≡ start_of parts 3
  pub funcs : funcs_start bytes ≡ start_of parts 4
  pub unit : quantum bytes ≡ parts.quantum
  pub pointer : pointer_size bytes ≡ 8
  pub line : line_size bytes ≡ 4

pub told : (parts : TableParts) → AreParts parts → Told parts (written parts)
unfolding line_size
told parts are =
    let fit = words_fit parts are in
    let short : length (written parts) < 2 ^ 32 = are.short in
    let start : parts.text_start ≤ 2 ^ 64 - 2 ^ 32 = are.text_start in
    let count : 8 * length parts.funcs + 4 + 44 * length parts.funcs < 2 ^ 32 = fit.funcs in
    let many : length (numbers parts) ≡ 8 = omega (arith, length-places 8 72 (tables parts)) in
    let stands = longs_stand parts in
    let ident = ident_stands parts in
    record {
      count = long_read (written parts) 8 (numbers parts) 0 8 (length parts.funcs) stands (omega arith) refl (omega arith) refl;
      text = long_read (written parts) 8 (numbers parts) 2 24 parts.text_start stands (omega arith) refl (omega arith) refl;
      names = long_read (written parts) 8 (numbers parts) 3 32 (start_of parts 0) stands (omega arith) refl (omega (arith, start_within parts 0 (omega arith))) refl;
      units = long_read (written parts) 8 (numbers parts) 4 40 (start_of parts 1) stands (omega arith) refl (omega (arith, start_within parts 1 (omega arith))) refl;
      files = long_read (written parts) 8 (numbers parts) 5 48 (start_of parts 2) stands (omega arith) refl (omega (arith, start_within parts 2 (omega arith))) refl;
      pcs = long_read (written parts) 8 (numbers parts) 6 56 (start_of parts 3) stands (omega arith) refl (omega (arith, start_within parts 3 (omega arith))) refl;
      funcs = long_read (written parts) 8 (numbers parts) 7 64 (start_of parts 4) stands (omega arith) refl (omega (arith, start_within parts 4 (omega arith))) refl;
      unit = stands_byte (written parts) (0 ∷ 0 ∷ parts.quantum ∷ 8 ∷ []) 4 2 ident;
      pointer = stands_byte (written parts) (0 ∷ 0 ∷ parts.quantum ∷ 8 ∷ []) 4 3 ident;
      line = rw (magic_read parts) refl;
    }

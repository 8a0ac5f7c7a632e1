-- What a part that was read without a fault tells the later steps.
use Rattle.std.proofs.Common.{◌≡◌, ℕ, ◌+◌, ◌≤◌, ◌%◌, ◌&&◌, ◌==◌, nat_le, List, length, Option, Some, None, IsTrue, refl, subst, arith}
use Rattle.std.proofs.lemmas.Bool.{leb-true, and_parts}
use Rattle.elf_image.specs.declared.rows.Width.TheVariants.{Xword}
use Rattle.elf_image.specs.declared.rows.Wanted.{Wanted}
use Rattle.elf_image.specs.declared.rows.Wanted.TheVariants.{Any, Is, Within, Entries}
use Rattle.elf_image.specs.declared.headers.Section.{Section}
use Rattle.elf_image.specs.Rows.{number_at, meets, HasRows}
use Rattle.elf_image.specs.Layout.{program_size, section_size, section_at, sections_in, sizes_in, symbols_offset}
use Rattle.elf_image.specs.Headers.{program_rows, section_rows, symbols_section}
use Rattle.elf_image.specs.Image.{IsImage, IsReady}
use Rattle.elf_image.specs.Faults.{layout_at, program_fault, section_fault}
use Rattle.elf_image.proofs.RowLemmas.{rows_faultless}

pub no_fault : (place : Option ℕ) → layout_at place ≡ None → place ≡ None
no_fault None none = refl
no_fault (Some at) none = cc

size_meets : (bytes : List ℕ) (at : ℕ) (wanted : Wanted)
    → IsTrue (meets wanted (number_at bytes (at + 4 + 4 + 8 + 8 + 8) Xword)) → IsTrue (meets wanted (number_at bytes (at + 32) Xword))
size_meets bytes at wanted is =
    let P : ℕ → Type 0 = λ place. IsTrue (meets wanted (number_at bytes place Xword)) in
    let same : at + 4 + 4 + 8 + 8 + 8 ≡ at + 32 = omega arith in
    subst P same is

pub program_sized : (bytes : List ℕ) (at flags offset : ℕ)
    → program_fault bytes at flags offset ≡ None → offset + program_size bytes at ≤ length bytes
unfolding program_fault
program_sized bytes at flags offset none =
    let rows = program_rows flags offset (Within offset (length bytes)) (Is (program_size bytes at)) in
    let has : HasRows bytes at (program_rows flags offset (Within offset (length bytes)) (Is (program_size bytes at)))
    = rows_faultless bytes at (program_rows flags offset (Within offset (length bytes)) (Is (program_size bytes at))) (no_fault _ none) in
    leb-true _ _ (size_meets bytes at (Within offset (length bytes)) has.1.1.1.1.1.0)

pub section_size_meets : (bytes : List ℕ) (at : ℕ) (section : Section)
    → HasRows bytes at (section_rows section) → IsTrue (meets section.size (section_size bytes at))
section_size_meets bytes at section has = size_meets bytes at section.size has.1.1.1.1.1.0

pub section_sized : (bytes : List ℕ) (at : ℕ) (section : Section)
    → section_fault bytes at section ≡ None → IsTrue (meets section.size (section_size bytes at))
unfolding section_fault
section_sized bytes at section none =
    let has : HasRows bytes at (section_rows section)
    = rows_faultless bytes at (section_rows section) (no_fault _ none) in
    size_meets bytes at section.size has.1.1.1.1.1.0

-- an image is one whose section headers were read
pub image_ready : (bytes : List ℕ) → IsImage bytes → IsReady bytes
image_ready bytes image =
    let sections = section_size_meets bytes (section_at bytes 4)
    (symbols_section (symbols_offset (sizes_in bytes)) (Entries (symbols_offset (sizes_in bytes)) (sections_in bytes)) Any) image.sections.symbols in
    let within = and_parts (nat_le (symbols_offset (sizes_in bytes) + (sizes_in bytes).symbols) (sections_in bytes) && nat_le 24 (sizes_in bytes).symbols)
    ((sizes_in bytes).symbols % 24 == 0) sections in
    let some = and_parts (nat_le (symbols_offset (sizes_in bytes) + (sizes_in bytes).symbols) (sections_in bytes)) (nat_le 24 (sizes_in bytes).symbols) within.0 in
    record {
      within = image.place.within;
      next = image.sections.next;
      symbols = leb-true 24 (sizes_in bytes).symbols some.1;
    }

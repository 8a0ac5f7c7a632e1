-- How large the parts of an image are.
use Rattle.std.proofs.Common.{◌≡◌, ℕ, zero, suc, ◌+◌, ◌≤◌, Bool, true, false, List, [], ◌∷◌, length, filter, take, drop, refl, ap, arith, length-drop, length-take}
use Rattle.std.proofs.lemmas.List.{length-map}
use Rattle.std.specs.Prelude.{cond}
use Rattle.elf_image.specs.Contents.{lies_outside, outside_in, symbol_places, table_in, text_address, text_in, values_address, values_in}
use Rattle.elf_image.specs.Image.{IsImage, count_in, symbols_start}
use Rattle.elf_image.specs.Layout.{sizes_in, table_offset, text_offset, values_offset}
use Rattle.elf_image.proofs.LayoutLemmas.{ends_before}
use Rattle.elf_image.proofs.StageLemmas.{image_ready}

-- a part has no more bytes than its size says
part_size : (size at : ℕ) (bytes : List ℕ) → length (take size (drop at bytes)) ≤ size
part_size size at bytes = rw length-take (omega arith)

pub text_low : (bytes : List ℕ) → IsImage bytes → text_address + length (text_in bytes) ≤ 0x400000 + length bytes
text_low bytes image =
    let ready = image_ready bytes image in
    let before = ends_before (sizes_in bytes) in
    let within = ready.within in
    let next = ready.next in
    let text = before.text in
    let table = before.table in
    let values = before.values in
    let symbols = before.symbols in
    let strings = before.strings in
    let labels = before.labels in
    let size = part_size (sizes_in bytes).text text_offset bytes in
    omega arith

pub values_low : (bytes : List ℕ) → IsImage bytes → values_address bytes + length (values_in bytes) ≤ 0x400000 + length bytes
values_low bytes image =
    let ready = image_ready bytes image in
    let before = ends_before (sizes_in bytes) in
    let within = ready.within in
    let next = ready.next in
    let values = before.values in
    let symbols = before.symbols in
    let strings = before.strings in
    let labels = before.labels in
    let size = part_size (sizes_in bytes).values (values_offset (sizes_in bytes)) bytes in
    omega arith

filtered : {X : Type 0} (test : X → Bool) (xs : List X) → length (filter test xs) ≤ length xs
filtered test [] = omega arith
filtered test (x ∷ xs) =
    let rest = filtered test xs in
    elim (test x) as (λ b. length (cond b (x ∷ filter test xs) (filter test xs)) ≤ suc (length xs)) [
      | true ↦ omega arith
      | false ↦ omega arith
    ]

counted : (count at : ℕ) → length (symbol_places count at) ≡ count
counted zero at = refl
counted (suc count) at = ap suc (counted count (at + 24))

pub few_outside : (bytes : List ℕ) → IsImage bytes → length (outside_in bytes) ≤ length bytes
unfolding outside_in
few_outside bytes image =
    let ready = image_ready bytes image in
    let before = ends_before (sizes_in bytes) in
    let within = ready.within in
    let next = ready.next in
    let symbols = before.symbols in
    let strings = before.strings in
    let labels = before.labels in
    let fewer = filtered (lies_outside bytes) (symbol_places (count_in bytes) (symbols_start bytes)) in
    let all = counted (count_in bytes) (symbols_start bytes) in
    rw length-map (omega arith)

pub table_short : (bytes : List ℕ) → length (table_in bytes) ≤ length bytes
table_short bytes =
    let left = length-drop (table_offset (sizes_in bytes)) bytes in
    let size = length-take (sizes_in bytes).table (drop (table_offset (sizes_in bytes)) bytes) in
    omega arith

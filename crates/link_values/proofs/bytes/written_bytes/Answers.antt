use Rattle.std.proofs.Common.{◌≡◌, ℕ, List, length, ap, ◌∙◌}
use Rattle.std.specs.Prelude.{replicate}
use Rattle.std.proofs.lemmas.List.{length-replicate}
use Rattle.link_values.specs.Values as spec
use Rattle.link_values.specs.Written.{written_over}
use Rattle.link_values.proofs.WrittenLemmas.{back_whole}
use Rattle.link_values.proofs.ValueLemmas.{told_writes, told_inside, ended, as_many}
use Rattle.link_values.proofs.bytes.written_bytes.Goals as goal

-- the bytes before the first write
zeros : (old items : List ℕ) (size end : ℕ) → old ≡ items → items ≡ replicate size 0 → size ≡ end → old ≡ replicate end 0
zeros old items size end value is same = value ∙ is ∙ ap (λ n. replicate n 0) same

-- and their number
zeros_length : (old : List ℕ) (end : ℕ) → old ≡ replicate end 0 → length old ≡ end
zeros_length old end is = ap length is ∙ length-replicate end 0

pub places_by_meaning-requires : goal.places_by_meaning-requires
places_by_meaning-requires c = as_many c.args.kept.now c.as_slice.result.now (c.as_slice.ensures ∙ c.requires.placed)

pub write_units-requires-clause-inside : goal.write_units-requires-clause-inside
write_units-requires-clause-inside c =
    let end = ended c.args.names.now c.args.units.now c.args.kept.now c.args.places.now.end c.requires.kept c.requires.ended in
    let old = zeros c.as_mut_slice.result.now c.in_ok-bytes.bytes.items c.args.places.now.end (spec.values_end c.args.names.now c.args.units.now)
    c.as_mut_slice.ensures.value (c.in_ok-bytes.ensures.items_if_clones_equal (λ y same. same)) end in
    told_inside c.args.names.now c.args.units.now c.args.kept.now c.as_slice.result.now c.in_ok-at.at c.args.addresses.now c.requires.kept
    (c.as_slice.ensures ∙ c.requires.placed) c.in_ok-at.ensures (length c.as_mut_slice.result.now)
    (zeros_length c.as_mut_slice.result.now (spec.values_end c.args.names.now c.args.units.now) old) c.requires.inside

pub returns : goal.returns
returns c =
    let end = ended c.args.names.now c.args.units.now c.args.kept.now c.args.places.now.end c.requires.kept c.requires.ended in
    let old = zeros c.as_mut_slice.result.now c.in_ok-bytes.bytes.items c.args.places.now.end (spec.values_end c.args.names.now c.args.units.now)
    c.as_mut_slice.ensures.value (c.in_ok-bytes.ensures.items_if_clones_equal (λ y same. same)) end in
    let writes = told_writes c.args.names.now c.args.units.now c.args.kept.now c.as_slice.result.now c.in_ok-at.at c.args.addresses.now c.requires.kept
    (c.as_slice.ensures ∙ c.requires.placed) c.in_ok-at.ensures in
    let long : length c.write_units.new.bytes ≡ length c.in_ok-bytes.bytes.items = c.write_units.auto.bytes ∙ ap length c.as_mut_slice.ensures.value in
    back_whole c.write_units.new.bytes c.in_ok-bytes.bytes.items c.in_ok-bytes.bytes.len c.in_ok-bytes.bytes.ok.0 long
    ∙ c.write_units.ensures
    ∙ ap (written_over c.as_mut_slice.result.now) writes
    ∙ ap (λ bytes. written_over bytes (spec.value_writes c.args.names.now c.args.units.now c.args.addresses.now)) old

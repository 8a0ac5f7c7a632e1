use Rattle.std.proofs.Common.{◌∷◌, [], length}
use Rattle.byteorder.specs.Endian.{little_bytes}
use Rattle.byte_layout.specs.Joined.{places}
use Rattle.pclntab.specs.Written.{longs, header_over}
use Rattle.pclntab.specs.Writing.{five_of}
use Rattle.pclntab.proofs.LengthLemmas.{regrouped}
use Rattle.pclntab.proofs.writing.push_header.Goals as goal

pub returns : goal.returns
unfolding longs header_over
returns c =
    rw (
      c.in_ok-push_places.ensures,
      c.in_ok-push_u64-3.ensures.ok,
      c.in_ok-push_u64-2.ensures.ok,
      c.in_ok-push_u64.ensures.ok,
      c.in_ok-extend_from_slice.ensures.items,
      c.in_ok-push_u32.ensures.ok,
      c.as_slice.ensures,
      c.as_slice-2.ensures,
    )
    (regrouped c.args.bytes.now.items (little_bytes 4 4294967281) (0 ∷ 0 ∷ c.args.parts.now.quantum ∷ 8 ∷ [])
    (little_bytes 8 (length c.args.parts.now.funcs)) (little_bytes 8 (length c.args.parts.now.files)) (little_bytes 8 c.args.parts.now.text_start)
    (longs (places 8 72 (five_of c.args.five.now))))

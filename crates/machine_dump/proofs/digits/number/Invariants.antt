use Rattle.std.proofs.Common.{◌≡◌, ◌*◌, ◌<◌, ◌^◌, drop}
use Rattle.machine_dump.specs.Digits.{hex_after}
use Rattle.machine_dump.proofs.digits.number.Given as goal

abbrev pub invariant-loop-glyph : goal.invariant-loop-glyph
invariant-loop-glyph l = record {
  fits : l.value < 2 ^ (4 * l.glyph-index);
  value : hex_after l.value (drop l.glyph-index l.digits) ≡ hex_after 0 l.digits;
}

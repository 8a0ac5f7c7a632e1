use Rattle.std.proofs.Common.{◌≡◌, ◌<◌, ◌^◌, drop}
use Rattle.std.specs.List.{list_all}
use Rattle.std.specs.Char.{is_digit}
use Rattle.goasm_base.specs.Numbers.{value_after}
use Rattle.goasm_base.proofs.number.numeral.Given as goal

abbrev pub invariant-loop-glyph : goal.invariant-loop-glyph
invariant-loop-glyph l = record {
  fits : l.value < 2 ^ 64;
  value : value_after l.base l.value (drop l.glyph-index l.digits) ≡ value_after l.base 0 l.digits;
  digits : list_all (λ glyph. is_digit glyph l.base) (drop l.glyph-index l.digits)
      ≡ list_all (λ glyph. is_digit glyph l.base) l.digits;
}

-- How the code's places are seen.
use Rattle.asm_lex.specs.declared.cut.Place.{Place}
use Rattle.asm_lex.specs.Cut.{Point}

abbrev pub point_of : Place → Point
point_of place = record { line = place.line; glued = place.glued; rest = place.rest.now }

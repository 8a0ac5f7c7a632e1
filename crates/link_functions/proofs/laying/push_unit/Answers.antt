use Rattle.std.proofs.Common.{refl}
use Rattle.link_functions.proofs.laying.push_unit.Goals as goal

pub returns-clause-laid : goal.returns-clause-laid
returns-clause-laid g c = record {
  code = record { unit = c.args.unit; parts = c.in_ok-parts.parts };
  whole = c.in_ok-push.ensures;
  unit_is = refl;
  has = c.in_ok-parts.ensures.laid;
}

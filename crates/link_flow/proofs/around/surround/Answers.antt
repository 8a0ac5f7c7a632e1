use Rattle.std.proofs.Common.{refl, sym, subst}
use Rattle.std.specs.List.Sorted.{IsNonDecreasing}
use Rattle.link_plan.specs.Addresses.{text_address}
use Rattle.link_flow.proofs.AroundLemmas.{moved_rise}
use Rattle.link_flow.proofs.around.surround.Goals as goal

pub returns : goal.returns
returns c = record {
  text = refl;
  entries = c.in_ok-entries.ensures;
  growth = c.in_ok-growth.ensures.found;
  symbols = c.in_ok-symbols.ensures.found;
  ordered = record {
    entries = subst IsNonDecreasing (sym c.in_ok-entries.ensures) (moved_rise text_address c.args.at.now c.requires.ordered);
    growth = c.in_ok-growth.ensures.ordered;
    symbols = c.in_ok-symbols.ensures.ordered;
  };
}

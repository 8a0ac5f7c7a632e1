use Rattle.std.proofs.Common.{ℕ, List, map, ap, ◌∙◌}
use Rattle.std.specs.List.{range_with_len}
use Rattle.pclntab.specs.Func.{entry_of}
use Rattle.pclntab.specs.Places.{func_count}
use Rattle.image_check.specs.Surrounding.{range_of}
use Rattle.image_check.proofs.surroundings.Surroundings.new.Goals as goal

pub returns : goal.returns
returns c = record {
  surrounds = record {
    text = ap range_of c.text_range.ensures;
    entries = c.in_ok-entries.ensures.entries
        ∙ ap (λ (table : List ℕ). map (entry_of table) (range_with_len 0 (func_count table))) c.requires.table;
    growth = c.in_ok-growth.ensures.found;
    ordered = c.in_ok-growth.ensures.ordered;
  };
  entries = c.in_ok-entries.ensures.ordered;
  symbols = c.in_ok-symbols.ensures.found;
  ordered = c.in_ok-symbols.ensures.ordered;
}

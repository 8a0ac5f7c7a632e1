use Rattle.std.proofs.Common.{◌∙◌}
use Rattle.link_tables.proofs.ReadyLemmas.{all_tell, all_ready}
use Rattle.link_tables.proofs.parts.table_parts.Goals as goal

pub func_parts-requires : goal.func_parts-requires
func_parts-requires g c =
    all_tell c.args.files.now c.in_ok-used.used c.number_all.new.files c.args.quantum c.args.funcs.now c.requires.funcs
    (record {
      none = c.in_ok-used.ensures;
      build_is = c.in_ok-number_all.ensures.build;
      used_is = c.in_ok-number_all.ensures.used;
      few = c.requires.few;
    })

pub returns-clause-ready : goal.returns-clause-ready
returns-clause-ready g c =
    all_ready c.args.files.now c.in_ok-used.used c.number_all.new.files c.args.quantum c.args.text_len c.args.funcs.now c.in_ok-names.names c.new-2.result
    c.requires.quantum c.requires.funcs c.requires.order c.ranges.text_len.fits
    (record {
      none = c.in_ok-used.ensures;
      build_is = c.in_ok-number_all.ensures.build;
      used_is = c.in_ok-number_all.ensures.used;
      few = c.requires.few;
    })
    c.in_ok-names.ensures.names (c.new-2.ensures ∙ c.in_ok-parts.ensures.parts)

use Rattle.std.proofs.Common.{take, sym, subst, ◌∙◌, arith}
use Rattle.std.proofs.lemmas.Grind.{common_steps}
use Rattle.std.proofs.lemmas.List.Elements.{filter_map-append}
use Rattle.asm_grammar.specs.Names.{HasNoZero}
use Rattle.asm_grammar.proofs.NameLemmas.{no_zero}
use Rattle.asm_grammar.proofs.names.name_of.Goals as goal

pub loop-byte-preserved : goal.loop-byte-preserved
loop-byte-preserved c = grind (arith, common_steps, filter_map-append)

pub returns-clause-no_zero : goal.returns-clause-no_zero
returns-clause-no_zero c = subst HasNoZero (sym (c.new.ensures ∙ c.loop-byte.invariant)) (no_zero c.args.word.now (take c.loop-byte.byte-index c.args.word.now))

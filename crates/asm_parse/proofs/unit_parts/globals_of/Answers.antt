use Rattle.std.proofs.Common.{subst, sym}
use Rattle.asm_parse.specs.Known.{IsKnownGlobal}
use Rattle.asm_parse.proofs.unit_parts.globals_of.Goals as goal

pub global_of-requires-clause-known : goal.global_of-requires-clause-known
global_of-requires-clause-known c =
    subst (IsKnownGlobal c.args.symbols.now) (sym c.global-item.is) (c.requires.known c.loop-global.global-index c.global-item.result c.loop-global-test.true)

use Rattle.std.proofs.Common.{◌≡◌, drop}
use Rattle.goasm_base.specs.MemShelf.{file_named}
use Rattle.goasm_base.proofs.mem_shelf.find.Given as goal

abbrev pub invariant-loop-held : goal.invariant-loop-held
invariant-loop-held l = file_named (drop l.held-index l.files) l.name ≡ file_named l.files l.name

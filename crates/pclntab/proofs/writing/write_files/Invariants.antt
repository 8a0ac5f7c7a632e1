use Rattle.pclntab.proofs.FuncLemmas.{WroteFiles}
use Rattle.pclntab.proofs.writing.write_files.Given as goal

abbrev pub invariant-loop-file : goal.invariant-loop-file
invariant-loop-file l = WroteFiles l.files l.file-index l.written.units.items l.written.names.items

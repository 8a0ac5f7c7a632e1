use Rattle.pclntab.specs.Stock.{IsStock, tables_in}
use Rattle.pclntab.proofs.FuncLemmas.{WroteFuncs}
use Rattle.pclntab.proofs.funcs.write_funcs.Given as goal

abbrev pub invariant-loop-func : goal.invariant-loop-func
invariant-loop-func l = record {
  stock : IsStock l.out.stock;
  wrote : WroteFuncs l.fn.parts l.func-index l.place l.out.names.items (tables_in l.out.stock) l.out.pairs.items l.out.records.items;
}

use Rattle.std.proofs.Common.{◌≡◌, ℕ, List, ◌<◌, ◌≤◌, ◌+◌, ◌*◌, length, get_or, ap, ◌∙◌, arith}
use Rattle.pclntab.specs.declared.parts.TableParts.{TableParts}
use Rattle.pclntab.specs.declared.parts.FuncPart.{FuncPart}
use Rattle.pclntab.specs.Written.{stored}
use Rattle.pclntab.specs.Stock.{tables_in}
use Rattle.pclntab.proofs.FuncLemmas.{WroteFuncs, WroteAll, no_funcs, tables_short, next_func, all_funcs}
use Rattle.pclntab.proofs.funcs.write_funcs.Goals as goal

pub loop-func-init : goal.loop-func-init
loop-func-init c =
    record {
      stock = c.in_ok-empty_stock.ensures.stock;
      wrote = rw (c.new.ensures.items, c.in_ok-empty_stock.ensures.empty, c.new-2.ensures.items, c.new-3.ensures.items)
          (no_funcs c.args.parts.now (8 * length c.as_slice-funcs.result.now + 4) (ap (λ funcs. 8 * length funcs + 4) c.as_slice-funcs.ensures));
    }

pub push_func-requires-clause-pcs : goal.push_func-requires-clause-pcs
push_func-requires-clause-pcs c =
    let inside : c.loop-func.func-index < length c.args.parts.now.funcs = omega (arith, ap length c.as_slice-funcs.ensures) in
    let is : c.func-item.result ≡ get_or c.args.parts.now.funcs c.loop-func.func-index c.func-item.result
    = rw c.as_slice-funcs.ensures at c.func-item.is in
    rw is
    (tables_short c.args.parts.now c.loop-func.func-index c.loop-func.place c.func-item.result c.loop-func.out.names.items
    (tables_in c.loop-func.out.stock) c.loop-func.out.pairs.items c.loop-func.out.records.items c.requires.fit inside c.loop-func.invariant.wrote)

pub loop-func-preserved : goal.loop-func-preserved
loop-func-preserved c =
    let inside : c.loop-func.func-index < length c.args.parts.now.funcs = omega (arith, ap length c.as_slice-funcs.ensures) in
    let is : c.func-item.result ≡ get_or c.args.parts.now.funcs c.loop-func.func-index c.func-item.result
    = rw c.as_slice-funcs.ensures at c.func-item.is in
    record {
      stock = c.in_ok-push_func.ensures.stock;
      wrote = next_func c.args.parts.now c.loop-func.func-index c.loop-func.place c.func-item.result
          c.loop-func.out.names.items c.push_func.new.out.names.items (tables_in c.loop-func.out.stock) (tables_in c.push_func.new.out.stock)
          c.loop-func.out.pairs.items c.push_func.new.out.pairs.items c.loop-func.out.records.items c.push_func.new.out.records.items
          inside c.loop-func.invariant.wrote
          (rw is at c.in_ok-push_func.ensures.names) (rw is at c.in_ok-push_func.ensures.tables)
          (rw is at c.in_ok-push_func.ensures.pairs) (rw is at c.in_ok-push_func.ensures.records);
    }

all_of : (parts : TableParts) (funcs : List FuncPart) (index place : ℕ) (name_bytes : List ℕ) (stock : List (List ℕ)) (pair_bytes record_part : List ℕ)
    → funcs ≡ parts.funcs → length funcs ≤ index → WroteFuncs parts index place name_bytes stock pair_bytes record_part
    → WroteAll parts name_bytes stock pair_bytes record_part
all_of parts funcs index place name_bytes stock pair_bytes record_part same past wrote =
    all_funcs parts index place name_bytes stock pair_bytes record_part (rw same at past) wrote

pub returns-clause-names : goal.returns-clause-names
returns-clause-names c =
    (all_of c.args.parts.now c.as_slice-funcs.result.now _ _ _ _ _ _ c.as_slice-funcs.ensures c.loop-func-test.false c.loop-func.invariant.wrote).names_are

pub returns-clause-pcs : goal.returns-clause-pcs
returns-clause-pcs c =
    c.loop-func.invariant.stock.bytes
    ∙ ap stored
    (all_of c.args.parts.now c.as_slice-funcs.result.now _ _ _ _ _ _ c.as_slice-funcs.ensures c.loop-func-test.false c.loop-func.invariant.wrote).stock_is

pub returns-clause-pairs : goal.returns-clause-pairs
returns-clause-pairs c =
    (all_of c.args.parts.now c.as_slice-funcs.result.now _ _ _ _ _ _ c.as_slice-funcs.ensures c.loop-func-test.false c.loop-func.invariant.wrote).pairs_are

pub returns-clause-records : goal.returns-clause-records
returns-clause-records c =
    (all_of c.args.parts.now c.as_slice-funcs.result.now _ _ _ _ _ _ c.as_slice-funcs.ensures c.loop-func-test.false c.loop-func.invariant.wrote).records_are

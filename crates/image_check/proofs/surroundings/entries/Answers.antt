use Rattle.std.proofs.Common.{◌≡◌, ℕ, List, [], ◌∷◌, ◌++◌, map, sym, ap, ◌∙◌, subst, arith}
use Rattle.std.specs.List.{range_with_len}
use Rattle.std.specs.List.Sorted.{IsNonDecreasing}
use Rattle.std.proofs.lemmas.List.FromFn.{map-range_with_len_more}
use Rattle.pclntab.specs.Func.{FuncView, entry_of}
use Rattle.pclntab.specs.Places.{func_count}
use Rattle.image_check.proofs.EntryLemmas.{entries_rise}
use Rattle.image_check.proofs.surroundings.entries.Goals as goal

pub loop-index-preserved : goal.loop-index-preserved
loop-index-preserved c =
    let table = c.args.table.now in
    let here : c.entry.result ≡ entry_of table c.loop-index.index =
    c.entry.ensures ∙ ap (λ (func : FuncView). entry_of func.bytes func.index) c.at.ensures in
    c.in_ok-push.ensures.items ∙ ap (λ (zs : List ℕ). zs ++ (c.entry.result ∷ [])) c.loop-index.invariant
    ∙ ap (λ (n : ℕ). map (entry_of table) (range_with_len 0 c.loop-index.index) ++ (n ∷ [])) here
    ∙ sym (map-range_with_len_more (entry_of table) 0 c.loop-index.index c.loop-index.index (omega arith))

pub returns : goal.returns
returns c =
    let table = c.args.table.now in
    let count : c.count-index-end.result ≡ func_count table = c.count-index-end.ensures in
    let low = c.loop-index.auto.index-end in
    let high = c.loop-index-test.false in
    let all : c.loop-index.index ≡ func_count table = omega arith in
    let is : c.loop-index.found.items ≡ map (entry_of table) (range_with_len 0 (func_count table)) =
    c.loop-index.invariant ∙ ap (λ (n : ℕ). map (entry_of table) (range_with_len 0 n)) all in
    record { entries = is; ordered = subst IsNonDecreasing (sym is) (entries_rise table c.requires) }

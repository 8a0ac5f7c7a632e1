use Rattle.std.proofs.Common.{◌≡◌, ◌+◌, ◌++◌, List, ℕ, map, drop, ap, subst, ◌∙◌, arith, refl}
use Rattle.std.specs.Int.{next_multiple_of}
use Rattle.std.specs.List.{AllByRecursion}
use Rattle.go_types.specs.Sizes.{size_of, place_of}
use Rattle.go_types.specs.Signatures.{Parameter, parameter_of, IsSoundParameter}
use Rattle.go_types.proofs.SizeLemmas.{ends_behind}
use Rattle.abi0_layout.specs.Layouts.{as_fields, end_of_list, parts_of_list, most_bytes}
use Rattle.abi0_layout.proofs.ListLemmas.{parameters_at, parameter_within, parameter_pushed}
use Rattle.abi0_layout.proofs.layout.push_list.Goals as goal

pub loop-index-init : goal.loop-index-init
loop-index-init c =
    let behind = ends_behind c.args.start (as_fields (map parameter_of c.args.list.now)) in
    record { so_far = refl; end = refl; within = omega (arith, behind, c.requires.room); sound = c.requires.sound }

pub measure_within-inner-requires-clause-room : goal.measure_within-inner-requires-clause-room
measure_within-inner-requires-clause-room c =
    let l = c.loop-index in
    let xs = c.args.list.now in
    let is = parameters_at xs l.index c.index-list-index.result (omega arith) c.index-list-index.is in
    let all = end_of_list c.args.start (map parameter_of xs) in
    let end = subst (λ (rest : List Parameter). end_of_list l.end rest ≡ all) is l.invariant.end in
    let room = parameter_within l.end most_bytes all (parameter_of c.index-list-index.result) (map parameter_of (drop (l.index + 1) xs)) end c.requires.room in
    omega (arith, room)

pub push_param-requires-clause-room : goal.push_param-requires-clause-room
push_param-requires-clause-room c =
    let l = c.loop-index in
    let xs = c.args.list.now in
    let x = parameter_of c.index-list-index.result in
    let is = parameters_at xs l.index c.index-list-index.result (omega arith) c.index-list-index.is in
    let all = end_of_list c.args.start (map parameter_of xs) in
    let end = subst (λ (rest : List Parameter). end_of_list l.end rest ≡ all) is l.invariant.end in
    let room = parameter_within l.end most_bytes all x (map parameter_of (drop (l.index + 1) xs)) end c.requires.room in
    let placed : c.next_multiple_of-off.result ≡ place_of l.end x.kind =
    c.next_multiple_of-off.ensures.value ∙ ap (λ (a : ℕ). next_multiple_of l.end a) c.measure_within-inner.ensures.align in
    omega (arith, room, placed)

pub loop-index-preserved : goal.loop-index-preserved
loop-index-preserved c =
    let l = c.loop-index in
    let xs = c.args.list.now in
    let x = parameter_of c.index-list-index.result in
    let is = parameters_at xs l.index c.index-list-index.result (omega arith) c.index-list-index.is in
    let others = map parameter_of (drop (l.index + 1) xs) in
    let all = end_of_list c.args.start (map parameter_of xs) in
    let end = subst (λ (rest : List Parameter). end_of_list l.end rest ≡ all) is l.invariant.end in
    let room = parameter_within l.end most_bytes all x others end c.requires.room in
    let placed : c.next_multiple_of-off.result ≡ place_of l.end x.kind =
    c.next_multiple_of-off.ensures.value ∙ ap (λ (a : ℕ). next_multiple_of l.end a) c.measure_within-inner.ensures.align in
    let sized : c.measure_within-inner.result.size ≡ size_of x.kind = c.measure_within-inner.ensures.size in
    let whole = c.args.to.now.items ++ parts_of_list c.args.are_results 0 c.args.start (map parameter_of xs) in
    let so_far = subst (λ (rest : List Parameter). l.to.items ++ parts_of_list c.args.are_results l.index l.end rest ≡ whole) is l.invariant.so_far in
    let sound = subst (AllByRecursion IsSoundParameter) is l.invariant.sound in
    record {
      so_far = parameter_pushed c.args.are_results l.to.items c.push_param.new.to.items whole l.index l.end c.next_multiple_of-off.result c.measure_within-inner.result.size x others
          placed sized c.in_ok-push_param.ensures so_far;
      end = ap (λ (next : ℕ). end_of_list next others) (let next : c.next_multiple_of-off.result + c.measure_within-inner.result.size ≡ place_of l.end x.kind + size_of x.kind = omega (arith, placed, sized) in next) ∙ end;
      within = omega (arith, room, placed, sized);
      sound = sound.1;
    }

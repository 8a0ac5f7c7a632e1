use Rattle.std.proofs.Common.{pos, ◌-ℤ◌, SFits, w64, arith}
use Rattle.std.proofs.lemmas.Int.{ints, to_z-of_z}
use Rattle.machine_effect.specs.Shapes.{IsStackDistance}
use Rattle.flow_rules.proofs.here.depth_added.Goals as goal

pub overflow_sub-result : goal.overflow_sub-result
overflow_sub-result c =
    let small : IsStackDistance c.in-By.by = c.requires c.in-By.by c.in-By.is in
    let least = small.least in let most = small.most in grind (arith, ints, to_z-of_z)

pub returns-in-By-clause-exact : goal.returns-in-By-clause-exact
returns-in-By-clause-exact c =
    let small : IsStackDistance c.in-By.by = c.requires c.in-By.by c.in-By.is in
    let least = small.least in
    let most = small.most in
    let fits : SFits w64 c.in-By.by = omega (arith, ints) in
    let turned : SFits w64 (pos 0 -ℤ c.in-By.by) = omega (arith, ints) in
    let same = to_z-of_z w64 c.in-By.by fits in
    rw (same, c.in-By.is) (to_z-of_z w64 (pos 0 -ℤ c.in-By.by) turned)

pub returns-in-By-clause-least : goal.returns-in-By-clause-least
returns-in-By-clause-least c =
    let small : IsStackDistance c.in-By.by = c.requires c.in-By.by c.in-By.is in
    let least = small.least in
    let most = small.most in
    let fits : SFits w64 c.in-By.by = omega (arith, ints) in
    let turned : SFits w64 (pos 0 -ℤ c.in-By.by) = omega (arith, ints) in
    let same = to_z-of_z w64 c.in-By.by fits in
    rw (same, to_z-of_z w64 (pos 0 -ℤ c.in-By.by) turned) (omega (arith, ints))

pub returns-in-By-clause-most : goal.returns-in-By-clause-most
returns-in-By-clause-most c =
    let small : IsStackDistance c.in-By.by = c.requires c.in-By.by c.in-By.is in
    let least = small.least in
    let most = small.most in
    let fits : SFits w64 c.in-By.by = omega (arith, ints) in
    let turned : SFits w64 (pos 0 -ℤ c.in-By.by) = omega (arith, ints) in
    let same = to_z-of_z w64 c.in-By.by fits in
    rw (same, to_z-of_z w64 (pos 0 -ℤ c.in-By.by) turned) (omega (arith, ints))

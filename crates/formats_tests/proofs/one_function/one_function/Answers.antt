use Rattle.std.proofs.Common.{rules, refl}
use Rattle.formats_tests.proofs.one_function.one_function.Goals as goal
use Rattle.formats_tests.proofs.PartsLemmas.{one_part}

-- src/one_function.rt:29:5
pub write-requires : goal.write-requires
write-requires c =
    one_part _ c.in_ok-from_slice.field-0 (search rules) (search rules) refl refl (search rules) (search rules) (search rules)

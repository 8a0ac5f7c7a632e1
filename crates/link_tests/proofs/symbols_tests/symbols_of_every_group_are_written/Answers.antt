use Rattle.std.proofs.Common.{◌≡◌, ◌<◌, List, [], ◌∷◌, refl, sym, subst, arith}
use Rattle.std.proofs.lemmas.List.Elements.{All-cons, All-nil}
use Rattle.link_symbols.specs.Table.{IsName, HasName}
use Rattle.link_tests.proofs.PartsLemmas.{rising_one, rising_more}
use Rattle.link_tests.proofs.symbols_tests.symbols_of_every_group_are_written.Goals as goal

pub image_of-requires-clause-rising : goal.image_of-requires-clause-rising
image_of-requires-clause-rising over c =
    rising_more c.function.result.at c.function-2.result.at (c.function-3.result.at ∷ c.function-4.result.at ∷ [])
    (omega (arith, c.function.ensures.at, c.function-2.ensures.at))
    (rising_more c.function-2.result.at c.function-3.result.at (c.function-4.result.at ∷ [])
    (omega (arith, c.function-2.ensures.at, c.function-3.ensures.at))
    (rising_more c.function-3.result.at c.function-4.result.at [] (omega (arith, c.function-3.ensures.at, c.function-4.ensures.at))
    (rising_one c.function-4.result.at)))

pub image_of-requires-clause-function_names : goal.image_of-requires-clause-function_names
image_of-requires-clause-function_names over c =
    All-cons HasName c.function.result (c.function-2.result ∷ c.function-3.result ∷ c.function-4.result ∷ [])
    (subst IsName (sym c.function.ensures.name) refl)
    (All-cons HasName c.function-2.result (c.function-3.result ∷ c.function-4.result ∷ []) (subst IsName (sym c.function-2.ensures.name) refl)
    (All-cons HasName c.function-3.result (c.function-4.result ∷ []) (subst IsName (sym c.function-3.ensures.name) refl)
    (All-cons HasName c.function-4.result [] (subst IsName (sym c.function-4.ensures.name) refl) (All-nil HasName))))

-- The definitions on small tables, each computed.
use Rattle.std.proofs.Common.{◌≡◌, ℕ, true, false, List, [], ◌∷◌, pos, refl}
use Rattle.std.specs.Prelude.{Some, None}
use Rattle.pcvalue.specs.declared.answer.Answer.TheVariants.{Value, Past, Bad}
use Rattle.pcvalue.specs.Varint.{varint, varint_within}
use Rattle.pcvalue.specs.Runs.{runs_of, runs_within, next_run, run_by, run_over}
use Rattle.pcvalue.specs.Table.{value_in}
use Rattle.pcvalue.specs.Least.{is_least_form, is_least_within}

-- no table at 0; the depths of a function of 23 bytes, and its lines
abbrev tables : List ℕ
tables = 0 ∷ 2 ∷ 23 ∷ 0 ∷ 8 ∷ 5 ∷ 2 ∷ 4 ∷ 2 ∷ 4 ∷ 4 ∷ 4 ∷ 2 ∷ 5 ∷ 2 ∷ 1 ∷ 0 ∷ []

one_run : runs_of 1 (2 ∷ 23 ∷ 0 ∷ 9 ∷ [])
    ≡ (record { runs = record { end = 23; value = pos 0 } ∷ []; whole = true })
unfolding runs_of runs_within next_run run_by run_over varint varint_within
one_run = refl

line_at_17 : value_in tables 4 1 17 ≡ Value (pos 8)
unfolding value_in runs_of runs_within next_run run_by run_over varint varint_within
line_at_17 = refl

past_the_end : value_in tables 1 1 23 ≡ Past
unfolding value_in runs_of runs_within next_run run_by run_over varint varint_within
past_the_end = refl

no_bytes : value_in tables 17 1 0 ≡ Bad
unfolding value_in runs_of runs_within next_run run_by run_over varint varint_within
no_bytes = refl

two_bytes : varint (0x80 ∷ 1 ∷ 7 ∷ []) ≡ Some (128, 7 ∷ [])
unfolding varint varint_within
two_bytes = refl

past_32_bits : varint (0xFF ∷ 0xFF ∷ 0xFF ∷ 0xFF ∷ 0x10 ∷ []) ≡ None
unfolding varint varint_within
past_32_bits = refl

least : is_least_form 1 (2 ∷ 23 ∷ 0 ∷ []) ≡ true
unfolding is_least_form is_least_within runs_of runs_within next_run run_by run_over varint varint_within
least = refl

-- an end, a number of quanta and a change in more bytes than they need, and a run of no length
long_end : is_least_form 1 (2 ∷ 23 ∷ 0x80 ∷ 0 ∷ []) ≡ false
unfolding is_least_form is_least_within runs_of runs_within next_run run_by run_over varint varint_within
long_end = refl

long_quanta : is_least_form 1 (2 ∷ 0x97 ∷ 0 ∷ 0 ∷ []) ≡ false
unfolding is_least_form is_least_within runs_of runs_within next_run run_by run_over varint varint_within
long_quanta = refl

long_change : is_least_form 1 (0x82 ∷ 0 ∷ 23 ∷ 0 ∷ []) ≡ false
unfolding is_least_form is_least_within runs_of runs_within next_run run_by run_over varint varint_within
long_change = refl

no_length : is_least_form 1 (2 ∷ 0 ∷ 4 ∷ 23 ∷ 0 ∷ []) ≡ false
unfolding is_least_form is_least_within runs_of runs_within next_run run_by run_over varint varint_within
no_length = refl

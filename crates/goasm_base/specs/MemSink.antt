-- A sink in memory of a fixed size, whose writes can be made to fail by their numbers.
use Rattle.std.specs.Prelude.{ℕ, Bool, List, [], ◌∷◌, ◌++◌, ◌+◌, ◌-◌, ◌^◌, ◌==◌, ◌||◌, nat_lt, min, length, take, Option, Some, None, is_some, if◌then◌else◌}
use Rattle.std.specs.Option.{unwrap_or}

pub record SinkState : Type 0 where
  -- the bytes that it took
  pub taken : List ℕ
  -- how many bytes it can take in all
  pub room : ℕ
  -- the numbers of the writes that fail, each with how many bytes that write still takes
  pub failing : List (ℕ × ℕ)
  -- how many writes there were, up to the greatest `u32`
  pub writes : ℕ
  -- how many writes failed, up to the greatest `u64`
  pub faults : ℕ

-- what the first pair of this number says
abbrev pub first_paired : List (ℕ × ℕ) → ℕ → Option ℕ
first_paired [] number = None
first_paired (pair ∷ pairs) number = if pair.0 == number then Some pair.1 else first_paired pairs number

-- whether a write of these bytes fails: its number is listed, or the bytes pass the room that is left
abbrev pub write_fails : SinkState → List ℕ → Bool
write_fails sink bytes =
    is_some (first_paired sink.failing sink.writes) || nat_lt (sink.room - length sink.taken) (length bytes)

-- how many of the bytes a write takes: those that fit, and no more than its pair says
abbrev pub taken_by_write : SinkState → List ℕ → ℕ
taken_by_write sink bytes =
    min (min (length bytes) (sink.room - length sink.taken))
    (unwrap_or (first_paired sink.failing sink.writes) (length bytes))

-- the sink after a write of these bytes
abbrev pub after_write : SinkState → List ℕ → SinkState
after_write sink bytes = record sink {
  taken = sink.taken ++ take (taken_by_write sink bytes) bytes;
  writes = min (sink.writes + 1) (2 ^ 32 - 1);
  faults = if write_fails sink bytes then min (sink.faults + 1) (2 ^ 64 - 1) else sink.faults;
}

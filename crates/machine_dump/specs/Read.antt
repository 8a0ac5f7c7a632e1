-- What is kept of a dump that was read.
use Rattle.std.specs.Prelude.{◌≡◌, ℕ, List, Some, None}
use Rattle.machine_dump.specs.Lines.{lines_of}
use Rattle.machine_dump.specs.declared.range.Span.{Span}
use Rattle.machine_dump.specs.Form.{Range, end_of}
use Rattle.machine_dump.specs.Search.{IsBody}
use Rattle.machine_dump.specs.Faults.{dump_fault, machine_in, pc_in, sp_in, link_in, mem_lines}

pub record IsRead (bytes body : List ℕ) (machine pc sp link : ℕ) : Type 0 where
  pub faultless : dump_fault bytes ≡ None
  pub machine_is : machine_in bytes ≡ Some machine
  pub pc_is : pc_in bytes ≡ Some pc
  pub sp_is : sp_in bytes ≡ Some sp
  pub link_is : link_in bytes ≡ Some link
  -- the text behind the first four lines
  pub behind : lines_of body ≡ mem_lines bytes
  pub ordered : IsBody body

-- where a range lies
abbrev pub span_of : Range → Span
span_of range = record { first = range.first; end = end_of range }

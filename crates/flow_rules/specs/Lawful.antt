-- What holds of every function that stands in code.
use Rattle.std.specs.Prelude.{ℕ, ◌≡◌, ◌+◌, ◌<◌, ◌≤◌}
use Rattle.asm_target.specs.declared.sequence.Sequence.TheVariants.{Plain}
use Rattle.asm_target.specs.DepthChange.{longest}
use Rattle.asm_target.specs.FlowFunction.{FlowFunction}
use Rattle.asm_target.specs.Sequences.{count_of, span_of}

-- The places rise. A sequence has an instruction that's judged by it, and at most five; it ends inside the function, and no
-- other one begins inside it
pub record IsLawful (f : FlowFunction) : Type 0 where
  pub rises : (i j : ℕ) → i < j → j < f.count → f.at i < f.at j
  pub some : (s : ℕ) → 0 < span_of (f.found s)
  pub short : (s : ℕ) → count_of (f.found s) ≤ longest
  pub within : (s : ℕ) → s < f.count → s + count_of (f.found s) ≤ f.count
  pub apart : (s j : ℕ) → 0 < j → j < count_of (f.found s) → f.found (s + j) ≡ Plain

-- From which lines instructions come.
use Rattle.std.proofs.Common.{◌≡◌, ℕ, zero, suc, ◌+◌, ◌<◌, ◌≤◌, List, length, Some, inl, inr, sym, ap, subst, ◌∙◌, arith, length-append}
use Rattle.std.specs.Prelude.{◌≢◌}
use Rattle.std.specs.List.{slice_get}
use Rattle.std.proofs.lemmas.Bool.{cases_lt}
use Rattle.std.proofs.lemmas.Option.{slice_get_within}
use Rattle.asm_target.specs.declared.body.Placed.{Placed}
use Rattle.unit_listing.specs.declared.laid.Laid.{Laid}
use Rattle.unit_listing.specs.Joined.{AreJoined}
use Rattle.unit_listing.specs.Kit.{Kit}
use Rattle.link_code.specs.declared.site.Site.{Site}
use Rattle.link_code.specs.Code.{IsCode, IsLine}
use Rattle.link_code.specs.Positions.{count_before, count_of}
use Rattle.link_code.proofs.AddedLemmas.{length_placed}
use Rattle.link_code.proofs.WholeLemmas.{line_long}

-- none of the first n instructions stands at the address
abbrev pub StandElsewhere : {Instr : Type 0} → List (Placed Instr) → ℕ → ℕ → Type 0
StandElsewhere {Instr} code address n = (k : ℕ) (one : Placed Instr) → k < n → slice_get code k ≡ Some one → one.at ≢ address

pub one_elsewhere : {Instr : Type 0} (code : List (Placed Instr)) (address n : ℕ) (one : Placed Instr) → slice_get code n ≡ Some one
    → one.at ≢ address → StandElsewhere code address n → StandElsewhere code address (n + 1)
one_elsewhere {Instr} code address n one here apart before k other less is =
    elim (cases_lt k n) [
      | inl low ↦ before k other low is
      | inr high ↦
          let last : k ≡ n = omega arith in
          let there : slice_get code n ≡ Some other = subst (λ (j : ℕ). slice_get code j ≡ Some other) last is in
          let same : one ≡ other = cc in
          subst (λ (x : Placed Instr). x.at ≢ address) same apart
    ]

module _ {Instr : Type 0} (kit : Kit Instr) (site : Site) (laid : Laid Instr) where
  -- the lines have as many instructions as they are counted
  lines_count : (number : ℕ) (code : List Instr) → AreJoined (IsLine kit site laid) number code → length code ≡ count_before kit laid number
  lines_count zero code none = ap length none
  lines_count (suc number) code (before, last, are, is, whole) =
      let rest = lines_count number before are in
      let one : length last ≡ count_of kit laid number (slice_get laid.body.code number)
      = line_long kit site laid number last is ∙ ap (count_of kit laid number) (sym is.here) in
      ap length whole ∙ length-append before last ∙ omega (arith, rest, one)

  -- so an instruction is one of a line
  pub within_lines : (code : List (Placed Instr)) (number : ℕ) (one : Placed Instr) → IsCode kit site laid code
      → slice_get code number ≡ Some one → count_before kit laid (length laid.body.code) ≤ number → ⊥
  within_lines code number one is here past =
      let count = lines_count (length laid.body.code) is.code is.lines in
      let long : length code ≡ length is.code = ap length is.placed ∙ length_placed kit.set site.entry is.code in
      let within = slice_get_within code number one here in
      omega (arith, count, long, within, past)

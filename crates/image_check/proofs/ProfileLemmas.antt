-- The agreement of an image with its function table, from its parts.
use Rattle.std.proofs.Common.{◌≡◌, ℕ, suc, ◌<◌, false, List, All, inl, inr, subst, sym, arith}
use Rattle.std.proofs.lemmas.Bool.{cases_lt}
use Rattle.asm_target.specs.FlowFunction.{is_within}
use Rattle.elf_image.specs.Contents.{outside_in}
use Rattle.image_check.specs.Profile.{HasHeader, HasRanges}
use Rattle.image_rules.specs.Machine.{Machine}
use Rattle.image_rules.specs.Parts.{HasProfile, count_in, image_range, offset_in}

pub profile_made : {Instr : Type 0} (bytes : List ℕ) (machine : Machine Instr) → HasHeader bytes machine.number machine.quantum
    → HasRanges bytes → All (λ symbol. is_within (image_range bytes) symbol.1 ≡ false) (outside_in bytes) → HasProfile bytes machine
profile_made bytes machine header ranges apart = record {
  some = header.some;
  number = header.number;
  quanta = header.quanta;
  start = header.start;
  first = ranges.first;
  rises = λ index less. (ranges.all index (omega arith)).rises;
  aligned = λ index less. (ranges.all index less).aligned;
  inside = λ index less. (ranges.all index less).inside;
  past = ranges.past;
  outside = apart;
}

ends_above : {Instr : Type 0} (bytes : List ℕ) (machine : Machine Instr) → HasProfile bytes machine → (index : ℕ) → index < count_in bytes
    → offset_in bytes index < offset_in bytes (suc index)
ends_above bytes machine profile index less =
    elim (cases_lt (suc index) (count_in bytes)) [
      | inl inner ↦ profile.rises index inner
      | inr last ↦
          let end : suc index ≡ count_in bytes = omega arith in
          let here = profile.inside index less in
          let all = profile.past in
          subst (λ (n : ℕ). offset_in bytes index < offset_in bytes n) (sym end) (omega arith)
    ]

pub record ProfileParts {Instr : Type 0} (bytes : List ℕ) (machine : Machine Instr) : Type 0 where
  pub header : HasHeader bytes machine.number machine.quantum
  pub ranges : HasRanges bytes
  pub apart : All (λ symbol. is_within (image_range bytes) symbol.1 ≡ false) (outside_in bytes)

pub profile_told : {Instr : Type 0} (bytes : List ℕ) (machine : Machine Instr) → HasProfile bytes machine → ProfileParts bytes machine
profile_told bytes machine profile = record {
  header = record { some = profile.some; number = profile.number; quanta = profile.quanta; start = profile.start };
  ranges = record {
    first = profile.first;
    past = profile.past;
    all = λ index less. record {
      aligned = profile.aligned index less;
      inside = profile.inside index less;
      rises = ends_above bytes machine profile index less;
    };
  };
  apart = profile.outside;
}

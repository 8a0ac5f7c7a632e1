-- The numbers of a build's files, and the lines of its parts.
use Rattle.std.proofs.Common.{◌≡◌, ◌+◌, ◌<◌, ◌≤◌, ℕ, List, [], ◌∷◌, ◌++◌, Some, None, length, arith, subst, ap, ◌∙◌, length-append, append-nil}
use Rattle.std.specs.Prelude.{All}
use Rattle.std.specs.List.{cons_option}
use Rattle.std.proofs.lemmas.List.Elements.{All-push, All-tail, All-weaker, filter_map-append}
use Rattle.goasm_base.specs.Lines.{last_line}
use Rattle.goasm_list.specs.declared.line.ListLine.{ListLine}
use Rattle.goasm_list.specs.Sound.{AreWithin}
use Rattle.goasm_run.specs.declared.part.Part.{Part}
use Rattle.goasm_run.specs.Sources.{file_name, names_of}
use Rattle.goasm_run.specs.PartsRead.{NumbersUpTo}
use Rattle.goasm_run.specs.SourcesLexed.{AreNumbered}

names_with : (parts : List Part) (part : Part)
    → names_of (parts ++ part ∷ []) ≡ names_of parts ++ cons_option (file_name part.role part.name) []
names_with parts part = filter_map-append (λ p. file_name p.role p.name) parts (part ∷ [])

pub numbers_file : (number : ℕ) (parts : List Part) (part : Part)
    → part.file ≡ number → part.line ≤ last_line → file_name part.role part.name ≡ Some part.name
    → NumbersUpTo number parts → NumbersUpTo (number + 1) (parts ++ part ∷ [])
numbers_file number parts part is counted named numbers = record {
  count =
      let more : names_of (parts ++ part ∷ []) ≡ names_of parts ++ part.name ∷ [] = names_with parts part ∙ ap (λ n. names_of parts ++ cons_option n []) named in
      omega (arith, numbers.count, ap length more, length-append (names_of parts) (part.name ∷ []));
  below = All-push (λ p. p.file < number + 1) parts part
      (All-weaker (λ p. p.file < number) (λ p. p.file < number + 1) (λ p below. omega (arith, below)) parts numbers.below)
      (omega (arith, is));
  lines = All-push (λ p. p.line ≤ last_line) parts part numbers.lines counted;
}

pub numbers_value : (number : ℕ) (parts : List Part) (part : Part)
    → part.file ≡ 0 → part.line ≤ last_line → file_name part.role part.name ≡ None
    → NumbersUpTo number parts → NumbersUpTo number (parts ++ part ∷ [])
numbers_value number parts part is counted unnamed numbers = record {
  count =
      let same : names_of (parts ++ part ∷ []) ≡ names_of parts ++ [] = names_with parts part ∙ ap (λ n. names_of parts ++ cons_option n []) unnamed in
      rw (same, append-nil) numbers.count;
  below = All-push (λ p. p.file < number) parts part numbers.below (omega (arith, is, numbers.count));
  lines = All-push (λ p. p.line ≤ last_line) parts part numbers.lines counted;
}

pub numbers_all : (number : ℕ) (parts : List Part) → NumbersUpTo number parts → number ≤ 1001 → AreNumbered parts
numbers_all number parts numbers room = record {
  below = subst (λ n. All (λ part. part.file < n) parts) numbers.count numbers.below;
  lines = numbers.lines;
  few = omega (arith, numbers.count, room);
}

-- the lines behind the first one are as the whole list's
pub within_behind : (left rest : List ListLine) (line : ListLine) → left ≡ line ∷ rest → AreWithin last_line left → AreWithin last_line rest
within_behind left rest line is within =
    All-tail (λ line. (0 < line.line) × (line.line ≤ last_line)) line rest (subst (AreWithin last_line) is within)

-- a list isn't so long that its lines go beyond the greatest one
pub within_last : (most : ℕ) (lines : List ListLine) → most ≤ 1048576 → AreWithin most lines → AreWithin last_line lines
within_last most lines short within =
    All-weaker (λ line. (0 < line.line) × (line.line ≤ most)) (λ line. (0 < line.line) × (line.line ≤ last_line))
    (λ line is. let up = is.1 in (is.0, omega (arith, short, up))) lines within

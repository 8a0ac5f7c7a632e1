-- How lexing the parts of a build goes on, part by part.
use Rattle.std.specs.Prelude.{◌≡◌, ℕ, suc, List, [], ◌∷◌, ◌++◌, ◌+◌, ◌<◌, ◌≤◌, length, All, Option, Some, Result, Err}
use Rattle.goasm_base.specs.Lines.{last_line}
use Rattle.asm_lex.specs.declared.token.Tokens.{Tokens}
use Rattle.asm_lex.specs.Form.{AreTokens}
use Rattle.asm_macro.specs.Places.{AreInTheirFile}
use Rattle.goasm_run.specs.declared.part.Role.{Role}
use Rattle.goasm_run.specs.declared.part.Role.TheVariants as roles
use Rattle.goasm_run.specs.declared.stop.Stop.{Stop}
use Rattle.goasm_run.specs.declared.stop.Stop.TheVariants as stops
use Rattle.goasm_run.specs.declared.part.Part.{Part}
use Rattle.goasm_run.specs.Limits.{source_limit}
use Rattle.goasm_run.specs.Sources.{Sources, names_of}

-- each part has a number that stands for a name, that of the list or of a part before it or itself, and a line up to the
-- greatest one; a list names at most 1,000 files
pub record AreNumbered (parts : List Part) : Type 0 where
  pub below : All (λ part. part.file < suc (length (names_of parts))) parts
  pub lines : All (λ part. part.line ≤ last_line) parts
  pub few : length (names_of parts) ≤ 1000

-- tokens that `lex` gives of one of so many files: they have the form that they may be handed on in, and stand in their file,
-- on lines up to the greatest one
pub record IsLexed (files : ℕ) (tokens : Tokens) : Type 0 where
  pub formed : AreTokens tokens
  pub placed : AreInTheirFile tokens
  pub below : tokens.file < files

-- those of a file that isn't too long
pub record IsFile (files : ℕ) (tokens : Tokens) : Type 0 where
  pub lexed : IsLexed files tokens
  pub few : length tokens.list ≤ source_limit + 1

abbrev pub IsPart : Role → ℕ → Tokens → Type 0
IsPart roles.Source files tokens = IsFile files tokens
IsPart roles.Include files tokens = IsFile files tokens
IsPart roles.Value files tokens = IsLexed files tokens

pub record AreLexed (files : ℕ) (found : Sources) : Type 0 where
  pub in_sources : All (IsFile files) found.sources
  pub in_includes : All (λ include. IsFile files include.1) found.includes
  pub in_defines : All (λ define. IsLexed files define.1) found.defines

-- the sources with one part more
abbrev pub with_part : Sources → Role → List ℕ → Tokens → Sources
with_part done roles.Source name tokens = record done { sources = done.sources ++ tokens ∷ [] }
with_part done roles.Include name tokens = record done { includes = done.includes ++ (name, tokens) ∷ [] }
with_part done roles.Value name tokens = record done { defines = done.defines ++ (name, tokens) ∷ [] }

-- a part has no tokens for this reason
abbrev pub PartStopped : Option (List ℕ) → Stop → Type 0
PartStopped refusal (stops.Refused said) = refusal ≡ Some said
PartStopped refusal stops.Words = ⊥
PartStopped refusal stops.Memory = Unit {0}
PartStopped refusal (stops.Unread name) = ⊥

-- the parts have no tokens for this reason
abbrev pub LexStopped : Result Sources (List ℕ) → Stop → Type 0
LexStopped result (stops.Refused said) = result ≡ Err said
LexStopped result stops.Words = ⊥
LexStopped result stops.Memory = Unit {0}
LexStopped result (stops.Unread name) = ⊥

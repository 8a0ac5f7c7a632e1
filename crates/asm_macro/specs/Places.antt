-- Where tokens and refusals stand: the files, by their numbers, and the lines of tokens.
use Rattle.std.specs.Prelude.{◌≡◌, ℕ, ◌+◌, ◌<◌, ◌≤◌, List, length, All}
use Rattle.goasm_base.specs.declared.pos.Pos.{Pos}
use Rattle.goasm_base.specs.Lines.{last_line}
use Rattle.asm_lex.specs.declared.token.Tokens.{Tokens}
use Rattle.asm_macro.specs.declared.refusal.MacroNo.{MacroNo}
use Rattle.asm_macro.specs.declared.refusal.MacroNo.TheVariants.{M1, M2, M3, M4, M5, M6, M7, Memory}
use Rattle.asm_directive.specs.LineNames.{line_names_of}
use Rattle.asm_macro.specs.Builds.{greatest_file}

-- how many files a build has, with those that `#line` names: the number of each is below this one
abbrev pub file_count : List Tokens → List (List ℕ × Tokens) → List (List ℕ × Tokens) → ℕ
file_count sources includes defines = greatest_file sources includes defines + 1 + length (line_names_of sources includes)

-- a position in one of these files, on a line up to the greatest one
pub record StandsIn (files : ℕ → Type 0) (pos : Pos) : Type 0 where
  pub file : files pos.file
  pub line : pos.line ≤ last_line

-- the position of each token is such a one
abbrev pub StandIn : (ℕ → Type 0) → Tokens → Type 0
StandIn files tokens = All (λ token. StandsIn files token.pos) tokens.list

-- the tokens stand in the file itself, as those do that `lex` gives
abbrev pub AreInTheirFile : Tokens → Type 0
AreInTheirFile tokens = StandIn (λ file. file ≡ tokens.file) tokens

-- all that a build is made of
pub record ArePlaced (sources : List Tokens) (includes defines : List (List ℕ × Tokens)) : Type 0 where
  pub in_sources : All AreInTheirFile sources
  pub in_includes : All (λ include. AreInTheirFile include.1) includes
  pub in_defines : All (λ define. AreInTheirFile define.1) defines

-- the position of a refusal is one of these; want of memory has none
abbrev pub RefusedAt : (Pos → Type 0) → MacroNo → Type 0
RefusedAt positions (M1 pos) = positions pos
RefusedAt positions (M2 pos) = positions pos
RefusedAt positions (M3 pos) = positions pos
RefusedAt positions (M4 pos) = positions pos
RefusedAt positions (M5 pos) = positions pos
RefusedAt positions (M6 pos) = positions pos
RefusedAt positions (M7 pos) = positions pos
RefusedAt positions Memory = Unit {0}

-- the file of a refusal is one of these
abbrev pub RefusedIn : (ℕ → Type 0) → MacroNo → Type 0
RefusedIn files refusal = RefusedAt (λ pos. files pos.file) refusal

-- the file has a number below this one
abbrev pub IsBelow : ℕ → ℕ → Type 0
IsBelow count file = file < count

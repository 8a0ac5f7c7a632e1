-- The tokens of the parts of a build, or the first refusal in their order.
use Rattle.std.specs.Prelude.{ℕ, List, [], ◌∷◌, nat_lt, length, map, Option, Some, None, Result, Ok, Err, if◌then◌else◌}
use Rattle.std.specs.List.{filter_map}
use Rattle.std.specs.Option.{option_map, option_or}
use Rattle.goasm_base.specs.declared.pos.Pos.{Pos}
use Rattle.asm_lex.specs.declared.token.Token.{Token}
use Rattle.asm_lex.specs.declared.token.Tokens.{Tokens}
use Rattle.asm_lex.specs.declared.refusal.LexNo.{LexNo}
use Rattle.asm_lex.specs.declared.refusal.LexNo.TheVariants.{L1, L2, L3, L4, Memory}
use Rattle.asm_lex.specs.Cut.{tokens_of}
use Rattle.asm_lex.specs.Faults.{refusal_of}
use Rattle.goasm_text.specs.declared.refusal.Refusal.TheVariants.{Lex}
use Rattle.goasm_text.specs.Lines.{line_of}
use Rattle.goasm_run.specs.declared.sources.Sources as sources
use Rattle.goasm_run.specs.declared.part.Role.{Role}
use Rattle.goasm_run.specs.declared.part.Role.TheVariants as roles
use Rattle.goasm_run.specs.declared.part.Part.{Part}
use Rattle.goasm_run.specs.Limits.{source_limit}
use Rattle.goasm_run.specs.Lines.{too_long_line}

-- what a build has as tokens: sources, files that they include, and values of macros by their names
pub record Sources : Type 0 where
  pub sources : List Tokens
  pub includes : List (List ℕ × Tokens)
  pub defines : List (List ℕ × Tokens)

-- the name of a part that is a file
abbrev pub file_name : Role → List ℕ → Option (List ℕ)
file_name roles.Source name = Some name
file_name roles.Include name = Some name
file_name roles.Value name = None

-- the names of the parts that are files
abbrev pub names_of : List Part → List (List ℕ)
names_of parts = filter_map (λ part. file_name part.role part.name) parts

-- the names of files by their numbers: the list, and those that it names
unfoldable pub file_names : List ℕ → List Part → List (List ℕ)
file_names list parts = list ∷ names_of parts

-- the place of a token of a value is the line on which the value stands
abbrev pub place_on : ℕ → Pos → Pos
place_on line pos = record { file = pos.file; line = line }

abbrev pub token_on : ℕ → Token → Token
token_on line token = record { pos = place_on line token.pos; glued = token.glued; kind = token.kind; text = token.text }

abbrev pub tokens_on : ℕ → Tokens → Tokens
tokens_on line tokens = record { file = tokens.file; list = map (token_on line) tokens.list }

abbrev pub refusal_on : ℕ → LexNo → LexNo
refusal_on line (L1 pos) = L1 (place_on line pos)
refusal_on line (L2 pos) = L2 (place_on line pos)
refusal_on line (L3 pos) = L3 (place_on line pos)
refusal_on line (L4 pos) = L4 (place_on line pos)
refusal_on line Memory = Memory

-- the tokens of a part: a value is lexed as a file of its line alone would be
abbrev pub tokens_by : Role → ℕ → Tokens → Tokens
tokens_by roles.Source line tokens = tokens
tokens_by roles.Include line tokens = tokens
tokens_by roles.Value line tokens = tokens_on line tokens

abbrev pub part_tokens : Part → Tokens
part_tokens part = tokens_by part.role part.line (tokens_of part.file part.bytes)

-- the line of a file's refusal, where it has one: it is too long, or isn't lexed
unfoldable pub file_refusal : List (List ℕ) → Part → Option (List ℕ)
file_refusal names part =
    if nat_lt source_limit (length part.bytes) then Some (too_long_line part.name)
    else option_map (λ no. line_of (Lex no) names) (refusal_of part.file part.bytes)

-- the line of a value's refusal
unfoldable pub value_refusal : List (List ℕ) → Part → Option (List ℕ)
value_refusal names part =
    option_map (λ no. line_of (Lex (refusal_on part.line no)) names) (refusal_of part.file part.bytes)

abbrev pub refusal_by : Role → List (List ℕ) → Part → Option (List ℕ)
refusal_by roles.Source names part = file_refusal names part
refusal_by roles.Include names part = file_refusal names part
refusal_by roles.Value names part = value_refusal names part

-- the line of the first refusal of the parts in their order
unfoldable pub first_refusal : List (List ℕ) → List Part → Option (List ℕ)
first_refusal names [] = None
first_refusal names (part ∷ parts) = option_or (refusal_by part.role names part) (first_refusal names parts)

-- what a part is a build's source by, an included file, or the value of a macro
abbrev pub source_by : Role → Tokens → Option Tokens
source_by roles.Source tokens = Some tokens
source_by roles.Include tokens = None
source_by roles.Value tokens = None

abbrev pub include_by : Role → List ℕ → Tokens → Option (List ℕ × Tokens)
include_by roles.Source name tokens = None
include_by roles.Include name tokens = Some (name, tokens)
include_by roles.Value name tokens = None

abbrev pub define_by : Role → List ℕ → Tokens → Option (List ℕ × Tokens)
define_by roles.Source name tokens = None
define_by roles.Include name tokens = None
define_by roles.Value name tokens = Some (name, tokens)

unfoldable pub sources_of : List Part → Sources
sources_of parts = record {
  sources = filter_map (λ part. source_by part.role (part_tokens part)) parts;
  includes = filter_map (λ part. include_by part.role part.name (part_tokens part)) parts;
  defines = filter_map (λ part. define_by part.role part.name (part_tokens part)) parts;
}

abbrev pub over_refusal : Option (List ℕ) → Sources → Result Sources (List ℕ)
over_refusal (Some line) found = Err line
over_refusal None found = Ok found

-- the tokens of the parts, or the line of the first refusal
unfoldable pub lexed : List (List ℕ) → List Part → Result Sources (List ℕ)
lexed names parts = over_refusal (first_refusal names parts) (sources_of parts)

-- how the code's tokens of a build are seen
abbrev pub seen : sources.Sources → Sources
seen found = record { sources = found.sources.items; includes = found.includes.items; defines = found.defines.items }

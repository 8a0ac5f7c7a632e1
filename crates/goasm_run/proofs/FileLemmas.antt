-- The files in which refusals stand have names, and `#line` directives leave room for their numbers.
use Rattle.std.proofs.Common.{◌≡◌, ◌≢◌, ◌+◌, ◌-◌, ◌*◌, ◌<◌, ◌≤◌, ◌^◌, ℕ, List, [], ◌∷◌, ◌++◌, map, length, drop, arith, refl, ap, ◌∙◌, length-append, rules}
use Rattle.std.proofs.lemmas.List.{length-map}
use Rattle.std.proofs.Math.Seq.{drop-append_seam}
use Rattle.std.specs.Prelude.{All}
use Rattle.std.specs.List.{fold}
use Rattle.std.proofs.lemmas.List.Elements.{All-nil, All-cons, All-head, All-tail, All-weaker, All-append, All-map}
use Rattle.asm_lex.specs.declared.token.Tokens.{Tokens}
use Rattle.asm_lex.specs.declared.refusal.LexNo.{LexNo}
use Rattle.asm_lex.specs.declared.refusal.LexNo.TheVariants as lexes
use Rattle.asm_lex.specs.Faults.{IsInFile}
use Rattle.asm_lex.specs.Form.{AreTokens}
use Rattle.asm_macro.specs.declared.refusal.MacroNo.{MacroNo}
use Rattle.asm_macro.specs.declared.refusal.MacroNo.TheVariants as macros
use Rattle.asm_directive.specs.LineNames.{token_count, included_tokens, line_names_of}
use Rattle.asm_macro.specs.Builds.{greatest, greatest_file}
use Rattle.asm_macro.specs.Places.{AreInTheirFile, ArePlaced, RefusedIn, StandsIn, StandIn, IsBelow, file_count}
use Rattle.asm_macro.specs.Refusals.{IsFault}
use Rattle.asm_macro.proofs.BuildLemmas.{greatest_append}
use Rattle.asm_macro.proofs.PlaceLemmas.{greatest_within}
use Rattle.goasm_text.specs.declared.refusal.Refusal.TheVariants.{Lex, Macro}
use Rattle.goasm_text.specs.Lines.{HasCause, HasName}
use Rattle.goasm_run.specs.BuildsMade.{AreExpanded}
use Rattle.goasm_run.specs.Limits.{source_limit}
use Rattle.goasm_run.specs.Sources.{Sources, refusal_on}
use Rattle.goasm_run.specs.SourcesLexed.{IsLexed, IsFile, AreLexed}

-- a refusal of a source

pub lex_named : (no : LexNo) (file : ℕ) (names : List (List ℕ)) → IsInFile file no → file < length names → HasName names (Lex no)
lex_named (lexes.L1 pos) file names within below = omega (arith, within)
lex_named (lexes.L2 pos) file names within below = omega (arith, within)
lex_named (lexes.L3 pos) file names within below = omega (arith, within)
lex_named (lexes.L4 pos) file names within below = omega (arith, within)
lex_named lexes.Memory file names within below = tt

pub lex_named_on : (line : ℕ) (no : LexNo) (file : ℕ) (names : List (List ℕ))
    → IsInFile file no → file < length names → HasName names (Lex (refusal_on line no))
lex_named_on line (lexes.L1 pos) file names within below = omega (arith, within)
lex_named_on line (lexes.L2 pos) file names within below = omega (arith, within)
lex_named_on line (lexes.L3 pos) file names within below = omega (arith, within)
lex_named_on line (lexes.L4 pos) file names within below = omega (arith, within)
lex_named_on line lexes.Memory file names within below = tt

pub lex_caused : (no : LexNo) → no ≢ lexes.Memory → HasCause (Lex no)
lex_caused (lexes.L1 pos) fault = search rules
lex_caused (lexes.L2 pos) fault = search rules
lex_caused (lexes.L3 pos) fault = search rules
lex_caused (lexes.L4 pos) fault = search rules
lex_caused lexes.Memory fault = absurd (fault refl)

pub lex_caused_on : (line : ℕ) (no : LexNo) → no ≢ lexes.Memory → HasCause (Lex (refusal_on line no))
lex_caused_on line (lexes.L1 pos) fault = search rules
lex_caused_on line (lexes.L2 pos) fault = search rules
lex_caused_on line (lexes.L3 pos) fault = search rules
lex_caused_on line (lexes.L4 pos) fault = search rules
lex_caused_on line lexes.Memory fault = absurd (fault refl)

-- a refusal of the expansion

pub macro_named : (no : MacroNo) (count : ℕ) (names : List (List ℕ)) → RefusedIn (IsBelow count) no → count ≤ length names → HasName names (Macro no)
macro_named (macros.M1 pos) count names within below = omega (arith, within)
macro_named (macros.M2 pos) count names within below = omega (arith, within)
macro_named (macros.M3 pos) count names within below = omega (arith, within)
macro_named (macros.M4 pos) count names within below = omega (arith, within)
macro_named (macros.M5 pos) count names within below = omega (arith, within)
macro_named (macros.M6 pos) count names within below = omega (arith, within)
macro_named (macros.M7 pos) count names within below = omega (arith, within)
macro_named macros.Memory count names within below = tt

pub macro_caused : (no : MacroNo) → no ≢ macros.Memory → HasCause (Macro no)
macro_caused (macros.M1 pos) fault = search rules
macro_caused (macros.M2 pos) fault = search rules
macro_caused (macros.M3 pos) fault = search rules
macro_caused (macros.M4 pos) fault = search rules
macro_caused (macros.M5 pos) fault = search rules
macro_caused (macros.M6 pos) fault = search rules
macro_caused (macros.M7 pos) fault = search rules
macro_caused macros.Memory fault = absurd (fault refl)

pub macro_fault : (no : MacroNo) → no ≢ macros.Memory → IsFault no
macro_fault (macros.M1 pos) fault = tt
macro_fault (macros.M2 pos) fault = tt
macro_fault (macros.M3 pos) fault = tt
macro_fault (macros.M4 pos) fault = tt
macro_fault (macros.M5 pos) fault = tt
macro_fault (macros.M6 pos) fault = tt
macro_fault (macros.M7 pos) fault = tt
macro_fault macros.Memory fault = absurd (fault refl)

-- what `expand` asks of tokens

pub sources_formed : (files : ℕ) (found : Sources) → AreLexed files found → All AreTokens found.sources
sources_formed files found lexed =
    All-weaker (IsFile files) AreTokens (λ tokens is. is.lexed.formed) found.sources lexed.in_sources

pub includes_formed : (files : ℕ) (found : Sources) → AreLexed files found → All (λ include. AreTokens include.1) found.includes
includes_formed files found lexed =
    All-weaker (λ include. IsFile files include.1) (λ include. AreTokens include.1) (λ include is. is.lexed.formed) found.includes lexed.in_includes

pub defines_formed : (files : ℕ) (found : Sources) → AreLexed files found → All (λ define. AreTokens define.1) found.defines
defines_formed files found lexed =
    All-weaker (λ define. IsLexed files define.1) (λ define. AreTokens define.1) (λ define is. is.formed) found.defines lexed.in_defines

pub are_placed : (files : ℕ) (found : Sources) → AreLexed files found → ArePlaced found.sources found.includes found.defines
are_placed files found lexed = record {
  in_sources = All-weaker (IsFile files) AreInTheirFile (λ tokens is. is.lexed.placed) found.sources lexed.in_sources;
  in_includes = All-weaker (λ include. IsFile files include.1) (λ include. AreInTheirFile include.1) (λ include is. is.lexed.placed) found.includes lexed.in_includes;
  in_defines = All-weaker (λ define. IsLexed files define.1) (λ define. AreInTheirFile define.1) (λ define is. is.placed) found.defines lexed.in_defines;
}

-- the greatest number of a file is that of a name

greatest_split : (found : Sources) → greatest_file found.sources found.includes found.defines
    ≡ greatest (greatest (greatest 0 (map (λ tokens. tokens.file) found.sources)) (map (λ include. include.1.file) found.includes))
    (map (λ define. define.1.file) found.defines)
unfolding greatest_file
greatest_split found =
    let one : List ℕ = map (λ tokens. tokens.file) found.sources in
    let two : List ℕ = map (λ include. include.1.file) found.includes in
    let three : List ℕ = map (λ define. define.1.file) found.defines in
    greatest_append 0 one (two ++ three) ∙ greatest_append (greatest 0 one) two three

pub greatest_below : (count : ℕ) (found : Sources) → 0 < count → AreLexed count found
    → greatest_file found.sources found.includes found.defines < count
greatest_below count found some lexed =
    let one : List ℕ = map (λ tokens. tokens.file) found.sources in
    let two : List ℕ = map (λ include. include.1.file) found.includes in
    let three : List ℕ = map (λ define. define.1.file) found.defines in
    let first : greatest 0 one ≤ count - 1 = greatest_within (λ tokens. tokens.file) 0 (count - 1) found.sources (omega arith)
    (All-weaker (IsFile count) (λ tokens. tokens.file ≤ count - 1) (λ tokens is. let b = is.lexed.below in omega (arith, b)) found.sources lexed.in_sources) in
    let second : greatest (greatest 0 one) two ≤ count - 1 = greatest_within (λ include. include.1.file) (greatest 0 one) (count - 1) found.includes first
    (All-weaker (λ include. IsFile count include.1) (λ include. include.1.file ≤ count - 1) (λ include is. let b = is.lexed.below in omega (arith, b)) found.includes lexed.in_includes) in
    let third : greatest (greatest (greatest 0 one) two) three ≤ count - 1 = greatest_within (λ define. define.1.file) (greatest (greatest 0 one) two) (count - 1) found.defines second
    (All-weaker (λ define. IsLexed count define.1) (λ define. define.1.file ≤ count - 1) (λ define is. let b = is.below in omega (arith, b)) found.defines lexed.in_defines) in
    let split : greatest_file found.sources found.includes found.defines ≡ greatest (greatest (greatest 0 one) two) three = greatest_split found in
    omega (arith, split, third, some)

-- how many tokens files have

counted_from : (all : List Tokens) (start : ℕ) → All (λ tokens. length tokens.list ≤ source_limit + 1) all
    → fold (λ sum tokens. sum + length tokens.list) start all ≤ start + 16777217 * length all
counted_from [] start few = omega arith
counted_from (tokens ∷ all) start few =
    let first = All-head (λ t. length t.list ≤ source_limit + 1) tokens all few in
    let rest = counted_from all (start + length tokens.list) (All-tail (λ t. length t.list ≤ source_limit + 1) tokens all few) in
    omega (arith, first, rest)

pub room_left : (count : ℕ) (found : Sources) (names : ℕ) → 0 < count → count ≤ 1001 → AreLexed count found
    → length found.sources + length found.includes ≤ 1000
    → 4 * names ≤ token_count (found.sources ++ included_tokens found.includes)
    → greatest_file found.sources found.includes found.defines + names < 2 ^ 32
room_left count found names some few lexed most quarter =
    let all : List Tokens = found.sources ++ included_tokens found.includes in
    let each : All (λ tokens. length tokens.list ≤ source_limit + 1) all
    = All-append (λ tokens. length tokens.list ≤ source_limit + 1) found.sources (included_tokens found.includes)
    (All-weaker (IsFile count) (λ tokens. length tokens.list ≤ source_limit + 1) (λ tokens is. is.few) found.sources lexed.in_sources)
    (All-map (λ tokens. length tokens.list ≤ source_limit + 1) (λ include. include.1) found.includes
    (All-weaker (λ include. IsFile count include.1) (λ include. length include.1.list ≤ source_limit + 1) (λ include is. is.few) found.includes lexed.in_includes)) in
    let sum : token_count all ≤ 0 + 16777217 * length all = counted_from all 0 each in
    let joined : length all ≡ length found.sources + length (included_tokens found.includes) = length-append found.sources (included_tokens found.includes) in
    let mapped : length (included_tokens found.includes) ≡ length found.includes = length-map found.includes (λ include. include.1) in
    let last = greatest_below count found some lexed in
    omega (arith, quarter, sum, joined, mapped, most, few, last)

each_within : (all : List Tokens) (start most : ℕ) → fold (λ sum tokens. sum + length tokens.list) start all ≤ most
    → (start ≤ most) × All (λ tokens. length tokens.list ≤ most) all
each_within [] start most within = (within, All-nil (λ tokens. length tokens.list ≤ most))
each_within (tokens ∷ all) start most within =
    let rest = each_within all (start + length tokens.list) most within in
    let here = rest.0 in (
      omega (arith, here),
      All-cons (λ tokens. length tokens.list ≤ most) tokens all (omega (arith, here)) rest.1,
    )

-- what expansion gives

pub are_expanded : (files : List (List ℕ)) (count : ℕ) (all : List Tokens)
    → token_count all ≤ 4000000 → All (StandIn (IsBelow count)) all → count ≤ length files → AreExpanded files all
are_expanded files count all few stand named = record {
  few = (each_within all 0 4000000 few).1;
  placed = All-weaker (StandIn (IsBelow count)) (StandIn (IsBelow (length files)))
      (λ tokens. All-weaker (λ token. StandsIn (IsBelow count) token.pos) (λ token. StandsIn (IsBelow (length files)) token.pos)
      (λ token here. record { file = let below = here.file in omega (arith, below, named); line = here.line }) tokens.list)
      all stand;
}

-- all files have names

pub names_enough : (names more files : List (List ℕ)) (found : Sources) → AreLexed (length names) found → 0 < length names
    → more ≡ line_names_of found.sources found.includes → files ≡ names ++ more
    → file_count found.sources found.includes found.defines ≤ length files
names_enough names more files found lexed some same is =
    let last = greatest_below (length names) found some lexed in
    let count : length files ≡ length names + length more = ap length is ∙ length-append names more in
    let lines : length more ≡ length (line_names_of found.sources found.includes) = ap length same in
    omega (arith, last, count, lines)

-- the names in `#line` directives stand behind those of the files

pub lines_behind : (names more files lines : List (List ℕ)) (count : ℕ) → count ≡ length names → files ≡ names ++ more → lines ≡ drop count files → lines ≡ more
lines_behind names more files lines count counted is behind =
    behind ∙ ap (drop count) is ∙ ap (λ n. drop n (names ++ more)) counted ∙ drop-append_seam names more

-- A build: the files that a list names are read, all are lexed in the list's order, and then all are expanded. What is asked of
-- their tokens is left open.
use Rattle.std.specs.Prelude.{ℕ, List, [], ◌++◌, Result, Ok, Err}
use Rattle.asm_lex.specs.declared.token.Tokens.{Tokens}
use Rattle.asm_directive.specs.LineNames.{line_names_of}
use Rattle.asm_macro.specs.Builds.{Outcome, Done, Refused, outcome_of}
use Rattle.goasm_list.specs.declared.line.ListLine.{ListLine}
use Rattle.goasm_text.specs.declared.refusal.Refusal.TheVariants.{Macro}
use Rattle.goasm_text.specs.Lines.{line_of}
use Rattle.goasm_run.specs.declared.part.Part.{Part}
use Rattle.goasm_run.specs.Plan.{Plan, Refuse}
use Rattle.goasm_run.specs.Lists.{list_plan}
use Rattle.goasm_run.specs.Parts.{ask_parts}
use Rattle.goasm_run.specs.Sources.{Sources, file_names, lexed}

-- what is asked of the names of a build's files, by their numbers, and the tokens of each source
abbrev pub Judge : Type 0
Judge = List (List ℕ) → List Tokens → Plan

module _ (judge : Judge) where
  abbrev pub over_outcome : List (List ℕ) → Outcome → Plan
  over_outcome files (Done all) = judge files all
  over_outcome files (Refused why) = Refuse (line_of (Macro why) files)

  -- behind the names of files come those that `#line` directives give
  abbrev pub over_sources : List (List ℕ) → Result Sources (List ℕ) → Plan
  over_sources names (Err line) = Refuse line
  over_sources names (Ok found) =
      over_outcome (names ++ line_names_of found.sources found.includes)
      (outcome_of found.sources found.includes found.defines)

  -- over the parts of the build
  unfoldable pub build_answer : List ℕ → List Part → Plan
  build_answer list parts = over_sources (file_names list parts) (lexed (file_names list parts) parts)

  -- over the lines of the list
  abbrev pub build_lines : List ℕ → List ListLine → Plan
  build_lines list lines = ask_parts 1 lines [] (build_answer list)

  abbrev pub build_plan : List ℕ → Plan
  build_plan list = list_plan list (build_lines list)

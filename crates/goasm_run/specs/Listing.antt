-- `listing TARGET LIST`: the instructions of each function, with their places.
use Rattle.std.specs.Prelude.{ℕ, Bool, List, Result, Ok, Err}
use Rattle.asm_lex.specs.declared.token.Tokens.{Tokens}
use Rattle.asm_parse.specs.declared.parse_no.ParseNo.{ParseNo}
use Rattle.asm_parse.specs.declared.unit.Unit.{Unit as Said}
use Rattle.asm_parse.specs.Parse.{parsed}
use Rattle.asm_parse.specs.Refusals.{traversed}
use Rattle.goasm_text.specs.declared.refusal.Refusal.TheVariants.{Parse}
use Rattle.goasm_text.specs.Lines.{line_of}
use Rattle.goasm_run.specs.declared.architecture.Architecture.{Architecture}
use Rattle.goasm_run.specs.Builds.{Judge, build_plan}
use Rattle.goasm_run.specs.Plan.{Plan, Refuse, Pose}
use Rattle.goasm_run.specs.Questions as question
use Rattle.goasm_run.specs.Targets.{speaks}

abbrev pub unit_of : (List ℕ → Bool) → Tokens → Result Said ParseNo
unit_of word tokens = parsed word tokens.list

-- what the sources say, or the first refusal in their order
abbrev pub units_of : (List ℕ → Bool) → List Tokens → Result (List Said) ParseNo
units_of word sources = traversed (unit_of word) sources

abbrev pub over_units : Architecture → List (List ℕ) → Result (List Said) ParseNo → Plan
over_units architecture files (Ok units) = Pose (question.Listing architecture files units)
over_units architecture files (Err refused) = Refuse (line_of (Parse refused) files)

-- all sources are parsed before an instruction is chosen
abbrev pub listing_judge : Architecture → Judge
listing_judge architecture files sources = over_units architecture files (units_of (speaks architecture) sources)

abbrev pub listing_plan : Architecture → List ℕ → Plan
listing_plan architecture list = build_plan (listing_judge architecture) list

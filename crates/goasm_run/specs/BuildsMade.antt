-- How a build goes on, from the list's bytes to its tokens, whatever is asked of them.
use Rattle.std.specs.Prelude.{◌≡◌, ℕ, ◌≤◌, List, length, All, Result, IfOk, IfErr}
use Rattle.asm_lex.specs.declared.token.Tokens.{Tokens}
use Rattle.asm_macro.specs.Places.{StandIn, IsBelow}
use Rattle.goasm_run.specs.declared.build.Build.{Build}
use Rattle.goasm_run.specs.declared.stop.Stop.{Stop}
use Rattle.goasm_run.specs.Changes.{ShelfChange, ReadsAll}
use Rattle.goasm_run.specs.Builds.{Judge}
use Rattle.goasm_run.specs.Plan.{Plan}
use Rattle.goasm_run.specs.declared.part.Part.{Part}
use Rattle.goasm_run.specs.SourcesLexed.{AreNumbered}
use Rattle.goasm_run.specs.PartsRead.{LeadsTo}
use Rattle.goasm_run.specs.Stops.{AnswerStopped, Stopped}

-- what holds of the tokens of a build: there aren't too many, and each stands in a file that has a name, on a line up to the
-- greatest one
pub record AreExpanded (files : List (List ℕ)) (sources : List Tokens) : Type 0 where
  pub few : All (λ tokens. length tokens.list ≤ 4000000) sources
  pub placed : All (StandIn (IsBelow (length files))) sources

-- a build that reads nothing is what the plan asks about
pub record Makes (plan : Judge → Plan) (result : Result Build Stop) : Type 0 where
  pub made : IfOk result (λ build. (judge : Judge) → plan judge ≡ judge build.files.items build.sources.items)
  pub expanded : IfOk result (λ build. AreExpanded build.files.items build.sources.items)
  pub stopped : IfErr result (λ stop. (judge : Judge) → AnswerStopped (plan judge) stop)

-- the plan leads to what is asked about the parts of a build
pub record ReadsParts (shelf : ShelfChange) (plan : (List Part → Plan) → Plan) (result : Result (List Part) Stop) : Type 0 where
  pub leads : IfOk result (λ parts. (next : List Part → Plan)
      → LeadsTo shelf.holds (plan next) shelf.reads_before (next parts) shelf.reads_now)
  pub unfailed : IfOk result (λ _. ReadsAll shelf)
  pub numbered : IfOk result AreNumbered
  pub stopped : IfErr result (λ stop. (next : List Part → Plan) → Stopped shelf (plan next) stop)

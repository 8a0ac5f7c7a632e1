-- Why a build has no image.
use Rattle.std.specs.Prelude.{◌⊎◌, List, All}
use Rattle.link_build.specs.declared.build.Build.{Build}
use Rattle.link_build.specs.declared.link_no.LinkNo.{LinkNo}
use Rattle.link_build.specs.declared.link_no.LinkNo.TheVariants as no
use Rattle.link_build.specs.Functions.{Seen, functions_in}
use Rattle.link_build.specs.Refusals.{IsUnresolved}
use Rattle.link_build.specs.Resolved.{IsResolved}
use Rattle.link_code.specs.declared.placing.Code.{Code}
use Rattle.link_flow.specs.declared.around.Around.{Around}
use Rattle.link_flow.specs.Refusals.{IsAstray, IsBreach, IsFirst, IsUnplaced, KeepsGoals, KeepsRules}
use Rattle.link_functions.specs.declared.code.UnitCode.{UnitCode}
use Rattle.link_names.specs.Definitions.{Entry}
use Rattle.link_parts.specs.declared.fitting.Fitted.{Fitted}
use Rattle.link_parts.specs.Fitted.{IsTooLong}
use Rattle.link_parts.specs.Image.{function_places}
use Rattle.link_plan.specs.Plan.{PassesLimit}
use Rattle.unit_listing.specs.Kit.{Kit}
use Rattle.image_link.specs.Linked.{IsFit, IsPlaced}

module _ {Instr : Type 0} (kit : Kit Instr) where
  -- a function goes to an unknown address, or none does, and one breaks a flow rule
  abbrev pub IsUnkept : Around → List (Seen Instr) → List (Code Instr) → LinkNo → Type 0
  IsUnkept around funcs codes refusal =
      IsFirst kit (KeepsGoals kit around) (IsAstray kit around) funcs codes refusal
      ⊎ (All (KeepsGoals kit around) codes × IsFirst kit (KeepsRules kit around) (IsBreach kit around) funcs codes refusal)

module _ {Instr : Type 0} (kit : Kit Instr) (build : Build) where
  -- it has too many functions, or too long a text, data or image
  pub record IsBeyondLimits : Type 0 where
    pub names : List Entry
    pub code : List (UnitCode Instr)
    pub resolved : IsResolved kit build names code
    pub beyond : PassesLimit names build.units code ⊎ IsTooLong kit.quantum build names code

  -- an instruction of a function can't hold an address
  pub record IsOutOfReach (refusal : LinkNo) : Type 0 where
    pub names : List Entry
    pub code : List (UnitCode Instr)
    pub fitted : Fitted
    pub fit : IsFit kit build names code fitted
    pub unplaced : IsUnplaced kit names fitted.addresses (functions_in code) (function_places code) refusal

  -- a function goes to an unknown address
  pub record GoesAstray (refusal : LinkNo) : Type 0 where
    pub names : List Entry
    pub code : List (UnitCode Instr)
    pub fitted : Fitted
    pub codes : List (Code Instr)
    pub around : Around
    pub placed : IsPlaced kit build names code fitted codes around
    pub first : IsFirst kit (KeepsGoals kit around) (IsAstray kit around) (functions_in code) codes refusal

  -- a function breaks a flow rule, and none goes to an unknown address
  pub record BreaksRules (refusal : LinkNo) : Type 0 where
    pub names : List Entry
    pub code : List (UnitCode Instr)
    pub fitted : Fitted
    pub codes : List (Code Instr)
    pub around : Around
    pub placed : IsPlaced kit build names code fitted codes around
    pub goals : All (KeepsGoals kit around) codes
    pub first : IsFirst kit (KeepsRules kit around) (IsBreach kit around) (functions_in code) codes refusal

  -- the first thing that is wrong with the build, and nothing of what is told before it
  abbrev pub IsFirstRefusal : LinkNo → Type 0
  IsFirstRefusal no.N5 = IsBeyondLimits
  IsFirstRefusal (no.N3 name) = IsOutOfReach (no.N3 name)
  IsFirstRefusal (no.N7 name) = GoesAstray (no.N7 name)
  IsFirstRefusal (no.Flow place refused) = BreaksRules (no.Flow place refused)
  IsFirstRefusal refused = IsUnresolved kit build refused

-- What a build is refused for, by the refusal of the call that found it.
use Rattle.std.proofs.Common.{inl, inr, List}
use Rattle.std.specs.Prelude.{All}
use Rattle.link_build.specs.declared.build.Build.{Build}
use Rattle.link_build.specs.declared.link_no.LinkNo.{LinkNo}
use Rattle.link_build.specs.declared.link_no.LinkNo.TheVariants as no
use Rattle.link_build.specs.Functions.{functions_in}
use Rattle.link_build.specs.Refusals.{IsUnresolved}
use Rattle.link_code.specs.declared.placing.Code.{Code}
use Rattle.link_flow.specs.declared.around.Around.{Around}
use Rattle.link_flow.specs.Refusals.{IsAstray, IsBreach, IsFirst, IsUnplaced, KeepsGoals, KeepsRules}
use Rattle.link_functions.specs.declared.code.UnitCode.{UnitCode}
use Rattle.link_names.specs.Definitions.{Entry}
use Rattle.link_parts.specs.declared.fitting.Fitted.{Fitted}
use Rattle.link_parts.specs.Image.{function_places}
use Rattle.unit_listing.specs.Kit.{Kit}
use Rattle.image_link.specs.Linked.{IsFit, IsPlaced}
use Rattle.image_link.specs.Refusals.{IsFirstRefusal, IsUnkept}

module _ {Instr : Type 0} (kit : Kit Instr) (build : Build) where
  pub unresolved : (told : LinkNo) → IsUnresolved kit build told → IsFirstRefusal kit build told
  unresolved (no.N1 name) is = is
  unresolved (no.N6 name) is = is
  unresolved (no.Rewrite refused) is = is
  unresolved (no.Size refused) is = is
  unresolved (no.N2 name) is = is
  unresolved no.N5 is = absurd is
  unresolved (no.N3 name) is = absurd is
  unresolved (no.N7 name) is = absurd is
  unresolved (no.Flow place refused) is = absurd is
  unresolved no.Memory is = absurd is

  module _ (names : List Entry) (code : List (UnitCode Instr)) (fitted : Fitted) where
    pub unplaced : (told : LinkNo) → IsFit kit build names code fitted
        → IsUnplaced kit names fitted.addresses (functions_in code) (function_places code) told → IsFirstRefusal kit build told
    unplaced (no.N3 name) fit is = record { names = names; code = code; fitted = fitted; fit = fit; unplaced = is }
    unplaced (no.N1 name) fit is = absurd is.far
    unplaced (no.N6 name) fit is = absurd is.far
    unplaced (no.Rewrite refused) fit is = absurd is.far
    unplaced (no.Size refused) fit is = absurd is.far
    unplaced (no.N2 name) fit is = absurd is.far
    unplaced no.N5 fit is = absurd is.far
    unplaced (no.N7 name) fit is = absurd is.far
    unplaced (no.Flow place refused) fit is = absurd is.far
    unplaced no.Memory fit is = absurd is.far

    module _ (codes : List (Code Instr)) (around : Around) (placed : IsPlaced kit build names code fitted codes around) where
      astray : (told : LinkNo) → IsFirst kit (KeepsGoals kit around) (IsAstray kit around) (functions_in code) codes told
          → IsFirstRefusal kit build told
      astray (no.N7 name) first =
          record { names = names; code = code; fitted = fitted; codes = codes; around = around; placed = placed; first = first }
      astray (no.N1 name) first = absurd first.broken
      astray (no.N6 name) first = absurd first.broken
      astray (no.Rewrite refused) first = absurd first.broken
      astray (no.Size refused) first = absurd first.broken
      astray (no.N2 name) first = absurd first.broken
      astray no.N5 first = absurd first.broken
      astray (no.N3 name) first = absurd first.broken
      astray (no.Flow place refused) first = absurd first.broken
      astray no.Memory first = absurd first.broken

      breach : (told : LinkNo) → All (KeepsGoals kit around) codes
          → IsFirst kit (KeepsRules kit around) (IsBreach kit around) (functions_in code) codes told → IsFirstRefusal kit build told
      breach (no.Flow place refused) goals first =
          record {
            names = names;
            code = code;
            fitted = fitted;
            codes = codes;
            around = around;
            placed = placed;
            goals = goals;
            first = first;
          }
      breach (no.N1 name) goals first = absurd first.broken
      breach (no.N6 name) goals first = absurd first.broken
      breach (no.Rewrite refused) goals first = absurd first.broken
      breach (no.Size refused) goals first = absurd first.broken
      breach (no.N2 name) goals first = absurd first.broken
      breach no.N5 goals first = absurd first.broken
      breach (no.N3 name) goals first = absurd first.broken
      breach (no.N7 name) goals first = absurd first.broken
      breach no.Memory goals first = absurd first.broken

      pub unkept : (told : LinkNo) → IsUnkept kit around (functions_in code) codes told → IsFirstRefusal kit build told
      unkept told is =
          elim is [
            | inl first ↦ astray told first
            | inr both ↦ breach told both.0 both.1
          ]

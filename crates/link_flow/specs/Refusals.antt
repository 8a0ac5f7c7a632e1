-- Why the functions of a build can't stand where they are to stand: the first that has no instructions there, that goes to an unknown
-- address, or that breaks a flow rule.
use Rattle.std.specs.Prelude.{◌≡◌, ℕ, List, All, Some, false, slice_index, take}
use Rattle.std.specs.List.{slice_get}
use Rattle.asm_target.specs.FlowFunction.{FlowFunction}
use Rattle.asm_target.specs.FlowRules.{IsFirstBreach, IsFlowSound}
use Rattle.flow_rules.specs.declared.flow_no.FlowNo.{FlowNo}
use Rattle.flow_rules.specs.Placing.{function_of, told}
use Rattle.goasm_base.specs.declared.pos.Pos.{Pos}
use Rattle.link_build.specs.declared.link_no.LinkNo.{LinkNo}
use Rattle.link_build.specs.declared.link_no.LinkNo.TheVariants as numbers
use Rattle.link_build.specs.Functions.{Seen}
use Rattle.link_code.specs.declared.placing.Code.{Code}
use Rattle.link_code.specs.declared.site.Site.{Site}
use Rattle.link_code.specs.Astray.{IsFirstAstray, is_astray, range_of}
use Rattle.link_code.specs.Code.{IsUnreached}
use Rattle.link_code.specs.Positions.{HasPos, IsOfLine}
use Rattle.link_names.specs.declared.definition.Meaning.{Meaning}
use Rattle.link_names.specs.Definitions.{Entry}
use Rattle.unit_listing.specs.Kit.{Kit}
use Rattle.link_flow.specs.declared.around.Around.{Around}
use Rattle.link_flow.specs.Around.{surroundings}
use Rattle.link_flow.specs.Codes.{AreCodes, IsSiteOf}
use Rattle.link_flow.specs.Named.{IsNamed}

module _ {Instr : Type 0} (kit : Kit Instr) where
  -- the first line of the function that can't hold an address there refers to this name
  pub record IsTooFar (func : Seen Instr) (site : Site) (name : List ℕ) : Type 0 where
    pub line : ℕ
    pub unreached : IsUnreached kit site func.part.laid line
    pub named : IsNamed func line name

  abbrev pub IsOutOfReach : Seen Instr → Site → LinkNo → Type 0
  IsOutOfReach func site (numbers.N3 name) = IsTooFar func site name
  IsOutOfReach func site _ = ⊥

  -- it's so of the first function that has no instructions at its place; those before it have theirs
  pub record IsUnplaced (names : List Entry) (addresses : List (Meaning × ℕ)) (funcs : List (Seen Instr)) (at : List ℕ) (no : LinkNo)
      : Type 0 where
    pub number : ℕ
    pub func : Seen Instr
    pub here : slice_get funcs number ≡ Some func
    pub site : Site
    pub of : IsSiteOf names addresses func (slice_index at number) site
    pub far : IsOutOfReach func site no
    pub before : (codes : List (Code Instr)) × AreCodes names addresses kit (take number funcs) at codes

  module _ (around : Around) where
    -- a function goes to no address outside the text that no name outside has
    abbrev pub KeepsGoals : Code Instr → Type 0
    KeepsGoals code = All (λ one. is_astray kit.set (range_of around.text) around.symbols.items one ≡ false) code.placed.items

    -- the first instruction of the function that does belongs to a line that refers to this name
    pub record GoesAstray (func : Seen Instr) (code : Code Instr) (name : List ℕ) : Type 0 where
      pub number : ℕ
      pub astray : IsFirstAstray kit.set (range_of around.text) around.symbols.items code.placed.items number
      pub line : ℕ
      pub of : IsOfLine kit func.part.laid number line
      pub named : IsNamed func line name

    abbrev pub IsAstray : Seen Instr → Code Instr → LinkNo → Type 0
    IsAstray func code (numbers.N7 name) = GoesAstray func code name
    IsAstray func code _ = ⊥

    -- a function as the flow rules see it
    abbrev pub rules_of : Code Instr → FlowFunction
    rules_of code = function_of kit.set kit.shape kit.begins code.placed.items code.depths.items (surroundings around)

    abbrev pub KeepsRules : Code Instr → Type 0
    KeepsRules code = IsFlowSound (rules_of code)

    -- it's the first breach of a rule in the function, and comes from this position in the sources
    pub record BreaksRule (func : Seen Instr) (code : Code Instr) (pos : Pos) (refusal : FlowNo) : Type 0 where
      pub breach : IsFirstBreach (rules_of code) (told refusal)
      pub at : HasPos kit func.part.laid code.placed.items refusal.at pos

    abbrev pub IsBreach : Seen Instr → Code Instr → LinkNo → Type 0
    IsBreach func code (numbers.Flow pos refusal) = BreaksRule func code pos refusal
    IsBreach func code _ = ⊥

  -- the first function that doesn't keep something, and why
  pub record IsFirst (Keeps : Code Instr → Type 0) (Breaks : Seen Instr → Code Instr → LinkNo → Type 0) (funcs : List (Seen Instr))
      (codes : List (Code Instr)) (no : LinkNo) : Type 0 where
    pub number : ℕ
    pub func : Seen Instr
    pub here : slice_get funcs number ≡ Some func
    pub code : Code Instr
    pub there : slice_get codes number ≡ Some code
    pub broken : Breaks func code no
    pub before : All Keeps (take number codes)

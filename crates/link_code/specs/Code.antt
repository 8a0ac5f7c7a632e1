-- The instructions of a function at its address.
use Rattle.std.specs.Prelude.{◌≡◌, ℕ, ◌+◌, ◌-◌, ◌<◌, List, [], ◌∷◌, All, length, replicate, take, Option, Some, None, slice_index}
use Rattle.std.specs.List.{slice_get}
use Rattle.goasm_base.specs.declared.statement.Function.{Function}
use Rattle.goasm_base.specs.Statements.{IsValidFunction}
use Rattle.asm_target.specs.declared.body.Line.{Line}
use Rattle.asm_target.specs.declared.body.Placed.{Placed}
use Rattle.asm_target.specs.declared.refer.Refer.{Refer}
use Rattle.asm_target.specs.declared.refer.To.{To}
use Rattle.asm_target.specs.Aiming.{Aims, bytes_of}
use Rattle.least_forms.specs.Problem.{Problem, at, place}
use Rattle.branch_size.specs.Sizing.{IsSized, branches_of}
use Rattle.image_rules.specs.Functions.{placed_from}
use Rattle.unit_listing.specs.declared.laid.Laid.{Laid}
use Rattle.unit_listing.specs.Joined.{AreJoined}
use Rattle.unit_listing.specs.Kit.{Kit}
use Rattle.unit_listing.specs.Laid.{IsLaid, IsTold}
use Rattle.unit_listing.specs.Lines.{refer_in, seen_from}
use Rattle.link_code.specs.declared.site.Site.{Site}
use Rattle.link_code.specs.Goals.{goal_of, line_address}

module _ {Instr : Type 0} (kit : Kit Instr) where
  -- what is laid out is a function of a unit that has so many symbols
  abbrev pub IsOfUnit : ℕ → Laid Instr → Type 0
  IsOfUnit symbols laid = (function : Function) × IsValidFunction symbols function × IsLaid kit function laid

  -- its lines as branch relaxation sees them
  abbrev pub lines_in : Laid Instr → Problem
  lines_in laid = branches_of kit.set kit.fits kit.aiming kit.quantum (kit.check laid.body.frame) laid.body.code

  -- where the line of this number begins, as the lengths of those before it have it
  abbrev pub begins_at : Site → Laid Instr → ℕ → ℕ
  begins_at site laid number = site.entry + place (lines_in laid) (at laid.sizes.forms) number

  module _ (goals : To → Option ℕ) where
    -- The instruction j stands for i at the address `at`: it holds the address that i refers to, and where i refers to nothing it's i
    -- itself. The line before begins at `back`
    abbrev pub IsAimed : Option Refer → ℕ → ℕ → Instr → Instr → Type 0
    IsAimed None back at i j = j ≡ i
    IsAimed (Some refer) back at i j =
        (goal : ℕ) × (goals refer.to ≡ Some goal) × Aims kit.set kit.fits kit.aiming i refer.part (seen_from refer.part back at) goal j

    -- no other instruction than j stands for i there
    abbrev pub IsOnly : Option Refer → ℕ → ℕ → Instr → Instr → Type 0
    IsOnly refer back at i j = (k : Instr) → IsAimed refer back at i k → k ≡ j

    -- The instruction of this number in the form of a line that begins at `at`: the last one holds what the line refers to. It's the
    -- only one that can stand there
    abbrev pub IsPart : Option Refer → ℕ → ℕ → List Instr → ℕ → List Instr → Type 0
    IsPart refer back at form number code =
        (i : Instr) × (slice_get form number ≡ Some i) × (j : Instr)
        × IsAimed (refer_in form number refer) back (at + bytes_of kit.set (take number form)) i j
        × IsOnly (refer_in form number refer) back (at + bytes_of kit.set (take number form)) i j × (code ≡ j ∷ [])

    -- all instructions of the form, one behind the other
    abbrev pub AreParts : Option Refer → ℕ → ℕ → List Instr → List Instr → Type 0
    AreParts refer back at form code = AreJoined (IsPart refer back at form) (length form) code

    -- no instruction stands for the last one of the form
    abbrev pub IsBeyond : Option Refer → ℕ → ℕ → List Instr → Type 0
    IsBeyond refer back at form =
        (i j : Instr) → slice_get form (length form - 1) ≡ Some i
        → ¬ IsAimed refer back (at + bytes_of kit.set (take (length form - 1) form)) i j

  -- what is relied on of a function's lines where they are placed: each leads somewhere, where it refers to something
  pub record IsReady (site : Site) (laid : Laid Instr) : Type 0 where
    pub told : IsTold kit laid
    pub sized : IsSized (lines_in laid) laid.sizes
    pub fit : All (λ line. kit.fits line.instr) laid.body.code
    pub some : 0 < length laid.body.code
    pub leads : (number : ℕ) (line : Line Instr) (refer : Refer) → slice_get laid.body.code number ≡ Some line → line.refer ≡ Some refer
        → (goal : ℕ) × (goal_of kit site laid refer.to ≡ Some goal)

  -- the form that the line of this number has
  abbrev pub form_in : Laid Instr → ℕ → Line Instr → List Instr
  form_in laid number line = kit.aiming.forms line.instr (slice_index laid.sizes.forms number)

  -- the depth of the line of this number, for each of its instructions
  pub record HasDepth (laid : Laid Instr) (number : ℕ) (depths : List ℕ) : Type 0 where
    pub line : Line Instr
    pub here : slice_get laid.body.code number ≡ Some line
    pub each : depths ≡ replicate (length (form_in laid number line)) line.depth

  abbrev pub HaveDepths : Laid Instr → List ℕ → Type 0
  HaveDepths laid depths = AreJoined (HasDepth laid) (length laid.body.code) depths

  module _ (site : Site) (laid : Laid Instr) where
    -- the instructions of the line of this number
    pub record IsLine (number : ℕ) (code : List Instr) : Type 0 where
      pub line : Line Instr
      pub here : slice_get laid.body.code number ≡ Some line
      pub parts : AreParts (goal_of kit site laid) line.refer (line_address site laid (number - 1)) (line_address site laid number)
          (form_in laid number line) code

    -- the function's instructions from its entry on: those of its lines, one behind the other
    pub record IsCode (all : List (Placed Instr)) : Type 0 where
      pub code : List Instr
      pub lines : AreJoined IsLine (length laid.body.code) code
      pub placed : all ≡ placed_from kit.set site.entry code
      pub fit : All kit.fits code
      pub some : 0 < length code
      pub long : bytes_of kit.set code ≡ laid.sizes.length

    -- no instruction that the line of this number may end with holds the address that the line refers to
    pub record IsTooFar (number : ℕ) : Type 0 where
      pub line : Line Instr
      pub here : slice_get laid.body.code number ≡ Some line
      pub refer : Refer
      pub refers : line.refer ≡ Some refer
      pub goal : ℕ
      pub leads : goal_of kit site laid refer.to ≡ Some goal
      pub beyond : (i j : Instr) → slice_get (form_in laid number line) (length (form_in laid number line) - 1) ≡ Some i
          → ¬ Aims kit.set kit.fits kit.aiming i refer.part
          (seen_from refer.part (line_address site laid (number - 1))
          (line_address site laid number + bytes_of kit.set (take (length (form_in laid number line) - 1) (form_in laid number line)))) goal j

    -- it's the first such line
    pub record IsUnreached (number : ℕ) : Type 0 where
      pub far : IsTooFar number
      pub before : (code : List Instr) × AreJoined IsLine number code

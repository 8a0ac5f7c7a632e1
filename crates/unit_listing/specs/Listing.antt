-- The listing of a build's units, and what is refused of them.
use Rattle.std.specs.Prelude.{◌≡◌, ℕ, ◌<◌, List, ◌++◌, length, codes}
use Rattle.goasm_base.specs.declared.statement.Function.{Function}
use Rattle.asm_target.specs.declared.body.Body.{Body}
use Rattle.asm_parse.specs.declared.unit.Symbol.{Symbol}
use Rattle.asm_parse.specs.declared.unit.Unit.{Unit as Said}
use Rattle.branch_size.specs.Sizing.{IsSized, IsOutOfReach}
use Rattle.least_forms.specs.declared.sizes.Sizes.{Sizes}
use Rattle.obj_rewrite.specs.Rewritten.{IsRefusedAt, IsTooLarge}
use Rattle.unit_listing.specs.declared.listing_no.ListingNo.{ListingNo}
use Rattle.unit_listing.specs.declared.listing_no.ListingNo.TheVariants.{RW1, Select, B1, Memory}
use Rattle.unit_listing.specs.Joined.{AreJoined, HaveTexts, IsFirstRefused}
use Rattle.unit_listing.specs.Kit.{Kit, IsRewritten, branches, frame_of, guard_of, rules_for}
use Rattle.unit_listing.specs.Lines.{IsLine, symbol_name}

-- `TEXT NAME` and a newline
abbrev pub header : List Symbol → Function → List ℕ
header symbols function = codes "TEXT " ++ symbol_name symbols function.sym ++ codes "\n"

module _ {Instr : Type 0} (kit : Kit Instr) where
  module _ (symbols : List Symbol) where
    -- the text of a function: its name, and the lines of its instructions, each at its place
    pub record IsFunctionText (function : Function) (text : List ℕ) : Type 0 where
      pub body : Body Instr
      pub rewritten : IsRewritten kit function body
      pub sizes : Sizes
      pub sized : IsSized (branches kit function body.code) sizes
      pub lines : List ℕ
      pub joined : AreJoined (IsLine kit symbols function.flags (guard_of kit function) body.code sizes) (length body.code) lines
      pub whole : text ≡ header symbols function ++ lines

  -- a function has no instructions, or a branch of its instructions doesn't reach
  abbrev pub IsRefused : Function → ListingNo → Type 0
  IsRefused function (RW1 place total) = IsTooLarge kit.machine function place total
  IsRefused function (Select place why) =
      IsRefusedAt (rules_for kit function) function (frame_of kit function) (guard_of kit function) (kit.entry (frame_of kit function))
      place why
  IsRefused function (B1 place distance) =
      (body : Body Instr) × IsRewritten kit function body
      × IsOutOfReach (branches kit function body.code) body.code place distance
  IsRefused function Memory = ⊥

  -- the text of a unit: of its functions, in their order
  abbrev pub IsUnitText : Said → List ℕ → Type 0
  IsUnitText unit text = HaveTexts (IsFunctionText unit.symbols) unit.functions text

  abbrev pub IsUnitRefused : Said → ListingNo → Type 0
  IsUnitRefused unit refusal = IsFirstRefused (IsFunctionText unit.symbols) IsRefused unit.functions refusal

  -- the text of units, one behind the other
  abbrev pub IsText : List Said → List ℕ → Type 0
  IsText units text = HaveTexts IsUnitText units text

  -- the first function of the units that has no text, and why
  abbrev pub IsFirstRefusal : List Said → ListingNo → Type 0
  IsFirstRefusal units refusal = IsFirstRefused IsUnitText IsUnitRefused units refusal

-- the place of a refusal is in one of the first so many files
abbrev pub NoIn : ℕ → ListingNo → Type 0
NoIn count (RW1 place total) = place.file < count
NoIn count (Select place why) = place.file < count
NoIn count (B1 place distance) = place.file < count
NoIn count Memory = Unit {0}

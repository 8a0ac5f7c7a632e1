-- The lines of a function's listing.
use Rattle.std.specs.Prelude.{◌≡◌, ◌⊎◌, ℕ, ℤ, pos, ◌+◌, ◌-◌, ◌==◌, List, [], ◌++◌, length, take, codes, bit_and, slice_index, Option, Some, None, if◌then◌else◌}
use Rattle.std.specs.List.{slice_get}
use Rattle.std.specs.Option.{option_and_then, option_map}
use Rattle.goasm_base.specs.Numbers.{decimal_text}
use Rattle.asm_target.specs.declared.body.Line.{Line}
use Rattle.asm_target.specs.declared.frame.Guard.{Guard}
use Rattle.asm_target.specs.declared.refer.Part.{Part}
use Rattle.asm_target.specs.declared.refer.Part.TheVariants.{Whole, High, Low}
use Rattle.asm_target.specs.declared.refer.Refer.{Refer}
use Rattle.asm_target.specs.declared.refer.To.{To}
use Rattle.asm_target.specs.declared.refer.To.TheVariants as to
use Rattle.asm_target.specs.Aiming.{Aims, bytes_of}
use Rattle.asm_target.specs.Goals.{is_outside, line_of}
use Rattle.asm_parse.specs.declared.unit.Symbol.{Symbol}
use Rattle.least_forms.specs.declared.sizes.Sizes.{Sizes}
use Rattle.unit_listing.specs.Joined.{AreJoined}
use Rattle.unit_listing.specs.Kit.{Kit}

abbrev pub name_of : Option Symbol → List ℕ
name_of None = []
name_of (Some symbol) = symbol.name

-- the name of the symbol of this number
abbrev pub symbol_name : List Symbol → ℕ → List ℕ
symbol_name symbols number = name_of (slice_get symbols number)

-- The routine that grows the stack. Where the function has a context register, which the flag NEEDCTXT, 64, of Go's textflag.h says,
-- it's the one that keeps that
abbrev pub growth_name : ℕ → List ℕ
growth_name flags = if bit_and flags 64 == 0 then codes "runtime.morestack_noctxt" else codes "runtime.morestack"

-- a place at a symbol, or behind or before it
abbrev pub symbol_text : List ℕ → ℤ → List ℕ
symbol_text name off = codes " ; " ++ name ++ codes "+" ++ decimal_text off

-- what stands behind an instruction that refers to a symbol
abbrev pub outside_text : List Symbol → ℕ → To → List ℕ
outside_text symbols flags (to.Symbol sym off) = symbol_text (symbol_name symbols sym) off
outside_text symbols flags to.Grow = symbol_text (growth_name flags) (pos 0)
outside_text symbols flags _ = []

abbrev pub refer_text : List Symbol → ℕ → Option Refer → List ℕ
refer_text symbols flags None = []
refer_text symbols flags (Some refer) = outside_text symbols flags refer.to

-- the address at which an instruction is shown: where it stands, and 0 where it refers to a symbol
abbrev pub shown_at : Option Refer → ℕ → ℕ
shown_at None place = place
shown_at (Some refer) place = if is_outside refer.to then 0 else place

-- the place from which a part of an address is seen: its own, and for the second of a pair that of the line before, the first
abbrev pub seen_from : Part → ℕ → ℕ → ℕ
seen_from Whole back place = place
seen_from High back place = place
seen_from Low back place = back

-- From where an instruction is aimed, and at what: a symbol is at 0, and so is what refers to it. The function tells the places inside
abbrev pub aim_to : (To → Option ℕ) → To → Part → ℕ → ℕ → Option (ℕ × ℕ)
aim_to place_of (to.Symbol sym off) part back place = Some (0, 0)
aim_to place_of to.Grow part back place = Some (0, 0)
aim_to place_of goal part back place = option_map (λ found. (seen_from part back place, found)) (place_of goal)

abbrev pub aim_of : (To → Option ℕ) → Option Refer → ℕ → ℕ → Option (ℕ × ℕ)
aim_of place_of None back place = None
aim_of place_of (Some refer) back place = aim_to place_of refer.to refer.part back place

-- the last instruction of a form holds what its line refers to
abbrev pub refer_in : {Instr : Type 0} → List Instr → ℕ → Option Refer → Option Refer
refer_in form number refer = if number + 1 == length form then refer else None

-- `OFFSET DEPTH LINE TEXT` and a newline: the offset from the function's first instruction, the depth of the stack, both in bytes,
-- the line in the sources, and what is said of the instruction; behind it the symbol, if any
abbrev pub line_text : {Instr : Type 0} → ℕ → Line Instr → List ℕ → List ℕ → List ℕ
line_text offset line said symbol =
    decimal_text (pos offset) ++ codes " " ++ decimal_text (pos line.depth) ++ codes " " ++ decimal_text (pos line.pos.line)
    ++ codes " " ++ said ++ symbol ++ codes "\n"

-- the place of the line that a reference leads to inside a function whose lines have these places
abbrev pub place_to : {Instr : Type 0} → Guard Instr → List (Line Instr) → List ℕ → To → Option ℕ
place_to guard code places goal = option_and_then (slice_get places) (line_of guard code goal)

module _ {Instr : Type 0} (kit : Kit Instr) where
  -- j is i with the goal in place of its address, and nothing else is
  pub record IsOnlyAim (i : Instr) (part : Part) (place goal : ℕ) (j : Instr) : Type 0 where
    pub aims : Aims kit.set kit.fits kit.aiming i part place goal j
    pub only : (k : Instr) → Aims kit.set kit.fits kit.aiming i part place goal k → k ≡ j

  -- an instruction that can't hold the goal stays as it is
  abbrev pub IsAimed : Instr → Part → ℕ → ℕ → Instr → Type 0
  IsAimed i part place goal j =
      IsOnlyAim i part place goal j
      ⊎ (((k : Instr) → ¬ Aims kit.set kit.fits kit.aiming i part place goal k) × (j ≡ i))

  abbrev pub StandsBy : Option (ℕ × ℕ) → Part → Instr → Instr → Type 0
  StandsBy None part i j = j ≡ i
  StandsBy (Some aim) part i j = IsAimed i part aim.0 aim.1 j

  abbrev pub part_of : Option Refer → Part
  part_of None = Whole
  part_of (Some refer) = refer.part

  -- the instruction j is shown for i: aimed, where i refers to something
  abbrev pub StandsFor : (To → Option ℕ) → Option Refer → ℕ → ℕ → Instr → Instr → Type 0
  StandsFor place_of refer back place i j = StandsBy (aim_of place_of refer back place) (part_of refer) i j

  module _ (symbols : List Symbol) (flags : ℕ) (guard : Guard Instr) (code : List (Line Instr)) (sizes : Sizes) where
    -- The text of an instruction of a line. It stands at `place`, and the line before its own at `back`
    pub record IsSaid (line : Line Instr) (back place : ℕ) (instr : Instr) (refer : Option Refer) (text : List ℕ) : Type 0 where
      pub shown : Instr
      pub stands : StandsFor (place_to guard code sizes.places) refer back place instr shown
      pub whole : text ≡ line_text place line (kit.set.text shown (shown_at refer place)) (refer_text symbols flags refer)

    -- the text of the instruction of this number in a form of a line, which stands at `place`
    abbrev pub IsShown : Line Instr → ℕ → ℕ → List Instr → ℕ → List ℕ → Type 0
    IsShown line back place form number text =
        (instr : Instr) × (slice_get form number ≡ Some instr)
        × IsSaid line back (place + bytes_of kit.set (take number form)) instr (refer_in form number line.refer) text

    abbrev pub AreShown : Line Instr → ℕ → ℕ → List Instr → List ℕ → Type 0
    AreShown line back place form text = AreJoined (IsShown line back place form) (length form) text

    -- the text of the line of this number: of the instructions of its form, one behind the other
    pub record IsLine (number : ℕ) (text : List ℕ) : Type 0 where
      pub line : Line Instr
      pub here : slice_get code number ≡ Some line
      pub shown : AreShown line (slice_index sizes.places (number - 1)) (slice_index sizes.places number)
          (kit.aiming.forms line.instr (slice_index sizes.forms number)) text

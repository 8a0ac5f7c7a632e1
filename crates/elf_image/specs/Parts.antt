-- The parts of which an image is written.
use Rattle.std.specs.Prelude.{◌≡◌, ℕ, Bool, false, ◌==◌, ◌&&◌, not, ◌≤◌, ◌<◌, ◌^◌, List, [], ◌∷◌, Option, Some, None, IsTrue, if◌then◌else◌}
use Rattle.std.specs.List.{list_all}
use Rattle.elf_image.specs.declared.group.Group.{Group}
use Rattle.elf_image.specs.declared.group.Group.TheVariants.{LocalFunctions, LocalValues, GlobalFunctions, GlobalValues, Outside}
use Rattle.elf_image.specs.declared.parts.SymbolPart.{SymbolPart}
use Rattle.elf_image.specs.Groups.{rank, is_function}
use Rattle.elf_image.specs.Symbols.{is_zero}

abbrev pub function_group : Bool → Group
function_group local = if local then LocalFunctions else GlobalFunctions

abbrev pub value_group : Bool → Group
value_group local = if local then LocalValues else GlobalValues

-- the group of a symbol that is to be written
abbrev pub group_of_part : SymbolPart → Group
group_of_part part =
    if part.kind == 0 then function_group part.local else if part.kind == 1 then value_group part.local else Outside

-- a symbol has one of the three kinds; what lies outside isn't local and has no size; a name has no zero byte
pub record IsPart (part : SymbolPart) : Type 0 where
  pub kind : part.kind ≤ 2
  pub outside : part.kind ≡ 2 → (part.local ≡ false) × (part.size ≡ 0)
  pub name : IsTrue (list_all (λ byte. not (is_zero byte)) part.name)
  pub address : part.at < 2 ^ 64
  pub size : part.size < 2 ^ 64

-- groups don't fall, and the functions of a group rise by address
pub record CanFollow (before part : SymbolPart) : Type 0 where
  pub groups : rank (group_of_part before) ≤ rank (group_of_part part)
  pub rising : IsTrue (is_function (group_of_part part)) → rank (group_of_part part) ≡ rank (group_of_part before) → before.at < part.at

abbrev pub FollowsLast : Option SymbolPart → SymbolPart → Type 0
FollowsLast None part = Unit {0}
FollowsLast (Some before) part = CanFollow before part

abbrev pub AreOrdered : Option SymbolPart → List SymbolPart → Type 0
AreOrdered before [] = Unit {0}
AreOrdered before (part ∷ parts) = FollowsLast before part × AreOrdered (Some part) parts

-- the symbol is a function at the entry
abbrev pub is_entry : ℕ → SymbolPart → Bool
is_entry entry part = is_function (group_of_part part) && part.at == entry

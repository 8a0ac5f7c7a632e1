-- What the tables of a function have to tell of stretches of it.
use Rattle.std.specs.Prelude.{◌≡◌, ℕ, ℤ, pos, List, All, IsSome, map}
use Rattle.pclntab.specs.Func.{DepthsOver, FilesOver, LinesOver, numbered_from}
use Rattle.pclntab.specs.Places.{unit_field}
use Rattle.pclntab.specs.Words.{u32_at}

-- none of the numbers is negative
abbrev pub AreNatural : List ℤ → Type 0
AreNatural numbers = (naturals : List ℕ) × (numbers ≡ map pos naturals)

module _ (table : List ℕ) (index : ℕ) where
  -- the number stands for a file of the function
  abbrev pub IsFile : ℤ → Type 0
  IsFile number = IsSome (numbered_from table (u32_at table (unit_field table index)) number)

  -- the line table covers the stretches up to these ends, with lines that aren't negative
  pub record HasLines (ends : List ℕ) : Type 0 where
    pub lines : List ℕ
    pub over : LinesOver table index ends (map pos lines)

  -- so does the file table, with numbers that stand for files
  pub record HasFiles (ends : List ℕ) : Type 0 where
    pub files : List ℤ
    pub over : FilesOver table index ends files
    pub named : All IsFile files

  -- the tables cover the stretches, with these depths
  pub record AreTold (ends depths : List ℕ) : Type 0 where
    pub depth : DepthsOver table index ends (map pos depths)
    pub line : HasLines ends
    pub file : HasFiles ends

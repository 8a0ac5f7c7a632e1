-- What the steps of writing a table know.
use Rattle.std.specs.Prelude.{ℕ, List, [], ◌∷◌, ◌+◌, ◌*◌, ◌^◌, ◌<◌, length}
use Rattle.pcvalue.specs.Writing.{AreRuns}
use Rattle.pclntab.specs.declared.parts.TableParts.{TableParts}
use Rattle.pclntab.specs.declared.parts.FuncPart.{FuncPart}
use Rattle.pclntab.specs.declared.writing.Subtables.{Subtables}
use Rattle.pclntab.specs.Written.{texts, kept_of, stored, first_record, names_of}

-- the five tables behind the header, in their order
abbrev pub five_of : Subtables → List (List ℕ)
five_of five = five.names.now ∷ five.units.now ∷ five.files.now ∷ five.pcs.now ∷ five.funcs.now ∷ []

-- offsets and places in the tables fit four bytes
pub record FitWords (parts : TableParts) : Type 0 where
  pub names : length (texts (names_of parts.funcs)) < 2 ^ 32
  pub files : length (texts parts.files) < 2 ^ 32
  pub pcs : length (stored (kept_of parts)) < 2 ^ 32
  pub funcs : first_record parts + 44 * length parts.funcs < 2 ^ 32

-- the three lists of a function can be pc-value tables
pub record HasRuns (quantum : ℕ) (func : FuncPart) : Type 0 where
  pub depth : AreRuns quantum func.depth
  pub file : AreRuns quantum func.file
  pub line : AreRuns quantum func.line

-- The two built-in files.
use Rattle.std.specs.Prelude.{ℕ, Bool, true, false, List, [], ◌∷◌, codes, Option, Some, None, Result, Ok, Err, bytes_eq, if◌then◌else◌}
use Rattle.goasm_base.specs.declared.pos.Pos.{Pos}
use Rattle.asm_lex.specs.declared.token.Kind.TheVariants.{Number}
use Rattle.asm_lex.specs.declared.token.Token.{Token}
use Rattle.asm_macro.specs.declared.refusal.MacroNo.{MacroNo}
use Rattle.asm_macro.specs.declared.refusal.MacroNo.TheVariants.{M6}
use Rattle.asm_macro.specs.declared.built_in.BuiltIn.{BuiltIn}
use Rattle.asm_macro.specs.declared.built_in.BuiltIn.TheVariants.{Textflag, Funcdata}
use Rattle.asm_macro.specs.declared.built_in.Row.{Row}
use Rattle.asm_directive.specs.Names.{with_name}
use Rattle.asm_macro.specs.Definitions.{Definition, Definitions}

unfoldable pub built_in_named : List ℕ → Option BuiltIn
built_in_named name =
    if bytes_eq name (codes "textflag.h") then Some Textflag
    else (if bytes_eq name (codes "funcdata.h") then Some Funcdata else None)

-- a number's token; where it is used it gets the position of the use
abbrev pub number_token : ℕ → List ℕ → Token
number_token value text =
    record { pos = record { file = 0; line = 1 }; glued = false; kind = Number value; text = text }

abbrev pub flag : List ℕ → ℕ → List ℕ → Row
flag name value text = record { name = name; body = number_token value text ∷ [] }

abbrev pub empty : List ℕ → Row
empty name = record { name = name; body = [] }

-- the flags of TEXT and GLOBL
unfoldable pub textflag : List Row
textflag =
    flag (codes "NOPROF") 1 (codes "1")
    ∷ flag (codes "DUPOK") 2 (codes "2")
    ∷ flag (codes "NOSPLIT") 4 (codes "4")
    ∷ flag (codes "RODATA") 8 (codes "8")
    ∷ flag (codes "NOPTR") 16 (codes "16")
    ∷ flag (codes "WRAPPER") 32 (codes "32")
    ∷ flag (codes "NEEDCTXT") 64 (codes "64")
    ∷ flag (codes "TLSBSS") 256 (codes "256")
    ∷ flag (codes "NOFRAME") 512 (codes "512")
    ∷ flag (codes "REFLECTMETHOD") 1024 (codes "1024")
    ∷ flag (codes "TOPFRAME") 2048 (codes "2048")
    ∷ flag (codes "ABIWRAPPER") 4096 (codes "4096")
    ∷ []

unfoldable pub funcdata : List Row
funcdata = empty (codes "GO_ARGS") ∷ empty (codes "NO_LOCAL_POINTERS") ∷ empty (codes "GO_RESULTS_INITIALIZED") ∷ []

abbrev pub rows_of : BuiltIn → List Row
rows_of Textflag = textflag
rows_of Funcdata = funcdata

abbrev pub is_defined_by : BuiltIn → Option BuiltIn → Bool
is_defined_by file None = false
is_defined_by Textflag (Some Textflag) = true
is_defined_by Textflag (Some Funcdata) = false
is_defined_by Funcdata (Some Textflag) = false
is_defined_by Funcdata (Some Funcdata) = true

abbrev pub row_definition : BuiltIn → Row → Definition
row_definition file row = record { parameters = None; body = row.body; origin = Some file }

-- a definition is passed over where the name is defined by the same built-in file
unfoldable pub with_rows : BuiltIn → Pos → Definitions → List Row → Result Definitions MacroNo
with_rows file pos definitions [] = Ok definitions
with_rows file pos definitions (row ∷ rows) =
    elim (definitions row.name) [
      | None ↦ with_rows file pos (with_name definitions row.name (Some (row_definition file row))) rows
      | Some there ↦ if is_defined_by file there.origin then with_rows file pos definitions rows else Err (M6 pos)
    ]

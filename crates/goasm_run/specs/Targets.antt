-- What a build for an architecture needs of it: the words of its statements, and how these become instructions. And what the check
-- of an image needs.
use Rattle.std.specs.Prelude.{ℕ, Bool, List, [], ◌∷◌, ◌++◌, map, bytes_eq, codes, None}
use Rattle.std.specs.List.{list_any}
use Rattle.machine_effect.specs.Shapes.{amd64_shape}
use Rattle.amd64_table.specs.declared.condition.Cc.{Cc}
use Rattle.amd64_table.specs.declared.condition.Cc.TheVariants as cc
use Rattle.amd64_table.specs.declared.instr.Instr.{Instr}
use Rattle.amd64_table.specs.declared.reg.Reg.{Reg}
use Rattle.amd64_table.specs.declared.reg.Reg.TheVariants as reg
use Rattle.amd64_table.specs.declared.xmm.Xmm.{Xmm}
use Rattle.amd64_table.specs.declared.xmm.Xmm.TheVariants as xmm
use Rattle.amd64_table.specs.Conditions.{cc_text}
use Rattle.amd64_table.specs.Registers.{reg_text, xmm_text}
use Rattle.amd64_code.specs.InstructionSet.{amd64, Fits}
use Rattle.amd64_select.specs.Aims.{aiming}
use Rattle.amd64_select.specs.FrameLaws.{plain}
use Rattle.amd64_select.specs.Frames.{entry_of, check_of}
use Rattle.amd64_select.specs.Selecting.{selection}
use Rattle.image_rules.specs.Machine.{Machine, machine_of}
use Rattle.unit_listing.specs.Kit.{Kit, kit_of}
use Rattle.goasm_run.specs.declared.architecture.Architecture.{Architecture}
use Rattle.goasm_run.specs.declared.architecture.Architecture.TheVariants.{Amd64}

abbrev pub registers : List Reg
registers =
    reg.Ax ∷ reg.Cx ∷ reg.Dx ∷ reg.Bx ∷ reg.Sp ∷ reg.Bp ∷ reg.Si ∷ reg.Di
    ∷ reg.R8 ∷ reg.R9 ∷ reg.R10 ∷ reg.R11 ∷ reg.R12 ∷ reg.R13 ∷ reg.R14 ∷ reg.R15 ∷ []

abbrev pub x_registers : List Xmm
x_registers =
    xmm.X0 ∷ xmm.X1 ∷ xmm.X2 ∷ xmm.X3 ∷ xmm.X4 ∷ xmm.X5 ∷ xmm.X6 ∷ xmm.X7
    ∷ xmm.X8 ∷ xmm.X9 ∷ xmm.X10 ∷ xmm.X11 ∷ xmm.X12 ∷ xmm.X13 ∷ xmm.X14 ∷ xmm.X15 ∷ []

abbrev pub conditions : List Cc
conditions =
    cc.Over ∷ cc.NotOver ∷ cc.Carry ∷ cc.NotCarry ∷ cc.Zero ∷ cc.NotZero ∷ cc.CarryOrZero ∷ cc.NeitherCarryNorZero
    ∷ cc.Negative ∷ cc.NotNegative ∷ cc.ParityEven ∷ cc.ParityOdd ∷ cc.Less ∷ cc.GreaterOrEqual ∷ cc.LessOrEqual ∷ cc.Greater ∷ []

-- the names of registers, of the base of thread-local storage, and of conditions, of which two have another name
abbrev pub amd64_words : List (List ℕ)
amd64_words =
    map reg_text registers ++ map xmm_text x_registers ++ map cc_text conditions ++ codes "TLS" ∷ codes "LO" ∷ codes "HS" ∷ []

-- the names that are words, whatever labels there are
unfoldable pub words_of : Architecture → List (List ℕ)
words_of Amd64 = amd64_words

abbrev pub speaks : Architecture → List ℕ → Bool
speaks architecture name = list_any (bytes_eq name) (words_of architecture)

-- statements of amd64 become these instructions
abbrev pub amd64_kit : Kit Instr
amd64_kit = kit_of amd64 Fits 62 1 amd64_shape selection aiming entry_of check_of plain

-- the instructions of an image of amd64
abbrev pub amd64_machine : Machine Instr
amd64_machine = machine_of amd64 Fits 62 1 amd64_shape None plain

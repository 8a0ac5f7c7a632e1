-- The line of a refusal, with its newline. A file is named as the list of names has it at the file's number.
use Rattle.std.specs.Prelude.{◌≡◌, ◌≢◌, ℕ, ℤ, pos, List, [], ◌∷◌, ◌++◌, ◌<◌, ◌==◌, length, take, slice_index_or, codes, Option, Some, None, IfSome, IsSome, if◌then◌else◌}
use Rattle.goasm_base.specs.declared.pos.Pos.{Pos}
use Rattle.goasm_base.specs.Numbers.{decimal_text, hex_text}
use Rattle.asm_lex.specs.declared.refusal.LexNo.{LexNo}
use Rattle.asm_lex.specs.declared.refusal.LexNo.TheVariants as lexes
use Rattle.asm_macro.specs.declared.refusal.MacroNo.{MacroNo}
use Rattle.asm_macro.specs.declared.refusal.MacroNo.TheVariants as macros
use Rattle.asm_parse.specs.declared.parse_no.ParseNo.{ParseNo}
use Rattle.asm_parse.specs.declared.parse_no.ParseNo.TheVariants as parses
use Rattle.asm_target.specs.declared.select_no.SelectNo.{SelectNo}
use Rattle.asm_target.specs.declared.select_no.SelectNo.TheVariants as selects
use Rattle.branch_size.specs.declared.size_no.SizeNo.{SizeNo}
use Rattle.branch_size.specs.declared.size_no.SizeNo.TheVariants as sizes
use Rattle.elf_image.specs.declared.fault.ImageNo.{ImageNo}
use Rattle.elf_image.specs.declared.fault.ImageNo.TheVariants.{I1, I2, I3, I4}
use Rattle.flow_rules.specs.declared.flow_no.FlowNo.{FlowNo}
use Rattle.image_rules.specs.declared.check_no.CheckNo.{CheckNo}
use Rattle.image_rules.specs.declared.check_no.CheckNo.TheVariants as checks
use Rattle.image_rules.specs.declared.check_no.ProfileNo.{ProfileNo}
use Rattle.image_rules.specs.declared.check_no.ProfileNo.TheVariants as profiles
use Rattle.machine_dump.specs.declared.fault.DumpNo.{DumpNo}
use Rattle.machine_dump.specs.declared.fault.DumpNo.TheVariants.{DU1, DU2}
use Rattle.obj_rewrite.specs.declared.rewrite_no.RewriteNo.{RewriteNo}
use Rattle.obj_rewrite.specs.declared.rewrite_no.RewriteNo.TheVariants as rewrites
use Rattle.pclntab.specs.declared.fault.TableNo.{TableNo}
use Rattle.pclntab.specs.declared.fault.TableNo.TheVariants.{TB1, TB2, TB3, TB4, TB5, TB6}
use Rattle.text_chain.specs.declared.stack.ChainNo.{ChainNo}
use Rattle.text_chain.specs.declared.stack.ChainNo.TheVariants as chains
use Rattle.image_check.specs.declared.seen.UnwindNo.{UnwindNo}
use Rattle.image_check.specs.declared.seen.UnwindNo.TheVariants.{U1, U2, U3, U4, U5}
use Rattle.goasm_text.specs.declared.refusal.Refusal.{Refusal}
use Rattle.goasm_text.specs.declared.refusal.Refusal.TheVariants.{Lex, Macro, Parse, Rewrite, Size, Table, Image, Check, Dump, Chain}

abbrev pub newline : List ℕ
newline = 10 ∷ []

-- the name of the file of this number; empty where there is none
abbrev pub name_in : List (List ℕ) → ℕ → List ℕ
name_in files number = slice_index_or files number []

-- a text has gained a front of these bytes
abbrev pub AppendsFront : List ℕ → List ℕ → List ℕ → Type 0
AppendsFront old new bytes = (count : ℕ) × (new ≡ old ++ take count bytes)

-- `FILE:LINE`
abbrev pub place_text : List (List ℕ) → Pos → List ℕ
place_text files at = name_in files at.file ++ codes ":" ++ decimal_text (pos at.line)

-- `FILE:LINE: CODE`
abbrev pub place_line : List (List ℕ) → Pos → List ℕ → List ℕ
place_line files at code = place_text files at ++ codes ": " ++ code ++ newline

-- the same of a line of the file of this name
abbrev pub number_line : List ℕ → ℕ → List ℕ → List ℕ
number_line name number code = (name ++ codes ":" ++ decimal_text (pos number)) ++ codes ": " ++ code ++ newline

-- why a source has no tokens: a code and its place; want of memory has none
abbrev pub lex_cause : LexNo → Option (List ℕ × Pos)
lex_cause (lexes.L1 at) = Some (codes "L1", at)
lex_cause (lexes.L2 at) = Some (codes "L2", at)
lex_cause (lexes.L3 at) = Some (codes "L3", at)
lex_cause (lexes.L4 at) = Some (codes "L4", at)
lex_cause lexes.Memory = None

-- why sources have no expansion
abbrev pub macro_cause : MacroNo → Option (List ℕ × Pos)
macro_cause (macros.M1 at) = Some (codes "M1", at)
macro_cause (macros.M2 at) = Some (codes "M2", at)
macro_cause (macros.M3 at) = Some (codes "M3", at)
macro_cause (macros.M4 at) = Some (codes "M4", at)
macro_cause (macros.M5 at) = Some (codes "M5", at)
macro_cause (macros.M6 at) = Some (codes "M6", at)
macro_cause (macros.M7 at) = Some (codes "M7", at)
macro_cause macros.Memory = None

-- why tokens say no unit
abbrev pub parse_cause : ParseNo → Option (List ℕ × Pos)
parse_cause (parses.P1 at) = Some (codes "P1", at)
parse_cause (parses.P2 at) = Some (codes "P2", at)
parse_cause (parses.P3 at) = Some (codes "P3", at)
parse_cause (parses.P4 at) = Some (codes "P4", at)
parse_cause (parses.P5 at) = Some (codes "P5", at)
parse_cause (parses.P6 at) = Some (codes "P6", at)
parse_cause (parses.P7 at) = Some (codes "P7", at)
parse_cause (parses.P8 at) = Some (codes "P8", at)
parse_cause (parses.P9 at) = Some (codes "P9", at)
parse_cause (parses.P10 at) = Some (codes "P10", at)
parse_cause parses.Memory = None

-- `CODE NUMBER`
abbrev pub with_number : List ℕ → ℕ → List ℕ
with_number code number = code ++ codes " " ++ decimal_text (pos number)

-- why a statement has no instructions
abbrev pub select_cause : Pos → SelectNo → Option (List ℕ × Pos)
select_cause at selects.S1 = Some (codes "S1", at)
select_cause at selects.S2 = Some (codes "S2", at)
select_cause at selects.S3 = Some (codes "S3", at)
select_cause at selects.S4 = Some (codes "S4", at)
select_cause at selects.Memory = None

-- why a function has none: its frame would have so many bytes, or one of its statements has none
abbrev pub rewrite_cause : RewriteNo → Option (List ℕ × Pos)
rewrite_cause (rewrites.RW1 at total) = Some (with_number (codes "RW1") total, at)
rewrite_cause (rewrites.Select at why) = select_cause at why
rewrite_cause rewrites.Memory = None

-- why instructions have no sizes: a branch is so far from its goal
abbrev pub size_cause : SizeNo → Option (List ℕ × Pos)
size_cause (sizes.B1 at distance) = Some (with_number (codes "B1") distance, at)
size_cause sizes.Memory = None

-- the line of a code at its place; where there is none, there is no line
abbrev pub cause_line : List (List ℕ) → Option (List ℕ × Pos) → List ℕ
cause_line files (Some cause) = place_line files cause.1 cause.0
cause_line files None = []

-- bytes are no function table: the code and the offset of their first fault
abbrev pub table_code : TableNo → List ℕ
table_code (TB1 offset) = codes "TB1"
table_code (TB2 offset) = codes "TB2"
table_code (TB3 offset) = codes "TB3"
table_code (TB4 offset) = codes "TB4"
table_code (TB5 offset) = codes "TB5"
table_code (TB6 offset) = codes "TB6"

abbrev pub table_offset : TableNo → ℕ
table_offset (TB1 offset) = offset
table_offset (TB2 offset) = offset
table_offset (TB3 offset) = offset
table_offset (TB4 offset) = offset
table_offset (TB5 offset) = offset
table_offset (TB6 offset) = offset

-- bytes are no image: the same
abbrev pub image_code : ImageNo → List ℕ
image_code (I1 offset) = codes "I1"
image_code (I2 offset) = codes "I2"
image_code (I3 offset) = codes "I3"
image_code (I4 offset) = codes "I4"

abbrev pub image_offset : ImageNo → ℕ
image_offset (I1 offset) = offset
image_offset (I2 offset) = offset
image_offset (I3 offset) = offset
image_offset (I4 offset) = offset

-- `FILE: CODE at OFFSET`
abbrev pub offset_line : List ℕ → List ℕ → ℕ → List ℕ
offset_line name code offset = name ++ codes ": " ++ code ++ codes " at " ++ decimal_text (pos offset) ++ newline

abbrev pub table_line : List ℕ → TableNo → List ℕ
table_line name fault = offset_line name (table_code fault) (table_offset fault)

abbrev pub image_line : List ℕ → ImageNo → List ℕ
image_line name fault = offset_line name (image_code fault) (image_offset fault)

-- `FILE: CODE at ADDRESS`
abbrev pub address_line : List ℕ → List ℕ → ℕ → List ℕ
address_line name code address = name ++ codes ": " ++ code ++ codes " at " ++ hex_text address ++ newline

-- why an image can't be read
abbrev pub profile_line : List ℕ → ProfileNo → List ℕ
profile_line name (profiles.Image fault) = offset_line name (codes "K1 " ++ image_code fault) (image_offset fault)
profile_line name (profiles.Table fault) = offset_line name (codes "K1 " ++ table_code fault) (table_offset fault)
profile_line name profiles.Profile = name ++ codes ": K1 profile\n"

-- two depths, each behind a space
abbrev pub depths_text : ℤ × ℤ → List ℕ
depths_text depths = codes " " ++ decimal_text depths.0 ++ codes " " ++ decimal_text depths.1

-- `K3` and the flow rule; with the first rule the depth behind the instruction and the table's
abbrev pub flow_code : FlowNo → List ℕ
flow_code broken =
    codes "K3 F" ++ decimal_text (pos broken.rule) ++ (if broken.rule == 1 then depths_text broken.depths else [])

-- why an image is not sound; want of memory has no line
abbrev pub check_line : List ℕ → CheckNo → List ℕ
check_line name (checks.K1 why) = profile_line name why
check_line name (checks.K2 address) = address_line name (codes "K2") address
check_line name (checks.K3 broken) = address_line name (flow_code broken) broken.at
check_line name (checks.K4 address) = address_line name (codes "K4") address
check_line name (checks.K5 address) = address_line name (codes "K5") address
check_line name checks.Memory = []

-- `FILE:LINE: CODE`, of a text that is no dump
abbrev pub dump_line : List ℕ → DumpNo → List ℕ
dump_line name (DU1 number) = number_line name number (codes "DU1")
dump_line name (DU2 number) = number_line name number (codes "DU2")

-- where a walk can't go on: a code, and an address or a word, or the stack pointer and the depth
abbrev pub walk_text : UnwindNo → List ℕ
walk_text (U1 pc) = codes "U1 " ++ hex_text pc
walk_text (U2 pc) = codes "U2 " ++ hex_text pc
walk_text (U3 address) = codes "U3 " ++ hex_text address
walk_text (U4 word) = codes "U4 " ++ hex_text word
walk_text (U5 sp depth) = codes "U5 " ++ hex_text sp ++ codes " " ++ decimal_text (pos depth)

-- why an image and a dump have no call chain: `FILE: DU3`, or `FILE:` and where the walk can't go on; want of memory has no line
abbrev pub chain_line : List ℕ → ChainNo → List ℕ
chain_line name chains.Foreign = name ++ codes ": DU3\n"
chain_line name (chains.Walk refusal) = name ++ codes ": " ++ walk_text refusal ++ newline
chain_line name chains.Memory = []

-- the refusal isn't want of memory, which has no line
abbrev pub HasCause : Refusal → Type 0
HasCause (Lex why) = IsSome (lex_cause why)
HasCause (Macro why) = IsSome (macro_cause why)
HasCause (Parse why) = IsSome (parse_cause why)
HasCause (Rewrite why) = IsSome (rewrite_cause why)
HasCause (Size why) = IsSome (size_cause why)
HasCause (Table why) = Unit {0}
HasCause (Image why) = Unit {0}
HasCause (Check why) = why ≢ checks.Memory
HasCause (Dump why) = Unit {0}
HasCause (Chain why) = why ≢ chains.Memory

-- the place of a cause, if it has one, is in a file that has a name
abbrev pub IsNamed : List (List ℕ) → Option (List ℕ × Pos) → Type 0
IsNamed files cause = IfSome cause (λ cause. cause.1.file < length files)

-- each file of a refusal has a name; a table, an image or a dump is the first of the files
abbrev pub HasName : List (List ℕ) → Refusal → Type 0
HasName files (Lex why) = IsNamed files (lex_cause why)
HasName files (Macro why) = IsNamed files (macro_cause why)
HasName files (Parse why) = IsNamed files (parse_cause why)
HasName files (Rewrite why) = IsNamed files (rewrite_cause why)
HasName files (Size why) = IsNamed files (size_cause why)
HasName files (Table why) = 0 < length files
HasName files (Image why) = 0 < length files
HasName files (Check why) = 0 < length files
HasName files (Dump why) = 0 < length files
HasName files (Chain why) = 0 < length files

-- the line of a refusal over these names of files; a table, an image or a dump is the first of them
abbrev pub line_of : Refusal → List (List ℕ) → List ℕ
line_of (Lex why) files = cause_line files (lex_cause why)
line_of (Macro why) files = cause_line files (macro_cause why)
line_of (Parse why) files = cause_line files (parse_cause why)
line_of (Rewrite why) files = cause_line files (rewrite_cause why)
line_of (Size why) files = cause_line files (size_cause why)
line_of (Table why) files = table_line (name_in files 0) why
line_of (Image why) files = image_line (name_in files 0) why
line_of (Check why) files = check_line (name_in files 0) why
line_of (Dump why) files = dump_line (name_in files 0) why
line_of (Chain why) files = chain_line (name_in files 0) why

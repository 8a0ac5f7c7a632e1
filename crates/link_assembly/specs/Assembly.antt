-- What a linker assembles into an image, and when it's assembled well.
use Rattle.std.specs.Prelude.{◌≡◌, ℕ, ◌+◌, ◌<◌, List, All, false, length, map, take, Some, Option}
use Rattle.std.specs.List.{slice_get}
use Rattle.std.specs.List.Sorted.{IsPermutation}
use Rattle.asm_target.specs.declared.body.Placed.{Placed}
use Rattle.asm_target.specs.FlowRules.{IsFlowSound}
use Rattle.elf_image.specs.declared.parts.ImageParts.{ImageParts}
use Rattle.elf_image.specs.Contents as elf
use Rattle.elf_image.specs.Image.{IsImage}
use Rattle.flow_rules.specs.Placing.{Surroundings, function_of}
use Rattle.image_rules.specs.Machine.{Machine, machine_of}
use Rattle.image_rules.specs.Parts.{Surrounds}
use Rattle.link_code.specs.declared.site.Site.{Site}
use Rattle.link_code.specs.Astray.{is_astray}
use Rattle.link_code.specs.Code.{HaveDepths, IsCode, IsOfUnit}
use Rattle.link_laws.specs.Made.{Made, bytes_of}
use Rattle.link_spans.specs.Spans.{CoverLines}
use Rattle.pclntab.specs.declared.parts.FuncPart.{FuncPart}
use Rattle.pclntab.specs.declared.parts.TableParts.{TableParts}
use Rattle.pclntab.specs.Parts as pclntab
use Rattle.pclntab.specs.Table.{IsTable}
use Rattle.unit_listing.specs.declared.laid.Laid.{Laid}
use Rattle.unit_listing.specs.Kit.{Kit}

-- A function: where it stands, its instructions before they were placed and after, their depths, and what the function table is given
-- of it
pub record Assembled (Instr : Type 0) : Type 0 where
  pub site : Site
  pub laid : Laid Instr
  pub placed : List (Placed Instr)
  pub depths : List ℕ
  pub part : FuncPart

-- what the image has of it
abbrev pub made_of : {Instr : Type 0} → Assembled Instr → Made Instr
made_of one = record { code = map (λ placed. placed.instr) one.placed; depths = one.depths }

module _ {Instr : Type 0} (kit : Kit Instr) where
  -- the data of the target that rules of images need
  abbrev pub machine_with : Option ℕ → Machine Instr
  machine_with growth = machine_of kit.set kit.fits kit.machine kit.quantum kit.shape growth kit.begins

  -- The part of the table tells each line's depth, line and file. A file is told by its index among so many
  pub record TellsLines (files : ℕ) (laid : Laid Instr) (part : FuncPart) : Type 0 where
    pub depth : CoverLines kit laid (λ line. line.depth) part.depth
    pub line : CoverLines kit laid (λ line. line.pos.line) part.line
    pub index : ℕ → ℕ
    pub file : CoverLines kit laid (λ line. index line.pos.file) part.file
    pub known : All (λ line. index line.pos.file < files) laid.body.code

  -- The function stands at its address, and the table tells of it. There it keeps the flow rules, and goes to no unknown address
  pub record IsAssembled (files : ℕ) (around : Surroundings) (outside : List ℕ) (one : Assembled Instr) : Type 0 where
    pub of_unit : IsOfUnit kit (length one.site.addresses.now) one.laid
    pub code : IsCode kit one.site one.laid one.placed
    pub depths : HaveDepths kit one.laid one.depths
    pub entry : one.site.entry ≡ elf.text_address + one.part.entry
    pub told : TellsLines files one.laid one.part
    pub flow : IsFlowSound (function_of kit.set kit.shape kit.begins one.placed one.depths around)
    pub goals : All (λ placed. is_astray kit.set around.text outside placed ≡ false) one.placed

  abbrev pub text_of : Option ℕ → List (Assembled Instr) → List ℕ
  text_of growth all = bytes_of (machine_with growth) (map made_of all)

  -- The bytes are an image of these parts, and its table one of those. The text is the functions, at least one, and the table has their
  -- entries. What lies outside lies before the text
  pub record IsAssembly (growth : Option ℕ) (table : TableParts) (image : ImageParts) (all : List (Assembled Instr)) (bytes : List ℕ) : Type 0 where
    pub image_form : IsImage bytes
    pub image_told : elf.Tells image bytes
    pub table_form : IsTable image.table
    pub table_told : pclntab.Tells table image.table
    pub table_all : pclntab.TellsAll table image.table
    pub number : image.machine ≡ kit.machine
    pub unit : table.quantum ≡ kit.quantum
    pub start : table.text_start ≡ elf.text_address
    pub long : table.text_len ≡ length image.text
    pub funcs : table.funcs ≡ map (λ one. one.part) all
    pub some : 0 < length all
    pub text : image.text ≡ text_of growth all
    pub entries : (index : ℕ) (one : Assembled Instr) → slice_get all index ≡ Some one
        → one.part.entry ≡ length (text_of growth (take index all))
    pub before : All (λ symbol. symbol.1 < elf.text_address) (elf.outside_of image.symbols)
    pub outside : List ℕ
    pub same : IsPermutation (map (λ symbol. symbol.1) (elf.outside_of image.symbols)) outside
    pub around : Surroundings
    pub surrounds : Surrounds bytes around
    pub each : (index : ℕ) (one : Assembled Instr) → slice_get all index ≡ Some one
        → IsAssembled (length table.files) around outside one

-- The lines of a call chain: a line for each frame, and for each call.
use Rattle.std.specs.Prelude.{ℕ, List, [], ◌++◌, codes, Option, Some, None, unwrap_or}
use Rattle.std.specs.List.{flat_map}
use Rattle.goasm_base.specs.Numbers.{decimal_text, hex_text}
use Rattle.elf_image.specs.Contents.{table_in}
use Rattle.image_model.specs.Kept.{ChainCall}
use Rattle.pcvalue.specs.declared.answer.Answer.{Answer}
use Rattle.pcvalue.specs.declared.answer.Answer.TheVariants.{Value}
use Rattle.pclntab.specs.Func.{file_at, func_at, line_at, name_of}
use Rattle.image_check.specs.declared.seen.Seen.{Seen}

-- A value in decimal. Nothing where there is none: a sound image has a name, a file and a line for each frame of a walk
abbrev pub value_text : Answer → List ℕ
value_text (Value value) = decimal_text value
value_text _ = []

-- `NAME FILE:LINE`: a function of a table, by its number, and the file and the line of a place in it
abbrev pub source_text : List ℕ → ℕ → ℕ → List ℕ
source_text table func place =
    unwrap_or (name_of table func) [] ++ codes " " ++ unwrap_or (file_at table func place) [] ++ codes ":"
    ++ value_text (line_at table func place)

module _ (image : List ℕ) where
  -- `NAME FILE:LINE PC` and a newline: where the function goes on stands behind what tells of its source
  abbrev pub place_text : ℕ → ℕ → ℕ → List ℕ
  place_text func pc look = source_text (table_in image) func look ++ codes " " ++ hex_text pc ++ codes "\n"

  abbrev pub frame_text : Seen → List ℕ
  frame_text seen = place_text seen.func seen.pc seen.look

  -- the lines of frames, one behind the other
  abbrev pub frames_text : List Seen → List ℕ
  frames_text frames = flat_map frame_text frames

  -- the same of a function that is found, or not, by an address of it
  abbrev pub found_text : Option ℕ → ℕ → ℕ → List ℕ
  found_text (Some func) pc look = place_text func pc look
  found_text None pc look = []

  -- a call of a run has its function's entry in place of a number
  abbrev pub call_text : ChainCall → List ℕ
  call_text call = found_text (func_at (table_in image) call.func) call.pc call.look

  abbrev pub calls_text : List ChainCall → List ℕ
  calls_text calls = flat_map call_text calls

-- A small table on which the definitions are checked: one function, `main.Cas`, at 0x400000, of 23 bytes and padding up
-- to 32, from the file `cas.s`.
use Rattle.std.specs.Prelude.{ℕ, pos, List, [], ◌∷◌, codes}
use Rattle.pcvalue.specs.declared.run.Run.{Run}
use Rattle.pclntab.specs.declared.parts.TableParts.{TableParts}
use Rattle.pclntab.specs.declared.parts.FuncPart.{FuncPart}

abbrev pub worked_table : List ℕ
worked_table =
    241 ∷ 255 ∷ 255 ∷ 255 ∷ 0 ∷ 0 ∷ 1 ∷ 8 ∷ 1 ∷ 0 ∷ 0 ∷ 0 ∷ 0 ∷ 0 ∷ 0 ∷ 0 ∷
    1 ∷ 0 ∷ 0 ∷ 0 ∷ 0 ∷ 0 ∷ 0 ∷ 0 ∷ 0 ∷ 0 ∷ 64 ∷ 0 ∷ 0 ∷ 0 ∷ 0 ∷ 0 ∷
    72 ∷ 0 ∷ 0 ∷ 0 ∷ 0 ∷ 0 ∷ 0 ∷ 0 ∷ 88 ∷ 0 ∷ 0 ∷ 0 ∷ 0 ∷ 0 ∷ 0 ∷ 0 ∷
    96 ∷ 0 ∷ 0 ∷ 0 ∷ 0 ∷ 0 ∷ 0 ∷ 0 ∷ 104 ∷ 0 ∷ 0 ∷ 0 ∷ 0 ∷ 0 ∷ 0 ∷ 0 ∷
    128 ∷ 0 ∷ 0 ∷ 0 ∷ 0 ∷ 0 ∷ 0 ∷ 0 ∷ 109 ∷ 97 ∷ 105 ∷ 110 ∷ 46 ∷ 67 ∷ 97 ∷ 115 ∷
    0 ∷ 0 ∷ 0 ∷ 0 ∷ 0 ∷ 0 ∷ 0 ∷ 0 ∷ 0 ∷ 0 ∷ 0 ∷ 0 ∷ 0 ∷ 0 ∷ 0 ∷ 0 ∷
    99 ∷ 97 ∷ 115 ∷ 46 ∷ 115 ∷ 0 ∷ 0 ∷ 0 ∷ 0 ∷ 2 ∷ 23 ∷ 0 ∷ 8 ∷ 5 ∷ 2 ∷ 4 ∷
    2 ∷ 4 ∷ 4 ∷ 4 ∷ 2 ∷ 5 ∷ 2 ∷ 1 ∷ 0 ∷ 0 ∷ 0 ∷ 0 ∷ 0 ∷ 0 ∷ 0 ∷ 0 ∷
    0 ∷ 0 ∷ 0 ∷ 0 ∷ 12 ∷ 0 ∷ 0 ∷ 0 ∷ 32 ∷ 0 ∷ 0 ∷ 0 ∷ 0 ∷ 0 ∷ 0 ∷ 0 ∷
    0 ∷ 0 ∷ 0 ∷ 0 ∷ 17 ∷ 0 ∷ 0 ∷ 0 ∷ 0 ∷ 0 ∷ 0 ∷ 0 ∷ 1 ∷ 0 ∷ 0 ∷ 0 ∷
    1 ∷ 0 ∷ 0 ∷ 0 ∷ 4 ∷ 0 ∷ 0 ∷ 0 ∷ 0 ∷ 0 ∷ 0 ∷ 0 ∷ 0 ∷ 0 ∷ 0 ∷ 0 ∷
    2 ∷ 0 ∷ 0 ∷ 0 ∷ 0 ∷ 4 ∷ 0 ∷ 0 ∷ []

-- the parts that it is written from
abbrev pub worked_lines : List Run
worked_lines =
    record { end = 5; value = pos 3 } ∷ record { end = 9; value = pos 4 } ∷ record { end = 13; value = pos 5 }
    ∷ record { end = 17; value = pos 7 } ∷ record { end = 22; value = pos 8 } ∷ record { end = 23; value = pos 9 } ∷ []

abbrev pub worked_func : FuncPart
worked_func = record {
  name = codes "main.Cas";
  entry = 0;
  args = pos 17;
  flags = 4;
  start_line = pos 2;
  depth = record { end = 23; value = pos 0 } ∷ [];
  file = record { end = 23; value = pos 0 } ∷ [];
  line = worked_lines;
}

abbrev pub worked_parts : TableParts
worked_parts = record {
  quantum = 1;
  text_start = 0x400000;
  text_len = 32;
  files = codes "cas.s" ∷ [];
  funcs = worked_func ∷ [];
}

-- two functions of one byte each, at lines 3 and 5, whose depth and file tables are equal
abbrev pub small_func : List ℕ → ℕ → ℕ → ℕ → FuncPart
small_func name entry start_line line = record {
  name = name;
  entry = entry;
  args = pos 0;
  flags = 4;
  start_line = pos start_line;
  depth = record { end = 1; value = pos 0 } ∷ [];
  file = record { end = 1; value = pos 0 } ∷ [];
  line = record { end = 1; value = pos line } ∷ [];
}

abbrev pub shared_parts : TableParts
shared_parts = record {
  quantum = 1;
  text_start = 0x400000;
  text_len = 32;
  files = codes "ab.s" ∷ [];
  funcs = small_func (codes "main.a") 0 2 3 ∷ small_func (codes "main.b") 16 4 5 ∷ [];
}

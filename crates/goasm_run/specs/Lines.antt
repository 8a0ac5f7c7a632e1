-- The lines that a command writes to the standard error, each with its newline.
use Rattle.std.specs.Prelude.{ℕ, pos, List, ◌++◌, codes}
use Rattle.goasm_base.specs.Numbers.{hex_text, decimal_text}
use Rattle.goasm_text.specs.Lines.{newline}

-- the words have no command's form
abbrev pub words_line : List ℕ
words_line = codes "goasm: words\n"

-- memory is wanting
abbrev pub memory_line : List ℕ
memory_line = codes "goasm: memory\n"

-- a file couldn't be read
abbrev pub unread_line : List ℕ → List ℕ
unread_line name = codes "goasm: cannot read " ++ name ++ newline

-- a file is longer than its limit
abbrev pub too_long_line : List ℕ → List ℕ
too_long_line name = name ++ codes ": too long\n"

-- no function of a table has an address
abbrev pub no_function_line : List ℕ → ℕ → List ℕ
no_function_line name pc = name ++ codes ": no function at " ++ hex_text pc ++ newline

-- a line of a list has no form, or can't stand there
abbrev pub list_line : List ℕ → ℕ → List ℕ
list_line name number = name ++ codes ":" ++ decimal_text (pos number) ++ codes ": Q1" ++ newline

-- The longest files that are read, in bytes. A longer one is refused as too long.
--
--     a function table              256 MiB
--     an image                       64 MiB
--     a dump                         64 MiB
--     a file of raw code             16 MiB
--     a source, an included file     16 MiB
--     a build list                    1 MiB
use Rattle.std.specs.Prelude.{ℕ}

abbrev pub table_limit : ℕ
table_limit = 268435456

abbrev pub image_limit : ℕ
image_limit = 67108864

abbrev pub dump_limit : ℕ
dump_limit = 67108864

abbrev pub code_limit : ℕ
code_limit = 16777216

abbrev pub source_limit : ℕ
source_limit = 16777216

abbrev pub list_limit : ℕ
list_limit = 1048576

-- What a look-up in the worked table prints, computed.
use Rattle.std.proofs.Common.{◌≡◌, refl, arith}
use Rattle.std.proofs.lemmas.Fmt.{decimal_digit}
use Rattle.std.specs.Prelude.{codes}
use Rattle.pcvalue.specs.Varint.{varint, varint_within}
use Rattle.pcvalue.specs.Runs.{runs_of, runs_within, next_run, run_by, run_over}
use Rattle.pcvalue.specs.Table.{value_in}
use Rattle.pclntab.specs.Words.{u32_at, u64_at}
use Rattle.pclntab.specs.Texts.{text_in}
use Rattle.pclntab.specs.Func.{answer_at, file_name}
use Rattle.pclntab.specs.Worked.{worked_table}
use Rattle.goasm_run.specs.Lookup.{lookup_text}

worked_line : lookup_text worked_table 0 0x400011 ≡ codes "main.Cas cas.s:8 depth 0\n"
unfolding lookup_text file_name answer_at value_in runs_of runs_within next_run run_by run_over varint varint_within u32_at u64_at text_in
worked_line = rw (decimal_digit 8 (omega arith), decimal_digit 0 (omega arith)) refl

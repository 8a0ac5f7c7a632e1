use Rattle.std.proofs.Common.{◌≡◌, ◌++◌, length, ap, ◌∙◌, arith}
use Rattle.byteorder.specs.Endian.{little_bytes}
use Rattle.pclntab.specs.Written.{text_bytes}
use Rattle.pclntab.proofs.FuncLemmas.{next_file}
use Rattle.pclntab.proofs.writing.write_files.Goals as goal

pub loop-file-preserved : goal.loop-file-preserved
loop-file-preserved c =
    let long : c.len.result ≡ length c.loop-file.written.names.items = omega (arith, c.len.ensures) in
    next_file c.args.files.now c.loop-file.file-index c.file-item.result
    c.loop-file.written.units.items c.loop-file.written.names.items c.push_u32.new.bytes.items c.push_text.new.bytes.items
    c.loop-file-test.true c.loop-file.invariant
    (c.in_ok-push_u32.ensures.ok ∙ ap (λ number. c.loop-file.written.units.items ++ little_bytes 4 number) long)
    (c.in_ok-push_text.ensures ∙ ap (λ text. c.loop-file.written.names.items ++ text_bytes text) (c.as_slice.ensures ∙ c.file-item.is))

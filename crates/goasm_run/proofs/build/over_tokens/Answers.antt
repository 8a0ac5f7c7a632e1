use Rattle.std.proofs.Common.{length, drop, refl, ◌∙◌}
use Rattle.asm_directive.specs.LineNames.{line_names_of}
use Rattle.goasm_run.specs.Sources.{seen}
use Rattle.goasm_run.proofs.FileLemmas.{room_left, names_enough, lines_behind}
use Rattle.goasm_run.proofs.build.over_tokens.Goals as goal

pub over_files-requires-clause-room : goal.over_files-requires-clause-room
over_files-requires-clause-room c =
    room_left (length c.args.names.items) (seen c.args.found.now)
    (length (line_names_of c.args.found.now.sources.items c.args.found.now.includes.items))
    c.requires.named c.requires.names c.requires.lexed c.requires.few
    (rw (c.as_slice.ensures.value, c.as_slice-2.ensures.value) at c.in_ok-more.ensures.few)

pub over_files-requires-clause-named : goal.over_files-requires-clause-named
over_files-requires-clause-named c =
    names_enough c.args.names.items c.in_ok-more.more.items c.in_ok-files.files.items (seen c.args.found.now)
    c.requires.lexed c.requires.named
    (rw (c.as_slice.ensures.value, c.as_slice-2.ensures.value) at c.in_ok-more.ensures.names) c.in_ok-files.ensures.names

pub over_files-requires-clause-lines : goal.over_files-requires-clause-lines
over_files-requires-clause-lines c =
    lines_behind c.args.names.items c.in_ok-more.more.items c.in_ok-files.files.items (drop c.len-count.result c.in_ok-files.files.items)
    c.len-count.result (c.len-count.ensures ∙ c.args.names.ok.0) c.in_ok-files.ensures.names refl
    ∙ (rw (c.as_slice.ensures.value, c.as_slice-2.ensures.value) at c.in_ok-more.ensures.names)

use Rattle.byteorder.specs.Endian.{little_bytes}
use Rattle.byte_layout.proofs.PushedLemmas.{Pushed}
use Rattle.byte_layout.proofs.push.push_words.Given as goal

abbrev pub invariant-loop-word : goal.invariant-loop-word
invariant-loop-word l = Pushed (little_bytes 4) l.fn.bytes.items l.bytes.items l.words l.word-index

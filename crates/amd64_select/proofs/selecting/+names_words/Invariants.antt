use Rattle.std.proofs.Common.{length}
use Rattle.amd64_select.proofs.selecting.+names_words.Given as goal

abbrev pub decreases-names_words : goal.decreases-names_words
decreases-names_words l = length l.operands.now

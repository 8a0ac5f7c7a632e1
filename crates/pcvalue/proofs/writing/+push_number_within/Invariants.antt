use Rattle.pcvalue.proofs.writing.+push_number_within.Given as goal

abbrev pub decreases-push_number_within : goal.decreases-push_number_within
decreases-push_number_within l = l.most

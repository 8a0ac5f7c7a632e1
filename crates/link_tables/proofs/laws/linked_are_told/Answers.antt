use Rattle.link_tables.proofs.LinkedLemmas.{few_files, linked_tell}
use Rattle.link_tables.proofs.laws.linked_are_told.Goals as goal

pub returns-clause-told : goal.returns-clause-told
returns-clause-told g c = λ build. linked_tell build

pub returns-clause-few : goal.returns-clause-few
returns-clause-few g c = λ build. few_files build

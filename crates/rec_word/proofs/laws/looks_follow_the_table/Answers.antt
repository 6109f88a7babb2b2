-- The contract of `looks_follow_the_table`: what the collector's look at a crossing word comes to, by the parts of the word.
use Rattle.rec_word.proofs.Looks.{looks_by_table}
use Rattle.rec_word.proofs.laws.looks_follow_the_table.Goals as goal

pub returns : goal.returns
returns c = looks_by_table

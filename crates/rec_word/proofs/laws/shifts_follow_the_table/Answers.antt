-- The contract of `shifts_follow_the_table`: what each step of parking and unparking leaves of a crossing word, by the parts of the word.
use Rattle.rec_word.proofs.Shifts.{shifts_by_table}
use Rattle.rec_word.proofs.laws.shifts_follow_the_table.Goals as goal

pub returns : goal.returns
returns c = shifts_by_table

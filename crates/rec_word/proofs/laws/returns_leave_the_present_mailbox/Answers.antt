-- The contract of `returns_leave_the_present_mailbox`: what giving a mailbox back leaves of a crossing word.
use Rattle.rec_word.proofs.Looks.{returned}
use Rattle.rec_word.proofs.laws.returns_leave_the_present_mailbox.Goals as goal

pub returns : goal.returns
returns c = returned

-- The contract of `polls_have_causes`: a poll tells that it crossed nowhere exactly where the epoch word was the own epoch; else it tells the epoch after the own one, in which the mutator is then.
use Rattle.rec_mutator.proofs.Polls.{poll_has_cause}
use Rattle.rec_mutator.proofs.laws.polls_have_causes.Goals as goal

pub returns : goal.returns
returns c = poll_has_cause

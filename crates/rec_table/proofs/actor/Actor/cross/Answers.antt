-- The contract of `Actor::cross`: goes on with a poll that crosses.
use Rattle.std.proofs.Common.{Some, ap, ◌∙◌}
use Rattle.rec_mutator.specs.declared.made.Made.{Made}
use Rattle.rec_table.proofs.actor.Actor.cross.Goals as goal

pub returns-clause-answer : goal.returns-clause-answer
returns-clause-answer c = c.go_on.ensures.answer ∙ ap (λ (m : Made). Some m) c.in-Crossed.is

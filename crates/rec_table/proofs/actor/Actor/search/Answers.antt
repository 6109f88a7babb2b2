-- The contract of `Actor::search`: goes on with a scan to its end.
use Rattle.std.proofs.Common.{Some, ap, ◌∙◌}
use Rattle.rec_mutator.specs.declared.made.Made.{Made}
use Rattle.rec_table.proofs.actor.Actor.search.Goals as goal

pub returns-clause-answer : goal.returns-clause-answer
returns-clause-answer c = (c.in-Answered.field-0, c.go_on.ensures.answer ∙ ap (λ (m : Made). Some m) c.in-Answered.is)

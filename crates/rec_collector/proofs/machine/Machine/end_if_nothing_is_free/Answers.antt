-- The contract of `Machine::end_if_nothing_is_free`: where nothing is to be swept, the collection is complete without a sweep.
use Rattle.std.proofs.Common.{sym, ap, ◌∙◌}
use Rattle.rec_collector.proofs.Common.{Private, came_turn, ended_if, took_at, turn_at, Phase}
use Rattle.rec_collector.proofs.machine.Machine.end_if_nothing_is_free.Goals as goal

pub returns-in-Closing-clause-took : goal.returns-in-Closing-clause-took
unfolding took_at
returns-in-Closing-clause-took c = c.end.ensures.took ∙ sym (ap (λ (f : Phase). ended_if f c.args.self.now) (ap (λ (p : Private). p.phase) (sym c.self.view_is) ∙ c.in-Closing.is))

pub returns-in-Closing-clause-turn : goal.returns-in-Closing-clause-turn
unfolding turn_at
returns-in-Closing-clause-turn c = c.end.ensures.turn ∙ sym (ap (came_turn c.args.self.now.epoch) (ap (λ (p : Private). p.phase) (sym c.self.view_is) ∙ c.in-Closing.is))

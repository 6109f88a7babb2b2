-- The contract of `Machine::took_opening`: a sweep has begun.
use Rattle.rec_collector.proofs.Sweeping.{opening_on, same_machine, same_phase}
use Rattle.rec_collector.proofs.machine.Machine.took_opening.Goals as goal

pub invariant_of-self : goal.invariant_of-self
invariant_of-self c = opening_on _ (record { due = c.start.new.self; counts = c.start.new.counts }) (same_machine c.self-inside.view_is c.self.invariant) (same_phase c.self-inside.view_is c.self.view_is c.requires.phase) c.start.ensures.started

pub returns-clause-kept : goal.returns-clause-kept
returns-clause-kept c = opening_on _ (record { due = c.start.new.self; counts = c.start.new.counts }) (same_machine c.self-inside.view_is c.self.invariant) (same_phase c.self-inside.view_is c.self.view_is c.requires.phase) c.start.ensures.started

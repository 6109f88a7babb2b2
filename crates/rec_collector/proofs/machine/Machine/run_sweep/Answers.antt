-- The contract of `Machine::run_sweep`: slots are swept.
use Rattle.rec_collector.proofs.ByTurns.{sweep_begins}
use Rattle.rec_collector.proofs.Sweeping.{same_machine, slot_due}
use Rattle.rec_collector.proofs.machine.Machine.run_sweep.Goals as goal

pub run-made-requires-clause-busy : goal.run-made-requires-clause-busy
run-made-requires-clause-busy g c = slot_due _ c.in-Sweeping.sweep c.in-Sweeping.swept (same_machine c.self-inside.view_is c.self.invariant) c.in-Sweeping.is

pub run-made-requires-clause-stands : goal.run-made-requires-clause-stands
run-made-requires-clause-stands g c = sweep_begins (g.T.Turns.StandsAt c.args.board.now c.args.seat.now) c.args.self.now g.W.Starting.start c.in-Sweeping.sweep c.in-Sweeping.swept c.self-inside.view_is c.self.view_is c.requires.start c.self.invariant c.in-Sweeping.is c.requires.stands

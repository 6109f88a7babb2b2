-- The loops of `collect`: makes turns, each behind the gate, until every mutator's last command is answered, or its turns are spent.
use Rattle.rec_table.specs.Views.{IsCollectorOf}
use Rattle.rec_threads.specs.Done.{HasTurned}
use Rattle.rec_threads.proofs.collecting.collect.Given as goal

abbrev pub invariant-loop-turns : goal.invariant-loop-turns
invariant-loop-turns g l = record { own : IsCollectorOf l.heap l.collector; turned : HasTurned l.turns l.fn.collector l.collector }

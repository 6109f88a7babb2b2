-- What the seat knows as a run begins.
use Rattle.rec_table.proofs.Common.{collecting_of}
use Rattle.rec_table.proofs.collector.Collector.run_loop_on.Given as goal

abbrev pub ghosts-run_turns : goal.ghosts-run_turns
ghosts-run_turns a = record { start = collecting_of a.seat.now.me.0 }

-- The ghosts of `perform`: the record with which the step is made, and the work that begins.
use Rattle.rec_table.specs.Straight.{record_of}
use Rattle.rec_table.proofs.actor.straight.perform.Given as goal

abbrev pub ghosts-make : goal.ghosts-make
ghosts-make a = record { actor = record_of a.board.now.table.shared.key.value a.seat.now.me; work = a.work }

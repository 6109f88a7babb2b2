-- The loops of `Actor::step`: one step, which begins a work first, or goes on with one.
use Rattle.rec_table.proofs.Common.{mutator, told, seated_of}
use Rattle.rec_table.proofs.actor.Actor.step.Given as goal

abbrev pub ghosts-make : goal.ghosts-make
ghosts-make a = record { actor = told (mutator a.board.now.table.shared.key.value (seated_of a.seat.now.me.0).number) (seated_of a.seat.now.me.0).log; work = a.work }

-- The record with which a turn is made.
use Rattle.rec_table.proofs.Common.{gathered_all, collecting_of}
use Rattle.rec_table.proofs.runs.SeatedTurnsBoardSeatOptionBufferView.make.Given as goal

abbrev pub ghosts-make_turn : goal.ghosts-make_turn
ghosts-make_turn g a = record { actor = gathered_all a.board.now.table.shared.key.value.collector (collecting_of a.seat.now.me.0).log; number = 0 }

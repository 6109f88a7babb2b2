-- The contract of `split_seat`: makes a seat, which is no move of the run.
use Rattle.rec_table.proofs.Operations.{stays}
use Rattle.rec_table.proofs.operating.split_seat.Goals as goal

pub split_seat-requires : goal.split_seat-requires
split_seat-requires c = (c.requires.0, c.requires.1, λ s r there. stays c.args.board.now.table.shared.key.value s r _ (c.requires.2 s r.holds there))

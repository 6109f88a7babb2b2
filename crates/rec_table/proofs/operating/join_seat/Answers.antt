-- The contract of `join_seat`: takes in a seat, which is none either.
use Rattle.rec_table.proofs.Operations.{stays}
use Rattle.rec_table.proofs.operating.join_seat.Goals as goal

pub join_seat-requires : goal.join_seat-requires
join_seat-requires c = (c.requires.0, c.requires.1, c.requires.2, c.requires.3, λ s r here apart there. stays c.args.board.now.table.shared.key.value s r _ (c.requires.4 s r.holds here apart there))

-- The contract of `Collector::take_in`: takes in the list of the next mutator, and gives its machine and its births.
use Rattle.std.proofs.Common.{◌+◌, length, sym, ap, ◌∙◌, arith}
use Rattle.rec_table.proofs.Common.{CollectorView, collecting_of, seated_of, CollectorSeat}
use Rattle.rec_table.proofs.Seats.{joins_as}
use Rattle.rec_table.proofs.collector.Collector.take_in.Goals as goal

pub join_seat-requires : goal.join_seat-requires
join_seat-requires c =
    let wide = c.args.board.now.wide in
    let seat = c.self.inside.seat in
    let theirs = c.stood-machine.result.2 in
    let e = c.stood-machine.ensures in
    let collecting : CollectorSeat = collecting_of seat.me.0 in (
      ap (λ (g : CollectorView). g.table) c.self.view_is ∙ c.requires.table.0,
      e.seat.0 ∙ c.requires.table.1,
      (λ i. (e.seat.1 i).1),
      omega (arith, wide.2),
      joins_as c.args.board.now.table.shared.key.value seat.id seat.me.0 collecting _ theirs.me.0 (seated_of theirs.me.0) (λ i. (c.self.invariant.0 i).0) (λ i. (e.seat.1 i).0)
          (e.list.0 ∙ c.requires.number ∙ ap (λ (g : CollectorView). length g.collecting.known + 1) (sym c.self.view_is)),
    )

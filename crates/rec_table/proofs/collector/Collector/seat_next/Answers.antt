-- The contract of `Collector::seat_next`: makes the seat of the next mutator.
use Rattle.std.proofs.Common.{◌≡◌, ◌<◌, ◌+◌, ℕ, refl, sym, ap, ◌∙◌, subst, arith}
use Rattle.rec_table.proofs.Common.{Private, is_busy, IsBetween, IsMutator, actor_of, mutator, world_kept, names_slots, CollectorView, collecting_of, CollectorSeat}
use Rattle.rec_mutator.specs.Step.{NamesSlots}
use Rattle.rec_table.proofs.Seats.{splits_as}
use Rattle.rec_table.proofs.collector.Collector.seat_next.Goals as goal

pub split_seat-seat-requires : goal.split_seat-seat-requires
split_seat-seat-requires c =
    let wide = c.args.board.now.wide in
    let seat = c.self.inside.seat in
    let key = c.args.board.now.table.shared.key.value in
    let collecting : CollectorSeat = collecting_of seat.me.0 in
    let made : collecting.made ≡ c.args.self.now.collecting.made = ap (λ (g : CollectorView). g.collecting.made) c.self.view_is in
    let idle : is_busy (mutator key (collecting.made + 1)) ≡ Rattle.std.proofs.Common.false = ap (λ (n : ℕ). is_busy (mutator key (n + 1))) made ∙ ap is_busy (sym (c.requires.machine.0 ∙ c.requires.machine.1)) ∙ c.requires.idle in (
      ap (λ (g : CollectorView). g.table) c.self.view_is ∙ c.requires.own.0,
      omega (arith, wide.2),
      splits_as key seat.id seat.me.0 collecting (λ i. (c.self.invariant.0 i).0) (omega (arith, made, c.requires.room)) idle,
    )

pub sat-requires-clause-machine : goal.sat-requires-clause-machine
sat-requires-clause-machine c =
    let key = c.args.board.now.table.shared.key.value in
    let x : ℕ = c.args.self.now.collecting.made + 1 in
    let is : IsMutator key.config x = (omega arith, omega (arith, c.requires.room)) in
    let kept = world_kept key c.requires.world in
    let machine = sym (c.requires.machine.0 ∙ c.requires.machine.1) in
    (c.requires.machine.0, c.requires.idle, subst NamesSlots machine (names_slots key x kept is), subst (λ (p : Private). IsBetween p.phase) machine (actor_of key x kept is).own.between)

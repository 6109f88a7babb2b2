-- The cursor is a slot of the heap, or slot 0 is taken in its place.
use Rattle.std.proofs.Common.{◌≡◌, ℕ, arith, sym, ap, subst, ◌∙◌}
use Rattle.rec_table.proofs.Common.{Private, IsMutator, Core, mutator, actor_of, world_kept, MutatorView, mutator_now, seated_of, Seated}
use Rattle.rec_table.proofs.Acting.{opened_is}
use Rattle.rec_table.proofs.actor.Actor.next_scan.Goals as goal
use Rattle.rec_table.proofs.actor.Actor.next_scan.Goals.{After-from}

-- the slots of the table are those of the record
many_slots : (c : After-from) → (mutator_now c.args.self.now).slots ≡ c.args.board.now.layout.slots
many_slots c =
    let key : Core = c.args.board.now.table.shared.key.value in
    let t : Seated = seated_of c.self.inside.seat.me.0 in
    let opened : c.self.inside.opened.value ≡ mutator key t.number = opened_is c.args.board.now.table.shared.table_id c.self.inside.seat.table_id key c.self.inside.opened.value t c.args.self.now c.self.view_is c.requires.own in
    let is : IsMutator key.config t.number = subst (λ (n : ℕ). IsMutator key.config n) (sym (ap (λ (x : MutatorView). x.number) c.self.view_is)) c.requires.own.1 in
    let kept = world_kept key c.requires.world in
    let own = (actor_of key t.number kept is).own in
    let was : c.self.inside.machine ≡ mutator_now c.args.self.now = c.self.invariant.1 ∙ ap mutator_now c.self.view_is in
    sym (ap (λ (p : Private). p.slots) was) ∙ c.self.invariant.3.slots ∙ ap (λ (p : Private). p.slots) opened ∙ own.slots ∙ sym kept.headers ∙ sym c.args.board.now.wide.1

pub returns-then-from-board-clause-from : goal.returns-then-from-board-clause-from
returns-then-from-board-clause-from c = let many = many_slots (goal.at.returns-then-from-board-clause-from c).After-from in omega (arith, many, c.from.ensures, c.if-from-board.true)

pub returns-else-from-board-clause-there : goal.returns-else-from-board-clause-there
returns-else-from-board-clause-there c = let many = many_slots (goal.at.returns-else-from-board-clause-there c).After-from in omega (arith, many, c.steps-steps.ensures.kept.first_slot)

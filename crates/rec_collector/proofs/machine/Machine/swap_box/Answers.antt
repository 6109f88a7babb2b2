-- The contract of `Machine::swap_box`: takes the buffer of a mailbox that is held, and gives the cleared one that takes its place there.
use Rattle.std.proofs.Common.{◌≡◌, ◌-◌, ap, sym, subst, ◌∙◌}
use Rattle.std.specs.Vec.{with_item}
use Rattle.rec_collector.proofs.Common.{IsMachine, Private, Returning, Swapping}
use Rattle.rec_collector.specs.Inside.{private}
use Rattle.rec_collector.specs.Took.{swapped_at, swapped_of}
use Rattle.rec_collector.proofs.Keeping.{swap_keeps}
use Rattle.rec_collector.proofs.machine.Machine.swap_box.Goals as goal

pub returns-clause-swapped : goal.returns-clause-swapped
unfolding swapped_at swapped_of
returns-clause-swapped c =
    let at : c.args.self.now.phase ≡ Swapping c.in-Swapping.mutator = ap (λ (p : Private). p.phase) (sym c.self.view_is) ∙ c.in-Swapping.is in
    (λ i. private (record c.self.inside { phase = Returning c.in-Swapping.mutator; newer = with_item c.self.inside.newer (c.from.ensures i - 1) (c.replace.ensures.after i) }))
    ∙ ap (λ (p : Private). swapped_at p c.args.buffer (Swapping c.in-Swapping.mutator)) c.self.view_is
    ∙ sym (ap (swapped_at c.args.self.now c.args.buffer) at)

pub invariant_of-self : goal.invariant_of-self
unfolding swapped_of
invariant_of-self c =
    let kept : IsMachine c.args.self.now = subst IsMachine c.self.view_is c.self.invariant in
    let at : c.args.self.now.phase ≡ Swapping c.in-Swapping.mutator = ap (λ (p : Private). p.phase) (sym c.self.view_is) ∙ c.in-Swapping.is in
    subst IsMachine (sym (returns-clause-swapped c))
    (subst (λ phase. IsMachine (swapped_at c.args.self.now c.args.buffer phase)) (sym at) (swap_keeps c.args.self.now c.in-Swapping.mutator c.args.buffer c.requires.sized kept at))

pub returns-clause-kept : goal.returns-clause-kept
returns-clause-kept c = invariant_of-self c

-- The contract of `Trial::settle`: goes on without a load up to the next one, or to the end, and finds its slot.
use Rattle.std.proofs.Common.{◌≡◌, true, sym, ap, ◌∙◌}
use Rattle.rec_trial.proofs.Common.{Machine, Phase, Work, is_due, is_due_at, pointed}
use Rattle.rec_trial.proofs.Moving.{settled_at_once}
use Rattle.rec_trial.proofs.trial.Trial.settle.Goals as goal

pub returns-then-is_due_in : goal.returns-then-is_due_in
returns-then-is_due_in c =
    let w : Work = record { machine = c.args.self.now; counts = c.args.counts.now } in
    let d : is_due w ≡ true =
    ap (λ (p : Phase). is_due_at p c.args.self.now.done c.args.counts.now) (sym c.requires.phase)
    ∙ ap (λ (m : Machine). is_due_at c.args.phase m.done c.args.counts.now) (sym c.self.view_is)
    ∙ sym c.is_due_in.ensures ∙ c.if-is_due_in.true in
    c.point.ensures ∙ ap (λ (v : Work). pointed v) (sym (settled_at_once w d))

pub returns : goal.returns
returns c = c.point-3.ensures ∙ ap (λ (v : Work). pointed v) c.go_far.ensures

-- The contract of `Parts::start_trial`: a trial begins, or is postponed.
use Rattle.std.proofs.Common.{◌≡◌, Bool, true, false, ◌∙◌, sym, ap, rules}
use Rattle.rec_collector.proofs.Common.{makes_trial, trial_if}
use Rattle.rec_collector.proofs.parts.Parts.start_trial.Goals as goal

pub returns-then-makes_trial : goal.returns-then-makes_trial
returns-then-makes_trial c =
    let made : makes_trial c.args.self.now ≡ true = search rules in
    c.begin_trial.ensures ∙ ap (λ (b : Bool). trial_if b c.args.self.now) (sym made)

pub returns-else-makes_trial : goal.returns-else-makes_trial
returns-else-makes_trial c =
    let made : makes_trial c.args.self.now ≡ false = search rules in
    c.put_off_trial.ensures ∙ ap (λ (b : Bool). trial_if b c.args.self.now) (sym made)

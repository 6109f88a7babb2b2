-- The contract of `touch`: a slot that is not Gray becomes Gray, its cyclic count is its true count, and it is marked.
use Rattle.std.proofs.Common.{◌≡◌, false, refl, rules}
use Rattle.rec_trial.proofs.Common.{slot_at, is_gray}
use Rattle.rec_trial.proofs.marking.touch.Goals as goal

pub returns-in_default : goal.returns-in_default
returns-in_default c =
    let g : is_gray (slot_at c.args.counts.now c.args.slot).colour ≡ false = search rules in
    rw (c.push_marked.ensures, g, c.shade.ensures, c.count.ensures) refl

-- The contract of `mark_slot`: a slot that is not Gray becomes Gray and is marked, and one is taken off its cyclic count.
use Rattle.std.proofs.Common.{◌≡◌, false, rules}
use Rattle.rec_trial.proofs.Common.{slot_at, is_gray}
use Rattle.rec_trial.proofs.Conditions.{touched_off}
use Rattle.rec_trial.proofs.marking.mark_slot.Goals as goal

pub returns-in_default : goal.returns-in_default
returns-in_default c =
    let g : is_gray (slot_at c.args.counts.now c.args.slot).colour ≡ false = search rules in
    rw (c.push_marked.ensures, g, c.shade.ensures, c.saturating_sub-in_default.ensures, c.count.ensures) (touched_off c.args.counts.now c.args.slot c.requires.in_range)

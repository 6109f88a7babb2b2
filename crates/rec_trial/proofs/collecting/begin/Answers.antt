-- The contract of `begin`: begins a set with a White slot.
use Rattle.std.proofs.Common.{ap, ◌∙◌}
use Rattle.rec_trial.proofs.Common.{State, slot_at}
use Rattle.rec_trial.proofs.Conditions.{set_room, unbuffered_white}
use Rattle.rec_trial.proofs.collecting.begin.Goals as goal

pub begin_set-requires : goal.begin_set-requires
begin_set-requires c = set_room c.args.counts.now c.rules.ensures c.requires.rules c.args.slot c.requires.in_range c.requires.white

pub join-requires-clause-unbuffered : goal.join-requires-clause-unbuffered
join-requires-clause-unbuffered c = ap (λ (s : State). (slot_at s c.args.slot).buffered) c.begin_set.ensures ∙ unbuffered_white c.args.counts.now c.rules.ensures c.requires.rules c.args.slot c.requires.white

-- The contract of `Machine::pass`: learns the word that a step of parking or unparking found.
use Rattle.std.proofs.Common.{◌≡◌, ap, ◌∙◌, sym}
use Rattle.rec_mutator.specs.Private.{Private}
use Rattle.rec_mutator.specs.Took.{took_at}
use Rattle.rec_mutator.specs.declared.passage.Passage.{Passage}
use Rattle.rec_mutator.specs.declared.passage.Passage.TheVariants.{Parks, Deposits, Unparks, Frees}
use Rattle.rec_mutator.specs.declared.phase.Phase.TheVariants.{Passing}
use Rattle.rec_mutator.proofs.Passages.{found_parked, learns_passage}
use Rattle.rec_mutator.proofs.machine.Machine.pass.Goals as goal

-- the phase that the machine is in
phase_now : {inside p : Private} {at passage : Passage} → inside ≡ p → inside.phase ≡ Passing at → at ≡ passage → p.phase ≡ Passing passage
phase_now view is so = ap (λ (q : Private). q.phase) (sym view) ∙ is ∙ ap Passing so

pub awoke-requires-clause-found : goal.awoke-requires-clause-found
awoke-requires-clause-found c = found_parked (phase_now c.self.view_is c.in-Passing.is c.in-Unparks.is) c.requires.found

pub returns-in-Parks-clause-took : goal.returns-in-Parks-clause-took
unfolding took_at
returns-in-Parks-clause-took c = (learns_passage c.args.self.now c.took_berth.new.self c.args.word Parks (phase_now c.self.view_is c.in-Passing.is c.in-Parks.is) c.took_berth.ensures.took).took

pub returns-in-Parks-clause-same : goal.returns-in-Parks-clause-same
unfolding took_at
returns-in-Parks-clause-same c = (learns_passage c.args.self.now c.took_berth.new.self c.args.word Parks (phase_now c.self.view_is c.in-Passing.is c.in-Parks.is) c.took_berth.ensures.took).same

pub returns-in-Parks-clause-work : goal.returns-in-Parks-clause-work
unfolding took_at
returns-in-Parks-clause-work c = (learns_passage c.args.self.now c.took_berth.new.self c.args.word Parks (phase_now c.self.view_is c.in-Passing.is c.in-Parks.is) c.took_berth.ensures.took).work

pub returns-in-Parks-clause-steps : goal.returns-in-Parks-clause-steps
unfolding took_at
returns-in-Parks-clause-steps c = (learns_passage c.args.self.now c.took_berth.new.self c.args.word Parks (phase_now c.self.view_is c.in-Passing.is c.in-Parks.is) c.took_berth.ensures.took).steps

pub returns-in-Deposits-clause-took : goal.returns-in-Deposits-clause-took
unfolding took_at
returns-in-Deposits-clause-took c = (learns_passage c.args.self.now c.gave_deposit.new.self c.args.word Deposits (phase_now c.self.view_is c.in-Passing.is c.in-Deposits.is) c.gave_deposit.ensures.took).took

pub returns-in-Deposits-clause-same : goal.returns-in-Deposits-clause-same
unfolding took_at
returns-in-Deposits-clause-same c = (learns_passage c.args.self.now c.gave_deposit.new.self c.args.word Deposits (phase_now c.self.view_is c.in-Passing.is c.in-Deposits.is) c.gave_deposit.ensures.took).same

pub returns-in-Deposits-clause-work : goal.returns-in-Deposits-clause-work
unfolding took_at
returns-in-Deposits-clause-work c = (learns_passage c.args.self.now c.gave_deposit.new.self c.args.word Deposits (phase_now c.self.view_is c.in-Passing.is c.in-Deposits.is) c.gave_deposit.ensures.took).work

pub returns-in-Deposits-clause-steps : goal.returns-in-Deposits-clause-steps
unfolding took_at
returns-in-Deposits-clause-steps c = (learns_passage c.args.self.now c.gave_deposit.new.self c.args.word Deposits (phase_now c.self.view_is c.in-Passing.is c.in-Deposits.is) c.gave_deposit.ensures.took).steps

pub returns-in-Unparks-clause-took : goal.returns-in-Unparks-clause-took
unfolding took_at
returns-in-Unparks-clause-took c = (learns_passage c.args.self.now c.awoke.new.self c.args.word Unparks (phase_now c.self.view_is c.in-Passing.is c.in-Unparks.is) c.awoke.ensures.took).took

pub returns-in-Unparks-clause-same : goal.returns-in-Unparks-clause-same
unfolding took_at
returns-in-Unparks-clause-same c = (learns_passage c.args.self.now c.awoke.new.self c.args.word Unparks (phase_now c.self.view_is c.in-Passing.is c.in-Unparks.is) c.awoke.ensures.took).same

pub returns-in-Unparks-clause-work : goal.returns-in-Unparks-clause-work
unfolding took_at
returns-in-Unparks-clause-work c = (learns_passage c.args.self.now c.awoke.new.self c.args.word Unparks (phase_now c.self.view_is c.in-Passing.is c.in-Unparks.is) c.awoke.ensures.took).work

pub returns-in-Unparks-clause-steps : goal.returns-in-Unparks-clause-steps
unfolding took_at
returns-in-Unparks-clause-steps c = (learns_passage c.args.self.now c.awoke.new.self c.args.word Unparks (phase_now c.self.view_is c.in-Passing.is c.in-Unparks.is) c.awoke.ensures.took).steps

pub returns-in-Frees-clause-took : goal.returns-in-Frees-clause-took
unfolding took_at
returns-in-Frees-clause-took c = (learns_passage c.args.self.now c.gave_spare.new.self c.args.word Frees (phase_now c.self.view_is c.in-Passing.is c.in-Frees.is) c.gave_spare.ensures.took).took

pub returns-in-Frees-clause-same : goal.returns-in-Frees-clause-same
unfolding took_at
returns-in-Frees-clause-same c = (learns_passage c.args.self.now c.gave_spare.new.self c.args.word Frees (phase_now c.self.view_is c.in-Passing.is c.in-Frees.is) c.gave_spare.ensures.took).same

pub returns-in-Frees-clause-work : goal.returns-in-Frees-clause-work
unfolding took_at
returns-in-Frees-clause-work c = (learns_passage c.args.self.now c.gave_spare.new.self c.args.word Frees (phase_now c.self.view_is c.in-Passing.is c.in-Frees.is) c.gave_spare.ensures.took).work

pub returns-in-Frees-clause-steps : goal.returns-in-Frees-clause-steps
unfolding took_at
returns-in-Frees-clause-steps c = (learns_passage c.args.self.now c.gave_spare.new.self c.args.word Frees (phase_now c.self.view_is c.in-Passing.is c.in-Frees.is) c.gave_spare.ensures.took).steps

-- The contract of `trial_is_careful`: at every moment, whatever words it was given: no true count changes; marking, blackening and collecting load each field at most once; the sets are disjoint lists of unreleased slots; and what comes next is a field of the heap.
use Rattle.rec_trial.proofs.Whole.{whole_careful}
use Rattle.rec_trial.proofs.laws.trial_is_careful.Goals as goal

pub returns : goal.returns
returns c = whole_careful

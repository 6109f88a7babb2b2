-- Nothing but fields of nodes that were given up names them.
use Rattle.rec_model.proofs.Consequences.{released_count, emptied_uncounted, beginning_uncounted, move_uncounted}
use Rattle.rec_model.proofs.laws.the_given_up_are_uncounted.Goals as goal

pub returns-clause-counted : goal.returns-clause-counted
returns-clause-counted c = released_count

pub returns-clause-emptied : goal.returns-clause-emptied
returns-clause-emptied c = emptied_uncounted

pub returns-clause-begun : goal.returns-clause-begun
returns-clause-begun c = beginning_uncounted

pub returns-clause-moved : goal.returns-clause-moved
returns-clause-moved c = λ before after m i. move_uncounted m i

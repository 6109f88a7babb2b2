-- A word of the applied epoch is in the count of its target.
use Rattle.rec_model.proofs.Consequences.{clearing_covered, released_word_applied, applied_word_counted}
use Rattle.rec_model.proofs.laws.clearings_are_covered.Goals as goal

pub returns-clause-covered : goal.returns-clause-covered
returns-clause-covered c = clearing_covered

pub returns-clause-early : goal.returns-clause-early
returns-clause-early c = released_word_applied

pub returns-clause-counted : goal.returns-clause-counted
returns-clause-counted c = applied_word_counted

-- The contract of `machine_finds_fitting_words`: the word that a step finds is one that it may find, in a heap whose registers name taken slots.
use Rattle.rec_mutator.proofs.Found.{finds_fitting}
use Rattle.rec_mutator.proofs.laws.machine_finds_fitting_words.Goals as goal

pub returns : goal.returns
returns c = finds_fitting

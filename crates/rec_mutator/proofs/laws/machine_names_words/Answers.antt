-- The contract of `machine_names_words`: the operation that comes next names a word of the heap, where the registers name its slots.
use Rattle.rec_mutator.proofs.Words.{names_word}
use Rattle.rec_mutator.proofs.laws.machine_names_words.Goals as goal

pub returns : goal.returns
returns c = names_word

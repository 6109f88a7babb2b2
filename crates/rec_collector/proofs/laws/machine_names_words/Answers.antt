-- The contract of `machine_names_words`: the operation that comes next names a word of the heap, and is one of the collector's seven.
use Rattle.rec_collector.proofs.Always.{names_word}
use Rattle.rec_collector.proofs.laws.machine_names_words.Goals as goal

pub returns : goal.returns
returns c = names_word

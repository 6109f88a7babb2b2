-- Where the words so far lead.
use Rattle.std.proofs.Common.{◌≡◌, map, take}
use Rattle.rec_word.specs.Word.{target_of}
use Rattle.recycler_watch.proofs.state.targets_of.Given as goal

abbrev pub invariant-loop-word : goal.invariant-loop-word
invariant-loop-word l = l.targets.items ≡ map target_of (take l.word-index l.words)

-- What the words so far lead to was added, without what is found already.
use Rattle.std.proofs.Common.{◌≡◌, ◌++◌, map, take}
use Rattle.rec_word.specs.Word.{target_of}
use Rattle.rec_model.specs.Reach.{named}
use Rattle.rec_trace.specs.Children.{unmet}
use Rattle.rec_trace.proofs.chunks.push_unmet.Given as goal

abbrev pub invariant-loop-word : goal.invariant-loop-word
invariant-loop-word l = l.children.items ≡ l.fn.children.items ++ unmet l.found.list (named (map target_of (take l.word-index l.words)))

-- The pieces of the format one after another.
use Rattle.std.proofs.Common.{append_assoc, sym}
use Rattle.recycler_watch.specs.Sentence.{turn_words}
use Rattle.recycler_watch.proofs.Adding.{pushed}
use Rattle.recycler_watch.proofs.words.add_turn.Goals as goal

pub returns-in-Collected : goal.returns-in-Collected
returns-in-Collected c = rw c.in-Collected.is (simp append_assoc c.write.ensures.bytes)

pub returns-in-Waiting : goal.returns-in-Waiting
returns-in-Waiting c = pushed c.push_str.result _ _ _ _ c.push_str.ensures.bytes (sym (λ i. turn_words (c.in-Waiting.is i)))

-- The words by the epoch.
use Rattle.std.proofs.Common.{sym}
use Rattle.recycler_watch.specs.Sentence.{polls_words}
use Rattle.recycler_watch.proofs.Adding.{added, unchanged}
use Rattle.recycler_watch.proofs.words.add_poll.Goals as goal

pub returns-in-None : goal.returns-in-None
returns-in-None c = unchanged _ _ (λ i. polls_words (c.in-None.is i))

pub returns-in-Some : goal.returns-in-Some
returns-in-Some c = added c.write.result _ _ _ _ c.write.ensures.bytes (sym (λ i. polls_words (c.in-Some.is i)))

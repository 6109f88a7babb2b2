-- The words by what was and is.
use Rattle.std.proofs.Common.{sym}
use Rattle.recycler_watch.specs.Sentence.{set_words}
use Rattle.recycler_watch.proofs.Adding.{added, unchanged}
use Rattle.recycler_watch.proofs.words.add_set.Goals as goal

pub returns-in-None-Some : goal.returns-in-None-Some
returns-in-None-Some c = added c.write.result _ _ _ _ c.write.ensures.bytes (sym (λ i. set_words (c.in-None-Some.is-0 i) (c.in-None-Some.is-1 i)))

pub returns-in_default : goal.returns-in_default
returns-in_default c = unchanged _ _ (λ i. set_words (c.in_default.is-0 i) (c.in_default.is-1 i))

pub returns-in_default-2 : goal.returns-in_default-2
returns-in_default-2 c = unchanged _ _ (λ i. set_words (c.in_default.is-0 i) (c.in_default.is-1 i))

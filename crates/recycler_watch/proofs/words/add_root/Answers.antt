-- The words by what was and is.
use Rattle.std.proofs.Common.{sym}
use Rattle.recycler_watch.specs.Sentence.{root_words}
use Rattle.recycler_watch.proofs.Adding.{pushed, unchanged}
use Rattle.recycler_watch.proofs.words.add_root.Goals as goal

pub returns-in-true-false : goal.returns-in-true-false
returns-in-true-false c = pushed c.push_str.result _ _ _ _ c.push_str.ensures.bytes (sym (λ i. root_words (c.in-true-false.is-0 i) (c.in-true-false.is-1 i)))

pub returns-in-false-true : goal.returns-in-false-true
returns-in-false-true c = pushed c.push_str-in-false-true.result _ _ _ _ c.push_str-in-false-true.ensures.bytes (sym (λ i. root_words (c.in-false-true.is-0 i) (c.in-false-true.is-1 i)))

pub returns-in_default : goal.returns-in_default
returns-in_default c = unchanged _ _ (λ i. root_words (c.in_default.is-0 i) (c.in_default.is-1 i))

pub returns-in_default-2 : goal.returns-in_default-2
returns-in_default-2 c = unchanged _ _ (λ i. root_words (c.in_default.is-0 i) (c.in_default.is-1 i))

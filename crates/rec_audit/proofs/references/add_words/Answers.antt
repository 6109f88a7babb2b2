-- The contract of `add_words`: the words of a list are added to a set.
use Rattle.std.proofs.Common.{ℕ, ◌+◌, ◌||◌, ◌==◌, nat_eq, get_or, take, ap, ◌∙◌, List, arith}
use Rattle.std.specs.HashSet.{contains}
use Rattle.std.specs.List.{list_any}
use Rattle.std.proofs.lemmas.List.{take_all}
use Rattle.std.proofs.lemmas.List.Folds.{list_any_more}
use Rattle.rec_audit.proofs.Edits.{or_more, or_none}
use Rattle.rec_audit.proofs.references.add_words.Goals as goal

pub loop-word-init : goal.loop-word-init
loop-word-init c = λ w. or_none (contains nat_eq c.args.set.now w)

pub loop-word-preserved : goal.loop-word-preserved
loop-word-preserved c = λ w.
    or_more (contains nat_eq c.add_word.new.set w) (contains nat_eq c.loop-word.set w) (contains nat_eq c.args.set.now w) (list_any (λ v. v == w) (take c.loop-word.word-index c.args.words.now)) (list_any (λ v. v == w) (take (c.loop-word.word-index + 1) c.args.words.now)) (get_or c.args.words.now c.loop-word.word-index 0 == w)
    (c.loop-word.invariant w) (c.in_ok-add_word.ensures w) (list_any_more (λ v. v == w) c.args.words.now c.loop-word.word-index 0 c.loop-word-test.true)

pub returns : goal.returns
returns c = λ w. c.loop-word.invariant w ∙ ap (λ (t : List ℕ). contains nat_eq c.args.set.now w || list_any (λ v. v == w) t) (take_all c.loop-word.word-index c.args.words.now (omega arith))

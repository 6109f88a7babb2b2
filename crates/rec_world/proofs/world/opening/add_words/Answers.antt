-- One word more.
use Rattle.std.proofs.Common.{ℕ, Option, List, ◌++◌, ◌∷◌, [], sym, ap, ◌∙◌, arith}
use Rattle.std.proofs.lemmas.List.{append-nil, take_all}
use Rattle.rec_core.specs.Objects.{early_words}
use Rattle.rec_world.proofs.Openings.{words_more}
use Rattle.rec_world.proofs.world.opening.add_words.Goals as goal

pub loop-place-preserved : goal.loop-place-preserved
loop-place-preserved c = c.in_ok-push.ensures.items ∙ (λ i. c.loop-place.invariant i ++ c.early_word.ensures i ∷ []) ∙ words_more c.args.row.now.items c.args.fields.now c.loop-place.place c.loop-place-test.true

pub loop-place-init : goal.loop-place-init
loop-place-init c = sym (append-nil c.args.row.now.items)

pub returns : goal.returns
returns c = c.loop-place.invariant ∙ ap (λ (xs : List (Option ℕ)). c.args.row.now.items ++ early_words 0 xs) (take_all c.loop-place.place c.args.fields.now (omega (arith, c.loop-place-test.false)))

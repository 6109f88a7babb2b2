-- One word more.
use Rattle.std.proofs.Common.{◌∙◌, ◌++◌, ◌∷◌, [], map, ap, sym}
use Rattle.std.proofs.lemmas.List.{map_more, take_all}
use Rattle.std.proofs.lemmas.Result.{IfOk-from_err}
use Rattle.rec_word.specs.Word.{target_of}
use Rattle.recycler_watch.proofs.state.targets_of.Goals as goal

pub returns-in_err-targets : goal.returns-in_err-targets
returns-in_err-targets c = IfOk-from_err c.from_residual.result _ c.from_residual.ensures.0

pub loop-word-init : goal.loop-word-init
loop-word-init c = c.in_ok-targets.ensures.items

pub returns-in_err-push : goal.returns-in_err-push
returns-in_err-push c = IfOk-from_err c.from_residual-in_err-push.result _ c.from_residual-in_err-push.ensures.0

pub loop-word-preserved : goal.loop-word-preserved
loop-word-preserved c =
    c.in_ok-push.ensures.items
    ∙ (λ k. c.loop-word.invariant k ++ c.target.ensures.target k ∷ [])
    ∙ sym (map_more target_of c.args.words.now c.loop-word.word-index 0 c.loop-word-test.true)

pub returns : goal.returns
returns c = c.loop-word.invariant ∙ ap (map target_of) (take_all c.loop-word.word-index c.args.words.now c.loop-word-test.false)

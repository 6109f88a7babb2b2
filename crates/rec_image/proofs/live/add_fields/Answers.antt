-- Each field is put behind the others.
use Rattle.std.proofs.Common.{◌++◌, ℕ, List, map, refl, sym, ap, ◌∙◌, append-nil}
use Rattle.std.proofs.lemmas.Result.{IfOk-from_err}
use Rattle.rec_word.specs.Word.{target_of}
use Rattle.rec_image.specs.Standing.{listed_place}
use Rattle.rec_image.proofs.Rowed.{all_rows, one_put}
use Rattle.rec_image.proofs.live.add_fields.Goals as goal

pub loop-word-preserved : goal.loop-word-preserved
loop-word-preserved c =
    one_put (λ word. listed_place c.args.numbering.now.list (target_of word)) c.args.words.now c.loop-word.word-index 0 c.args.targets.now.items c.loop-word.targets.items c.push.new.self.items c.place.result
    c.loop-word-test.true c.loop-word.invariant (c.place.ensures ∙ ap (listed_place c.args.numbering.now.list) c.target.ensures.target) c.in_ok-push.ensures.items

pub loop-word-init : goal.loop-word-init
loop-word-init c = sym (append-nil c.args.targets.now.items)

pub returns : goal.returns
returns c =
    all_rows (λ (words : List ℕ). c.args.targets.now.items ++ map (λ word. listed_place c.args.numbering.now.list (target_of word)) words) c.args.words.now _ c.loop-word.word-index _
    refl c.loop-word-test.false c.loop-word.invariant

pub returns-in_err-push : goal.returns-in_err-push
returns-in_err-push c = IfOk-from_err c.from_residual.result _ c.from_residual.ensures.0

-- What a word leads to is added where it has no number yet.
use Rattle.std.proofs.Common.{ℕ, ◌++◌, not, Vec, Global, None, Some, sym, ap, ◌∙◌, append-nil}
use Rattle.rec_trace.proofs.Gathered.{added_more, unmet_new, unmet_old}
use Rattle.rec_trace.proofs.chunks.push_unmet.Goals as goal
use Rattle.rec_trace.proofs.chunks.push_unmet.Goals.{in-Some+then-is_none+in_ok-push, in-Some+else-is_none, in_default}

pub loop-word-preserved : goal.loop-word-preserved
loop-word-preserved c = elim c.match-target.branch [
  | in-Some+then-is_none+in_ok-push w ↦ added_more _ c.loop-word.children.items _ c.args.found.now.list c.args.words.now c.loop-word.word-index (Some w.in-Some.slot) c.loop-word.invariant c.loop-word-test.true
      (sym w.in-Some.is ∙ c.target.ensures.target)
      (ap (λ (v : Vec ℕ Global). v.items) w.children-is ∙ w.in_ok-push.ensures.items
      ∙ ap (λ ns. c.loop-word.children.items ++ ns) (sym (unmet_new c.args.found.now.list w.in-Some.slot w.number.result w.number.ensures (w.is_none.ensures ∙ ap not w.if-is_none.true))))
  | in-Some+else-is_none w ↦ added_more _ c.loop-word.children.items _ c.args.found.now.list c.args.words.now c.loop-word.word-index (Some w.in-Some.slot) c.loop-word.invariant c.loop-word-test.true
      (sym w.in-Some.is ∙ c.target.ensures.target)
      (ap (λ (v : Vec ℕ Global). v.items) w.children-is ∙ sym (append-nil c.loop-word.children.items)
      ∙ ap (λ ns. c.loop-word.children.items ++ ns) (sym (unmet_old c.args.found.now.list w.in-Some.slot w.number.result w.number.ensures (w.is_none.ensures ∙ ap not w.if-is_none.false))))
  | in_default w ↦ added_more _ c.loop-word.children.items _ c.args.found.now.list c.args.words.now c.loop-word.word-index None c.loop-word.invariant c.loop-word-test.true
      (sym w.in_default.is ∙ c.target.ensures.target)
      (ap (λ (v : Vec ℕ Global). v.items) w.children-is ∙ sym (append-nil c.loop-word.children.items))
]

-- One piece behind the other.
use Rattle.std.proofs.lemmas.Result.{on_ok_weaker}
use Rattle.recycler_watch.proofs.Adding.{behind}
use Rattle.recycler_watch.proofs.line.add_move.Goals as goal

pub returns : goal.returns
returns c =
    on_ok_weaker c.add_phase.result
    (behind _ _ _ _ _ (behind _ _ _ _ _ (behind _ _ _ _ _ (behind _ _ _ _ _ (behind _ _ _ _ _ c.in_ok-add_headings.ensures c.in_ok-add_number.ensures) c.in_ok-add_actor.ensures) c.in_ok-add_sentence.ensures) c.in_ok-push_str.ensures.bytes))
    c.add_phase.ensures

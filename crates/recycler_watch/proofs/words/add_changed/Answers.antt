-- The first six slots, and how many more there are.
use Rattle.std.proofs.Common.{refl}
use Rattle.std.proofs.lemmas.Result.{on_ok_weaker}
use Rattle.recycler_watch.specs.Seen.{slot_seen}
use Rattle.recycler_watch.proofs.Pieces.{changes}
use Rattle.recycler_watch.proofs.words.add_changed.Goals as goal

pub returns : goal.returns
returns c = on_ok_weaker c.add_more.result (λ h. changes (λ p. (slot_seen p.0.now, slot_seen p.1.now)) _ _ _ c.args.changed.now c.min.result _ refl c.min.ensures c.in_ok-add_first.ensures h) c.add_more.ensures

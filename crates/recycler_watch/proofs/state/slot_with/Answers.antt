-- What is kept of the slot is there.
use Rattle.std.proofs.Common.{◌≡◌, ◌∙◌, ◌<◌, ℕ, ap, length, subst, sym}
use Rattle.rec_counts.specs.Counts.{State}
use Rattle.rec_core.specs.Core.{Core}
use Rattle.rec_world.specs.World.{IsWorld}
use Rattle.rec_collector.specs.Private.{Private}
use Rattle.recycler_watch.proofs.state.slot_with.Goals as goal

kept : (w : Core) (machine : Private) (counts : State) (slot : ℕ) → IsWorld w → machine ≡ w.collector → counts ≡ machine.counts → slot < w.config.slots → slot < length counts.slots
kept w machine counts slot is own same below = subst (λ n. slot < n) (sym is.shaped.slots ∙ ap (λ (m : Private). length m.counts.slots) (sym own) ∙ ap (λ (s : State). length s.slots) (sym same)) below

pub set_of-set-requires : goal.set_of-set-requires
set_of-set-requires c = kept c.args.world.now _ _ c.args.slot c.collector.ensures.kept c.collector.ensures.collector c.counts-counts.ensures c.requires

pub count-requires : goal.count-requires
count-requires c = kept c.args.world.now _ _ c.args.slot c.collector.ensures.kept c.collector.ensures.collector c.counts-counts.ensures c.requires

pub cyclic-requires : goal.cyclic-requires
cyclic-requires c = kept c.args.world.now _ _ c.args.slot c.collector.ensures.kept c.collector.ensures.collector c.counts-counts.ensures c.requires

pub colour-requires : goal.colour-requires
colour-requires c = kept c.args.world.now _ _ c.args.slot c.collector.ensures.kept c.collector.ensures.collector c.counts-counts.ensures c.requires

pub buffered-requires : goal.buffered-requires
buffered-requires c = kept c.args.world.now _ _ c.args.slot c.collector.ensures.kept c.collector.ensures.collector c.counts-counts.ensures c.requires

pub released-requires : goal.released-requires
released-requires c = kept c.args.world.now _ _ c.args.slot c.collector.ensures.kept c.collector.ensures.collector c.counts-counts.ensures c.requires

-- Each word leads to what all of them name, and its target joins those before it.
use Rattle.std.proofs.Common.{◌<◌, ◌∙◌}
use Rattle.rec_world.proofs.Filled.{joined-word, target-at}
use Rattle.rec_world.proofs.numbering.Numbering.meet_fields.Goals as goal

pub meet-requires : goal.meet-requires
meet-requires c = rw (c.target.ensures.target, c.loop-word.invariant.slots) (target-at (λ slot. slot < c.args.self.now.slots) c.args.words.now c.requires c.loop-word.word-index c.loop-word-test.true)

pub loop-word-preserved : goal.loop-word-preserved
loop-word-preserved c = record {
  slots = c.meet.ensures.slots ∙ c.loop-word.invariant.slots;
  list = joined-word _ _ _ _ _ _ c.loop-word.invariant.list c.target.ensures.target c.loop-word-test.true c.meet.ensures.joined;
}

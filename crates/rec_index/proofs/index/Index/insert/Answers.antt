-- The contract of `Index::insert`: makes the slot a member.
use Rattle.std.proofs.Common.{rules}
use Rattle.rec_index.proofs.Levels.{tells_inserted}
use Rattle.rec_index.proofs.index.Index.insert.Goals as goal

pub invariant_of-self : goal.invariant_of-self
invariant_of-self c = record {
  words = tells_inserted c.self.inside.words c.insert-2.new.self c.self.inside.slots c.insert.new.self c.from-slot.result c.self.invariant.words c.insert.ensures.holds c.insert.ensures.others c.insert-2.ensures.holds;
  groups = tells_inserted c.self.inside.groups c.insert-3.new.self c.self.inside.words c.insert-2.new.self _ c.self.invariant.groups c.insert-2.ensures.holds c.insert-2.ensures.others c.insert-3.ensures.holds;
  slots_length = search rules;
  words_length = search rules;
  groups_length = search rules;
}

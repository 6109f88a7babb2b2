-- The free slots below the next one are members.
use Rattle.rec_world.proofs.Frees.{ListsUpTo}
use Rattle.rec_world.proofs.memory.list_free.Given as goal

abbrev pub invariant-slots : goal.invariant-slots
invariant-slots l = ListsUpTo l.headers l.free l.slot

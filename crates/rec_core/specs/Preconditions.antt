-- What the machines ask of the heap in which they make a step.
use Rattle.std.specs.Prelude.{◌≡◌, ℕ}
use Rattle.rec_word.specs.declared.op.Op.{Op}
use Rattle.rec_mutator.specs.Next.{next_of}
use Rattle.rec_mutator.specs.Took.{took_of, spare, IsFound, IsBetween, IsSwapping}
use Rattle.rec_collector.specs.Given.{IsGiven, IsSized}
use Rattle.rec_core.specs.Cells.{IsWithin, cell}
use Rattle.rec_core.specs.Core.{Core, cells_of, mutator, box}
use Rattle.rec_core.specs.Moves.{found_by, looked_at}

-- Mutator `t` may make its next step: the word that it names is there, and is one that it may find; and where it takes its
-- mailbox, that holds a spare.
pub record MayStep (w : Core) (t : ℕ) : Type 0 where
  pub within : IsWithin (cells_of w) (next_of (mutator w t))
  pub found : IsFound (mutator w t) (next_of (mutator w t)) (found_by w t)
  pub between : IsBetween (mutator w t).phase
  pub spare : IsSwapping (took_of (mutator w t) (found_by w t)).phase → box w t ≡ spare (took_of (mutator w t) (found_by w t))

-- The collector may make a turn with this operation: its word is there, and is one that the collector may be given, and the
-- mailbox that it looks at is as large as its buffers.
pub record MayTurn (w : Core) (op : Op) : Type 0 where
  pub within : IsWithin (cells_of w) op
  pub given : IsGiven w.collector (cell (cells_of w) op)
  pub sized : IsSized w.collector.registers w.collector.capacity (box w (looked_at w.collector.phase))

-- The loops of `lengths_of`: how many commands each mutator has.
use Rattle.std.proofs.Common.{◌≡◌, take}
use Rattle.rec_play.specs.Played.{lengths_of}
use Rattle.rec_play.proofs.opening.lengths_of.Given as goal

-- the numbers so far are written
abbrev pub invariant-loop-index : goal.invariant-loop-index
invariant-loop-index l = l.lengths.items ≡ take l.index (lengths_of l.script)

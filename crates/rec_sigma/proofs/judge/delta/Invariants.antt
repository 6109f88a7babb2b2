-- The loops of `delta`: whether each member of set `set` is Orange.
use Rattle.std.proofs.Common.{◌≡◌, ℕ, ◌<◌, take}
use Rattle.rec_counts.specs.declared.colour.Colour.TheVariants.{Orange}
use Rattle.rec_counts.specs.Counts.{slot_at}
use Rattle.rec_counts.specs.Lists.{times}
use Rattle.rec_sigma.proofs.judge.delta.Given as goal

abbrev pub invariant-loop-slot : goal.invariant-loop-slot
invariant-loop-slot l = (x : ℕ) → 0 < times x (take l.slot-index l.slot-items) → (slot_at l.counts x).colour ≡ Orange

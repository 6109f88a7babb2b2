-- The loops of `unfinished_of`: the mutators with commands left.
use Rattle.std.proofs.Common.{◌≡◌, ◌≤◌, length, take}
use Rattle.rec_play.specs.Playing.{unfinished}
use Rattle.rec_play.proofs.schedule.unfinished_of.Given as goal

-- the unfinished mutators so far are named
abbrev pub invariant-loop-at : goal.invariant-loop-at
invariant-loop-at l =
    record {
      few : length l.unfinished.items ≤ l.at;
      named : l.unfinished.items ≡ unfinished (take l.at l.left);
    }

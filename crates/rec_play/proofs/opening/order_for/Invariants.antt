-- The loops of `order_for`: an empty order with room for all commands.
use Rattle.std.proofs.Common.{◌≡◌, ◌≤◌, ◌*◌, take}
use Rattle.std.specs.List.{sum}
use Rattle.rec_play.specs.Played.{lengths_of}
use Rattle.rec_play.proofs.opening.order_for.Given as goal

-- the commands so far are counted
abbrev pub invariant-loop-index : goal.invariant-loop-index
invariant-loop-index l =
    record {
      counted : l.room ≡ sum (take l.index (lengths_of l.script));
      small : l.room ≤ 200000 * l.index;
    }

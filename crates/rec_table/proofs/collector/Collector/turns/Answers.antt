-- The contract of `Collector::turns`: makes turns until one comes to something else than that it moved, and at most so many.
use Rattle.std.proofs.Common.{arith}
use Rattle.rec_table.specs.Turn.{MovesTo}
use Rattle.rec_table.proofs.TurnRuns.{some_ended, some_moved}
use Rattle.rec_table.proofs.collector.Collector.turns.Goals as goal

pub loop-moves-init : goal.loop-moves-init
loop-moves-init c = record { own = c.requires.own; moved = MovesTo.none; few = omega arith }

pub loop-moves-preserved : goal.loop-moves-preserved
loop-moves-preserved c =
    let s = some_moved c.args.self.now c.run-made.new.self c.run-made.result.0 c.args.most c.run-made.result.1 (c.run-made.ensures.made c.args.self.now c.loop-moves.invariant.moved) c.in-Moved.is in
    record { own = c.run-made.ensures.own; moved = s.0; few = s.1 }

pub returns-in_default : goal.returns-in_default
returns-in_default c = record {
  turns = some_ended c.args.self.now c.run-made.new.self c.run-made.result.0 c.args.most c.run-made.result.1 (c.run-made.ensures.made c.args.self.now c.loop-moves.invariant.moved) c.in_default.not-Moved;
  own = c.run-made.ensures.own;
}

-- The contract of `World::turns`: makes turns until one answers something else than `Moved`.
use Rattle.std.proofs.Common.{◌+◌, ℕ, subst, arith}
use Rattle.rec_collector.specs.declared.turn.Turn.{Turn}
use Rattle.rec_world.specs.Turning.{HasTurned}
use Rattle.rec_world.proofs.TurnRuns.{turned_both}
use Rattle.rec_world.proofs.world.World.turns.Goals as goal

pub loop-made-init : goal.loop-made-init
loop-made-init c = record { turned = HasTurned.none; few = omega arith; kept = c.rules.ensures }

pub loop-made-preserved : goal.loop-made-preserved
loop-made-preserved c =
    let run = c.run-more in
    let n : ℕ = c.loop-made.made + run.result.0 in
    record {
      turned = subst (λ (x : Turn). HasTurned c.args.self.now n run.new.self x) c.in-Moved.is (turned_both c.args.self.now c.loop-made.self run.new.self c.loop-made.made run.result.0 run.result.1 c.loop-made.invariant.turned run.ensures.turned);
      few = omega (arith, run.ensures.few, c.loop-made.invariant.few);
      kept = run.ensures.kept;
    }

pub returns-in_default : goal.returns-in_default
returns-in_default c =
    let run = c.run-more in
    record {
      turned = turned_both c.args.self.now c.loop-made.self run.new.self c.loop-made.made run.result.0 run.result.1 c.loop-made.invariant.turned run.ensures.turned;
      few = omega (arith, run.ensures.few, c.loop-made.invariant.few);
      all = λ moved. absurd (c.in_default.not-Moved moved);
      kept = run.ensures.kept;
    }

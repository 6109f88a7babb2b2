-- Settling begins.
use Rattle.std.proofs.Common.{refl, arith}
use Rattle.rec_settle.specs.Collecting.{IsAmid}
use Rattle.rec_settle.specs.Stages.{IsFinishing}
use Rattle.rec_settle.proofs.turns.Settling.start.Goals as goal

pub returns-clause-begins : goal.returns-clause-begins
returns-clause-begins c = λ idle. record {
  idle = idle;
  kept = c.epoch-requested.ensures.kept;
  left = omega (arith, c.if-requested-lt-SETTLING_EPOCHS.false, c.epoch-requested.ensures.epoch);
  settles = (c.epoch-requested.ensures.epoch, IsFinishing.one c.args.world.now (IsAmid.here c.args.world.now refl));
}

-- The loops of `Sweep::run_on`: headers are freed.
use Rattle.std.proofs.Common.{IsSome}
use Rattle.rec_release.specs.Sweep.{IsAtWork, next_of}
use Rattle.rec_release.specs.Ran.{RanSweep}
use Rattle.rec_release.proofs.sweep.Sweep.run_on.Given as goal

abbrev pub invariant-loop-made : goal.invariant-loop-made
invariant-loop-made g l = record {
  busy : IsSome (next_of l.self);
  kept : IsAtWork l.self l.counts;
  ran : RanSweep (record { due = l.fn.self; counts = l.fn.counts }) l.made (record { due = l.self; counts = l.counts });
  stands : g.F.Frees.StandsAt l.board l.seat l.made (record { due = l.self; counts = l.counts });
}

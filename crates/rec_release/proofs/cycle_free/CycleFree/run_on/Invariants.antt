-- The loops of `CycleFree::run_on`: fields are cleared, and what came out is learnt.
use Rattle.std.proofs.Common.{IsSome}
use Rattle.rec_release.specs.CycleFree.{IsAtWork, next_of}
use Rattle.rec_release.specs.Ran.{RanFreeing}
use Rattle.rec_release.proofs.cycle_free.CycleFree.run_on.Given as goal

abbrev pub invariant-loop-made : goal.invariant-loop-made
invariant-loop-made g l = record {
  busy : IsSome (next_of l.self);
  kept : IsAtWork l.self l.counts;
  ran : RanFreeing (record { machine = l.fn.self; counts = l.fn.counts }) l.made (record { machine = l.self; counts = l.counts });
  stands : g.C.Clears.StandsAt l.board l.seat l.made (record { machine = l.self; counts = l.counts });
}

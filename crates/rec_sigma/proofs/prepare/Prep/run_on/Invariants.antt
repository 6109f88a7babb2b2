-- The loops of `Prep::run_on`: words are loaded and learnt.
use Rattle.std.proofs.Common.{IsSome}
use Rattle.rec_sigma.specs.Prepare.{IsAtWork, next_of}
use Rattle.rec_sigma.specs.Ran.{Ran}
use Rattle.rec_sigma.proofs.prepare.Prep.run_on.Given as goal

abbrev pub invariant-loop-made : goal.invariant-loop-made
invariant-loop-made g l = record {
  busy : IsSome (next_of l.self);
  kept : IsAtWork l.self l.counts;
  ran : Ran (record { machine = l.fn.self; counts = l.fn.counts }) l.made (record { machine = l.self; counts = l.counts });
  stands : g.L.Loads.StandsAt l.board l.seat l.made (record { machine = l.self; counts = l.counts });
}

-- The contract of `set_running`: the heap with all its mutators home, and a pointer to it for each of them.
use Rattle.std.proofs.Common.{◌≡◌, ◌%◌, All, sym, subst}
use Rattle.rec_core.specs.Core.{Core}
use Rattle.std.specs.Result.{IfErr, IfOk}
use Rattle.rec_core.specs.Worked.{AreIdle}
use Rattle.rec_world.specs.World.{IsWorld}
use Rattle.recycler_c.specs.Calls.{IsFresh, NotRun}
use Rattle.recycler_c.proofs.running.set_running.Goals as goal

pub share-requires-clause-home : goal.share-requires-clause-home
share-requires-clause-home c = subst (λ (w : Core). All (λ word. word % 2 ≡ 0) w.crossing) (sym c.in-Ok.ensures.started) c.requires.home

pub share-requires-clause-kept : goal.share-requires-clause-kept
share-requires-clause-kept c = subst (λ (w : Core). IsWorld w) (sym c.in-Ok.ensures.started) c.requires.kept

pub returns-in-Ok-clause-fresh : goal.returns-in-Ok-clause-fresh
returns-in-Ok-clause-fresh c = subst (λ (w : Core). IfOk c.share.result (λ r. IsFresh w r.0)) c.in-Ok.ensures.started c.share.ensures.fresh

pub returns-in-Ok-clause-count : goal.returns-in-Ok-clause-count
returns-in-Ok-clause-count c = c.share.ensures.count

pub returns-in-Ok-clause-heaps : goal.returns-in-Ok-clause-heaps
returns-in-Ok-clause-heaps c = c.share.ensures.heaps

pub returns-in-Ok-clause-refused : goal.returns-in-Ok-clause-refused
returns-in-Ok-clause-refused c = subst (λ (w : Core). IfErr c.share.result (λ r. NotRun w r.1 r.0)) c.in-Ok.ensures.started c.share.ensures.refused

-- the world that came back is as it was
pub of-requires-clause-kept : goal.of-requires-clause-kept
of-requires-clause-kept c = subst (λ (w : Core). IsWorld w) (sym c.in-Err.ensures.refused) c.requires.kept

pub of-requires-clause-idle : goal.of-requires-clause-idle
of-requires-clause-idle c = subst AreIdle (sym c.in-Err.ensures.refused) c.requires.idle

pub of-requires-clause-home : goal.of-requires-clause-home
of-requires-clause-home c = subst (λ (w : Core). All (λ word. word % 2 ≡ 0) w.crossing) (sym c.in-Err.ensures.refused) c.requires.home

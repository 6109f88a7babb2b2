-- All mailboxes of a heap that has settled, or was opened, are home.
use Rattle.std.proofs.Common.{◌≡◌, ℕ, ◌+◌, ◌%◌, All, ap, subst, arith}
use Rattle.rec_collector.specs.declared.phase.Phase.{Phase}
use Rattle.rec_collector.specs.declared.phase.Phase.TheVariants.{Idle}
use Rattle.rec_core.specs.Config.{IsMutator}
use Rattle.rec_core.specs.Core.{Core, mutator, opened, opened_mutator}
use Rattle.rec_core.specs.Worked.{AreIdle}
use Rattle.rec_core.specs.declared.config.Config.{Config}
use Rattle.rec_mutator.specs.Private.{is_busy}
use Rattle.rec_settle.specs.Collecting.{IsSettling}
use Rattle.rec_table.proofs.Closing.{all_even}
use Rattle.rec_table.specs.Rule.{boxes_at, boxes_out}
use Rattle.rec_world.proofs.Calls.{world_kept}
use Rattle.rec_world.specs.World.{IsWorld}

pub settled_home : (before after : Core) → IsSettling before after → IsWorld after → AreIdle after → All (λ word. word % 2 ≡ 0) after.crossing
settled_home before after s is idle =
    let phase : after.collector.phase ≡ Idle = s.frees.complete.2 in
    all_even after (world_kept after is)
    (λ k lt. idle (k + 1) (omega arith, omega (arith, lt))) (ap (λ (p : Phase). boxes_at after.collector p) phase)

-- so are those of a heap as it is opened, in which no mutator works
pub opened_idle : (config : Config) (w : Core) → w ≡ opened config → ((t : ℕ) → IsMutator config t → mutator w t ≡ opened_mutator config t) → AreIdle w
opened_idle config w e each t there = ap is_busy (each t (subst (λ (x : Config). IsMutator x t) (ap (λ (v : Core). v.config) e) there))

pub opened_home : (config : Config) (w : Core) → w ≡ opened config → IsWorld w → AreIdle w → All (λ word. word % 2 ≡ 0) w.crossing
opened_home config w e is idle = all_even w (world_kept w is) (λ k lt. idle (k + 1) (omega arith, omega (arith, lt))) (ap (λ (v : Core). boxes_out v.collector) e)

-- The contract of `World::run_as`: makes turns of one kind.
use Rattle.std.proofs.Common.{sym, subst, ◌∙◌}
use Rattle.rec_collector.specs.declared.turn.Turn.TheVariants.{Moved}
use Rattle.rec_world.proofs.Common.{Core}
use Rattle.rec_world.specs.Turning.{HasTurned, Stands}
use Rattle.rec_world.proofs.world.World.run_as.Goals as goal

pub run_as-requires-clause-stands : goal.run_as-requires-clause-stands
run_as-requires-clause-stands g c = subst (λ (w : Core). Stands w c.self.inside.memory 0 c.self.inside.collector Moved) (c.self.view_is ∙ sym c.requires.start) (record { world = c.self.invariant.world; turned = HasTurned.none })

-- How far settling has come.
use Rattle.std.specs.Prelude.{◌≡◌, ℕ, ◌+◌, ◌≤◌, ◌==◌, if◌then◌else◌}
use Rattle.rec_word.specs.declared.word.TheConstants.{LAST_EPOCH}
use Rattle.rec_collector.specs.declared.phase.Phase.TheVariants.{Idle}
use Rattle.rec_collector.specs.declared.turn.Turn.{Turn}
use Rattle.rec_collector.specs.declared.turn.Turn.TheVariants as answers
use Rattle.rec_core.specs.Core.{Core}
use Rattle.rec_core.specs.Moves.{offering}
use Rattle.rec_world.specs.World.{IsWorld}
use Rattle.rec_settle.specs.Collecting.{AreIdle, Finishes, IsAmid, IsCollection, IsSettling}
use Rattle.rec_settle.specs.declared.turns.Settling.{Settling}
use Rattle.rec_settle.specs.declared.turns.Settling.TheVariants.{Finishing, Offering, Trying, Freeing, Settled}

-- Settling goes on from this world to the end of the collection of the epoch that was requested there: before it comes the one that
-- was under way, if there was one.
pub data IsFinishing (first : Core) : Core → Type 0 where
  one : (w : Core) → IsAmid first w → IsFinishing first w
  two : (mid w : Core) → (first.collector.phase ≡ Idle → ⊥) → IsCollection first mid → IsAmid mid w → IsFinishing first w

-- then the collection goes on whose trial is offered every slot
pub record IsTrying (first w : Core) : Type 0 where
  pub collected : Core
  pub finishes : Finishes first collected
  pub path : IsAmid (offering collected) w

-- then the one that tests and frees its sets
pub record IsFreeing (first w : Core) : Type 0 where
  pub collected : Core
  pub finishes : Finishes first collected
  pub tried : Core
  pub tries : IsCollection (offering collected) tried
  pub path : IsAmid tried w

-- how far settling has come from the world in which it began
abbrev pub Settles : Settling → (first w : Core) → Type 0
Settles (Finishing requested) first w = (requested ≡ first.epoch) × IsFinishing first w
Settles Offering first w = Finishes first w
Settles Trying first w = IsTrying first w
Settles Freeing first w = IsFreeing first w
Settles Settled first w = IsSettling first w

-- It began in a world in which no mutator works, and in which four epochs are left. So far it has come from there.
pub record HasCome (first : Core) (stage : Settling) (w : Core) : Type 0 where
  pub idle : AreIdle first
  pub kept : IsWorld first
  pub left : first.epoch + 4 ≤ LAST_EPOCH
  pub settles : Settles stage first w

-- What a turn finds: where the collection of the requested epoch is complete, every slot is offered first.
abbrev pub offered : Settling → Core → Core
offered Offering w = offering w
offered _ w = w

abbrev pub begun : Settling → Settling
begun Offering = Trying
begun stage = stage

-- what comes behind a collection that is complete, where this epoch is requested then
abbrev pub stage_after : Settling → ℕ → Settling
stage_after (Finishing requested) epoch = if epoch == requested then Finishing requested else Offering
stage_after Trying epoch = Freeing
stage_after _ epoch = Settled

-- and behind a turn
abbrev pub stage_turned : Settling → Turn → ℕ → Settling
stage_turned stage (answers.Collected ended freed) epoch = stage_after stage epoch
stage_turned stage _ epoch = stage

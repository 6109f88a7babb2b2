-- What settling does: turns of the collector, with a poll of each mutator that it waits for, collection after collection.
use Rattle.std.specs.Prelude.{◌≡◌, ◌≢◌, ℕ, ◌==◌, nat_lt, false, if◌then◌else◌, count_by}
use Rattle.rec_word.specs.Mailbox.{crossing_word}
use Rattle.rec_word.specs.declared.mailbox.Mailbox.TheVariants.{Retired}
use Rattle.rec_mutator.specs.Private.{is_busy}
use Rattle.rec_mutator.specs.declared.work.Work.TheVariants as works
use Rattle.rec_collector.specs.Kept.{limit_of}
use Rattle.rec_collector.specs.declared.phase.Phase.{Phase}
use Rattle.rec_collector.specs.declared.phase.Phase.TheVariants.{Idle, Looking}
use Rattle.rec_collector.specs.declared.turn.Turn.{Turn}
use Rattle.rec_collector.specs.declared.turn.Turn.TheVariants as answers
use Rattle.rec_core.specs.Config.{IsMutator}
use Rattle.rec_core.specs.Core.{Core, mutator, opened, crossing_of}
use Rattle.rec_core.specs.Moves.{offering, turned}
use Rattle.rec_core.specs.Worked.{IsWorked, WaitsFor}
pub use Rattle.rec_core.specs.Worked.{AreIdle}
use Rattle.rec_core.specs.declared.config.Config.{Config}
use Rattle.rec_core.specs.Turn.{TurnHasCause}
use Rattle.rec_world.specs.World.{IsQuiet}

-- the collector waits for this mutator, which is one of the heap's
pub record IsAwaited (w : Core) (t : ℕ) : Type 0 where
  pub there : IsMutator w.config t
  pub waits : WaitsFor w t

-- a mutator polled
pub record HasPolled (w : Core) (t : ℕ) (v : Core) : Type 0 where
  pub worked : IsWorked w t works.Poll v
  pub quiet : IsQuiet w v t
  pub idle : is_busy (mutator v t) ≡ false
  pub epoch : (mutator v t).epoch ≡ w.epoch

-- What follows a step of the collector. The mutator for which it waited polls, where it has nothing else to do; else nothing comes.
pub data Follows (done : ℕ → Type 0) (before after : Core) : Type 0 where
  polls : (t : ℕ) → IsAwaited before t → turned before ≡ before → done t → HasPolled before t after → Follows done before after
  rests : ((t : ℕ) → WaitsFor before t → done t → ⊥) → after ≡ turned before → Follows done before after

-- The collector made a step, and this came of it.
pub record HasStepped (done : ℕ → Type 0) (before : Core) (turn : Turn) (after : Core) : Type 0 where
  pub cause : TurnHasCause before (turned before) turn
  pub follows : Follows done before after

-- where no mutator works, each has nothing else to do
abbrev pub Anyone : ℕ → Type 0
Anyone t = Unit {0}

-- The states of a collection that goes on from `before`. The collector turns, and whoever it waits for polls.
pub data IsAmid (before : Core) : Core → Type 0 where
  here : (w : Core) → w ≡ before → IsAmid before w
  turns : (w v : Core) → IsAmid before w → v ≡ turned w → TurnHasCause w v answers.Moved → IsAmid before v
  polls : (w v : Core) (t : ℕ) → IsAmid before w → IsAwaited w t → HasPolled w t v → IsAmid before v

-- A collection went on from `before`, and its last turn completed it. There is just one such state.
pub record IsCollection (before after : Core) : Type 0 where
  pub last : Core
  pub path : IsAmid before last
  pub turns : after ≡ turned last
  pub epoch : ℕ
  pub swept : ℕ
  pub complete : TurnHasCause last after (answers.Collected epoch swept)

-- The collection of the requested epoch is complete: before it the one that was under way, if there was one.
pub data Finishes (before after : Core) : Type 0 where
  one : before.collector.phase ≡ Idle → IsCollection before after → Finishes before after
  two : (w : Core) → before.collector.phase ≢ Idle → IsCollection before w → IsCollection w after → Finishes before after

-- Settling: the collection of the requested epoch, then one whose trial is offered every slot, then one that tests and frees its sets.
pub record IsSettling (before after : Core) : Type 0 where
  pub collected : Core
  pub finishes : Finishes before collected
  pub tried : Core
  pub tries : IsCollection (offering collected) tried
  pub frees : IsCollection tried after

-- how many slots hold an object
abbrev pub taken_slots : Core → ℕ
taken_slots w = count_by (λ header. nat_lt 0 header) w.headers

-- whether the collector waits for a mutator, by phase
abbrev pub waits_at : Core → Phase → ℕ
waits_at w (Looking t) = if crossing_of w t == crossing_word w.epoch Retired then 0 else 1
waits_at w _ = 0

-- the most turns that a collection takes, in a heap with these numbers
unfoldable pub turns_of : Config → ℕ
turns_of config = limit_of (opened config).collector

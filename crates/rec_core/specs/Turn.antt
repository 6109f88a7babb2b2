-- The turn of the collector: what it leaves, why each answer comes, and what it keeps.
use Rattle.std.specs.Prelude.{◌≡◌, ◌≢◌, ℕ, ◌+◌, ◌^◌, ◌≤◌, false, Option, None, Some}
use Rattle.rec_word.specs.Mailbox.{crossing_word}
use Rattle.rec_word.specs.declared.mailbox.Mailbox.TheVariants.{Retired}
use Rattle.rec_word.specs.declared.op.Op.{Op}
use Rattle.rec_word.specs.declared.op.Op.TheVariants.{FreeHeader}
use Rattle.rec_model.specs.Heap.{Heap}
use Rattle.rec_model.specs.Sight.{StandsBy}
use Rattle.rec_collector.specs.Next.{next_of}
use Rattle.rec_collector.specs.Took.{turn_of}
use Rattle.rec_collector.specs.declared.phase.Phase.TheVariants.{Idle, Looking}
use Rattle.rec_collector.specs.declared.turn.Turn.{Turn}
use Rattle.rec_collector.specs.declared.turn.Turn.TheVariants as turns
use Rattle.rec_core.specs.Bare.{Behind}
use Rattle.rec_core.specs.Cells.{cell}
use Rattle.rec_core.specs.Config.{IsMutator}
use Rattle.rec_core.specs.Core.{Core, cells_of, sight, mutator, crossing_of}
use Rattle.rec_core.specs.Freed.{AreGone, IsForgotten}
use Rattle.rec_core.specs.Moves.{turned, EndsRun}
use Rattle.rec_core.specs.Reach.{KeepsReached}
use Rattle.rec_core.specs.Swept.{swept, IsSweep}

-- what is seen of a turn of the collector that makes this operation: the word that it names is found; without one nothing is
abbrev pub seen_at : Core → Option Op → Option (Op × ℕ)
seen_at w None = None
seen_at w (Some op) = Some (op, cell (cells_of w) op)

-- what is seen of the collector's next turn
abbrev pub step_seen : Core → Option (Op × ℕ)
step_seen w = seen_at w (next_of w.collector)

-- what a turn of the collector that makes this operation answers; without one the epochs are spent
abbrev pub told_at : Core → Option Op → Turn
told_at w None = turns.EpochsSpent
told_at w (Some op) = turn_of w.collector (cell (cells_of w) op)

-- what the collector's next turn answers
abbrev pub turn_told : Core → Turn
turn_told w = told_at w (next_of w.collector)

-- Why a turn of the collector answers this, and what it changed. A turn that waits, or that finds the epochs spent, changed nothing.
-- A collection is complete exactly where it is told, with the slots that its sweep has freed.
abbrev pub TurnHasCause : (before after : Core) → Turn → Type 0
TurnHasCause w v turns.Moved = (v.collector.turns ≡ w.collector.turns + 1) × (v.collector.collections ≡ w.collector.collections) × (v.collector.freed + swept w ≡ w.collector.freed + swept v)
TurnHasCause w v (turns.Waiting t) = (w.collector.phase ≡ Looking t) × (crossing_of w t ≢ crossing_word w.epoch Retired) × (v ≡ w)
TurnHasCause w v (turns.Collected epoch freed) = (epoch + 1 ≡ v.epoch) × (freed ≡ swept w) × (v.collector.phase ≡ Idle) × (v.collector.collections ≡ w.collector.collections + 1) × (v.collector.freed ≡ w.collector.freed)
TurnHasCause w v turns.EpochsSpent = (w.collector.phase ≡ Idle) × (w.epoch + 1 ≡ 2 ^ 24) × (v ≡ w)

-- The collector made its next turn, and answered this.
pub record IsTurn (before after : Core) (answer : Turn) : Type 0 where
  pub turned : after ≡ turned before
  -- why each answer comes; a turn that waits, or that finds the epochs spent, changes nothing
  pub cause : TurnHasCause before after answer
  pub waiting : (t : ℕ) → before.collector.phase ≡ Looking t → crossing_of before t ≢ crossing_word before.epoch Retired → answer ≡ turns.Waiting t
  pub spent : before.collector.phase ≡ Idle → before.epoch + 1 ≡ 2 ^ 24 → answer ≡ turns.EpochsSpent
  -- whoever is waited for is a mutator of this heap and hasn't left, so it may poll where it is idle
  pub awaited : (t : ℕ) → answer ≡ turns.Waiting t → IsMutator after.config t
  pub present : (t : ℕ) → answer ≡ turns.Waiting t → (mutator before t).left ≡ false
  -- No slot that a register reaches is freed or changed, and whatever heap stood for this one still does, by the same numbers of its
  -- objects. Within a sweep a turn frees one slot at most.
  pub reached : KeepsReached (sight before) (sight after)
  pub stands : (heap : Heap) (number : ℕ → ℕ) → StandsBy heap (sight before) number → StandsBy heap (sight after) number
  pub sweep : IsSweep before after
  -- What was given up, the members of a set that passed both tests among it, is in no reach, and nothing names it. A header is set to
  -- 0 only where nothing at all names the slot.
  pub gone : Behind after AreGone
  pub forgotten : Behind before (λ v. (slot : ℕ) → next_of v.collector ≡ Some (FreeHeader slot) → IsForgotten v slot)
  -- one epoch more is requested at most, and no mutator changes
  pub requested : after.epoch ≤ before.epoch + 1
  pub mutators : after.mutators ≡ before.mutators
  pub config : after.config ≡ before.config
  pub made : after.made ≡ before.made
  pub run : EndsRun after

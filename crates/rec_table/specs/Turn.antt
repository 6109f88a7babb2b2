-- A turn of the collector on the table, by its own list, and many of them.
use Rattle.std.specs.Prelude.{◌≡◌, ◌≢◌, ℕ, ◌+◌, ◌<◌, ◌≤◌, None, Some}
use Rattle.rec_word.specs.declared.op.Op.{Op}
use Rattle.rec_collector.specs.Causes.{HasCause}
use Rattle.rec_collector.specs.Next.{next_of}
use Rattle.rec_collector.specs.Took.{took_of, turn_of}
use Rattle.rec_collector.specs.declared.turn.Turn.{Turn}
use Rattle.rec_collector.specs.declared.turn.Turn.TheVariants as turns
use Rattle.rec_core.specs.Cells.{cell}
use Rattle.rec_core.specs.Core.{Core, cells_of}
use Rattle.rec_core.specs.Moves.{turned as after_turn}
use Rattle.rec_core.specs.Turn.{IsTurn}
use Rattle.rec_world.specs.World.{IsWorld}
use Rattle.rec_table.specs.Beats.{gathered}
use Rattle.rec_table.specs.Views.{CollectorView, collector_now}
use Rattle.rec_table.specs.Rule.{collecting_more, word_of}
use Rattle.rec_table.specs.declared.views.Beat.{Beat}

-- The collector made its next turn, and answered this.
pub record MakesTurn (before after : CollectorView) (answer : Turn) : Type 0 where
  pub spent : next_of (collector_now before) ≡ None → (after ≡ before) × (answer ≡ turns.EpochsSpent)
  -- its list grows by the word found, and by what the mailbox held where it took one; its record and the answer follow
  pub turned : (op : Op) → next_of (collector_now before) ≡ Some op
      → (b : Beat) × (after ≡ record before { collecting = collecting_more before.collecting b }) × (collector_now after ≡ gathered (collector_now before) b) × (answer ≡ turn_of (collector_now before) (word_of b))
  -- why each answer comes, by the word found
  pub cause : (word : ℕ) → answer ≡ turn_of (collector_now before) word → HasCause (collector_now before) word (took_of (collector_now before) word) answer
  pub same : after ≡ record before { collecting = record before.collecting { log = after.collecting.log } }
  -- In whatever state of a run the collector's record is what it was here, and its operation's word is the one that was found, this is
  -- the turn of that heap.
  pub turn : (w : Core) → IsWorld w → w.collector ≡ collector_now before → ((op : Op) (b : Beat) → next_of w.collector ≡ Some op → after.collecting ≡ collecting_more before.collecting b → word_of b ≡ cell (cells_of w) op) → IsTurn w (after_turn w) answer

-- so many turns, one after another, of which each moved
pub data MovesTo (before : CollectorView) : ℕ → CollectorView → Type 0 where
  none : MovesTo before 0 before
  more : (moves : ℕ) (a b : CollectorView) → MovesTo before moves a → MakesTurn a b turns.Moved → MovesTo before (moves + 1) b

-- The collector made so many turns, and each moved; or fewer, and behind those that moved the last one came to something else. This is
-- what the last one came to.
pub data MakesTurns (before after : CollectorView) (most : ℕ) (answer : Turn) : Type 0 where
  moved : answer ≡ turns.Moved → MovesTo before most after → MakesTurns before after most answer
  ended : (moves : ℕ) (last : CollectorView) → moves < most → MovesTo before moves last → MakesTurn last after answer → answer ≢ turns.Moved → MakesTurns before after most answer

-- Of so many turns at most so many moved; or behind those one more was made and came to something else, which is this.
pub data MakesSome (first after : CollectorView) (moves most : ℕ) (answer : Turn) : Type 0 where
  moved : answer ≡ turns.Moved → moves ≤ most → MovesTo first moves after → MakesSome first after moves most answer
  ended : (last : CollectorView) → moves < most → MovesTo first moves last → MakesTurn last after answer → answer ≢ turns.Moved → MakesSome first after moves most answer

-- the collector made turns, fewer than so many, and each moved
pub record MovesToFewer (before after : CollectorView) (most : ℕ) : Type 0 where
  pub moves : ℕ
  pub fewer : moves < most
  pub moved : MovesTo before moves after

-- What every heap promises, at each moment of its run.
use Rattle.std.specs.Prelude.{◌≡◌, ℕ, ◌+◌, ◌<◌, ◌≤◌, Some, false, slice_index_or}
use Rattle.rec_word.specs.declared.op.Op.TheVariants.{FreeHeader}
use Rattle.rec_model.specs.References.{count_formula}
use Rattle.rec_model.specs.Sight.{IsTaken, Reaches}
use Rattle.rec_counts.specs.Counts.{slot_at}
use Rattle.rec_collector.specs.Kept.{limit_of}
use Rattle.rec_collector.specs.Next.{next_of}
use Rattle.rec_core.specs.Bare.{Behind}
use Rattle.rec_core.specs.Core.{Core, sight}
use Rattle.rec_core.specs.Freed.{AreGone, IsForgotten, IsProvenGarbage, Passes, TestsSets}
use Rattle.rec_core.specs.Moves.{stepped, turned}
use Rattle.rec_core.specs.Pending.{pending}
use Rattle.rec_core.specs.Reach.{KeepsReached}

pub record IsSafe (w : Core) : Type 0 where
  -- what a register reaches is taken and not given up; the next turn keeps its header and its words, and no step claims it
  pub reached : (slot : ℕ) → Reaches (sight w) slot → IsTaken (sight w) slot × ((slot_at w.collector.counts slot).released ≡ false)
  pub turned : KeepsReached (sight w) (sight (turned w))
  pub claimed : (t slot : ℕ) → IsTaken (sight w) slot → slice_index_or (stepped w t).headers slot 0 ≡ slice_index_or w.headers slot 0
  -- a set that passes both tests is out of reach, and what was given up stays so, and is named by nothing
  pub passed : Behind w (λ v. (number : ℕ) → TestsSets v.collector.phase → Passes v number → IsProvenGarbage v number)
  pub gone : Behind w AreGone
  -- a slot that is freed next is named by nothing at all
  pub forgotten : Behind w (λ v. (slot : ℕ) → next_of v.collector ≡ Some (FreeHeader slot) → IsForgotten v slot)
  -- true counts are the count formula at the epoch of the last batch
  pub counts : Behind w (λ v. (slot : ℕ) → slot < v.config.slots → (slot_at v.collector.counts slot).count ≡ count_formula (pending v) (pending v).applied (slot + 1))
  -- a collection ends within so many turns
  pub turns : w.collector.turns ≤ limit_of w.collector

-- Runs of the freeing of a set and of a sweep: words that they learn one after another.
use Rattle.std.specs.Prelude.{ℕ, ◌+◌, ◌<◌, IfSome, IsSome}
use Rattle.rec_word.specs.Word.{target_of}
use Rattle.rec_counts.specs.Counts.{slot_at}
use Rattle.rec_release.specs.CycleFree as frees
use Rattle.rec_release.specs.Sweep as sweeps

-- From the first work a freeing took in so many words, each of which led to a slot that has a count, and came to this one.
pub data RanFreeing (first : frees.Work) : ℕ → frees.Work → Type 0 where
  none : RanFreeing first 0 first
  more : (n : ℕ) (w : frees.Work) (word : ℕ) → RanFreeing first n w → IsSome (frees.next_of w.machine) → IfSome (target_of word) (λ slot. 0 < (slot_at w.counts slot).count) → RanFreeing first (n + 1) (frees.took_of w word)

-- From the first work a sweep freed so many headers, and came to this one.
pub data RanSweep (first : sweeps.Work) : ℕ → sweeps.Work → Type 0 where
  none : RanSweep first 0 first
  more : (n : ℕ) (w : sweeps.Work) (word : ℕ) → RanSweep first n w → IsSome (sweeps.next_of w.due) → RanSweep first (n + 1) (sweeps.took_of w word)

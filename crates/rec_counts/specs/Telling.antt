-- What is told of the slots from one moment of a batch to a later one.
use Rattle.std.specs.Prelude.{◌≡◌, ℕ, ◌+◌, ◌≤◌, List, ◌++◌, length}
use Rattle.rec_counts.specs.declared.slot.Slot.{Slot}
use Rattle.rec_counts.specs.Touched.{Told, Touching}
use Rattle.rec_log.specs.declared.contents.Contents.{Contents}
use Rattle.rec_counts.specs.Batch.{AreAlike, names}

-- leaves that are born so often, so many references more, and the slots that one is taken off, in order
pub record Tells (born added : ℕ → ℕ) (taken : List ℕ) (slots : List Slot) (touched : Touching) (slots' : List Slot) (touched' : Touching) : Type 0 where
  pub many : length slots' ≡ length slots
  pub marked : length touched'.marks ≡ length touched.marks
  pub told : (before : List Slot) (b a : ℕ → ℕ) (t : List ℕ) → Told before b a t slots touched → Told before (λ x. b x + born x) (λ x. a x + added x) (t ++ taken) slots' touched'

-- the buffers are alike, and name none but so many slots
pub record CanTell (slots : ℕ) (newer older : List Contents) : Type 0 where
  pub alike : AreAlike newer older
  pub in_range : (x : ℕ) → slots ≤ x → names x newer older ≡ 0

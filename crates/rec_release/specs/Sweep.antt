-- A sweep: what comes next, and what is learnt.
use Rattle.std.specs.Prelude.{◌≡◌, ℕ, ◌<◌, Bool, true, false, nat_lt, Option, None, Some, List, ◌++◌, drop, take, fold, length, slice_get}
use Rattle.rec_word.specs.declared.op.Op.{Op}
use Rattle.rec_word.specs.declared.op.Op.TheVariants.{FreeHeader}
use Rattle.rec_word.specs.Load.{given}
use Rattle.rec_counts.specs.declared.slot.Slot.{Slot}
use Rattle.rec_counts.specs.Counts.{State, slot_at, with_slot}
use Rattle.rec_counts.specs.Lists.{times}
use Rattle.rec_counts.specs.Slot.{swept_clean}

-- the slot whose header is freed next, with the counts that the sweep works on
pub record Work : Type 0 where
  pub due : Option ℕ
  pub counts : State

-- what comes next: 0 is stored in the header
abbrev pub op_at : Option ℕ → Option Op
op_at None = None
op_at (Some x) = Some (FreeHeader x)

unfoldable pub next_of : Option ℕ → Option Op
next_of due = op_at due

-- the first of the free list comes next
unfoldable pub started_of : State → Work
started_of s = record { due = slice_get s.free 0; counts = s }

-- the first of the free list leaves it, with one reference, Black, in no buffer and not released
abbrev pub swept : State → ℕ → State
swept s x = record (with_slot s x (swept_clean (slot_at s x))) { free = drop 1 s.free }

abbrev pub took_at : Work → Option ℕ → Work
took_at w None = w
took_at w (Some x) = record { due = slice_get (drop 1 w.counts.free) 0; counts = swept w.counts x }

-- what is learnt: that the header is freed, whatever word stood there
unfoldable pub took_of : Work → (word : ℕ) → Work
took_of w word = took_at w w.due

-- no slot of the free list is buffered
abbrev pub AreUnbuffered : State → Type 0
AreUnbuffered s = (x : ℕ) → 0 < times x s.free → (slot_at s x).buffered ≡ false

-- the counts are as the sweep left them
pub record IsAtWork (due : Option ℕ) (s : State) : Type 0 where
  pub first : due ≡ slice_get s.free 0
  pub unbuffered : AreUnbuffered s

-- the slots whose headers it freed meanwhile
abbrev pub freed : Work → (words : List ℕ) → List ℕ
freed w words = given took_of (λ (v : Work) word. take 1 v.counts.free) w words

-- swept, if it was
abbrev pub swept_if : Bool → Slot → Slot
swept_if true v = swept_clean v
swept_if false v = v

-- From the counts `before`, a sweep came to `after`: the slots `gone` left the free list from its front, and their headers
-- were freed in that order. Each has one reference, is Black and not released; all else is as it was.
pub record Swept (before after : State) (gone : List ℕ) : Type 0 where
  pub free : before.free ≡ gone ++ after.free
  pub slots : (x : ℕ) → slot_at after x ≡ swept_if (nat_lt 0 (times x gone)) (slot_at before x)
  pub many : length after.slots ≡ length before.slots
  pub roots : after.roots ≡ before.roots
  pub sets : after.sets ≡ before.sets
  pub marked : after.marked ≡ before.marked
  pub work : after.work ≡ before.work
  pub zeros : after.zeros ≡ before.zeros

-- what a sweep made of the counts, while it took in these words as long as there was work: as many slots are swept as
-- there were words, or all of the free list
pub record HasSwept (before : State) (words : List ℕ) : Type 0 where
  pub gone : freed (started_of before) words ≡ take (length words) before.free
  pub swept : Swept before (fold took_of (started_of before) words).counts (take (length words) before.free)

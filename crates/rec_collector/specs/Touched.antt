-- What names a slot from one step to the next: a batch, and what is taken off afterwards.
use Rattle.std.specs.Prelude.{◌≡◌, ℕ, ◌+◌, ◌-◌, ◌&&◌, not, if◌then◌else◌, Bool, true, Option, None, Some}
use Rattle.rec_word.specs.Looked.{looked}
use Rattle.rec_word.specs.Word.{target_of, is_slot}
use Rattle.rec_word.specs.declared.looked.Looked.{Looked}
use Rattle.rec_word.specs.declared.looked.Looked.TheVariants.{Crosses}
use Rattle.rec_counts.specs.Batch.{touches}
use Rattle.rec_counts.specs.declared.colour.Colour.TheVariants.{Orange}
use Rattle.rec_counts.specs.Counts.{State, slot_at}
use Rattle.rec_counts.specs.Lists.{one}
use Rattle.rec_release.specs.TakenOff.{is_lowered}
use Rattle.rec_collector.specs.Next.{is_spent}
use Rattle.rec_collector.specs.Present.{next_present}
use Rattle.rec_collector.specs.Private.{Private}
use Rattle.rec_collector.specs.Took.{crossed_for, noted}
use Rattle.rec_collector.specs.declared.phase.Phase.{Phase}
use Rattle.rec_collector.specs.declared.phase.Phase.TheVariants.{Idle, Looking, Swapping, Returning, Releasing, Freeing}

-- The epoch that was requested when the last trial was made, by phase: a collection that is under way has still to make its trial
-- until the sets of the one before are tested.
abbrev pub tried_at : (requested : ℕ) → Phase → ℕ
tried_at requested (Looking t) = requested - 1
tried_at requested (Swapping t) = requested - 1
tried_at requested (Returning t) = requested - 1
tried_at requested (Releasing release) = requested - 1
tried_at requested (Freeing freeing) = requested - 1
tried_at requested _ = requested

-- counted where a reference that came out of a field leads to the slot, and is decremented: where the work lowers, an orange target is
-- lowered and not decremented
abbrev pub decrements : (lowers : Bool) → State → (target : Option ℕ) → (x : ℕ) → ℕ
decrements lowers s target x = one (is_slot x target && not (is_lowered lowers (slot_at s x).colour))

-- how often a turn names the slot that goes on with this mutator's mailbox, or applies the batch: the increments, the decrements, the
-- snapshots and the births of leaves of the batch, but in a steady heap without the registers that didn't change
abbrev pub named_behind : Private → (x : ℕ) → Option ℕ → ℕ
named_behind p x None = touches p.policy.steady x p.newer p.older
named_behind p x (Some t) = 0

-- how often a look names it: where the collector crosses for a mutator, as often as the turn that goes on behind it
abbrev pub named_looking : Private → (x t : ℕ) → Looked → ℕ
named_looking p x t (Crosses new) = named_behind (crossed_for p t) x (next_present p.left t)
named_looking p x t _ = 0

-- how often a step names the slot, by phase: what a batch names, or one decrement
abbrev pub named_at : Private → (word x : ℕ) → Phase → ℕ
named_at p word x Idle = if is_spent p then 0 else named_behind p x (next_present p.left 0)
named_at p word x (Looking t) = named_looking p x t (looked p.epoch word)
named_at p word x (Returning t) = named_behind p x (next_present (noted p t).left t)
named_at p word x (Releasing release) = decrements release.lowers p.counts (target_of word) x
named_at p word x (Freeing freeing) = decrements true p.counts (target_of word) x
named_at p word x _ = 0

-- how often a step names the slot
abbrev pub named_by : Private → (word x : ℕ) → ℕ
named_by p word x = named_at p word x p.phase

-- the slot is an orange member of the set of this number
abbrev pub IsOrangeIn : State → (number x : ℕ) → Type 0
IsOrangeIn s number x = ((slot_at s x).set ≡ Some number) × ((slot_at s x).colour ≡ Orange)

-- It was one before, of the same set; so many references were lowered, each of which took one off its cyclic count too, not below
-- zero; and nothing named it.
pub record WasUntouched (before after : State) (number x named : ℕ) : Type 0 where
  pub orange : IsOrangeIn before number x
  pub lowered : ℕ
  pub count : (slot_at after x).count + lowered ≡ (slot_at before x).count
  pub cyclic : (slot_at after x).cyclic ≡ (slot_at before x).cyclic - lowered
  pub unnamed : named ≡ 0

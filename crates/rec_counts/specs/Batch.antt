-- What a batch makes of the counts: each slot that it names is changed once, by how often it names the slot.
use Rattle.std.specs.Prelude.{◌≡◌, ℕ, ◌+◌, ◌<◌, ◌≤◌, ◌^◌, Bool, true, false, List, [], length, flat_map, slice_index_or as item_at}
use Rattle.rec_counts.specs.declared.colour.Colour.{Colour}
use Rattle.rec_counts.specs.declared.colour.Colour.TheVariants.{Black, Purple, Green}
use Rattle.rec_counts.specs.Batched.{batched}
use Rattle.rec_counts.specs.Colour.{is_green}
use Rattle.rec_counts.specs.Counts.{IsKept, State, slot_at}
use Rattle.rec_counts.specs.Rest.{AllZeros, AreZeros, KeepsRest}
use Rattle.rec_log.specs.declared.contents.Contents.{Contents}
use Rattle.rec_counts.specs.Targets.{added, leaves, slots_in, taken, taken_targets, told_buffers}

-- Each true count is the old one, plus what is added, less what is taken off. A leaf that was born is Green. What is only added to is in
-- use. What something is taken off gets the colour that its count calls for, and goes where it is due, in the order in which the older
-- buffers first name it.
unfoldable pub batch : State → (newer older : List Contents) → State
batch s newer older = batched s (λ x. leaves x newer) (λ x. added x newer) (slots_in (flat_map taken_targets older))

-- these buffers name slots that are there, and no count passes the greatest or falls below zero
pub record IsCovered (s : State) (newer older : List Contents) : Type 0 where
  pub in_range : (x : ℕ) → length s.slots ≤ x → added x newer + taken x older ≡ 0
  pub born : (x : ℕ) → length s.slots ≤ x → leaves x newer ≡ 0
  pub fits : (x : ℕ) → (slot_at s x).count + added x newer < 2 ^ 64
  pub covered : (x : ℕ) → taken x older ≤ (slot_at s x).count + added x newer

-- a buffer that names nothing
abbrev pub blank : Contents
blank = record { entries = []; snapshot = []; capacity = 0; last = false; still = false }

-- there is an older buffer for each newer one, with as many registers
pub record AreAlike (newer older : List Contents) : Type 0 where
  pub both : length older ≡ length newer
  pub registers : (place : ℕ) → place < length older → length (item_at older place blank).snapshot ≡ length (item_at newer place blank).snapshot

-- how often a batch names a slot
abbrev pub names : ℕ → (newer older : List Contents) → ℕ
names x newer older = added x newer + taken x older + leaves x newer

-- what is touched has one of these colours
abbrev pub is_touched : Colour → Bool
is_touched Black = true
is_touched Purple = true
is_touched Green = true
is_touched _ = false

-- What is known of the counts after a batch. Each true count is the old one, plus what is added, less what is taken off. A slot that the
-- batch names is touched, unless it is released, and any other is as it was. Leaves become Green, and no other slot does. Of an unreleased
-- slot that isn't Green, and of which something is taken off, a count that is left makes a candidate root. The zeros are slots without a
-- count, each once, and all of them if there was none before; the buffered slots are those of the root buffer and of the sets.
pub record IsBatch (s : State) (newer older : List Contents) (t : State) : Type 0 where
  pub count : (x : ℕ) → (slot_at t x).count + taken x older ≡ (slot_at s x).count + added x newer
  pub touched : (x : ℕ) → (slot_at s x).released ≡ false → 0 < names x newer older → is_touched (slot_at t x).colour ≡ true
  pub same : (x : ℕ) → names x newer older ≡ 0 → slot_at t x ≡ slot_at s x
  pub greens : (x : ℕ) → leaves x newer ≡ 0 → is_green (slot_at t x).colour ≡ is_green (slot_at s x).colour
  pub born : (x : ℕ) → 0 < leaves x newer → is_green (slot_at t x).colour ≡ true
  pub roots : (x : ℕ) → (slot_at s x).released ≡ false → 0 < taken x older → is_green (slot_at t x).colour ≡ false → 0 < (slot_at t x).count → ((slot_at t x).colour ≡ Purple) × ((slot_at t x).buffered ≡ true)
  pub zeros : AreZeros t
  pub all_zeros : AllZeros s → AllZeros t
  pub lists : IsKept s → IsKept t
  pub rest : KeepsRest s t

-- The batch of a heap, steady or not: of what is told of its buffers.
abbrev pub applied : (steady : Bool) → State → (newer older : List Contents) → State
applied steady s newer older = batch s (told_buffers steady newer older) (told_buffers steady older newer)

-- How often the batch of a heap touches a slot: as often as it is named by what is told of the buffers.
abbrev pub touches : (steady : Bool) → ℕ → (newer older : List Contents) → ℕ
touches steady x newer older = names x (told_buffers steady newer older) (told_buffers steady older newer)

-- What is known of the counts after it. In a heap that isn't steady what is told is all that the buffers name.
abbrev pub IsApplied : (steady : Bool) → State → (newer older : List Contents) → State → Type 0
IsApplied steady s newer older t = IsBatch s (told_buffers steady newer older) (told_buffers steady older newer) t

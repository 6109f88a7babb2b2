-- What a machine may be given: the word that a step finds, and the buffer of a mailbox.
use Rattle.std.specs.Prelude.{◌≡◌, ℕ, ◌<◌, Option, None, Some, IfSome, length}
use Rattle.rec_word.specs.Looked.{looked}
use Rattle.rec_word.specs.Word.{target_of}
use Rattle.rec_word.specs.declared.looked.Looked.{Looked}
use Rattle.rec_word.specs.declared.looked.Looked.TheVariants.{Crosses}
use Rattle.rec_log.specs.declared.contents.Contents.{Contents}
use Rattle.rec_counts.specs.Counts.{slot_at}
use Rattle.rec_counts.specs.Batch.{IsCovered}
use Rattle.rec_trial.specs.Rules.{LeadsToUnreleased}
use Rattle.rec_collector.specs.Present.{HaveLeft}
use Rattle.rec_collector.specs.Private.{Private}
use Rattle.rec_collector.specs.Took.{crossed_for}
use Rattle.rec_collector.specs.declared.phase.Phase.{Phase}
use Rattle.rec_collector.specs.declared.phase.Phase.TheVariants.{Idle, Looking, Swapping, Returning, Releasing, Freeing, Trying, Preparing, Sweeping}

-- where the collector crosses for a mutator behind which all have left, the batch is covered, with the newer buffer that it writes
abbrev pub IsLookGiven : Private → (t : ℕ) → Looked → Type 0
IsLookGiven p t (Crosses new) = HaveLeft p.left t → IsCovered p.counts (crossed_for p t).newer p.older
IsLookGiven p t _ = Unit {0}

-- what the word found has to be, by phase: where all mutators have left that are still to be gathered from, the batch is covered, with
-- the last mailbox given back or, if there is none, with the request; what comes out of a field
-- is counted; what is loaded for a trial leads to no released slot, and for a preparation to a slot that is there; a mailbox that
-- is held was swapped
unfoldable pub IsGivenAt : Private → (word : ℕ) → Phase → Type 0
IsGivenAt p word Idle = HaveLeft p.left 0 → IsCovered p.counts p.newer p.older
IsGivenAt p word (Looking t) = IsLookGiven p t (looked p.epoch word)
IsGivenAt p word (Swapping t) = ⊥
IsGivenAt p word (Returning t) = HaveLeft p.left t → IsCovered p.counts p.newer p.older
IsGivenAt p word (Releasing release) = IfSome (target_of word) (λ slot. 0 < (slot_at p.counts slot).count)
IsGivenAt p word (Freeing freeing) = IfSome (target_of word) (λ slot. 0 < (slot_at p.counts slot).count)
IsGivenAt p word (Trying trial) = LeadsToUnreleased p.counts word
IsGivenAt p word (Preparing prep) = IfSome (target_of word) (λ slot. slot < length p.counts.slots)
IsGivenAt p word _ = Unit {0}

-- what the word found has to be
unfoldable pub IsGiven : Private → (word : ℕ) → Type 0
IsGiven p word = IsGivenAt p word p.phase

-- a buffer for so many registers, with this room
abbrev pub IsSized : (registers capacity : ℕ) → Contents → Type 0
IsSized registers capacity b = (length b.snapshot ≡ registers) × (b.capacity ≡ capacity)

-- a mailbox is held, and its buffer is still to be swapped
abbrev pub IsSwapping : Phase → Type 0
IsSwapping (Swapping t) = Unit {0}
IsSwapping _ = ⊥

-- the mutator whose mailbox is held then, if any
abbrev pub swapping_for : Phase → Option ℕ
swapping_for (Swapping t) = Some t
swapping_for _ = None

-- a machine is at work in this phase
abbrev pub IsWork : Phase → Type 0
IsWork (Releasing release) = Unit {0}
IsWork (Freeing freeing) = Unit {0}
IsWork (Trying trial) = Unit {0}
IsWork (Preparing prep) = Unit {0}
IsWork _ = ⊥

-- zeros are released
abbrev pub IsReleasingIn : Phase → Type 0
IsReleasingIn (Releasing release) = Unit {0}
IsReleasingIn _ = ⊥

-- a set is freed
abbrev pub IsFreeingIn : Phase → Type 0
IsFreeingIn (Freeing freeing) = Unit {0}
IsFreeingIn _ = ⊥

-- a trial is at work
abbrev pub IsTryingIn : Phase → Type 0
IsTryingIn (Trying trial) = Unit {0}
IsTryingIn _ = ⊥

-- sets are prepared
abbrev pub IsPreparingIn : Phase → Type 0
IsPreparingIn (Preparing prep) = Unit {0}
IsPreparingIn _ = ⊥

-- a sweep is at work
abbrev pub IsSweepingIn : Phase → Type 0
IsSweepingIn (Sweeping due swept) = Unit {0}
IsSweepingIn _ = ⊥

-- a machine or a sweep is at work whose turns are made in a loop of their own
abbrev pub IsLooped : Phase → Type 0
IsLooped (Freeing freeing) = Unit {0}
IsLooped (Trying trial) = Unit {0}
IsLooped (Preparing prep) = Unit {0}
IsLooped (Sweeping due swept) = Unit {0}
IsLooped _ = ⊥

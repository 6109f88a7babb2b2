-- What every machine keeps, by phase.
use Rattle.std.specs.Prelude.{◌≡◌, ◌≢◌, ℕ, zero, suc, ◌+◌, ◌-◌, ◌*◌, ◌^◌, ◌<◌, ◌≤◌, true, false, Some, IsSome, ◌⊎◌, List, [], length, slice_get}
use Rattle.rec_log.specs.declared.contents.Contents.{Contents}
use Rattle.rec_counts.specs.declared.colour.Colour.TheVariants.{Orange}
use Rattle.rec_counts.specs.Counts.{State, slot_at, IsKept as IsKeptCounts}
use Rattle.rec_counts.specs.Lists.{times}
use Rattle.rec_release.specs.Sweep.{AreUnbuffered}
use Rattle.rec_release.specs.TakenOff.{IsApart}
use Rattle.rec_sigma.specs.Prepare as preps
use Rattle.rec_word.specs.Load.{Load}
use Rattle.rec_sigma.specs.Prepared as prepared
use Rattle.rec_trial.specs.Loaded as trials
use Rattle.rec_trial.specs.Trial.{Machine as Trial, next_of as trial_next}
use Rattle.rec_collector.specs.Clearing.{IsUntried, IsClearingIn, HasExchanged}
use Rattle.rec_collector.specs.Given.{IsSized}
use Rattle.rec_collector.specs.Outside.{AreOutside}
use Rattle.rec_collector.specs.Parts.{Parts}
use Rattle.rec_collector.specs.Present.{has_left}
use Rattle.rec_collector.specs.Private.{Private, parts_of, spare, buffer_at}
use Rattle.rec_collector.specs.Testing.{told}
use Rattle.rec_collector.specs.Zeros.{AreCounted}
use Rattle.rec_collector.specs.declared.phase.Phase.{Phase}
use Rattle.rec_collector.specs.declared.policy.Policy.{Policy}
use Rattle.rec_collector.specs.declared.phase.Phase.TheVariants.{Idle, Looking, Swapping, Returning, Releasing, Freeing, Trying, Preparing, Opening, Sweeping, Closing}

-- how many fields there are in all
abbrev pub all_fields : Private → ℕ
all_fields p = length p.counts.slots * p.fields

-- the most turns that a collection takes
abbrev pub limit_of : Private → ℕ
limit_of p = 6 * all_fields p + 2 * length p.counts.slots + 3 * length p.newer + 16

-- each of these buffers has so many registers, and this room
abbrev pub AreSized : (registers capacity : ℕ) → List Contents → Type 0
AreSized registers capacity buffers = (place : ℕ) → place < length buffers → IsSized registers capacity (buffer_at buffers place)

-- the newer buffers from this place on are spares still
abbrev pub AreSpare : Private → (place : ℕ) → Type 0
AreSpare p from = (place : ℕ) → from ≤ place → place < length p.newer → buffer_at p.newer place ≡ spare p

-- no slot is released
abbrev pub NoneReleased : State → Type 0
NoneReleased s = (x : ℕ) → x < length s.slots → (slot_at s x).released ≡ false

-- Every released slot is in the free list or waits in the root buffer, and the free list has released slots alone, none of them
-- buffered.
pub record IsListed (s : State) : Type 0 where
  pub listed : (x : ℕ) → x < length s.slots → (slot_at s x).released ≡ true → 0 < times x s.free + times x s.roots
  pub only : (x : ℕ) → 0 < times x s.free → (slot_at s x).released ≡ true
  pub unbuffered : AreUnbuffered s

-- After a trial that was postponed fewer candidate roots wait than these, and after one that was made none does.
abbrev pub least_after : (postponed : ℕ) → Policy → ℕ
least_after zero policy = 0
least_after (suc n) policy = policy.least_roots

-- Fewer candidate roots wait than these, or none.
abbrev pub AreFew : (least : ℕ) → (roots : List ℕ) → Type 0
AreFew least roots = (length roots < least) ⊎ (roots ≡ [])

-- Nothing is left to release, nor to try but for fewer candidate roots than these, and each slot has a count. Every released slot is in
-- the free list, and no slot of it is buffered.
pub record AreTried (least : ℕ) (s : State) : Type 0 where
  pub untried : IsUntried s
  pub apart : IsApart s
  pub counted : AreCounted s
  pub zeros : s.zeros ≡ []
  pub roots : AreFew least s.roots
  pub work : s.work ≡ []
  pub listed : (x : ℕ) → x < length s.slots → (slot_at s x).released ≡ true → 0 < times x s.free
  pub unbuffered : AreUnbuffered s

-- nor is anything left to prepare, of slots with so many fields
pub record ArePrepared (least fields : ℕ) (s : State) : Type 0 where
  pub tried : AreTried least s
  pub open tried use *
  pub outside : AreOutside fields s

-- nor to sweep
pub record AreResting (least fields : ℕ) (s : State) : Type 0 where
  pub prepared : ArePrepared least fields s
  pub open prepared use *
  pub free : s.free ≡ []

abbrev pub IsAtRest : Parts → Type 0
IsAtRest w = AreResting (least_after w.postponed w.policy) w.fields w.counts

-- the mutators up to this number were looked at or have left; the mutator at work is there, and so many turns were made at most
pub record IsGathering (p : Private) (t given_back made : ℕ) : Type 0 where
  pub rest : IsAtRest (parts_of p)
  pub first : 0 < t
  pub there : t ≤ length p.newer
  pub spares : AreSpare p given_back
  pub turns : p.turns ≤ made

-- the mailbox of a mutator is looked at or held that hasn't left
pub record IsLooking (p : Private) (t made : ℕ) : Type 0 where
  pub gathering : IsGathering p t (t - 1) made
  pub open gathering use *
  pub present : has_left p.left t ≡ false

-- Slots are released, or a set is freed. Each turn since the batch exchanged another field.
pub record IsTesting (p : Private) (phase : Phase) : Type 0 where
  pub clearing : IsClearingIn (parts_of p) (Some phase)
  pub exchanged : ℕ
  pub exchanges : HasExchanged (parts_of p) (Some phase) exchanged
  pub turns : p.turns ≤ 1 + 2 * length p.newer + exchanged

-- A trial is at work or over, and nothing is left to release. No slot was Orange as it began.
pub record AreOnTrial (s : State) (trial : Trial) : Type 0 where
  pub kept : trials.IsAtWork trial s
  pub uncoloured : (x : ℕ) → (slot_at kept.before x).colour ≢ Orange
  pub counted : AreCounted s
  pub zeros : s.zeros ≡ []
  pub places : IsListed s
  pub open places use *

-- a trial is at work: each turn since it began took in a word
pub record IsTrying (p : Private) (trial : Trial) : Type 0 where
  pub fields : trial.fields ≡ p.fields
  pub on_trial : AreOnTrial p.counts trial
  pub open on_trial use *
  pub busy : IsSome (trial_next trial)
  pub turns : p.turns ≤ 1 + 2 * length p.newer + all_fields p + length kept.words

-- the sets that a trial found are prepared, or were
pub record AreInPreparation (least : ℕ) (s : State) (prep : preps.Machine) : Type 0 where
  pub tried : AreTried least s
  pub kept : preps.IsAtWork prep s
  pub before : State
  pub before_kept : IsKeptCounts before
  pub loads : List Load
  pub prepares : prepared.PreparedTo prep.fields before prep.at s loads

-- they are: each turn since this began took in a word
pub record IsPreparing (p : Private) (prep : preps.Machine) : Type 0 where
  pub fields : prep.fields ≡ p.fields
  pub preparation : AreInPreparation (least_after p.postponed p.policy) p.counts prep
  pub open preparation use *
  pub busy : IsSome prep.at
  pub turns : p.turns ≤ 2 + 2 * length p.newer + 4 * all_fields p + length loads

-- A sweep is at work, or about to begin or to end: so many were swept, and the others are left.
pub record IsSweeping (p : Private) (swept made : ℕ) : Type 0 where
  pub before : ArePrepared (least_after p.postponed p.policy) p.fields p.counts
  pub open before use *
  pub left : swept + length p.counts.free ≤ length p.counts.slots
  pub turns : p.turns ≤ 2 + 2 * length p.newer + 5 * all_fields p + made

-- what holds in each phase
abbrev pub IsAt : Private → Phase → Type 0
IsAt p Idle = IsAtRest (parts_of p) × AreSpare p 0 × (p.turns ≡ 0)
IsAt p (Looking t) = IsLooking p t (2 * t - 1)
IsAt p (Swapping t) = IsLooking p t (2 * t)
IsAt p (Returning t) = IsGathering p t t (2 * t)
IsAt p (Releasing release) = IsTesting p (Releasing release)
IsAt p (Freeing freeing) = IsTesting p (Freeing freeing)
IsAt p (Trying trial) = IsTrying p trial
IsAt p (Preparing prep) = IsPreparing p prep
IsAt p Opening = IsSweeping p 0 0 × (0 < length p.counts.free)
IsAt p (Sweeping due swept) = IsSweeping p swept (swept + 1) × (0 < length p.counts.free) × (due ≡ slice_get p.counts.free 0)
IsAt p (Closing swept) = IsSweeping p swept (swept + 1) × (p.counts.free ≡ [])

-- how many slots the collection under way has swept
abbrev pub swept_at : Phase → ℕ
swept_at (Sweeping due swept) = swept
swept_at (Closing swept) = swept
swept_at _ = 0

-- whether the collection under way has made its trial
abbrev tried_in : Phase → ℕ
tried_in (Preparing prep) = 1
tried_in Opening = 1
tried_in (Sweeping due swept) = 1
tried_in (Closing swept) = 1
tried_in _ = 0

-- The sets that were tested, and those that wait, were found by the trials of the collections so far, not more in each than there
-- can be slots.
abbrev pub IsTold : Private → Phase → Type 0
IsTold p (Trying trial) = told p.sets ≤ 2 ^ 16 * p.collections
IsTold p phase = told p.sets + length p.counts.sets ≤ 2 ^ 16 * (p.collections + tried_in phase)

-- whether a collection is under way
abbrev pub under_way : Phase → ℕ
under_way Idle = 0
under_way _ = 1

-- each mutator has two buffers, and there are some mutators, and few
pub record AreRows (registers capacity : ℕ) (news olds : List Contents) : Type 0 where
  pub mutators : 0 < length news
  pub few : length news < 2 ^ 8
  pub both : length olds ≡ length news
  pub newer : AreSized registers capacity news
  pub older : AreSized registers capacity olds

-- what every machine keeps
pub record IsMachine (p : Private) : Type 0 where
  pub epoch : p.epoch < 2 ^ 24
  pub collections : p.collections + under_way p.phase ≤ p.epoch
  pub freed : p.freed ≤ 2 ^ 16 * p.collections + swept_at p.phase
  pub some_fields : 0 < p.fields
  pub few_fields : p.fields < 2 ^ 8
  pub rows : AreRows p.registers p.capacity p.newer p.older
  pub open rows use *
  pub left : length p.left ≡ length p.newer
  pub counts : IsKeptCounts p.counts
  pub told : IsTold p p.phase
  pub postponed : p.postponed ≤ p.policy.most_postponed
  pub now : IsAt p p.phase

-- what no step changes: the numbers of slots, fields, registers and mutators, what a buffer can hold, and how the heap is collected
pub record KeepsSizes (p q : Private) : Type 0 where
  pub slots : length q.counts.slots ≡ length p.counts.slots
  pub fields : q.fields ≡ p.fields
  pub registers : q.registers ≡ p.registers
  pub capacity : q.capacity ≡ p.capacity
  pub policy : q.policy ≡ p.policy
  pub mutators : length q.newer ≡ length p.newer

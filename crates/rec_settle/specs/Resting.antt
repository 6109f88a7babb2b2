-- What is known of the collector in a heap at rest, from when every slot is to be offered to a trial until that trial's sets are freed.
-- `words` are the words of the fields, and `w` the heap, whose headers and registers stay meanwhile.
use Rattle.std.specs.Prelude.{◌≡◌, ℕ, ◌+◌, ◌<◌, ◌==◌, true, false, None, Some, List, [], sum_by, slice_index_or, ◌/◌, length}
use Rattle.rec_model.specs.Sight.{Sight}
use Rattle.rec_counts.specs.Counts.{State, slot_at, IsKept}
use Rattle.rec_counts.specs.Lists.{one}
use Rattle.rec_counts.specs.Targets.{named}
use Rattle.rec_word.specs.Walk.{places_left}
use Rattle.rec_word.specs.Load.{Load}
use Rattle.rec_release.specs.CycleFree as frees
use Rattle.rec_sigma.specs.Prepare as preps
use Rattle.rec_sigma.specs.Prepared.{PreparedTo}
use Rattle.rec_trial.specs.Loaded.{Run}
use Rattle.rec_trial.specs.Promised.{IsTrial}
use Rattle.rec_trial.specs.Still.{AreStill, visible_words}
use Rattle.rec_trial.specs.Trial.{Work}
use Rattle.rec_collector.specs.Private.{Private}
use Rattle.rec_collector.specs.declared.phase.Phase.{Phase}
use Rattle.rec_collector.specs.declared.phase.Phase.TheVariants.{Idle, Looking, Swapping, Returning, Releasing, Freeing, Trying, Preparing, Opening, Sweeping, Closing}
use Rattle.rec_core.specs.Core.{Core, sight}
use Rattle.rec_settle.specs.Settling.{word_in, heap_sum, IsReachable, IsOffered, AreEmptied, AreLoadsOf, LeadBack, AreUnheld}
use Rattle.rec_word.specs.Word.{target_of}
use Rattle.rec_counts.specs.Colour.{is_green}

-- how many registers name the slot, and one if it is there and free
abbrev pub holds : Sight → (slot : ℕ) → ℕ
holds w slot = sum_by (named slot) w.registers + one (slice_index_or w.headers slot 1 == 0)

-- on a path of fields from a register, or from a free slot
abbrev pub IsHeldIn : Core → (words : List ℕ) → (slot : ℕ) → Type 0
IsHeldIn w words = IsReachable w.config.fields (word_in w.config.fields words) (holds (sight w))

-- Where the batch of an epoch without writes was applied, each count is the number of fields and registers that name the slot; that of
-- a free slot is one.
abbrev pub AreCounted : Core → (words : List ℕ) → State → Type 0
AreCounted w words s = (x : ℕ) → x < w.config.slots → (slot_at s x).count ≡ heap_sum words x + holds (sight w) x

-- what is neither released nor Green is within reach, but for the members of sets
abbrev pub AreFound : Core → (words : List ℕ) → State → Type 0
AreFound w words s = (x : ℕ) → (slot_at s x).released ≡ false → is_green (slot_at s x).colour ≡ false → (slot_at s x).set ≡ None → (IsHeldIn w words x → ⊥) → ⊥

-- no field of a Green slot leads anywhere
abbrev pub AreLeaves : (fields : ℕ) → (words : List ℕ) → State → Type 0
AreLeaves fields words s = (place : ℕ) → place < length words → is_green (slot_at s (place / fields)).colour ≡ true → target_of (slice_index_or words place 0) ≡ None

-- what isn't released is within reach
abbrev pub AreWithinReach : Core → (words : List ℕ) → State → Type 0
AreWithinReach w words s = (x : ℕ) → (slot_at s x).released ≡ false → (IsHeldIn w words x → ⊥) → ⊥

-- no register names a member, and no member is free
abbrev pub AreUnnamed : Core → State → Type 0
AreUnnamed w s = (x i : ℕ) → (slot_at s x).set ≡ Some i → holds (sight w) x ≡ 0

-- A trial to which every slot was offered is at work, and each word that it saw stands.
pub record TrialRests (w : Core) (words : List ℕ) (v : Work) : Type 0 where
  pub before : State
  pub loaded : List ℕ
  pub run : Run
  pub trial : IsTrial w.config.fields before loaded run
  pub at : ◌≡◌ {A = Work} run.work v
  pub marks : AreStill (visible_words before (word_in w.config.fields words)) run.marking
  pub blacks : AreStill (visible_words before (word_in w.config.fields words)) run.blackening
  pub finds : AreStill (visible_words before (word_in w.config.fields words)) run.collecting
  pub offered : IsOffered w.config.fields (word_in w.config.fields words) (holds (sight w)) before
  pub emptied : AreEmptied w.config.fields words [] before
  pub leaves : AreLeaves w.config.fields words before

-- The sets that it found are prepared: its members are just what is not within reach.
pub record PrepRests (w : Core) (words : List ℕ) (v : preps.Work) : Type 0 where
  pub before : State
  pub before_kept : IsKept before
  pub loads : List Load
  pub prepares : PreparedTo w.config.fields before v.machine.at v.counts loads
  pub are_loads : AreLoadsOf w.config.fields words loads
  pub counted : (x i : ℕ) → (slot_at before x).set ≡ Some i → (slot_at before x).count ≡ heap_sum words x
  pub back : LeadBack w.config.fields words [] before
  pub found : AreFound w words before
  pub unnamed : AreUnnamed w before

-- They are prepared, and nothing but fields of released slots and sets that are behind holds any of them. These places are fields of
-- released slots that are still to be exchanged.
pub record SetsRest (w : Core) (words left : List ℕ) (s : State) : Type 0 where
  pub unheld : AreUnheld w.config.fields words left s
  pub found : AreFound w words s
  pub unnamed : AreUnnamed w s

-- The last set passed its tests, and its fields are exchanged.
abbrev pub FreesRest : Core → (words : List ℕ) → frees.Work → Type 0
FreesRest w words v = SetsRest w words (places_left v.machine.fields v.counts.work v.machine.at) v.counts

-- Every slot is to be offered to a trial; the collection that makes it is the first, the one that frees its sets the second; then
-- nothing is left to do.
pub data Round : Type 0 where
  First : Round
  Second : Round
  Over : Round

-- the round after it
abbrev pub next_round : Round → Round
next_round Round.First = Round.Second
next_round Round.Second = Round.Over
next_round Round.Over = Round.Over

abbrev RestsFirst : Core → (words : List ℕ) → Private → Phase → Type 0
RestsFirst w words c (Trying trial) = TrialRests w words (record { machine = trial; counts = c.counts })
RestsFirst w words c (Preparing prep) = PrepRests w words (record { machine = prep; counts = c.counts })
RestsFirst w words c Opening = SetsRest w words [] c.counts
RestsFirst w words c (Sweeping due n) = SetsRest w words [] c.counts
RestsFirst w words c (Closing n) = SetsRest w words [] c.counts
RestsFirst w words c _ = c.offers ≡ true

abbrev RestsSecond : Core → (words : List ℕ) → Private → Phase → Type 0
RestsSecond w words c Idle = SetsRest w words [] c.counts
RestsSecond w words c (Looking t) = SetsRest w words [] c.counts
RestsSecond w words c (Swapping t) = SetsRest w words [] c.counts
RestsSecond w words c (Returning t) = SetsRest w words [] c.counts
RestsSecond w words c (Releasing release) = ⊥
RestsSecond w words c (Freeing freeing) = FreesRest w words (record { machine = freeing; counts = c.counts })
RestsSecond w words c _ = AreWithinReach w words c.counts

-- what is known in each phase of each round
abbrev pub RestsIn : Round → Core → (words : List ℕ) → Private → Phase → Type 0
RestsIn Round.First w words c phase = RestsFirst w words c phase
RestsIn Round.Second w words c phase = RestsSecond w words c phase
RestsIn Round.Over w words c phase = AreWithinReach w words c.counts

-- Where a turn of such a round has come to, with this private record of the collector: the collection goes on, or it is complete, and
-- the next round begins.
pub data ComesTo (r : Round) (w : Core) (words : List ℕ) (q : Private) : Type 0 where
  goes_on : q.collections ≡ w.collector.collections → RestsIn r w words q q.phase → ComesTo r w words q
  completes : q.collections ≡ w.collector.collections + 1 → q.phase ≡ Idle → RestsIn (next_round r) w words q Idle → ComesTo r w words q

-- What a turn of such a round made of the heap.
pub data TurnsTo (r : Round) (w v : Core) : Type 0 where
  goes_on : v.collector.collections ≡ w.collector.collections → RestsIn r v v.words v.collector v.collector.phase → TurnsTo r w v
  completes : v.collector.collections ≡ w.collector.collections + 1 → v.collector.phase ≡ Idle → RestsIn (next_round r) v v.words v.collector Idle → TurnsTo r w v

-- how many epochs of which nothing was written or born were requested before, by round
abbrev pub epochs_before : Round → ℕ
epochs_before Round.First = 1
epochs_before Round.Second = 2
epochs_before Round.Over = 3

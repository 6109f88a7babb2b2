-- What a step of the collector may be: the rules of its phases.
use Rattle.std.specs.Prelude.{◌≡◌, ◌≢◌, ℕ, ◌+◌, ◌-◌, ◌*◌, ◌^◌, ◌<◌, ◌≤◌, false, true, Option, None, Some, [], length, replicate, map, slice_set}
use Rattle.rec_word.specs.Looked.{looked}
use Rattle.rec_word.specs.declared.looked.Looked.TheVariants.{Takes, Crosses, Waits}
use Rattle.rec_word.specs.declared.op.Op.{Op}
use Rattle.rec_word.specs.declared.op.Op.TheVariants.{StoreEpoch, LookBox, ReturnBox, LoadChild, ClearField, FreeHeader, AddFreed}
use Rattle.rec_log.specs.declared.contents.Contents.{Contents}
use Rattle.rec_counts.specs.Batch.{applied}
use Rattle.rec_counts.specs.Counts.{State}
use Rattle.rec_release.specs.CycleFree as frees
use Rattle.rec_release.specs.CycleFree.{next_of as freeing_next}
use Rattle.rec_release.specs.Release.{next_of as release_next}
use Rattle.rec_release.specs.Sweep as sweeps
use Rattle.rec_sigma.specs.Judged.{AreOrange, cyclic_sum}
use Rattle.rec_sigma.specs.Prepare.{next_of as prep_next}
use Rattle.rec_sigma.specs.Refurbish.{LastRefurbished}
use Rattle.rec_sigma.specs.Prepare as preps
use Rattle.rec_release.specs.Release as releases
use Rattle.rec_trial.specs.Trial as trials
use Rattle.rec_trial.specs.Trial.{next_of as trial_next}
use Rattle.rec_collector.specs.Followed.{makes_trial, prep_started, put_off, with_freed, with_offers, with_released}
use Rattle.rec_collector.specs.Parts.{Parts, new_freeing}
use Rattle.rec_collector.specs.Present.{HaveLeft, IsNextPresent}
use Rattle.rec_collector.specs.Private.{Private, parts_of, with_parts}
use Rattle.rec_collector.specs.Testing.{Begun, counted_by, with_freeing, zeros_released}
use Rattle.rec_collector.specs.Took.{cleared, crossed_for, noted, requested}
use Rattle.rec_collector.specs.declared.verdict.Verdict.TheVariants.{Passed, Touched, Held}
use Rattle.rec_collector.specs.declared.phase.Phase.{Phase}
use Rattle.rec_collector.specs.declared.phase.Phase.TheVariants.{Idle, Looking, Swapping, Returning, Releasing, Freeing, Trying, Preparing, Opening, Sweeping, Closing}
use Rattle.rec_collector.specs.declared.turn.Turn.{Turn}
use Rattle.rec_collector.specs.declared.turn.Turn.TheVariants.{Moved, Waiting, Collected, EpochsSpent}
use Rattle.rec_trial.specs.Rules.{visible}

-- The collection goes on from `r`, what the step made of its record beside: one turn more is counted, and this phase follows.
pub record GoesOn (r q : Private) (turn : Turn) (next_phase : Phase) : Type 0 where
  pub after : q ≡ record r { phase = next_phase; turns = r.turns + 1 }
  pub answer : turn ≡ Moved

-- The collection is complete, with so many slots swept. The older buffers are cleared, and the newer ones are the older ones
-- of the next collection.
pub record Ends (r q : Private) (turn : Turn) (swept : ℕ) : Type 0 where
  pub after : q ≡ record r { phase = Idle; turns = 0; collections = r.collections + 1; newer = map cleared r.older; older = r.newer }
  pub answer : turn ≡ Collected (r.epoch - 1) swept

-- A preparation came so far. While a field is due it goes on. Then a sweep begins, unless the free list is empty: then the
-- collection is complete.
pub data PreparesOn (p : Private) (w : Parts) (v : preps.Work) (q : Private) (turn : Turn) : Type 0 where
  more : v.machine.at ≢ None → GoesOn (record (with_parts p w) { counts = v.counts }) q turn (Preparing v.machine) → PreparesOn p w v q turn
  sweeps_next : v.machine.at ≡ None → v.counts.free ≢ [] → GoesOn (record (with_parts p w) { counts = v.counts }) q turn Opening → PreparesOn p w v q turn
  completes : v.machine.at ≡ None → v.counts.free ≡ [] → Ends (record (with_parts p w) { counts = v.counts }) q turn 0 → PreparesOn p w v q turn

-- A trial came so far. While a field is to be loaded it goes on. Then the sets that it found are prepared.
pub data TriesOn (p : Private) (w : Parts) (v : trials.Work) (q : Private) (turn : Turn) : Type 0 where
  more : trial_next v.machine ≢ None → GoesOn (record (with_parts p w) { counts = v.counts }) q turn (Trying v.machine) → TriesOn p w v q turn
  prepares : trial_next v.machine ≡ None → PreparesOn p (record w { counts = v.counts }) (prep_started (record w { counts = v.counts })) q turn → TriesOn p w v q turn

-- The last set was tested, which began `v`. It passes where each member is Orange and the members' outside counts sum to zero: then it
-- is freed. Else it is counted under the first test that it fails, and refurbished, and its zeros are released.
pub data IsTested (w : Parts) (v : Begun) : Type 0 where
  passes : AreOrange w.counts (length w.counts.sets - 1) → cyclic_sum w.counts (length w.counts.sets - 1) ≡ 0
      → v ≡ with_freeing (record w { sets = counted_by Passed w.sets }) (frees.started_of (new_freeing w.fields) w.counts) → IsTested w v
  fails_delta : (s : State) → (AreOrange w.counts (length w.counts.sets - 1) → ⊥) → LastRefurbished w.counts s
      → v ≡ zeros_released true (record w { counts = s; sets = counted_by Touched w.sets }) → IsTested w v
  fails_sigma : (s : State) → AreOrange w.counts (length w.counts.sets - 1) → 0 < cyclic_sum w.counts (length w.counts.sets - 1) → LastRefurbished w.counts s
      → v ≡ zeros_released true (record w { counts = s; sets = counted_by Held w.sets }) → IsTested w v

-- A release, or the freeing of a set, came so far. While a field is due it goes on. Then the last set is tested, and once no set is
-- left a trial begins, or is postponed.
pub data ClearsOn (p q : Private) (turn : Turn) : Begun → Type 0 where
  works : {b : Begun} (phase : Phase) → b.phase ≡ Some phase → GoesOn (with_parts p b.parts) q turn phase → ClearsOn p q turn b
  tests : {b : Begun} (c : Begun) → b.phase ≡ None → 0 < length b.parts.counts.sets → IsTested b.parts c → ClearsOn p q turn c → ClearsOn p q turn b
  tries : {b : Begun} → b.phase ≡ None → b.parts.counts.sets ≡ [] → makes_trial b.parts ≡ true → TriesOn p (with_offers b.parts) (trials.started_of b.parts.fields (with_offers b.parts).counts) q turn → ClearsOn p q turn b
  waits : {b : Begun} → b.phase ≡ None → b.parts.counts.sets ≡ [] → makes_trial b.parts ≡ false → PreparesOn p (put_off b.parts) (prep_started (put_off b.parts)) q turn → ClearsOn p q turn b

-- The batch is applied, and its zeros are released.
abbrev pub Applies : (p q : Private) → Turn → Type 0
Applies p q turn = ClearsOn p q turn (zeros_released false (record (parts_of p) { counts = applied p.policy.steady p.counts p.newer p.older }))

-- after one slot more was swept, the next one follows, or the end of the sweep
pub data IsNext (swept : ℕ) (w : sweeps.Work) (next_phase : Phase) : Type 0 where
  more : w.due ≢ None → next_phase ≡ Sweeping w.due (swept + 1) → IsNext swept w next_phase
  last : w.due ≡ None → next_phase ≡ Closing (swept + 1) → IsNext swept w next_phase

-- What a step may be. `word` is the word that the operation `op` finds, `box` what is in the mailbox, where the step takes
-- one; `q` is what the step leaves of `p`, and `turn` what it answers. Without an operation there is no step.
pub data Step (p : Private) (word : ℕ) (box : Contents) (op : Option Op) (q : Private) (turn : Turn) : Type 0 where
  spent : p.phase ≡ Idle → p.epoch + 1 ≡ 2 ^ 24 → op ≡ None → q ≡ p → turn ≡ EpochsSpent → Step p word box op q turn
  request : (next : ℕ) → p.phase ≡ Idle → p.epoch + 1 ≢ 2 ^ 24 → op ≡ Some (StoreEpoch (p.epoch + 1)) → IsNextPresent p.left 0 next
      → GoesOn (requested p) q turn (Looking next) → Step p word box op q turn
  request_alone : p.phase ≡ Idle → p.epoch + 1 ≢ 2 ^ 24 → op ≡ Some (StoreEpoch (p.epoch + 1)) → HaveLeft p.left 0
      → Applies (requested p) q turn → Step p word box op q turn
  wait : (t : ℕ) → p.phase ≡ Looking t → looked p.epoch word ≡ Waits → op ≡ Some (LookBox t p.epoch)
      → q ≡ p → turn ≡ Waiting t → Step p word box op q turn
  gather : (t : ℕ) {new : ℕ} → p.phase ≡ Looking t → looked p.epoch word ≡ Takes new → op ≡ Some (LookBox t p.epoch)
      → GoesOn (record p { newer = slice_set p.newer (t - 1) box }) q turn (Returning t) → Step p word box op q turn
  cross_for : (t next : ℕ) {new : ℕ} → p.phase ≡ Looking t → looked p.epoch word ≡ Crosses new → op ≡ Some (LookBox t p.epoch) → IsNextPresent p.left t next
      → GoesOn (crossed_for p t) q turn (Looking next) → Step p word box op q turn
  cross_for_last : (t : ℕ) {new : ℕ} → p.phase ≡ Looking t → looked p.epoch word ≡ Crosses new → op ≡ Some (LookBox t p.epoch) → HaveLeft p.left t
      → Applies (crossed_for p t) q turn → Step p word box op q turn
  give_back : (t next : ℕ) → p.phase ≡ Returning t → op ≡ Some (ReturnBox t p.epoch) → IsNextPresent (noted p t).left t next
      → GoesOn (noted p t) q turn (Looking next) → Step p word box op q turn
  apply : (t : ℕ) → p.phase ≡ Returning t → op ≡ Some (ReturnBox t p.epoch) → HaveLeft (noted p t).left t
      → Applies (noted p t) q turn → Step p word box op q turn
  release : (m : releases.Machine) → p.phase ≡ Releasing m → op ≡ release_next m → ClearsOn p q turn (with_released m (parts_of p) word) → Step p word box op q turn
  freeing : (m : frees.Machine) → p.phase ≡ Freeing m → op ≡ freeing_next m → ClearsOn p q turn (with_freed m (parts_of p) word) → Step p word box op q turn
  trial : (m : trials.Machine) → p.phase ≡ Trying m → op ≡ trial_next m → TriesOn p (parts_of p) (trials.took_of (record { machine = m; counts = p.counts }) (visible p.counts word)) q turn → Step p word box op q turn
  preparation : (m : preps.Machine) → p.phase ≡ Preparing m → op ≡ prep_next m → PreparesOn p (parts_of p) (preps.took_of (record { machine = m; counts = p.counts }) word) q turn → Step p word box op q turn
  begin_sweep : p.phase ≡ Opening → op ≡ Some AddFreed
      → GoesOn (record p { counts = (sweeps.started_of p.counts).counts }) q turn (Sweeping (sweeps.started_of p.counts).due 0) → Step p word box op q turn
  sweep : (due : Option ℕ) (swept : ℕ) (w : sweeps.Work) (next_phase : Phase) → p.phase ≡ Sweeping due swept → op ≡ sweeps.next_of due
      → w ≡ sweeps.took_of (record { due = due; counts = p.counts }) word
      → IsNext swept w next_phase
      → GoesOn (record p { counts = w.counts; freed = p.freed + 1 }) q turn next_phase → Step p word box op q turn
  end_sweep : (swept : ℕ) → p.phase ≡ Closing swept → op ≡ Some AddFreed → Ends p q turn swept → Step p word box op q turn

-- What a step leaves in the mailbox that it looks at, which held `box`: where it takes the buffer there, a buffer without entries, with
-- a null snapshot; else what was there.
pub data LeavesBox (p : Private) (word : ℕ) (box left : Contents) : Type 0 where
  empties : (t : ℕ) {new : ℕ} → p.phase ≡ Looking t → looked p.epoch word ≡ Takes new
      → left ≡ record { entries = []; snapshot = replicate p.registers None; capacity = p.capacity; last = false; still = false } → LeavesBox p word box left
  keeps : ((t new : ℕ) → p.phase ≡ Looking t → looked p.epoch word ≢ Takes new) → left ≡ box → LeavesBox p word box left

-- A whole step: what it leaves of the private record and answers, and what it leaves in the mailbox.
pub record WholeStep (p : Private) (word : ℕ) (box : Contents) (op : Option Op) (q : Private) (turn : Turn) (left : Contents) : Type 0 where
  pub own : Step p word box op q turn
  pub mailbox : LeavesBox p word box left

-- a phase between two steps: no mailbox waits to be swapped
abbrev pub IsBetween : Phase → Type 0
IsBetween (Swapping t) = ⊥
IsBetween _ = Unit {0}

-- the operation names a word of a heap with so many slots, fields and mutators, and no epoch but one that a word can hold
abbrev pub NamesWord : (slots fields mutators : ℕ) → Op → Type 0
NamesWord slots fields mutators (StoreEpoch e) = e < 2 ^ 24
NamesWord slots fields mutators (LookBox t e) = (0 < t) × (t ≤ mutators) × (e < 2 ^ 24)
NamesWord slots fields mutators (ReturnBox t e) = (0 < t) × (t ≤ mutators) × (e < 2 ^ 24)
NamesWord slots fields mutators (LoadChild place) = place < slots * fields
NamesWord slots fields mutators (ClearField place) = place < slots * fields
NamesWord slots fields mutators (FreeHeader slot) = slot < slots
NamesWord slots fields mutators AddFreed = Unit {0}
NamesWord slots fields mutators _ = ⊥

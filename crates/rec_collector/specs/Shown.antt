-- What a watch is shown of a step of the collector: functions of its operation, of the word that this found, and of the private record
-- behind the step. And what the step did, read off the rule by which it was made.
use Rattle.std.specs.Prelude.{◌≡◌, ℕ, ◌+◌, ◌-◌, ◌==◌, if◌then◌else◌, Option, None, Some, List, [], ◌∷◌}
use Rattle.rec_word.specs.declared.op.Op.{Op}
use Rattle.rec_word.specs.declared.op.Op.TheVariants.{StoreEpoch, LookBox, ReturnBox}
use Rattle.rec_log.specs.declared.contents.Contents.{Contents}
use Rattle.rec_counts.specs.Groups.{last_set}
use Rattle.rec_word.specs.declared.member.Member.{Member}
use Rattle.rec_collector.specs.Given.{IsGiven}
use Rattle.rec_collector.specs.Kept.{IsMachine}
use Rattle.rec_collector.specs.Parts.{Parts}
use Rattle.rec_collector.specs.Private.{Private}
use Rattle.rec_collector.specs.Step.{ClearsOn, IsTested, Step}
use Rattle.rec_collector.specs.Testing.{Begun}
use Rattle.rec_collector.specs.Took.{crossed_for}
use Rattle.rec_collector.specs.declared.phase.Phase.{Phase}
use Rattle.rec_collector.specs.declared.phase.Phase.TheVariants.{Idle, Looking, Returning, Freeing}
use Rattle.rec_collector.specs.declared.turn.Turn.{Turn}
use Rattle.rec_collector.specs.declared.turn.Turn.TheVariants.{Collected}

-- a batch that was applied: the epoch in which the entries of its newer buffers were made, and these buffers, one for each mutator
pub record Batch : Type 0 where
  pub epoch : ℕ
  pub newer : List Contents

-- the step's operation and the word that it found; the batch that it applied; the members of the set that passed both tests in it; and
-- the epoch whose collection it completed
pub record Shown : Type 0 where
  pub op : Op
  pub word : ℕ
  pub batch : Option Batch
  pub passed : Option (List ℕ)
  pub completed : Option ℕ

-- the newer buffers of the batch that the last step applied: where it completed the collection too, they are the older ones by now
abbrev pub applied_newer_in : Private → Phase → List Contents
applied_newer_in p Idle = p.older
applied_newer_in p _ = p.newer

abbrev pub applied_newer : Private → List Contents
applied_newer p = applied_newer_in p p.phase

-- Behind a request, a look, or a mailbox that was given back, the batch is applied unless another mailbox is looked at or this one is still
-- to be given back. Its entries are those of the epoch before the requested one.
abbrev pub applied_in : Private → Phase → Option ℕ
applied_in p (Looking t) = None
applied_in p (Returning t) = None
applied_in p phase = Some (p.epoch - 1)

-- the epoch of the batch that the step of this operation applied, if it applied one
abbrev pub applied_of : Op → Private → Option ℕ
applied_of (StoreEpoch e) p = applied_in p p.phase
applied_of (LookBox t e) p = applied_in p p.phase
applied_of (ReturnBox t e) p = applied_in p p.phase
applied_of op p = None

abbrev pub batch_with : List Contents → Option ℕ → Option Batch
batch_with newer None = None
batch_with newer (Some epoch) = Some (record { epoch = epoch; newer = newer })

-- the batch that it applied
abbrev pub batch_of : Op → Private → Option Batch
batch_of op p = batch_with (applied_newer p) (applied_of op p)

-- at the first field of the first member the freeing of these members has just begun, since each of its steps goes on to another field
abbrev pub begun_at : List ℕ → Option Member → Option (List ℕ)
begun_at members None = None
begun_at members (Some a) = if a.index + a.field == 0 then Some members else None

abbrev pub passed_in : Private → Phase → Option (List ℕ)
passed_in p (Freeing m) = begun_at p.counts.work m.at
passed_in p _ = None

-- the members of the set that passed both tests in the last step, if one did
abbrev pub passed_of : Private → Option (List ℕ)
passed_of p = passed_in p p.phase

-- between two collections the last step completed one, but before the first
abbrev pub completed_in : Private → Phase → Option ℕ
completed_in p Idle = if p.collections == 0 then None else Some (p.epoch - 1)
completed_in p _ = None

-- the epoch whose collection the last step completed, if it completed one
abbrev pub completed_of : Private → Option ℕ
completed_of p = completed_in p p.phase

-- what is shown of a step with this operation, which found this word and left this record
abbrev pub shown_of : Op → (word : ℕ) → Private → Shown
shown_of op word p = record { op = op; word = word; batch = batch_of op p; passed = passed_of p; completed = completed_of p }

-- ---- what the step did

-- the batch that a step applied, by its rule: the one whose zeros it released
abbrev pub batch_made : {p q : Private} {word : ℕ} {box : Contents} {op : Option Op} {turn : Turn} → Step p word box op q turn → Option Batch
batch_made {p} (Step.request_alone idle last is alone applies) = Some (record { epoch = p.epoch; newer = p.newer })
batch_made {p} (Step.cross_for_last t looking crosses is left applies) = Some (record { epoch = p.epoch - 1; newer = (crossed_for p t).newer })
batch_made {p} (Step.apply t returning is left applies) = Some (record { epoch = p.epoch - 1; newer = p.newer })
batch_made _ = None

-- a set that has members, or else what comes later
abbrev pub members_or : List ℕ → Option (List ℕ) → Option (List ℕ)
members_or [] later = later
members_or (x ∷ members) later = Some (x ∷ members)

-- the last set where it passed both tests, or else what comes later
abbrev pub if_passes : {w : Parts} {v : Begun} → IsTested w v → Option (List ℕ) → Option (List ℕ)
if_passes {w} (IsTested.passes orange none is) later = members_or (last_set w.counts.sets) later
if_passes _ later = later

-- the set that passed both tests, of those that were tested one after another
abbrev pub passed_among : {p q : Private} {turn : Turn} {b : Begun} → ClearsOn p q turn b → Option (List ℕ)
passed_among (ClearsOn.tests c none some test on) = if_passes test (passed_among on)
passed_among _ = None

-- the set that passed both tests in a step, by its rule
abbrev pub set_passed : {p q : Private} {word : ℕ} {box : Contents} {op : Option Op} {turn : Turn} → Step p word box op q turn → Option (List ℕ)
set_passed (Step.request_alone idle last is alone applies) = passed_among applies
set_passed (Step.cross_for_last t looking crosses is left applies) = passed_among applies
set_passed (Step.apply t returning is left applies) = passed_among applies
set_passed (Step.release m releasing is clears) = passed_among clears
set_passed (Step.freeing m freeing is clears) = passed_among clears
set_passed _ = None

-- the epoch of a collection that a turn tells to be complete
abbrev pub epoch_told : Turn → Option ℕ
epoch_told (Collected epoch freed) = Some epoch
epoch_told _ = None

-- What is shown of a step is what it did. Where it left no collection under way, it completed one.
pub record IsShownAsMade {p q : Private} {word : ℕ} {box : Contents} {turn : Turn} (op : Op) (s : Step p word box (Some op) q turn) : Type 0 where
  pub batch : batch_of op q ≡ batch_made s
  pub passed : passed_of q ≡ set_passed s
  pub completed : completed_of q ≡ epoch_told turn
  pub between : q.phase ≡ Idle → completed_of q ≡ Some (q.epoch - 1)

-- The last step of a machine was this operation, and found this word.
pub record HasTaken (op : Op) (word : ℕ) (q : Private) : Type 0 where
  pub before : Private
  pub box : Contents
  pub turn : Turn
  pub step : Step before word box (Some op) q turn
  pub kept : IsMachine before
  pub given : IsGiven before word

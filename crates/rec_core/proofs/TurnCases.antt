-- What a turn can have made of a heap, case by case: the rules of the collector's step, read where the words that they speak of are
-- those of the heap. `TurnRules` shows that each turn is one of them.
use Rattle.std.specs.Prelude.{◌≡◌, ◌≢◌, ◌⊎◌, ℕ, ◌+◌, ◌-◌, ◌^◌, false, Option, Some, List, length, drop, slice_get, slice_index_or, slice_set}
use Rattle.rec_core.proofs.Common.{crossing_word, Retired, Spare, WithCollector, place_of, Op, At, Member, swept, with_freed, with_released, parts_of, spare, ClearsOn, PreparesOn, TriesOn, zeros_released, batched, ended, moved, noted, requested, HaveLeft, IsNextPresent, Phase, Idle, Looking, Returning, Releasing, Freeing, Trying, Preparing, Opening, Sweeping, Closing, Turn, IsMutator, Core, box, crossing_of, visible}
use Rattle.rec_word.specs.declared.mailbox.Mailbox.{Mailbox}
use Rattle.rec_word.specs.declared.op.Op.TheVariants.{LoadChild}
use Rattle.rec_release.specs.CycleFree.{Machine as SetFreeing}
use Rattle.rec_release.specs.Release.{Machine as Release}
use Rattle.rec_sigma.specs.Prepare.{Machine as Preparation, took_of as loaded_of}
use Rattle.rec_sigma.specs.declared.at.At as loads
use Rattle.rec_trial.specs.Trial.{Machine as Trial, next_of as trial_next, took_of as tried_of}
use Rattle.rec_collector.specs.Private.{Private}

-- the word of a slot's field
abbrev pub word_at : Core → (slot field : ℕ) → ℕ
word_at w slot field = slice_index_or w.words (place_of slot field w.config.fields) 0

-- with that field exchanged to 0
abbrev pub words_without : Core → (slot field : ℕ) → List ℕ
words_without w slot field = slice_set w.words (place_of slot field w.config.fields) 0

-- with a mutator's crossing word replaced: its mailbox is there now
abbrev pub crossing_with : Core → (t : ℕ) → Mailbox → List ℕ
crossing_with w t mailbox = slice_set w.crossing (t - 1) (crossing_word w.epoch mailbox)

-- after the sweep of a slot, with the phase that follows
abbrev pub swept_by : Private → (slot : ℕ) → Phase → Private
swept_by c slot next = record c { counts = swept c.counts slot; freed = c.freed + 1; phase = next; turns = c.turns + 1 }

-- with the header of a slot freed
abbrev pub header_freed : Core → (slot : ℕ) → Core
header_freed w slot = record w { headers = slice_set w.headers slot 0 }

-- a collector that has nothing to gather any more, as with the last mailbox given back
abbrev pub awaiting : Private → Private
awaiting p = record p { phase = Returning (length p.newer) }

-- the next epoch is requested, and nothing was gathered
abbrev pub requesting : Core → Core
requesting w = record w { epoch = w.epoch + 1; collector = awaiting (requested w.collector) }

-- a mutator's mailbox was given back: if its last buffer came from there, it has left
abbrev pub giving_back : Core → (t : ℕ) → Core
giving_back w t = record w { crossing = crossing_with w t Spare; collector = awaiting (noted w.collector t) }

-- a turn that applies the batch finds this heap just before: with the last mailbox given back, or, where every mutator has left, with the
-- request
pub data Awaits (w : Core) : Core → Type 0 where
  alone : w.collector.phase ≡ Idle → w.epoch + 1 ≢ 2 ^ 24 → HaveLeft w.collector.left 0 → Awaits w (requesting w)
  last : (t : ℕ) → IsMutator w.config t → w.collector.phase ≡ Returning t → HaveLeft (noted w.collector t).left t → Awaits w (giving_back w t)

-- a turn by its cases, one for each rule of the collector
pub data TurnCase (w v : Core) : Type 0 where
  spent : w.collector.phase ≡ Idle → w.epoch + 1 ≡ 2 ^ 24 → v ≡ w → TurnCase w v
  requests : (next : ℕ) → w.collector.phase ≡ Idle → IsNextPresent w.collector.left 0 next → v ≡ record w { epoch = w.epoch + 1; collector = moved (requested w.collector) (Looking next) } → TurnCase w v
  waits : (t : ℕ) → IsMutator w.config t → w.collector.phase ≡ Looking t → crossing_of w t ≢ crossing_word w.epoch Retired → v ≡ w → TurnCase w v
  gathers : (t : ℕ) → IsMutator w.config t → w.collector.phase ≡ Looking t → crossing_of w t ≡ crossing_word w.epoch Retired
      → v ≡ record w { crossing = crossing_with w t WithCollector; boxes = slice_set w.boxes (t - 1) (spare w.collector); collector = moved (record w.collector { newer = slice_set w.collector.newer (t - 1) (box w t) }) (Returning t) } → TurnCase w v
  gives_back : (t next : ℕ) → IsMutator w.config t → w.collector.phase ≡ Returning t → IsNextPresent (noted w.collector t).left t next
      → v ≡ record w { crossing = crossing_with w t Spare; collector = moved (noted w.collector t) (Looking next) } → TurnCase w v
  applies : (u : Core) (q : Private) (turn : Turn) → Awaits w u → ClearsOn u.collector q turn (zeros_released false (batched u.collector)) → v ≡ record u { collector = q } → TurnCase w v
  releases : (m : Release) (a : At) (q : Private) (turn : Turn) → w.collector.phase ≡ Releasing m → m.at ≡ Some a
      → ClearsOn w.collector q turn (with_released m (parts_of w.collector) (word_at w a.slot a.field)) → v ≡ record w { words = words_without w a.slot a.field; collector = q } → TurnCase w v
  frees : (m : SetFreeing) (a : Member) (q : Private) (turn : Turn) → w.collector.phase ≡ Freeing m → m.at ≡ Some a
      → ClearsOn w.collector q turn (with_freed m (parts_of w.collector) (word_at w a.slot a.field)) → v ≡ record w { words = words_without w a.slot a.field; collector = q } → TurnCase w v
  tries : (m : Trial) (place : ℕ) (q : Private) (turn : Turn) → w.collector.phase ≡ Trying m → ◌≡◌ {A = Option Op} (trial_next m) (Some (LoadChild place))
      → TriesOn w.collector (parts_of w.collector) (tried_of (record { machine = m; counts = w.collector.counts }) (visible w.collector.counts (slice_index_or w.words place 0))) q turn → v ≡ record w { collector = q } → TurnCase w v
  prepares : (m : Preparation) (a : loads.At) (q : Private) (turn : Turn) → w.collector.phase ≡ Preparing m → m.at ≡ Some a
      → PreparesOn w.collector (parts_of w.collector) (loaded_of (record { machine = m; counts = w.collector.counts }) (word_at w a.member.slot a.member.field)) q turn → v ≡ record w { collector = q } → TurnCase w v
  begins_sweep : w.collector.phase ≡ Opening → v ≡ record w { freed = w.freed + 1; collector = moved w.collector (Sweeping (slice_get w.collector.counts.free 0) 0) } → TurnCase w v
  sweeps : (n slot : ℕ) (next : Phase) → w.collector.phase ≡ Sweeping (Some slot) n → (next ≡ Sweeping (slice_get (drop 1 w.collector.counts.free) 0) (n + 1)) ⊎ (next ≡ Closing (n + 1))
      → v ≡ record w { headers = slice_set w.headers slot 0; collector = swept_by w.collector slot next } → TurnCase w v
  ends_sweep : (n : ℕ) → w.collector.phase ≡ Closing n → v ≡ record w { freed = w.freed + 1; collector = ended w.collector } → TurnCase w v

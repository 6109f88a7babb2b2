-- What steps of a mutator leave that have finished nothing.
use Rattle.std.specs.Prelude.{◌≡◌, ◌≢◌, ℕ, ◌<◌, ◌≤◌}
use Rattle.rec_word.specs.Mailbox.{crossing_word}
use Rattle.rec_word.specs.declared.mailbox.Mailbox.TheVariants.{Spare}
use Rattle.rec_model.specs.Sight.{IsTaken, sight_without_registers}
use Rattle.rec_mutator.specs.declared.phase.Phase.{Phase}
use Rattle.rec_mutator.specs.declared.phase.Phase.TheVariants.{Begun, Scanning, Scanned, Giving, Parting}
use Rattle.rec_core.specs.Core.{Core, sight, mutator, with_mutator, crossing_of, spare_of}
use Rattle.rec_core.specs.StepAnswers.{IsFilled}

-- the mutator's work went on, and changed no register and no log: all else stays, but for the slot with which its scan begins
pub record OnlyWorks (before after : Core) (t : ℕ) : Type 0 where
  pub others : after ≡ with_mutator before t (mutator after t)
  pub own : mutator after t ≡ record (mutator before t) { from = (mutator after t).from; phase = (mutator after t).phase; steps = (mutator after t).steps }

-- A work of the mutator changed nothing that is seen, no other mutator, and nothing of the collector. Crossing words and mailboxes
-- may be others.
pub record IsQuiet (before after : Core) (t : ℕ) : Type 0 where
  pub seen : sight after ≡ sight before
  pub others : (s : ℕ) → s ≢ t → 1 ≤ s → mutator after s ≡ mutator before s
  pub collector : after.collector ≡ before.collector
  pub freed : after.freed ≡ before.freed
  pub requested : after.epoch ≡ before.epoch
  pub made : after.made ≡ before.made
  pub config : after.config ≡ before.config

-- A mutator that leaves has taken its mailbox, which was home with a spare: its registers are null, and that spare is its log. Nothing
-- else changed that is seen, no other mutator, and nothing of the collector. Crossing words and mailboxes may be others.
pub record HasLetGo (before after : Core) (t : ℕ) : Type 0 where
  pub home : crossing_of before t ≡ crossing_word (mutator before t).epoch Spare
  pub seen : sight after ≡ sight_without_registers (sight before) t
  pub log : (mutator after t).log ≡ spare_of before.config
  pub epoch : (mutator after t).epoch ≡ (mutator before t).epoch
  pub others : (s : ℕ) → s ≢ t → 1 ≤ s → mutator after s ≡ mutator before s
  pub collector : after.collector ≡ before.collector
  pub freed : after.freed ≡ before.freed
  pub requested : after.epoch ≡ before.epoch
  pub made : after.made ≡ before.made
  pub config : after.config ≡ before.config

-- what a scan that began with slot 0 has found since then, where nothing else moved: each slot that it has probed holds an object
abbrev pub HasFound : Core → (from : ℕ) → Phase → Type 0
HasFound w from (Begun work) = from ≡ 0
HasFound w from (Scanning reg label leaf before probed) = (from ≡ 0) × (before ≡ w.freed) × ((s : ℕ) → s < probed → IsTaken (sight w) s)
HasFound w from (Scanned reg label leaf before) = (before ≡ w.freed) × IsFilled w
HasFound w from _ = Unit {0}

-- Steps of a mutator that finished nothing: only its work went on, and it took no mailbox to leave; or it holds its mailbox, to cross
-- or to leave.
pub data Waits (before w : Core) (t : ℕ) : Type 0 where
  works : OnlyWorks before w t → HasFound w (mutator w t).from (mutator w t).phase → ((mutator w t).phase ≡ Parting → (mutator before t).phase ≡ Parting) → Waits before w t
  holds : (mutator w t).phase ≡ Giving → IsQuiet before w t → (mutator w t).epoch ≡ (mutator before t).epoch → Waits before w t
  parts : (mutator w t).phase ≡ Parting → HasLetGo before w t → Waits before w t

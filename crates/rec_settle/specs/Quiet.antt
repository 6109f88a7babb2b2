-- A heap whose mutators do nothing but cross into the epochs that are requested; those that have left don't even do that.
use Rattle.std.specs.Prelude.{◌≡◌, ℕ, ◌-◌, ◌<◌, ◌≤◌, nat_lt, nat_le, Bool, true, false, Option, List, []}
use Rattle.rec_word.specs.Mailbox.{crossing_word}
use Rattle.rec_word.specs.declared.mailbox.Mailbox.TheVariants.{Retired}
use Rattle.rec_log.specs.declared.contents.Contents.{Contents}
use Rattle.rec_mutator.specs.Private.{is_busy}
use Rattle.rec_collector.specs.Private.{buffer_at}
use Rattle.rec_collector.specs.declared.phase.Phase.{Phase}
use Rattle.rec_collector.specs.declared.phase.Phase.TheVariants.{Idle, Looking, Swapping, Returning}
use Rattle.rec_core.specs.Config.{IsMutator}
use Rattle.rec_core.specs.Core.{Core, mutator, box, crossing_of}
use Rattle.rec_core.specs.Pending.{older_at}

-- a buffer of an epoch in which nothing was written or born, with these registers as its snapshot
pub record IsRetired (registers : List (Option ℕ)) (b : Contents) : Type 0 where
  pub entries : b.entries ≡ []
  pub snapshot : b.snapshot ≡ registers

-- the collector has the buffer that the mutator of this number handed over last, or has passed over it
abbrev pub gathered : Phase → (t : ℕ) → Bool
gathered Idle t = false
gathered (Looking u) t = nat_lt t u
gathered (Swapping u) t = nat_lt t u
gathered (Returning u) t = nat_le t u
gathered _ t = true

-- A mutator at rest. In this epoch and later ones it wrote nothing and nothing of it was born; and each buffer of such an epoch that
-- it handed over has what its registers name. One that has left did so before: of such an epoch the collector has a spare for it, and
-- its registers name as little.
pub record IsQuietOf (first : ℕ) (w : Core) (t : ℕ) : Type 0 where
  pub idle : is_busy (mutator w t) ≡ false
  pub gone : (mutator w t).left ≡ true → (mutator w t).epoch ≤ first
  pub log : first ≤ (mutator w t).epoch → (mutator w t).log.entries ≡ []
  pub box : (into : ℕ) → first < into → crossing_of w t ≡ crossing_word into Retired → IsRetired (mutator w t).registers (box w t)
  pub newer : first < w.epoch → gathered w.collector.phase t ≡ true → IsRetired (mutator w t).registers (buffer_at w.collector.newer (t - 1))
  pub older : first ≤ older_at w.epoch w.collector.phase → IsRetired (mutator w t).registers (buffer_at w.collector.older (t - 1))

-- so all mutators are
abbrev pub AreQuiet : (first : ℕ) → Core → Type 0
AreQuiet first w = (t : ℕ) → IsMutator w.config t → IsQuietOf first w t

-- every mailbox was gathered whose mutator hadn't left before
abbrev pub AreGathered : Core → Type 0
AreGathered w = (t : ℕ) → IsMutator w.config t → gathered w.collector.phase t ≡ true

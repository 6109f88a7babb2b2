-- What a word, and what it is given to, have to be where a machine is at work.
use Rattle.std.specs.Prelude.{ℕ, ◌<◌, Some, IfSome, IsSome, length}
use Rattle.rec_word.specs.Word.{target_of}
use Rattle.rec_counts.specs.Counts.{slot_at}
use Rattle.rec_sigma.specs.Prepare.{IsAtWork as IsPreparing}
use Rattle.rec_trial.specs.Loaded.{IsAtWork as IsTrying}
use Rattle.rec_trial.specs.Rules.{LeadsToUnreleased}
use Rattle.rec_trial.specs.Trial.{next_of as trial_next}
use Rattle.rec_collector.specs.Clearing.{IsClear}
use Rattle.rec_collector.specs.Parts.{Parts}
use Rattle.rec_collector.specs.declared.phase.Phase.{Phase}
use Rattle.rec_collector.specs.declared.phase.Phase.TheVariants.{Releasing, Freeing, Trying, Preparing}

-- by the machine: what comes out of a field is counted; what is loaded for a trial leads to no released slot, and for a preparation to a
-- slot that is there
abbrev pub MayWork : Parts → (word : ℕ) → Phase → Type 0
MayWork w word (Releasing m) = IsClear (record { parts = w; phase = Some (Releasing m) }) × IfSome (target_of word) (λ slot. 0 < (slot_at w.counts slot).count)
MayWork w word (Freeing m) = IsClear (record { parts = w; phase = Some (Freeing m) }) × IfSome (target_of word) (λ slot. 0 < (slot_at w.counts slot).count)
MayWork w word (Trying m) = IsSome (trial_next m) × IsTrying m w.counts × LeadsToUnreleased w.counts word
MayWork w word (Preparing m) = IsSome m.at × IsPreparing m w.counts × IfSome (target_of word) (λ slot. slot < length w.counts.slots)
MayWork w word _ = ⊥

-- a trial is at work, and its counts are as it left them
abbrev pub MayTry : Parts → Phase → Type 0
MayTry w (Trying m) = IsSome (trial_next m) × IsTrying m w.counts
MayTry w _ = ⊥

-- a preparation is
abbrev pub MayPrepare : Parts → Phase → Type 0
MayPrepare w (Preparing m) = IsSome m.at × IsPreparing m w.counts
MayPrepare w _ = ⊥

-- the freeing of a set is
abbrev pub MayFree : Parts → Phase → Type 0
MayFree w (Freeing m) = IsClear (record { parts = w; phase = Some (Freeing m) })
MayFree w _ = ⊥

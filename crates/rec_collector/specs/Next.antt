-- Which operation comes next: a function of the private record alone.
use Rattle.std.specs.Prelude.{◌+◌, ◌^◌, ◌==◌, Bool, Option, None, Some, if◌then◌else◌}
use Rattle.rec_word.specs.declared.op.Op.{Op}
use Rattle.rec_word.specs.declared.op.Op.TheVariants.{StoreEpoch, LookBox, ReturnBox, AddFreed}
use Rattle.rec_release.specs.CycleFree.{next_of as next_of_freeing}
use Rattle.rec_release.specs.Release.{next_of as next_of_release}
use Rattle.rec_release.specs.Sweep.{next_of as next_of_sweep}
use Rattle.rec_sigma.specs.Prepare.{next_of as next_of_prep}
use Rattle.rec_trial.specs.Trial.{next_of as next_of_trial}
use Rattle.rec_collector.specs.Private.{Private}
use Rattle.rec_collector.specs.declared.phase.Phase.{Phase}
use Rattle.rec_collector.specs.declared.phase.Phase.TheVariants.{Idle, Looking, Swapping, Returning, Releasing, Freeing, Trying, Preparing, Opening, Sweeping, Closing}

-- the next epoch would be one that no word can hold
abbrev pub is_spent : Private → Bool
is_spent p = p.epoch + 1 == 2 ^ 24

-- what comes next, by phase
unfoldable pub next_at : Private → Phase → Option Op
next_at p Idle = if is_spent p then None else Some (StoreEpoch (p.epoch + 1))
next_at p (Looking t) = Some (LookBox t p.epoch)
next_at p (Swapping t) = Some (ReturnBox t p.epoch)
next_at p (Returning t) = Some (ReturnBox t p.epoch)
next_at p (Releasing release) = next_of_release release
next_at p (Freeing freeing) = next_of_freeing freeing
next_at p (Trying trial) = next_of_trial trial
next_at p (Preparing prep) = next_of_prep prep
next_at p Opening = Some AddFreed
next_at p (Sweeping due swept) = next_of_sweep due
next_at p (Closing swept) = Some AddFreed

-- what comes next; None where the epochs are spent
unfoldable pub next_of : Private → Option Op
next_of p = next_at p p.phase

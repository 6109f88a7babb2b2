-- What most proofs of this crate speak of, by one import: the words of the crates below, and of its own definitions.
pub use Rattle.rec_word.specs.declared.op.Op.{Op}
pub use Rattle.rec_log.specs.declared.contents.Contents.{Contents}
pub use Rattle.rec_counts.specs.Counts.{IsKept, State, sent, slot_at, with_slot}
pub use Rattle.rec_counts.specs.Lists.{EachOnce, one}
unfoldable pub use Rattle.rec_counts.specs.Lists.{times}
pub use Rattle.rec_counts.specs.Slot.{absent, due_of, fresh, is_in, lessened, lessened_if, lowered, out_of_set, stays, swept_clean, unbuffered_if}
pub use Rattle.rec_counts.specs.declared.colour.Colour.TheVariants.{Black, Green, Orange, Purple}
pub use Rattle.rec_counts.specs.declared.slot.Slot.{Slot}
pub use Rattle.rec_counts.proofs.Times.{in_range_once, length-once, one-le, one-none, one-same, times-append, times-cons, times-nil, times_at, times_part, times_push}
pub use Rattle.rec_release.specs.CycleFree.{IsFreeable, dead_if, given_up, listed}
pub use Rattle.rec_release.specs.Release.{IsAtWork, IsHeld, IsReady, Machine, emptied, first_of, listed_if, next_from, op_at, with_next, without_first}
pub use Rattle.rec_release.proofs.TakenOff.{KeepsMost, off_most, ready_off, written}
pub use Rattle.rec_sigma.specs.Refurbish.{IsRefusable, LastRefurbished, coloured, fate_at, fate_if, is_free, is_root, is_zero, refurbished}
pub use Rattle.rec_collector.specs.Clearing.{HasExchanged, IsClear, IsCleared, IsClearing, IsClearingIn, IsFewTold, IsFreeing, IsReleasing, IsTidy, IsUntried, fields_left, freeing_left, release_left}
pub use Rattle.rec_collector.specs.Followed.{Next, going_on, gone_on, next_in, prep_started, prepared_at, relieved, relieved_at, sweep_phase, makes_trial, put_off, trial_if, trial_started, tried_at, with_freed, with_loaded, with_offers, with_released, with_tried, worked}
unfoldable pub use Rattle.rec_collector.specs.Followed.{followed, prepared, tried}
pub use Rattle.rec_collector.specs.Given.{IsSized, IsWork}
unfoldable pub use Rattle.rec_collector.specs.Given.{IsGiven, IsGivenAt}
pub use Rattle.rec_collector.specs.Kept.{AreFew, AreInPreparation, AreOnTrial, ArePrepared, AreResting, AreSized, AreSpare, AreTried, IsAt, IsAtRest, IsGathering, IsListed, IsLooking, IsMachine, IsPreparing, IsSweeping, IsTesting, IsTold, IsTrying, KeepsSizes, NoneReleased, all_fields, least_after, limit_of, swept_at, under_way}
pub use Rattle.rec_collector.specs.Gathering.{MayGatherBehind}
pub use Rattle.rec_collector.specs.Parts.{Parts, new_freeing, new_release}
pub use Rattle.rec_collector.specs.Present.{HaveLeft, IsNextPresent, has_left, next_present}
pub use Rattle.rec_collector.specs.Private.{Private, blank, buffer_at, opened, parts_of, retired, spare, with_parts}
pub use Rattle.rec_collector.specs.Testing.{Begun, counted_by, freeing_at, releasing_at, tested_as, told, touched, verdict_if, verdict_of, with_freeing, with_release, zeros_released}
unfoldable pub use Rattle.rec_collector.specs.Testing.{last_tested, tested}
pub use Rattle.rec_collector.specs.Took.{batch_next, batched, behind, behind_turn, came, came_turn, cleared, ended, ended_if, gathering_on, gathering_turn, moved, noted, requested, swept_one, swept_phase}
unfoldable pub use Rattle.rec_collector.specs.Took.{left_at, left_of, step_of, swapped_at, swapped_of, took_at, took_of, turn_at, turn_of}
pub use Rattle.rec_collector.specs.declared.phase.Phase.{Phase}
pub use Rattle.rec_collector.specs.declared.phase.Phase.TheVariants.{Closing, Freeing, Idle, Looking, Opening, Preparing, Releasing, Returning, Swapping, Sweeping, Trying}
pub use Rattle.rec_collector.specs.declared.verdict.Verdict.TheVariants.{Held, Passed, Touched}

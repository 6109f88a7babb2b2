-- What most proofs of this crate speak of, by one import: the words of the crates below, and of its own definitions.
pub use Rattle.rec_word.specs.Header.{IsHeaderOf, header_word, is_leaf, label_of}
pub use Rattle.rec_word.specs.Mailbox.{crossing_word}
pub use Rattle.rec_word.specs.Place.{place_of, places_from, places_of}
pub use Rattle.rec_word.specs.Word.{IsTarget, is_slot, predecessor, stamp_of, target_bits, target_of}
pub use Rattle.rec_word.specs.declared.mailbox.Mailbox.TheVariants.{Retired, Spare, WithCollector, WithMutator}
pub use Rattle.rec_word.specs.declared.op.Op.{Op}
pub use Rattle.rec_log.specs.declared.contents.Contents.{Contents}
pub use Rattle.rec_log.specs.declared.entry.Entry.{Entry}
pub use Rattle.rec_counts.specs.Colour.{is_green, is_orange}
pub use Rattle.rec_counts.specs.Counts.{State, decremented, sent, slot_at, with_slot}
pub use Rattle.rec_counts.specs.Lists.{EachOnce, one}
unfoldable pub use Rattle.rec_counts.specs.Lists.{times}
pub use Rattle.rec_counts.specs.Slot.{absent, due_of, fresh, is_in, lessened, lessened_if, lowered, stays, swept_clean, unbuffered_if}
pub use Rattle.rec_counts.specs.declared.slot.Slot.{Slot}
pub use Rattle.rec_counts.proofs.Keeping.{field_kept, map_at, members_once, no_set, set_there, some_set, unreleased_within}
pub use Rattle.rec_counts.proofs.Times.{in_range_once, one-le, one-same, one-some, times-append, times-cons, times-nil, times_at, times_part, times_rest}
pub use Rattle.rec_model.specs.Accounted.{HasUncountedReleased, IsAccounted, is_dead, is_from, is_late_snapshot, is_late_word, is_leaf_from, is_node, is_wrong_register, names, puts_after, replaces_from}
pub use Rattle.rec_model.specs.Moves.{AccountMove, Applies, Bears, Clears, Crosses, Drops, Frees, KeepsEpochs, KeepsSlots, Loads, Puts, Registers, Releases, Requests, is_up_to, leads_out_of, puts_in, replaces_in, with_answer}
pub use Rattle.rec_model.specs.Pending.{Dated, Holds, Pending, Write, dated, dated_birth, home, is_at}
unfoldable pub use Rattle.rec_model.specs.Pending.{epoch_of, node_of}
pub use Rattle.rec_model.specs.Reach.{IsReached}
pub use Rattle.rec_model.specs.Sets.{Cleared, HasLoaded, IsAfterLoads, IsAmongTests, IsMarked, IsStanding, IsTesting, ReleasesSet, marked_in, seen_in, with_load, with_members}
pub use Rattle.rec_model.specs.Sight.{IsSound, IsTaken, Reaches, Represents, Sight, StandsBy, field_of, opening_sight, sight_with_header, sight_with_register, sight_with_word, targets_of, word_at, words_of}
pub use Rattle.rec_model.specs.Sums.{one_if_same, only_if, sum_at}
pub use Rattle.rec_model.proofs.Consequences.{beginning_uncounted, clearing_covered, counted_by_formula, counts_bounded, emptied_uncounted, fields_name_the_taken, move_uncounted, registers_name_the_taken, released_count, uncounted_gone}
pub use Rattle.rec_model.proofs.Moving.{move_accounted, move_fields}
pub use Rattle.rec_model.proofs.Standing.{birth_sound, reached_is_taken, register_sound, word_in, write_sound}
pub use Rattle.rec_model.proofs.Sums.{get_or-le-sum_at, sum_at-replicate_none, sum_at-set, sum_at_none, sum_at_same, sum_at_split, sum_by-flat_map, sum_by-map, sum_by_same}
pub use Rattle.rec_model.proofs.Weights.{none_if_differs, none_if_not_lt, none_if_other, not_lt_from_none, one_if_self, only_if-le, only_if_le, only_if_self}
pub use Rattle.rec_counts.specs.Targets.{added, leaf_born, leaves, new_target, old_target, taken}
unfoldable pub use Rattle.rec_counts.specs.Targets.{named}
pub use Rattle.rec_word.specs.Load.{Load, place_loaded}
pub use Rattle.rec_word.specs.declared.member.Member.{Member}
pub use Rattle.rec_release.specs.CycleFree.{IsAtWork, IsFreeable, dead_if, given_up, given_up_slot, listed}
pub use Rattle.rec_release.specs.Release.{IsReady, emptied, listed_if, next_from, without_first}
pub use Rattle.rec_release.specs.Sweep.{AreUnbuffered, Swept, swept, swept_if}
pub use Rattle.rec_release.specs.TakenOff.{IsApart, down_if, is_lowered, taken_off}
pub use Rattle.rec_release.specs.declared.at.At.{At}
pub use Rattle.rec_trial.specs.Rules.{LeadsToUnreleased, LeadsToVisible, released_among, visible, visible_if}
pub use Rattle.rec_trial.specs.Trial.{Machine, Work, op_at}
unfoldable pub use Rattle.rec_trial.specs.Trial.{started_of}
pub use Rattle.rec_sigma.specs.Prepare.{members_of}
pub use Rattle.rec_sigma.specs.Prepared.{KeepsOthers, LoadsWithin, PreparedTo, loaded_at, places_left, sets_begun}
unfoldable pub use Rattle.rec_sigma.specs.Prepared.{seen}
pub use Rattle.rec_collector.specs.Clearing.{IsCleared, IsClearing, IsClearingIn, IsFreeing, IsReleasing, IsTidy}
pub use Rattle.rec_collector.specs.Followed.{prep_started, put_off, relieved_at, with_freed, with_offers, with_released}
pub use Rattle.rec_collector.specs.Parts.{Parts, new_freeing, new_prep, new_release}
pub use Rattle.rec_collector.specs.Present.{HaveLeft, IsNextPresent, has_left, next_present}
pub use Rattle.rec_collector.specs.Private.{blank, buffer_at, parts_of, spare, with_parts}
pub use Rattle.rec_collector.specs.Step.{ClearsOn, IsBetween, IsNext, IsTested, PreparesOn, TriesOn}
pub use Rattle.rec_collector.specs.Testing.{Begun, counted_by, freeing_at, releasing_at, with_freeing, zeros_released}
unfoldable pub use Rattle.rec_collector.specs.Testing.{last_tested}
pub use Rattle.rec_collector.specs.Took.{batched, cleared, ended, moved, noted, requested}
unfoldable pub use Rattle.rec_collector.specs.Took.{step_of, turn_at, turn_of}
pub use Rattle.rec_collector.specs.declared.phase.Phase.{Phase}
pub use Rattle.rec_collector.specs.declared.phase.Phase.TheVariants.{Closing, Freeing, Idle, Looking, Opening, Preparing, Releasing, Returning, Swapping, Sweeping, Trying}
pub use Rattle.rec_collector.specs.declared.turn.Turn.{Turn}
pub use Rattle.rec_collector.proofs.Goings.{field_behind, freed_by, freed_last, freed_listed, freed_on, last_by, last_given, member_behind, next_begun, released_by, released_last, released_more, still, with_counts}
pub use Rattle.rec_mutator.specs.Next.{begun_op, first_op, label_op, own_word, read_op, write_op}
unfoldable pub use Rattle.rec_mutator.specs.Next.{next_at, next_of}
pub use Rattle.rec_mutator.specs.Private.{IsAt, IsMachine, IsStore, IsValid, KeepsSizes, Private, answer_at, answer_of, is_busy, is_busy_at, is_full, limit_of, next_stamp, probe_of, register, slot_behind, word_for, work_at, work_of}
pub use Rattle.rec_mutator.specs.Step.{Decides, GoesOn, HasRoom, IsFitting, IsStill, LeavesBox, NamesSlots, NamesWord, Step}
pub use Rattle.rec_mutator.specs.Took.{IsFound, IsRequested, IsSwapping, crossed, polled, retired, retiring}
unfoldable pub use Rattle.rec_mutator.specs.Took.{begun_of, left_at, left_of, swapped_at, swapped_of, took_at, took_of}
pub use Rattle.rec_mutator.proofs.Steps.{TakesNone, here_same, learnt_made, step_between, step_made, whole_made}
pub use Rattle.rec_core.specs.Cells.{Cells, IsThere, IsWithin, cell, with_cell, with_word}
pub use Rattle.rec_core.specs.Config.{HasLabel, IsConfig, IsMutator}
pub use Rattle.rec_core.specs.Core.{Core, box, cells_of, crossing_of, log_length, mutator, nobody, opened, opened_mutator, sight, spare_of, with_mutator}
pub use Rattle.rec_core.specs.Cycles.{AreFields, SetsStand, SetsTest, SetsWait, TrialStands, is_member, is_member_of, word_loaded, word_seen}
pub use Rattle.rec_core.specs.CyclesAt.{AreSeen, HasCyclesAt, IsLoading}
pub use Rattle.rec_core.specs.Kept.{Handshake, HasCollector, HasCrossed, HasGreens, HasLabelAt, HasLearnt, HasMutators, HasPassed, HasRetired, HaveLearnt, IsActor, IsAhead, IsBehind, IsBufferOf, IsCrossing, HasGone, IsHandshake, IsHeader, IsHeldAt, IsKept, IsKeptBy, IsLeft, IsLeftOf, IsMadeIn, IsOwn, IsSettledIn, IsSomeSwept, LetGo, entries_made, freeing_due, one_if_sweeping, release_due, stand_at, stand_in}
pub use Rattle.rec_core.specs.Moves.{AllFit, EndsRun, Fits, IsRun, IsStart, Move, RunsFrom, after_move, after_moves, begun, begun_from, collected, found_by, left_by, looked_at, offering, performed, stepped, turned, turned_at, turned_by}
pub use Rattle.rec_core.specs.Pending.{Filed, applied_at, births_in, births_of, buffers, code, dated_all, dated_names, dated_registers, epoch_at, filed, filed_box, has_let_go, is_parting, older_at, pending, registers_of, slot_of, snapshots_of, writes_in, writes_of}
pub use Rattle.rec_core.specs.declared.config.Config.{Config}

-- What most proofs of this crate speak of, by one import: the words of the crates below, and of its own definitions.
pub use Rattle.rec_word.specs.Op.{written}
pub use Rattle.rec_word.specs.declared.op.Op.{Op}
pub use Rattle.rec_log.specs.declared.contents.Contents.{Contents}
pub use Rattle.rec_collector.specs.Private.{blank, with_parts}
pub use Rattle.rec_mutator.specs.Causes.{gives_back}
pub use Rattle.rec_mutator.specs.Private.{IsAt, IsMachine, IsValid, KeepsSizes, Private, answer_at, answer_of, is_busy, is_busy_at, is_full, limit_of, probe_of, register, slot_behind, work_at, work_of}
pub use Rattle.rec_mutator.specs.Step.{TakesBox}
pub use Rattle.rec_mutator.specs.Took.{IsAhead, IsBetween, IsFound, IsSwapping, allowed_by, answered, born_in, moved, read_by, spare, written_by}
unfoldable pub use Rattle.rec_mutator.specs.Took.{begun_of, left_of, skipped_at, skipped_to, step_of, swapped_at, swapped_of, took_at, took_of}
pub use Rattle.rec_core.specs.Cells.{Cells, IsWithin, births_of, cell, with_cell}
pub use Rattle.rec_core.specs.Config.{HasLabel, IsMutator, IsNoLeave}
pub use Rattle.rec_core.specs.Core.{Core, box, cells_of, crossing_of, mutator, nobody, sight}
pub use Rattle.rec_core.specs.Kept.{IsHandshake, IsKept, Handshake, stand_at, stand_in}
pub use Rattle.rec_core.specs.Moves.{AllFit, Fits, Move, after_move, after_moves, begun_from, found_by, left_by, looked_at, stepped, turned, turned_at}
pub use Rattle.rec_core.specs.Row.{cells_of_row, index_of, row}
pub use Rattle.rec_core.proofs.BareRuns.{may_turn, move_kept, moves_kept}
pub use Rattle.rec_core.proofs.Runs.{after_both, config_after, every_both, fit_both, fit_first, move_stays, mutator_stays, other_gives, over_both, own_gives}
pub use Rattle.rec_core.proofs.Steps.{actor_of, fields_many, in_list}
pub use Rattle.rec_core.proofs.Words.{IsOwnOp, collector_within, may_step, names_slots, own_next}
pub use Rattle.rec_world.specs.World.{IsWorld}
pub use Rattle.rec_world.proofs.Calls.{made_small, moved_world, world_kept}
pub use Rattle.rec_table.specs.Beats.{Offerless, OffersNone, beats_in, beats_of, births_told, gathered, gathered_all, learnt, looked, told, turn_at}
pub use Rattle.rec_table.specs.Views.{AreMutatorsOf, CollectorView, MutatorView, IsMutatorOf, IsOf, IsTold, PutsBack, Started, Works, fresh, collector_view, collector_now, mutator_now, mutator_view, started}
pub use Rattle.rec_table.specs.Operations.{Adds, AreMade, Grows, JoinsIdly, Kind, Operates, Operation, Performed, Ran, Runs, SplitsIdly, Stays, actor_at, moves_made, moves_of, operation, performed, step_in, steps_in, turned_by}
pub use Rattle.rec_table.specs.Rule.{GivenBy, GlancedBy, Holds, IsReturnOp, LookedBy, Looks, MadeBy, MayGo, NotLooking, PassedBy, ReturnedBy, TakenBy, TurnedBy, adds, beats, boxes_at, boxes_out, collecting_more, collecting_of, first_view, hand_after, hands, hands_at, joined, longer, me_after, newcomer, ready, records, seated_after, seated_of, taken_by, takes_view, without, word_of}
pub use Rattle.rec_table.specs.Scan.{HasScanned, Passed, ScansFrom, saw_all}
pub use Rattle.rec_table.specs.declared.views.Beat.{Beat}
pub use Rattle.rec_table.specs.declared.views.Beat.TheVariants.{Begins, Saw, Took}
pub use Rattle.rec_table.specs.declared.views.CollectorSeat.{CollectorSeat}
pub use Rattle.rec_table.specs.declared.views.Seated.{Seated}
pub use Rattle.rec_table.specs.declared.views.View.{View}
pub use Rattle.rec_table.specs.declared.views.View.TheVariants.{Collects, Mutates, Spent}

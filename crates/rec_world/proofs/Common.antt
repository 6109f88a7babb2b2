-- What most proofs of this crate speak of, by one import: the words of the crates below, and of its own definitions.
pub use Rattle.rec_log.specs.declared.contents.Contents.{Contents}
pub use Rattle.rec_mutator.specs.Next.{write_op}
unfoldable pub use Rattle.rec_mutator.specs.Next.{next_at, next_of}
pub use Rattle.rec_mutator.specs.Private.{IsAt, IsStore, IsValid, Private, answer_at, answer_of, is_busy, is_busy_at, is_full, probe_of, register, slot_behind, work_at, work_of}
pub use Rattle.rec_mutator.specs.Took.{IsAhead, IsBetween, IsSwapping}
unfoldable pub use Rattle.rec_mutator.specs.Took.{begun_of, left_at, left_of, skipped_at, skipped_to, step_of, swapped_of, took_of}
pub use Rattle.rec_core.specs.Cells.{Cells, IsWithin, births_of, cell, with_cell}
pub use Rattle.rec_core.specs.Config.{HasLabel, IsConfig, IsMutator, IsWork}
pub use Rattle.rec_core.specs.Core.{Core, box, cells_of, log_length, mutator, nobody, opened, sight, spare_of, with_mutator}
pub use Rattle.rec_core.specs.Moves.{EndsRun, Fits, Move, after_move, begun, found_by, left_by, looked_at, offering, performed, stepped, turned, turned_at, turned_by}
pub use Rattle.rec_world.specs.Inside.{IsWhole, core}
pub use Rattle.rec_world.specs.Mailbox.{gathered_by, gathered_from, held, held_by}
pub use Rattle.rec_world.specs.World.{AwaitsCollector, Changes, FindsNone, IsBusy, IsCrossed, IsFinished, IsFull, IsLowestFree, IsPolled, IsShaped, IsWorld, Refuses, Stays, WritesLeaf, epoch_after, is_leave_done}

-- What most proofs of this crate speak of, by one import: the words of the crates below, and of its own definitions.
pub use Rattle.rec_word.specs.Word.{is_slot, predecessor, target_bits, target_of}
pub use Rattle.rec_counts.specs.Colour.{is_black, is_gray, is_green, is_orange, is_purple, is_white}
pub use Rattle.rec_counts.specs.Counts.{IsKept, State, slot_at, with_slot, without_root}
pub use Rattle.rec_counts.specs.Lists.{one}
unfoldable pub use Rattle.rec_counts.specs.Lists.{times}
pub use Rattle.rec_counts.specs.declared.colour.Colour.{Colour}
pub use Rattle.rec_counts.specs.declared.colour.Colour.TheVariants.{Black, Gray, Orange, Purple, White}
pub use Rattle.rec_counts.proofs.Keeping.{field_kept, first_root_in_range, keep_begin, keep_join, keep_pop_root, keep_slot, member_room, members_once, relisted, roots_once, unreleased_within}
pub use Rattle.rec_trial.specs.Loaded.{GoesOn, IsAtWork, Run, begins, begun, learns, load_of, noted, noted_at}
unfoldable pub use Rattle.rec_trial.specs.Loaded.{run_of}
pub use Rattle.rec_trial.specs.Rules.{AllLeadToVisible, CanCollect, CanMark, CanScan, IsReady, LeadsToUnreleased, LeadsToVisible, RulesAt, released_among, visible, visible_if}
pub use Rattle.rec_trial.specs.Trial.{Machine, NamesPlace, Work, advanced, advanced_if, begun_at, collect_moved, is_due, is_due_at, learnt_at, list_of, moved_at, moves_left, opened_of, pointed, roots_moved, scan_moved, set_begun_if, settled_in, took_at}
unfoldable pub use Rattle.rec_trial.specs.Trial.{next_of, settled, started_of, took_of}
pub use Rattle.rec_trial.specs.declared.phase.Phase.{Phase}
pub use Rattle.rec_trial.specs.declared.phase.Phase.TheVariants.{Collecting, Idle, Marking, Scanning}

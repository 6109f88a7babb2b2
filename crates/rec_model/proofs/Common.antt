-- What most proofs of this crate speak of, by one import: the words of the crates below, and of its own definitions.
pub use Rattle.rec_word.specs.Word.{predecessor, stamp_of, target_of}
pub use Rattle.rec_model.specs.Accounted.{HasEpochs, HasLedger, HasUncountedReleased, IsAccounted, IsHeld, IsHeldAt, IsUnnamed, StandsOnce, is_after, is_dead, is_from, is_late_snapshot, is_late_word, is_leaf_from, is_node, is_wrong_register, is_wrong_write, late, named_anywhere, names, names_unreleased, put_late, puts_after, replaced_late, replaces_from, touches}
pub use Rattle.rec_model.specs.Heap.{Field, Heap, IsListed, IsLive, Object, born, children, count_of, field, nothing, null_field, object, opening, register, registers_of, roots, set_register, with_field, with_object, with_register, without_registers}
pub use Rattle.rec_model.specs.Moves.{AccountMove, Applies, Bears, Clears, Crosses, Drops, Frees, KeepsEpochs, KeepsLogs, KeepsSlots, LetsGo, Loads, Puts, Registers, Releases, ReplacesAt, Requests, added, is_up_to, leads_out_of, puts_in, replaces_in, taken, with_answer}
pub use Rattle.rec_model.specs.Numbering.{IsDistinct, IsNumbering, firsts, firsts_after, joined, times}
pub use Rattle.rec_model.specs.Pending.{Dated, Holds, Pending, Write, dated, home, is_at, word_in}
unfoldable pub use Rattle.rec_model.specs.Pending.{epoch_of, node_of}
pub use Rattle.rec_model.specs.Reach.{IsReached, is_in, named}
pub use Rattle.rec_model.specs.References.{IsInReach, IsWriteInReach, Reference, closed_at, closed_from, closed_in, closed_reference, count_formula, is_of, nodes_from, nodes_of, one_if_born, open_reference, opened_to, references, references_at, references_of, roots_at, targets_at}
pub use Rattle.rec_model.specs.Sight.{IsCollected, IsSound, IsTaken, NumbersSlots, Reaches, Represents, Sight, StandsBy, field_of, holders_of, opening_sight, sight_with_header, sight_with_register, sight_with_word, sight_without_registers, targets_of, word_at, words_of}
pub use Rattle.rec_model.specs.Sums.{HasSameSums, HasSameSumsAt, one_if_same, only_if, sum_at}

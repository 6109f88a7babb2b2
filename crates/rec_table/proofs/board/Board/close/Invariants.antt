-- The loops of `Board::close`: takes the words and the mailboxes off the table.
use Rattle.std.proofs.Common.{◌≡◌, ◌≤◌, ◌<◌, take, vec_capacity, ℕ, true, false, get_or}
use Rattle.std.specs.Mem.Slots.{slots_items, slots_filled, slots_len}
use Rattle.rec_table.proofs.board.Board.close.Given as goal

abbrev pub invariant-loop-i : goal.invariant-loop-i
invariant-loop-i l = record {
  items : l.words.items ≡ take l.i (slots_items l.closed.words);
  room : l.count ≤ vec_capacity l.words;
}

abbrev pub invariant-loop-k : goal.invariant-loop-k
invariant-loop-k l = record {
  items : l.boxes.items ≡ take l.k (slots_items l.closed.slots);
  same : slots_items l.closed.slots ≡ slots_items l.initial.closed.slots;
  words : l.closed.words ≡ l.initial.closed.words;
  long : slots_len l.closed.slots ≡ l.slots;
  room : l.slots ≤ vec_capacity l.boxes;
  full : (j : ℕ) → l.k ≤ j → j < slots_len l.closed.slots → get_or (slots_filled l.closed.slots) j false ≡ true;
  none : (j : ℕ) → j < l.k → get_or (slots_filled l.closed.slots) j false ≡ false;
}

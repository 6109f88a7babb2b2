-- The names so far are counted.
use Rattle.std.proofs.Common.{◌≡◌, ℕ, ◌+◌, ◌<◌, count_by, get_or, length, take}
use Rattle.rec_word.specs.Word.{is_slot}
use Rattle.rec_world.proofs.world.opening.count_names.Given as goal

abbrev pub invariant-loop-name : goal.invariant-loop-name
invariant-loop-name l = (n : ℕ) → n < length l.counts → get_or l.counts n 0 ≡ get_or l.initial.counts n 0 + count_by (is_slot n) (take l.name-index l.names)

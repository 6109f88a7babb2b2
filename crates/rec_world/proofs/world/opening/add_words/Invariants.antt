-- The words so far stand behind the row.
use Rattle.std.proofs.Common.{◌≡◌, ◌++◌, take}
use Rattle.rec_core.specs.Objects.{early_words}
use Rattle.rec_world.proofs.world.opening.add_words.Given as goal

abbrev pub invariant-loop-place : goal.invariant-loop-place
invariant-loop-place l = l.row.items ≡ l.initial.row.items ++ early_words 0 (take l.place l.fields)

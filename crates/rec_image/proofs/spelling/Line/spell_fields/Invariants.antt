-- The fields from the last one on are spelled.
use Rattle.std.proofs.Common.{◌≡◌, ◌+◌, ◌*◌, ◌≤◌, ◌++◌, drop, length}
use Rattle.rec_image.specs.Standing.{spelled_fields}
use Rattle.rec_image.proofs.spelling.Line.spell_fields.Given as goal

abbrev pub invariant-loop-left : goal.invariant-loop-left
invariant-loop-left l = record {
  within : l.left ≤ length l.words;
  spelled : l.self ≡ spelled_fields l.numbering.list (drop l.left l.words) ++ l.fn.self;
  short : length l.self + 12 * l.left ≤ 12 * length l.words + length l.fn.self;
}

abbrev pub decreases-loop-left : goal.decreases-loop-left
decreases-loop-left l = l.left

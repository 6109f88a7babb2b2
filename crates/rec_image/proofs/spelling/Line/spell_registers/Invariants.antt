-- The registers from the last one on are spelled.
use Rattle.std.proofs.Common.{◌≡◌, ◌+◌, ◌*◌, ◌≤◌, ◌++◌, drop, length}
use Rattle.std.specs.List.{flat_map}
use Rattle.rec_report.specs.Text.{field_number, field_word, line_feed}
use Rattle.rec_image.proofs.spelling.Line.spell_registers.Given as goal

abbrev pub invariant-loop-left : goal.invariant-loop-left
invariant-loop-left l = record {
  within : l.left ≤ length l.registers;
  spelled : l.self ≡ flat_map (λ slot. field_word (field_number l.numbering.list slot)) (drop l.left l.registers) ++ line_feed;
  short : length l.self + 12 * l.left ≤ 12 * length l.registers + 1;
}

abbrev pub decreases-loop-left : goal.decreases-loop-left
decreases-loop-left l = l.left

-- One register more stands before those that are spelled.
use Rattle.std.proofs.Common.{arith}
use Rattle.rec_report.specs.Text.{field_number, field_word, line_feed}
use Rattle.rec_image.proofs.Written.{one_before}
use Rattle.rec_image.proofs.spelling.Line.spell_registers.Goals as goal

pub loop-left-preserved : goal.loop-left-preserved
loop-left-preserved c = record {
  within = omega (arith, c.loop-left.invariant.within);
  spelled = one_before (λ slot. field_word (field_number c.args.numbering.now.list slot)) c.args.registers.now c.loop-left.left _ _ _ line_feed c.loop-left-test.true c.loop-left.invariant.within c.loop-left.invariant.spelled c.spell_slot.ensures.spelled;
  short = omega (arith, c.spell_slot.ensures.short, c.loop-left.invariant.short, c.loop-left-test.true);
}

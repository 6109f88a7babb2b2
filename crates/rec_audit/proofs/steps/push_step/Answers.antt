-- The lines of a step one after the other.
use Rattle.rec_collector.specs.Shown.{batch_of, completed_of, passed_of}
use Rattle.rec_audit.specs.Journal.{batch_lines, completed_lines, op_lines, passed_lines}
use Rattle.rec_audit.proofs.Written.{four_parts}
use Rattle.rec_audit.proofs.steps.push_step.Goals as goal

pub returns : goal.returns
returns c =
    four_parts c.args.text.now.items c.push_batch.new.text.items c.push_op.new.text.items c.push_passed.new.text.items c.push_completed.new.text.items
    (batch_lines (batch_of c.args.op c.args.collector.now)) (op_lines c.args.op c.args.word) (passed_lines (passed_of c.args.collector.now)) (completed_lines (completed_of c.args.collector.now))
    c.in_ok-push_batch.ensures c.in_ok-push_op.ensures c.in_ok-push_passed.ensures c.in_ok-push_completed.ensures

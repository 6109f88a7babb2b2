-- The next mutator's part stands behind those before it.
use Rattle.std.proofs.Common.{◌∙◌, ◌+◌, ◌++◌, ap}
use Rattle.rec_audit.specs.Lines.{text_of}
use Rattle.rec_audit.specs.Journal.{part_lines}
use Rattle.rec_audit.proofs.Written.{parts_more}
use Rattle.rec_audit.proofs.steps.push_parts.Goals as goal

pub loop-i-preserved : goal.loop-i-preserved
loop-i-preserved c =
    parts_more c.args.text.now.items c.loop-i.text.items c.push_part.new.text.items c.args.buffers.now c.loop-i.i c.index-buffers-i.result c.loop-i-test.true c.loop-i.invariant
    (c.in_ok-push_part.ensures ∙ ap (λ b. c.loop-i.text.items ++ text_of (part_lines (c.loop-i.i + 1) b)) c.index-buffers-i.is)

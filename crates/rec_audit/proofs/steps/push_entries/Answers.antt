-- The next line stands behind those before it.
use Rattle.std.proofs.Common.{◌∙◌, ◌++◌, ap, sym, arith, append-nil, map}
use Rattle.std.proofs.lemmas.List.{take_all}
use Rattle.std.proofs.lemmas.Result.{IfOk-from_err}
use Rattle.rec_audit.specs.Lines.{text_of}
use Rattle.rec_audit.specs.Journal.{entry_line}
use Rattle.rec_audit.proofs.Written.{entries_more}
use Rattle.rec_audit.proofs.steps.push_entries.Goals as goal

pub loop-entry-init : goal.loop-entry-init
loop-entry-init c = sym (append-nil c.args.text.now.items)

pub returns-in_err-push_entry : goal.returns-in_err-push_entry
returns-in_err-push_entry c = IfOk-from_err c.from_residual.result _ c.from_residual.ensures.0

pub loop-entry-preserved : goal.loop-entry-preserved
loop-entry-preserved c = entries_more c.args.text.now.items c.loop-entry.text.items c.push_entry.new.text.items c.args.mutator c.args.entries.now c.loop-entry.entry-index _ c.loop-entry-test.true c.loop-entry.invariant c.in_ok-push_entry.ensures

pub returns : goal.returns
returns c = c.loop-entry.invariant ∙ ap (λ some. c.args.text.now.items ++ text_of (map (entry_line c.args.mutator) some)) (take_all c.loop-entry.entry-index c.args.entries.now (omega arith))

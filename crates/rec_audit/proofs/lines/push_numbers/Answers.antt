-- The next numeral stands behind those before it.
use Rattle.std.proofs.Common.{◌∙◌, ◌++◌, ap, sym, arith, append-nil}
use Rattle.std.proofs.lemmas.List.{take_all}
use Rattle.std.proofs.lemmas.Result.{IfOk-from_err}
use Rattle.rec_audit.specs.Lines.{numerals}
use Rattle.rec_audit.proofs.Written.{numerals_more}
use Rattle.rec_audit.proofs.lines.push_numbers.Goals as goal

pub loop-number-init : goal.loop-number-init
loop-number-init c = sym (append-nil c.args.text.now.items)

pub returns-in_err-push_number : goal.returns-in_err-push_number
returns-in_err-push_number c = IfOk-from_err c.from_residual.result _ c.from_residual.ensures.0

pub loop-number-preserved : goal.loop-number-preserved
loop-number-preserved c = numerals_more c.args.text.now.items c.loop-number.text.items c.push_number.new.text.items c.args.numbers.now c.loop-number.number-index _ c.loop-number-test.true c.loop-number.invariant c.in_ok-push_number.ensures

pub returns : goal.returns
returns c = c.loop-number.invariant ∙ ap (λ some. c.args.text.now.items ++ numerals some) (take_all c.loop-number.number-index c.args.numbers.now (omega arith))

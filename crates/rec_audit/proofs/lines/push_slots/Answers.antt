-- The next numeral stands behind those before it.
use Rattle.std.proofs.Common.{◌∙◌, ◌++◌, ◌∷◌, decimal, ap, sym, arith, append-nil}
use Rattle.std.proofs.lemmas.List.{take_all}
use Rattle.std.proofs.lemmas.Result.{IfOk-from_err}
use Rattle.rec_audit.specs.Lines.{numerals}
use Rattle.rec_audit.proofs.Written.{numerals_more}
use Rattle.rec_audit.proofs.lines.push_slots.Goals as goal

pub loop-slot-init : goal.loop-slot-init
loop-slot-init c = sym (append-nil c.args.text.now.items)

pub returns-in_err-push_number : goal.returns-in_err-push_number
returns-in_err-push_number c = IfOk-from_err c.from_residual.result _ c.from_residual.ensures.0

pub loop-slot-preserved : goal.loop-slot-preserved
loop-slot-preserved c = numerals_more c.args.text.now.items c.loop-slot.text.items c.push_number.new.text.items c.args.slots.now c.loop-slot.slot-index _ c.loop-slot-test.true c.loop-slot.invariant (c.in_ok-push_number.ensures ∙ ap (λ n. c.loop-slot.text.items ++ 32 ∷ decimal n) c.from.ensures)

pub returns : goal.returns
returns c = c.loop-slot.invariant ∙ ap (λ some. c.args.text.now.items ++ numerals some) (take_all c.loop-slot.slot-index c.args.slots.now (omega arith))

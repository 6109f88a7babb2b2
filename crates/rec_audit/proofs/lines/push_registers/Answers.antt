-- The next numeral stands behind those before it.
use Rattle.std.proofs.Common.{◌∙◌, ◌++◌, ◌∷◌, decimal, ap, sym, arith, append-nil, map}
use Rattle.std.proofs.lemmas.List.{take_all}
use Rattle.std.proofs.lemmas.Result.{IfOk-from_err}
use Rattle.rec_audit.specs.Lines.{numerals}
use Rattle.rec_audit.specs.Journal.{register_number}
use Rattle.rec_audit.proofs.Written.{registers_more}
use Rattle.rec_audit.proofs.lines.push_registers.Goals as goal

pub loop-register-init : goal.loop-register-init
loop-register-init c = sym (append-nil c.args.text.now.items)

pub returns-in_err-push_number : goal.returns-in_err-push_number
returns-in_err-push_number c = IfOk-from_err c.from_residual.result _ c.from_residual.ensures.0

pub loop-register-preserved : goal.loop-register-preserved
loop-register-preserved c = registers_more c.args.text.now.items c.loop-register.text.items c.push_number.new.text.items c.args.registers.now c.loop-register.register-index _ c.loop-register-test.true c.loop-register.invariant (c.in_ok-push_number.ensures ∙ ap (λ n. c.loop-register.text.items ++ 32 ∷ decimal n) c.number_of.ensures)

pub returns : goal.returns
returns c = c.loop-register.invariant ∙ ap (λ some. c.args.text.now.items ++ numerals (map register_number some)) (take_all c.loop-register.register-index c.args.registers.now (omega arith))

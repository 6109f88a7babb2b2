-- Each register is put behind the others.
use Rattle.std.proofs.Common.{◌++◌, ℕ, List, Option, None, map, refl, sym, append-nil}
use Rattle.std.proofs.lemmas.Result.{IfOk-from_err}
use Rattle.rec_image.specs.Standing.{listed_place}
use Rattle.rec_image.proofs.Rowed.{all_rows, one_put}
use Rattle.rec_image.proofs.live.add_registers.Goals as goal

pub loop-register-preserved : goal.loop-register-preserved
loop-register-preserved c =
    one_put (listed_place c.args.numbering.now.list) c.args.registers.now c.loop-register.register-index None c.args.held.now.items c.loop-register.held.items c.push.new.self.items c.place.result
    c.loop-register-test.true c.loop-register.invariant c.place.ensures c.in_ok-push.ensures.items

pub loop-register-init : goal.loop-register-init
loop-register-init c = sym (append-nil c.args.held.now.items)

pub returns : goal.returns
returns c =
    all_rows (λ (own : List (Option ℕ)). c.args.held.now.items ++ map (listed_place c.args.numbering.now.list) own) c.args.registers.now _ c.loop-register.register-index _
    refl c.loop-register-test.false c.loop-register.invariant

pub returns-in_err-push : goal.returns-in_err-push
returns-in_err-push c = IfOk-from_err c.from_residual.result _ c.from_residual.ensures.0

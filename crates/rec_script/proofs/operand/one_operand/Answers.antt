-- The contract of `one_operand`: the operand of a line that has one, behind so many commands.
use Rattle.std.proofs.Common.{◌∷◌, [], refl}
use Rattle.std.proofs.lemmas.Result.{err_from_is_err_and, IfErr-weaker}
use Rattle.rec_script.specs.Operands.{AreMisread}
use Rattle.rec_script.proofs.Misreadings.{misread, misread_room, wrong_here}
use Rattle.rec_script.proofs.operand.one_operand.Goals as goal

pub returns-in_default-clause-wrong : goal.returns-in_default-clause-wrong
returns-in_default-clause-wrong c = AreMisread.number c.in_default.ensures.none

pub returns-in_err-room-clause-wrong : goal.returns-in_err-room-clause-wrong
returns-in_err-room-clause-wrong c =
    let p = err_from_is_err_and c.from_residual.result c.from_residual.ensures.1 in
    rw (p.1, p.2) (misread_room c.args.count _ _ (c.in-Some.first.now ∷ []) _ c.in-Some.ensures.some refl c.in_err-room.ensures.full)

pub returns-clause-wrong : goal.returns-clause-wrong
returns-clause-wrong c = IfErr-weaker c.operand.result _ _ (λ kind h. misread c.args.count _ _ (c.in-Some.first.now ∷ []) kind c.in-Some.ensures.some refl c.in_ok-room.ensures.room (wrong_here _ [] _ [] kind h)) c.operand.ensures.wrong

-- The contract of `three_operands`: the operands of a line that has three, behind so many commands.
use Rattle.std.proofs.Common.{◌∷◌, [], refl}
use Rattle.std.proofs.lemmas.Result.{err_from_is_err_and}
use Rattle.rec_script.specs.Operands.{AreMisread}
use Rattle.rec_script.proofs.Misreadings.{misread, misread_room, is_right, wrong_here, wrong_behind}
use Rattle.rec_script.proofs.operand.three_operands.Goals as goal

pub returns-in_default-clause-wrong : goal.returns-in_default-clause-wrong
returns-in_default-clause-wrong c = AreMisread.number c.in_default.ensures.none

pub returns-in_err-room-clause-wrong : goal.returns-in_err-room-clause-wrong
returns-in_err-room-clause-wrong c =
    let p = err_from_is_err_and c.from_residual.result c.from_residual.ensures.1 in
    rw (p.1, p.2) (misread_room c.args.count _ _ (c.in-Some.first.now ∷ c.in-Some.second.now ∷ c.in-Some.third.now ∷ []) _ c.in-Some.ensures.some refl c.in_err-room.ensures.full)

pub returns-in_err-first-clause-wrong : goal.returns-in_err-first-clause-wrong
returns-in_err-first-clause-wrong c =
    let p = err_from_is_err_and c.from_residual-in_err-first.result c.from_residual-in_err-first.ensures.1 in
    rw (p.1, p.2)
    (misread c.args.count _ _ (c.in-Some.first.now ∷ c.in-Some.second.now ∷ c.in-Some.third.now ∷ []) _ c.in-Some.ensures.some refl c.in_ok-room.ensures.room
    (wrong_here (c.args.left.below, c.args.left.past) ((c.args.middle.below, c.args.middle.past) ∷ (c.args.right.below, c.args.right.past) ∷ []) c.in-Some.first.now (c.in-Some.second.now ∷ c.in-Some.third.now ∷ []) c.in_err-first.field-0.0 c.in_err-first.ensures.wrong))

pub returns-in_err-second-clause-wrong : goal.returns-in_err-second-clause-wrong
returns-in_err-second-clause-wrong c =
    let p = err_from_is_err_and c.from_residual-in_err-second.result c.from_residual-in_err-second.ensures.1 in
    rw (p.1, p.2)
    (misread c.args.count _ _ (c.in-Some.first.now ∷ c.in-Some.second.now ∷ c.in-Some.third.now ∷ []) _ c.in-Some.ensures.some refl c.in_ok-room.ensures.room
    (wrong_behind (c.args.left.below, c.args.left.past) ((c.args.middle.below, c.args.middle.past) ∷ (c.args.right.below, c.args.right.past) ∷ []) c.in-Some.first.now (c.in-Some.second.now ∷ c.in-Some.third.now ∷ []) c.in_err-second.field-0.0
    (is_right (c.args.left.below, c.args.left.past) c.in-Some.first.now c.in_ok-first.first c.in_ok-first.ensures.right)
    (wrong_here (c.args.middle.below, c.args.middle.past) ((c.args.right.below, c.args.right.past) ∷ []) c.in-Some.second.now (c.in-Some.third.now ∷ []) c.in_err-second.field-0.0 c.in_err-second.ensures.wrong)))

pub returns-in_err-third-clause-wrong : goal.returns-in_err-third-clause-wrong
returns-in_err-third-clause-wrong c =
    let p = err_from_is_err_and c.from_residual-in_err-third.result c.from_residual-in_err-third.ensures.1 in
    rw (p.1, p.2)
    (misread c.args.count _ _ (c.in-Some.first.now ∷ c.in-Some.second.now ∷ c.in-Some.third.now ∷ []) _ c.in-Some.ensures.some refl c.in_ok-room.ensures.room
    (wrong_behind (c.args.left.below, c.args.left.past) ((c.args.middle.below, c.args.middle.past) ∷ (c.args.right.below, c.args.right.past) ∷ []) c.in-Some.first.now (c.in-Some.second.now ∷ c.in-Some.third.now ∷ []) c.in_err-third.field-0.0
    (is_right (c.args.left.below, c.args.left.past) c.in-Some.first.now c.in_ok-first.first c.in_ok-first.ensures.right)
    (wrong_behind (c.args.middle.below, c.args.middle.past) ((c.args.right.below, c.args.right.past) ∷ []) c.in-Some.second.now (c.in-Some.third.now ∷ []) c.in_err-third.field-0.0
    (is_right (c.args.middle.below, c.args.middle.past) c.in-Some.second.now c.in_ok-second.second c.in_ok-second.ensures.right)
    (wrong_here (c.args.right.below, c.args.right.past) [] c.in-Some.third.now [] c.in_err-third.field-0.0 c.in_err-third.ensures.wrong))))

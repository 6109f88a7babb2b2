-- The contract of `no_operands`: a line that has no operands, behind so many commands.
use Rattle.std.proofs.Common.{[], refl}
use Rattle.std.proofs.lemmas.List.{nil_from_length}
use Rattle.std.proofs.lemmas.Result.{IfErr-weaker}
use Rattle.rec_script.specs.Operands.{AreMisread}
use Rattle.rec_script.proofs.Commands.{is_not}
use Rattle.rec_script.proofs.Misreadings.{misread_room}
use Rattle.rec_script.proofs.operand.no_operands.Goals as goal

pub returns-then-no_word-clause-wrong : goal.returns-then-no_word-clause-wrong
returns-then-no_word-clause-wrong c = IfErr-weaker c.room.result _ _ (λ kind h. misread_room c.args.count [] _ [] kind (c.no_word.ensures.0 c.if-no_word.true) refl h) c.room.ensures.full

pub returns-else-no_word-clause-wrong : goal.returns-else-no_word-clause-wrong
returns-else-no_word-clause-wrong c = AreMisread.number (λ none. is_not _ _ c.no_word.ensures c.if-no_word.false (nil_from_length _ none))

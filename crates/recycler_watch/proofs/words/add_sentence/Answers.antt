-- Where memory is short nothing is told.
use Rattle.std.proofs.lemmas.Result.{IfOk-from_err}
use Rattle.recycler_watch.proofs.words.add_sentence.Goals as goal

pub returns-in_err-add_crossing-in-Command : goal.returns-in_err-add_crossing-in-Command
returns-in_err-add_crossing-in-Command c = IfOk-from_err c.from_residual.result _ c.from_residual.ensures.0

pub returns-in_err-add_answer-in-Command : goal.returns-in_err-add_answer-in-Command
returns-in_err-add_answer-in-Command c = IfOk-from_err c.from_residual-in_err-add_answer-in-Command.result _ c.from_residual-in_err-add_answer-in-Command.ensures.0

pub returns-in_err-add_step-in-Step : goal.returns-in_err-add_step-in-Step
returns-in_err-add_step-in-Step c = IfOk-from_err c.from_residual-in_err-add_step-in-Step.result _ c.from_residual-in_err-add_step-in-Step.ensures.0

pub returns-in_err-add_turn-in-Step : goal.returns-in_err-add_turn-in-Step
returns-in_err-add_turn-in-Step c = IfOk-from_err c.from_residual-in_err-add_turn-in-Step.result _ c.from_residual-in_err-add_turn-in-Step.ensures.0

pub returns-in_err-add_poll-in-Step : goal.returns-in_err-add_poll-in-Step
returns-in_err-add_poll-in-Step c = IfOk-from_err c.from_residual-in_err-add_poll-in-Step.result _ c.from_residual-in_err-add_poll-in-Step.ensures.0

pub returns-in_err-add_sets-in-Step : goal.returns-in_err-add_sets-in-Step
returns-in_err-add_sets-in-Step c = IfOk-from_err c.from_residual-in_err-add_sets-in-Step.result _ c.from_residual-in_err-add_sets-in-Step.ensures.0

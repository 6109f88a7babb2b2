-- The answer is told from the heap that the image was restored as.
use Rattle.std.proofs.lemmas.Result.{IfOk-weaker}
use Rattle.rec_run.proofs.alone.answer_resumed.Goals as goal

pub returns : goal.returns
returns g c =
    let (start, restored, outcome) = c.in_ok-outcome.ensures.outcome in
    IfOk-weaker c.answer_outcome-answered.result _ _ (λ text told. (start, restored, told)) (c.answer_outcome-answered.ensures start outcome)

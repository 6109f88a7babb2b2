-- The answer is that of what the script's run left.
use Rattle.rec_play.specs.Start.{opening_of}
use Rattle.rec_run.proofs.answer.answer_played.Goals as goal

pub returns : goal.returns
returns g c = c.answer_outcome-answered.ensures (opening_of c.args.script.now) c.in_ok-outcome.ensures.outcome

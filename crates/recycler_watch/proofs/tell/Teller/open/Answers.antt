-- The walk is the one that was asked for.
use Rattle.std.proofs.Common.{refl}
use Rattle.std.proofs.lemmas.Result.{IfOk-from_err}
use Rattle.recycler_watch.proofs.tell.Teller.open.Goals as goal

pub returns-in_err-walk-clause-walk : goal.returns-in_err-walk-clause-walk
returns-in_err-walk-clause-walk c = IfOk-from_err c.from_residual.result _ c.from_residual.ensures.0

pub returns-in_err-walk-clause-asked : goal.returns-in_err-walk-clause-asked
returns-in_err-walk-clause-asked c = IfOk-from_err c.from_residual.result _ c.from_residual.ensures.0

pub returns-in_err-walk-clause-begins : goal.returns-in_err-walk-clause-begins
returns-in_err-walk-clause-begins c = IfOk-from_err c.from_residual.result _ c.from_residual.ensures.0

pub returns-clause-walk : goal.returns-clause-walk
returns-clause-walk c =
    record {
      script = c.in_ok-walk.ensures.script;
      rule = c.in_ok-walk.ensures.rule;
      rest = c.in_ok-walk.ensures.rest;
      stage = c.in_ok-walk.ensures.stage;
      world = c.in_ok-walk.ensures.world;
      watched = c.in_ok-walk.ensures.watched;
    }

pub returns-clause-asked : goal.returns-clause-asked
returns-clause-asked c = refl

pub returns-clause-begins : goal.returns-clause-begins
returns-clause-begins c = refl

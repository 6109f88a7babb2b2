-- The collector made its step, and the mutator for which it waits polls just where it has made all its commands.
use Rattle.std.proofs.Common.{◌∙◌, arith}
use Rattle.std.proofs.lemmas.Result.{IfOk-from_err}
use Rattle.rec_settle.proofs.Goes.{idle_behind, if_err}
use Rattle.rec_play.proofs.There.{left_behind, there_behind}
use Rattle.rec_play.proofs.player.turn_collector.Goals as goal

pub returns-clause-stepped : goal.returns-clause-stepped
returns-clause-stepped g c = c.follow.ensures.stepped c.args.world.now c.in_ok-turn.ensures.turn

pub returns-in_err-turn-clause-seen : goal.returns-in_err-turn-clause-seen
returns-in_err-turn-clause-seen g c = IfOk-from_err c.from_residual.result _ c.from_residual.ensures.0

pub returns-in_err-turn-clause-stepped : goal.returns-in_err-turn-clause-stepped
returns-in_err-turn-clause-stepped g c = IfOk-from_err c.from_residual.result _ c.from_residual.ensures.0

pub returns-in_err-turn-clause-shown : goal.returns-in_err-turn-clause-shown
returns-in_err-turn-clause-shown g c = IfOk-from_err c.from_residual.result _ c.from_residual.ensures.0

pub returns-in_err-turn-clause-unshown : goal.returns-in_err-turn-clause-unshown
returns-in_err-turn-clause-unshown g c = if_err c.from_residual.result c.in_err-turn.ensures.unshown

pub returns-in_err-turn-clause-rose : goal.returns-in_err-turn-clause-rose
returns-in_err-turn-clause-rose g c = if_err c.from_residual.result c.in_err-turn.ensures.rose

pub returns-in_err-turn-clause-refused : goal.returns-in_err-turn-clause-refused
returns-in_err-turn-clause-refused g c = if_err c.from_residual.result c.in_err-turn.ensures.refused.1.turned

pub returns-in_err-turn-clause-requested : goal.returns-in_err-turn-clause-requested
returns-in_err-turn-clause-requested g c = c.in_err-turn.ensures.refused.1.requested

pub returns-in_err-turn-clause-never_falls : goal.returns-in_err-turn-clause-never_falls
returns-in_err-turn-clause-never_falls g c = c.turn_watched.ensures.never_falls

pub returns-in_err-turn-clause-kept : goal.returns-in_err-turn-clause-kept
returns-in_err-turn-clause-kept g c = c.turn_watched.ensures.kept

pub follow-requires : goal.follow-requires
follow-requires g c = record {
  few = c.requires.few;
  goes = record {
    config = c.in_ok-turn.ensures.turn.config ∙ c.requires.goes.config;
    idle = idle_behind c.args.world.now c.turn_watched.new.self c.in_ok-turn.turn c.in_ok-turn.ensures.turn c.requires.goes.idle;
    present = there_behind c.args.script.now c.args.made.now c.args.world.now c.turn_watched.new.self c.in_ok-turn.turn c.in_ok-turn.ensures.turn c.requires.goes.present;
  };
  awaited = λ t waits. (c.in_ok-turn.ensures.turn.awaited t waits, left_behind c.args.world.now c.turn_watched.new.self c.in_ok-turn.turn t c.in_ok-turn.ensures.turn ∙ c.in_ok-turn.ensures.turn.present t waits);
  kept = c.turn_watched.ensures.kept;
}

pub returns-clause-seen : goal.returns-clause-seen
returns-clause-seen g c = c.in_ok-turn.ensures.seen

pub returns-clause-shown : goal.returns-clause-shown
returns-clause-shown g c = c.in_ok-turn.ensures.shown

pub returns-clause-never_falls : goal.returns-clause-never_falls
returns-clause-never_falls g c = c.turn_watched.ensures.never_falls

pub returns-clause-requested : goal.returns-clause-requested
returns-clause-requested g c = omega (arith, c.follow.ensures.requested, c.in_ok-turn.ensures.turn.requested)

pub returns-clause-kept : goal.returns-clause-kept
returns-clause-kept g c = c.follow.ensures.kept

pub returns-in_err-turn-clause-goes : goal.returns-in_err-turn-clause-goes
returns-in_err-turn-clause-goes g c = record {
  config = c.in_err-turn.ensures.refused.1.config ∙ c.requires.goes.config;
  idle = idle_behind c.args.world.now c.turn_watched.new.self c.in_err-turn.ensures.refused.0 c.in_err-turn.ensures.refused.1 c.requires.goes.idle;
  present = there_behind c.args.script.now c.args.made.now c.args.world.now c.turn_watched.new.self c.in_err-turn.ensures.refused.0 c.in_err-turn.ensures.refused.1 c.requires.goes.present;
}

pub returns-clause-goes : goal.returns-clause-goes
returns-clause-goes g c = c.follow.ensures.goes

-- A turn of settling was made, or the watch refused it.
use Rattle.std.proofs.Common.{refl, ap, subst, sym, ◌∙◌, arith}
use Rattle.std.proofs.lemmas.Result.{IfOk-from_err}
use Rattle.rec_core.specs.Core.{Core}
use Rattle.rec_core.specs.Moves.{turned}
use Rattle.rec_core.specs.Shown.{turn_shown}
use Rattle.rec_core.specs.Turn.{step_seen}
use Rattle.rec_world.specs.World.{IsWorld}
use Rattle.rec_settle.specs.Collecting.{Anyone, AreIdle, HasStepped}
use Rattle.rec_settle.specs.Stages.{begun, stage_turned}
use Rattle.rec_settle.proofs.Coming.{offered_config}
use Rattle.rec_settle.proofs.Goes.{awaited_there, ended_goes, idle_behind, if_err, offered_idle, turn_goes}
use Rattle.rec_settle.proofs.turns.Settling.next_watched.Goals as goal

pub returns-clause-goes : goal.returns-clause-goes
returns-clause-goes g c =
    turn_goes c.args.self.now c.after.result c.args.world.now c.follow.new.world c.in_ok-turn.turn c.in_ok-turn.seen c.in_default.not-Settled (subst IsWorld c.offer.ensures.offered c.offer.ensures.kept) c.follow.ensures.kept
    (c.follow.ensures.config ∙ c.in_ok-turn.ensures.turn.config ∙ ap (λ (x : Core). x.config) c.offer.ensures.offered)
    (subst (λ (x : Core). HasStepped Anyone x c.in_ok-turn.turn c.follow.new.world) c.offer.ensures.offered (c.follow.ensures.stepped c.offer.new.world c.in_ok-turn.ensures.turn))
    (c.in_ok-turn.ensures.seen ∙ ap step_seen c.offer.ensures.offered)
    (c.after.ensures ∙ ap (λ s. stage_turned s c.in_ok-turn.turn c.epoch.result) c.offer.ensures.stage ∙ ap (stage_turned (begun c.args.self.now) c.in_ok-turn.turn) c.epoch.ensures.epoch)

pub returns-clause-shown : goal.returns-clause-shown
returns-clause-shown g c = subst (λ (x : Core). g.W.Watch.WasShown c.args.watch.now (turn_shown x) c.turn_watched.new.watch) c.offer.ensures.offered c.in_ok-turn.ensures.shown

pub returns-clause-config : goal.returns-clause-config
returns-clause-config g c = c.follow.ensures.config ∙ c.in_ok-turn.ensures.turn.config ∙ ap (λ (x : Core). x.config) c.offer.ensures.offered ∙ offered_config c.args.self.now c.args.world.now

pub returns-in_err-turn-clause-refused : goal.returns-in_err-turn-clause-refused
returns-in_err-turn-clause-refused g c =
    if_err c.from_residual.result (c.in_default.not-Settled, c.offer.ensures.stage, c.in_err-turn.ensures.refused.1.turned ∙ ap turned c.offer.ensures.offered)

pub returns-in_err-turn-clause-config : goal.returns-in_err-turn-clause-config
returns-in_err-turn-clause-config g c = c.in_err-turn.ensures.refused.1.config ∙ ap (λ (x : Core). x.config) c.offer.ensures.offered ∙ offered_config c.args.self.now c.args.world.now

pub returns-in_err-turn-clause-idle : goal.returns-in_err-turn-clause-idle
returns-in_err-turn-clause-idle g c = idle_behind c.offer.new.world c.turn_watched.new.self c.in_err-turn.ensures.refused.0 c.in_err-turn.ensures.refused.1 (subst AreIdle (sym c.offer.ensures.offered) (offered_idle c.args.self.now c.args.world.now c.requires.idle))

pub returns-in-Settled-clause-goes : goal.returns-in-Settled-clause-goes
returns-in-Settled-clause-goes g c = ended_goes c.args.self.now c.args.world.now c.in-Settled.is

pub returns-in-Settled-clause-shown : goal.returns-in-Settled-clause-shown
returns-in-Settled-clause-shown g c = g.met.W.Watch.none_shown c.args.watch.now

pub returns-in-Settled-clause-never_falls : goal.returns-in-Settled-clause-never_falls
returns-in-Settled-clause-never_falls g c = omega arith

pub returns-in-Settled-clause-idle : goal.returns-in-Settled-clause-idle
returns-in-Settled-clause-idle g c = c.requires.idle

pub returns-in-Settled-clause-config : goal.returns-in-Settled-clause-config
returns-in-Settled-clause-config g c = refl

pub returns-in-Settled-clause-kept : goal.returns-in-Settled-clause-kept
returns-in-Settled-clause-kept g c = c.epoch-epoch.ensures.kept

pub returns-in_err-turn-clause-goes : goal.returns-in_err-turn-clause-goes
returns-in_err-turn-clause-goes g c = IfOk-from_err c.from_residual.result _ c.from_residual.ensures.0

pub returns-in_err-turn-clause-shown : goal.returns-in_err-turn-clause-shown
returns-in_err-turn-clause-shown g c = IfOk-from_err c.from_residual.result _ c.from_residual.ensures.0

pub returns-in_err-turn-clause-unshown : goal.returns-in_err-turn-clause-unshown
returns-in_err-turn-clause-unshown g c = if_err c.from_residual.result c.in_err-turn.ensures.unshown

pub returns-in_err-turn-clause-rose : goal.returns-in_err-turn-clause-rose
returns-in_err-turn-clause-rose g c = if_err c.from_residual.result c.in_err-turn.ensures.rose

pub returns-in_err-turn-clause-never_falls : goal.returns-in_err-turn-clause-never_falls
returns-in_err-turn-clause-never_falls g c = c.turn_watched.ensures.never_falls

pub returns-in_err-turn-clause-kept : goal.returns-in_err-turn-clause-kept
returns-in_err-turn-clause-kept g c = c.turn_watched.ensures.kept

pub follow-requires : goal.follow-requires
follow-requires g c = record {
  idle = idle_behind c.offer.new.world c.turn_watched.new.self c.in_ok-turn.turn c.in_ok-turn.ensures.turn (subst AreIdle (sym c.offer.ensures.offered) (offered_idle c.args.self.now c.args.world.now c.requires.idle));
  awaited = awaited_there c.offer.new.world c.turn_watched.new.self c.in_ok-turn.turn c.in_ok-turn.ensures.turn;
  kept = c.turn_watched.ensures.kept;
}

pub returns-clause-never_falls : goal.returns-clause-never_falls
returns-clause-never_falls g c = c.turn_watched.ensures.never_falls

pub returns-clause-idle : goal.returns-clause-idle
returns-clause-idle g c = c.follow.ensures.idle

pub returns-clause-kept : goal.returns-clause-kept
returns-clause-kept g c = c.follow.ensures.kept

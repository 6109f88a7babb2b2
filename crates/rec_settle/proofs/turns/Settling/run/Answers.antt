-- Turns of settling up to one that waits or completes a collection.
use Rattle.std.proofs.Common.{◌^◌, ◌-◌, [], refl, ap, subst, ◌∙◌, arith}
use Rattle.rec_core.specs.Core.{Core}
use Rattle.rec_world.specs.Turning.{HasTurned}
use Rattle.rec_world.specs.World.{IsWorld}
use Rattle.rec_settle.specs.Shown.{Leads}
use Rattle.rec_settle.specs.Stages.{begun, stage_turned}
use Rattle.rec_settle.proofs.Goes.{awaited_there, idle_behind}
use Rattle.rec_settle.proofs.Runs.{Last, last_turn, run_told}
use Rattle.rec_settle.proofs.turns.Settling.run.Goals as goal
use Rattle.rec_settle.proofs.turns.Settling.run.Goals.{After-turns-turn}

pub returns-in-Settled-clause-gone : goal.returns-in-Settled-clause-gone
returns-in-Settled-clause-gone c = ([], record { leads = Leads.none; comes = λ first come. come; nearer = λ more. cc; ended = λ none. (c.in-Settled.is, refl, refl) })

-- the last of the turns
last : (c : After-turns-turn) → Last c.args.self.now c.args.world.now c.turns-turn.new.self c.turns-turn.result.1
last c =
    last_turn c.args.self.now c.args.world.now c.turns-turn.new.self c.turns-turn.result.0 (2 ^ 32 - 1) c.turns-turn.result.1 c.in_default.not-Settled c.requires.idle (subst IsWorld c.offer.ensures.offered c.offer.ensures.kept) (omega arith)
    c.turns-turn.ensures.all (subst (λ (x : Core). HasTurned x c.turns-turn.result.0 c.turns-turn.new.self c.turns-turn.result.1) c.offer.ensures.offered c.turns-turn.ensures.turned)

pub follow-requires : goal.follow-requires
follow-requires c =
    let l = last (goal.at.follow-requires c).After-turns-turn in
    record {
      idle = idle_behind l.u c.turns-turn.new.self c.turns-turn.result.1 l.turn l.at.idle;
      awaited = awaited_there l.u c.turns-turn.new.self c.turns-turn.result.1 l.turn;
      kept = c.turns-turn.ensures.kept;
    }

pub returns : goal.returns
returns c =
    let l = last (goal.at.returns c).After-turns-turn in
    let gone = run_told c.args.self.now c.args.world.now c.turns-turn.new.self c.follow.new.world c.turns-turn.result.1 c.after.result l (c.follow.ensures.stepped l.u l.turn) c.follow.ensures.kept c.follow.ensures.config
    (c.after.ensures ∙ ap (λ s. stage_turned s c.turns-turn.result.1 c.epoch.result) c.offer.ensures.stage ∙ ap (stage_turned (begun c.args.self.now) c.turns-turn.result.1) c.epoch.ensures.epoch) in
    record { gone = (gone.0, gone.1); idle = c.follow.ensures.idle; config = c.follow.ensures.config ∙ l.turn.config ∙ l.at.config; kept = c.follow.ensures.kept }

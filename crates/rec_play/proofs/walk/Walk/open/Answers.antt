-- The run at its opening.
use Rattle.std.proofs.Common.{◌≡◌, refl, ap, subst, ◌∙◌}
use Rattle.rec_mutator.specs.Private.{is_busy}
use Rattle.rec_core.specs.Config.{IsMutator}
use Rattle.rec_core.specs.Core.{Core, opened}
use Rattle.rec_play.specs.Numbers.{config_of}
use Rattle.rec_play.specs.Playing.{Rest, generator_of}
use Rattle.rec_play.specs.Watched.{Watched}
use Rattle.rec_play.specs.declared.stage.Stage.TheVariants.{Playing}
use Rattle.rec_play.proofs.Walks as walks
use Rattle.rec_play.proofs.walk.Walk.open.Goals as goal
use Rattle.rec_play.proofs.walk.Walk.open.Goals.{After-start}

opens : (c : After-start) → c.in_ok-world.world ≡ opened (config_of c.args.script.now)
opens c = c.in_ok-world.ensures.opened ∙ ap opened c.config_for.ensures.config

pub invariant_of-result : goal.invariant_of-result
invariant_of-result c =
    let w : Watched = record { script = c.start.result.script; rule = c.of.result.value; stage = Playing; rest = c.start.result.rest; made = c.start.result.made; world = c.in_ok-world.world } in
    walks.opens c.args.script.now c.args.seed c.args.turns w c.start.ensures.script refl
    (c.of.ensures ∙ c.new-rule.ensures ∙ ap (λ left. let r : Rest = record { left = left; generator = generator_of c.args.seed; turns = c.args.turns } in r) c.lengths_of.ensures.lengths)
    c.start.ensures.rest c.start.ensures.made (opens (goal.at.invariant_of-result c).After-start) c.start.ensures.due
    (λ t there. ap is_busy (c.in_ok-world.ensures.mutators t (subst (λ (x : Core). IsMutator x.config t) c.in_ok-world.ensures.opened there))) c.in_ok-world.ensures.kept

pub returns-clause-world : goal.returns-clause-world
returns-clause-world c = opens (goal.at.returns-clause-world c).After-start

pub returns-clause-watched : goal.returns-clause-watched
returns-clause-watched c = invariant_of-result (goal.at.returns-clause-watched c).After-start

-- The run before its first turn.
use Rattle.std.proofs.Common.{replicate, refl, ap, ◌∙◌}
use Rattle.rec_model.specs.declared.limits.TheConstants.{MOST_MUTATORS}
use Rattle.rec_play.specs.Moves.{Player}
use Rattle.rec_play.specs.Playing.{Rest, generator_of}
use Rattle.rec_play.proofs.Due.{due_first}
use Rattle.rec_play.proofs.player.Playing.start.Goals as goal
use Rattle.rec_play.proofs.player.Playing.start.Goals.{After-new}

pub invariant_of-result : goal.invariant_of-result
invariant_of-result c =
    let p : Player = record { script = c.args.script.now; rest = c.new.result; made = replicate MOST_MUTATORS 0 } in
    due_first c.args.script.now c.args.seed c.args.turns p c.lengths_of.ensures.valid refl
    (c.new.ensures ∙ ap (λ left. let r : Rest = record { left = left; generator = generator_of c.args.seed; turns = c.args.turns } in r) c.lengths_of.ensures.lengths) refl

pub returns-clause-due : goal.returns-clause-due
returns-clause-due c = invariant_of-result (goal.at.returns-clause-due c).After-new

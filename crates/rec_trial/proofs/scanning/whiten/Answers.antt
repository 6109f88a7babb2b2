-- The contract of `whiten`: makes every Gray slot White: all of them are marked.
use Rattle.rec_trial.proofs.Conditions.{all_white}
use Rattle.rec_trial.proofs.scanning.whiten.Goals as goal

pub returns : goal.returns
returns c =
    let white = c.whiten_marked.ensures in
    all_white c.args.counts.now c.whiten_marked.new.self c.requires.rules white.rest white.many white.slots

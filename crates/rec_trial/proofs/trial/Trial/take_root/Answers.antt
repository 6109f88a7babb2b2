-- The contract of `Trial::take_root`: the first root leaves the root buffer; where there is none, scanning begins.
use Rattle.std.proofs.Common.{◌∙◌, sym, refl}
use Rattle.rec_trial.proofs.Conditions.{root_range, root_unlisted}
use Rattle.rec_trial.proofs.trial.Trial.take_root.Goals as goal

pub drop_root-requires-clause-in_range : goal.drop_root-requires-clause-in_range
drop_root-requires-clause-in_range c = rw c.pop_root.ensures.rest (root_range c.args.counts.now c.rules.ensures c.args.counts.now.roots refl c.in-Some.slot (sym c.in-Some.is ∙ c.pop_root.ensures.first))

pub drop_root-requires-clause-unlisted : goal.drop_root-requires-clause-unlisted
drop_root-requires-clause-unlisted c = rw c.pop_root.ensures.rest (root_unlisted c.args.counts.now c.requires.unlisted c.args.counts.now.roots refl c.in-Some.slot (sym c.in-Some.is ∙ c.pop_root.ensures.first))

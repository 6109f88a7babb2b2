-- The contract of `rotate`: the first root has its turn.
use Rattle.std.proofs.Common.{◌∙◌, sym, ap, refl}
use Rattle.rec_counts.specs.Counts.{State}
use Rattle.rec_trial.specs.Postponed.{returned}
use Rattle.rec_trial.proofs.Conditions.{root_range, root_unlisted}
use Rattle.rec_trial.proofs.Postponed.{root_out, rotated_some}
use Rattle.rec_trial.proofs.postponing.rotate.Goals as goal

pub put_back-requires-clause-in_range : goal.put_back-requires-clause-in_range
put_back-requires-clause-in_range c = rw c.pop_root.ensures.rest (root_range c.args.counts.now c.rules.ensures c.args.counts.now.roots refl c.in-Some.slot (sym c.in-Some.is ∙ c.pop_root.ensures.first))

pub put_back-requires-clause-unbuffered : goal.put_back-requires-clause-unbuffered
put_back-requires-clause-unbuffered c = rw c.pop_root.ensures.rest (root_out c.args.counts.now c.rules.ensures c.args.counts.now.roots refl c.in-Some.slot (sym c.in-Some.is ∙ c.pop_root.ensures.first))

pub put_back-requires-clause-unlisted : goal.put_back-requires-clause-unlisted
put_back-requires-clause-unlisted c = rw c.pop_root.ensures.rest (root_unlisted c.args.counts.now c.requires c.args.counts.now.roots refl c.in-Some.slot (sym c.in-Some.is ∙ c.pop_root.ensures.first))

pub returns-in-Some : goal.returns-in-Some
returns-in-Some c = c.put_back.ensures ∙ ap (λ (s : State). returned s c.in-Some.slot) c.pop_root.ensures.rest ∙ rotated_some c.args.counts.now c.args.counts.now.roots c.in-Some.slot (sym c.in-Some.is ∙ c.pop_root.ensures.first)

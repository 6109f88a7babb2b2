-- The contract of `Prep::start`: begins to prepare the sets: each member of the first one has its true count as its cyclic count.
use Rattle.std.proofs.Common.{◌<◌, IfSome, [], sym, subst, ap}
use Rattle.rec_sigma.specs.declared.at.At.{At}
use Rattle.rec_sigma.specs.Prepare.{Next, work_of, started_of}
use Rattle.rec_sigma.specs.Prepared.{KeepsOthers}
use Rattle.rec_sigma.proofs.Runs.{came_first, next_set_is, next_set_others, Came}
use Rattle.rec_sigma.proofs.prepare.Prep.start.Goals as goal

pub invariant_of-self : goal.invariant_of-self
invariant_of-self c =
    (c.self.invariant.0, subst (λ (n : Next). IfSome n.at (λ (a : At). a.member.field < c.self.inside.fields)) (sym c.begin_next-self-inside.ensures) (next_set_is c.args.counts.now 0 c.self.inside.fields c.self.invariant.0).field)

pub returns : goal.returns
unfolding started_of
returns c =
    let b : Came c.self.inside.fields c.args.counts.now (work_of c.self.inside.fields (record { at = c.begin_next-self-inside.result; counts = c.begin_next-self-inside.new.counts })) [] =
    subst (λ (n : Next). Came c.self.inside.fields c.args.counts.now (work_of c.self.inside.fields n) []) (sym c.begin_next-self-inside.ensures) (came_first c.self.inside.fields c.args.counts.now c.self.invariant.0 c.rules.ensures.numbers) in
    record {
      started = rw (← c.self.view_is) (ap (work_of c.self.inside.fields) c.begin_next-self-inside.ensures);
      kept = b.work;
      others = subst (λ (n : Next). KeepsOthers c.args.counts.now n.counts) (sym c.begin_next-self-inside.ensures) (next_set_others c.args.counts.now 0);
      whole = b.law;
    }

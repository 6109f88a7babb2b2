-- The contract of `CycleFree::start`: begins to free set `set`, the last one: its members leave the cycle buffer, and are released and Black.
use Rattle.std.proofs.Common.{◌≡◌, [], get_or, refl, arith, ap, ◌∙◌}
use Rattle.rec_word.specs.Walk.{first_in}
use Rattle.rec_counts.specs.Counts.{State}
use Rattle.rec_counts.specs.Groups.{last_set}
use Rattle.rec_counts.proofs.Keeping.{last_new}
use Rattle.rec_release.specs.CycleFree.{started_of, work_of}
use Rattle.rec_release.proofs.Freeing.{came_first, Came}
use Rattle.rec_release.proofs.Giving.{given_many}
use Rattle.rec_release.proofs.Orange.{given_apart, given_orange, given_zeros}
use Rattle.rec_release.proofs.cycle_free.CycleFree.start.Goals as goal

first_is : (c : goal.After-first-1) → c.first-first.result ≡ first_in (last_set c.args.counts.now.sets)
first_is c = c.first-first.ensures.first ∙ ap first_in (c.set.ensures ∙ ap (λ i. get_or c.args.counts.now.sets i []) (omega (arith, c.requires.last)))

came : (c : goal.After-first-1) → Came c.self.inside.fields c.args.counts.now (work_of c.self.inside.fields (record { at = c.first-first.result; counts = c.give_up_set.new.self })) []
came c = rw (first_is c, c.give_up_set.ensures) (came_first c.self.inside.fields c.args.counts.now c.self.invariant.0 c.rules.ensures c.requires.freeable)

pub give_up_set-requires-clause-new : goal.give_up_set-requires-clause-new
give_up_set-requires-clause-new c = last_new c.args.counts.now c.requires.freeable.work c.rules.ensures

pub invariant_of-self : goal.invariant_of-self
invariant_of-self c = (c.self.invariant.0, (came c).work.field)

pub returns : goal.returns
unfolding started_of
returns c =
    let s : State = c.args.counts.now in
    record {
      started = rw (← c.self.view_is, first_is c, c.give_up_set.ensures) refl;
      kept = (came c).work;
      slots = rw c.give_up_set.ensures (given_many s);
      sets = rw c.give_up_set.ensures refl;
      all_but_orange = rw c.give_up_set.ensures (given_zeros s);
      apart = rw c.give_up_set.ensures (given_apart s c.rules.ensures c.requires.freeable);
      orange = rw c.give_up_set.ensures (given_orange s c.rules.ensures);
      whole = (came c).law;
    }

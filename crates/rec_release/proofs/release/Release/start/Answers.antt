-- The contract of `Release::start`: begins to release the zeros, as far as no field is due: the first of them is released, and each Green one before the first that isn't.
use Rattle.std.proofs.Common.{◌≡◌, ◌∙◌, ℕ, Bool, true, IsNone, [], refl, sym, subst}
use Rattle.rec_counts.specs.Counts.{State}
use Rattle.rec_release.specs.Release.{Work, next_of, started_of, with_next, IsAtWork}
use Rattle.rec_release.specs.Released.{Released}
use Rattle.rec_release.proofs.Keeping.{next_field, none_left, work_next}
use Rattle.rec_release.specs.TakenOff.{Keeps}
use Rattle.rec_release.proofs.Orange.{keeps_orange, next_keeps}
use Rattle.rec_release.proofs.Runs.{at_work, came_first}
use Rattle.rec_release.proofs.release.Release.start.Goals as goal

pub invariant_of-self : goal.invariant_of-self
invariant_of-self c = (c.self.invariant.0, next_field c.self.inside.fields c.args.counts.now c.release_next-self-inside.result c.release_next-self-inside.ensures.first c.self.invariant.0)

pub returns : goal.returns
unfolding started_of
returns c =
    let f : ℕ = c.self.inside.fields in
    let b : Bool = c.args.lowers in
    let s : State = c.args.counts.now in
    let e : at_work f b c.release_next-self-inside.result c.release_next-self-inside.new.counts ≡ with_next f b s = rw (c.release_next-self-inside.ensures.first, c.release_next-self-inside.ensures.released) refl in
    let n = came_first f b s c.self.invariant.0 c.requires.ready in
    let k : (l : Bool) → Keeps l s c.release_next-self-inside.new.counts = λ l. rw c.release_next-self-inside.ensures.released (next_keeps l s c.requires.ready) in
    record {
      started = rw (← c.self.view_is) e;
      kept = subst (λ (v : Work). IsAtWork v.machine v.counts) (sym e) (work_next f b s c.self.invariant.0 c.requires.ready);
      lowers = refl;
      done = subst (λ (v : Work). IsNone (next_of v.machine) → v.counts.zeros ≡ []) (sym e) (none_left f b s);
      keeps = k;
      orange = keeps_orange (k true) refl;
      whole = (n.slots, subst (λ (v : Work). Released f s v.machine.at v.counts [] [] n.slots) (sym (e ∙ n.is)) n.law);
    }

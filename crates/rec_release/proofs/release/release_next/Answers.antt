-- The contract of `release_next`: the first of the zeros is released, and its first field is due.
use Rattle.std.proofs.Common.{◌≡◌, ◌<◌, ℕ, List, [], ◌∷◌, None, Some, false, length, refl, sym, subst, ap, ◌∙◌}
use Rattle.rec_counts.specs.Counts.{State, slot_at}
use Rattle.rec_release.specs.declared.at.At.{At}
use Rattle.rec_release.specs.Release.{Next, first_of, next_from, without_first}
use Rattle.rec_release.proofs.Keeping.{FirstOut, OnTheWay, first_out}
use Rattle.rec_release.proofs.release.release_next.Goals as goal
use Rattle.rec_counts.specs.Colour.{is_green}

-- the first of the zeros, as it left them
left : (before s t : State) (a : At) → OnTheWay before s → first_of s.zeros ≡ Some a → t ≡ without_first s.zeros s → FirstOut s t a
left before s t a way was is = subst (λ (u : State). FirstOut s u a) (sym is) (first_out s a was way.ready)

-- one that is not Green comes next
comes : (before s t : State) (a : At) → OnTheWay before s → first_of s.zeros ≡ Some a → t ≡ without_first s.zeros s → is_green (slot_at t a.slot).colour ≡ false → record { at = Some a; counts = t } ≡ next_from before.zeros before
comes before s t a way was is other = (left before s t a way was is).other other ∙ way.same

-- nothing comes where there are no zeros
stops : (zs : List ℕ) (s t : State) → first_of zs ≡ None → t ≡ without_first zs s → record { at = None; counts = t } ≡ next_from zs s
stops [] s t none is = ap (λ (u : State). record { at = None; counts = u }) is
stops (z ∷ zs) s t none is = cc

pub loop-at-init : goal.loop-at-init
loop-at-init c = record { ready = c.requires.ready; same = refl }

pub colour-requires : goal.colour-requires
colour-requires c = (left c.args.counts.now c.loop-at.counts c.release_first.new.counts c.in-Some.at c.loop-at.invariant (sym c.release_first.ensures.first ∙ c.in-Some.is) c.release_first.ensures.released).in_range

pub returns-then-not-is_green-clause-first : goal.returns-then-not-is_green-clause-first
returns-then-not-is_green-clause-first c =
    ap (λ (n : Next). n.at) (comes c.args.counts.now c.loop-at.counts c.release_first.new.counts c.in-Some.at c.loop-at.invariant (sym c.release_first.ensures.first ∙ c.in-Some.is) c.release_first.ensures.released
    (ap is_green (sym c.colour.ensures) ∙ sym c.is_green.ensures ∙ c.if-not-is_green.true))

pub returns-then-not-is_green-clause-released : goal.returns-then-not-is_green-clause-released
returns-then-not-is_green-clause-released c =
    ap (λ (n : Next). n.counts) (comes c.args.counts.now c.loop-at.counts c.release_first.new.counts c.in-Some.at c.loop-at.invariant (sym c.release_first.ensures.first ∙ c.in-Some.is) c.release_first.ensures.released
    (ap is_green (sym c.colour.ensures) ∙ sym c.is_green.ensures ∙ c.if-not-is_green.true))

pub empty-requires-clause-in_range : goal.empty-requires-clause-in_range
empty-requires-clause-in_range c = (left c.args.counts.now c.loop-at.counts c.release_first.new.counts c.in-Some.at c.loop-at.invariant (sym c.release_first.ensures.first ∙ c.in-Some.is) c.release_first.ensures.released).in_range

pub empty-requires-clause-unlisted : goal.empty-requires-clause-unlisted
empty-requires-clause-unlisted c = (left c.args.counts.now c.loop-at.counts c.release_first.new.counts c.in-Some.at c.loop-at.invariant (sym c.release_first.ensures.first ∙ c.in-Some.is) c.release_first.ensures.released).unlisted

pub loop-at-preserved : goal.loop-at-preserved
loop-at-preserved c =
    let out = left c.args.counts.now c.loop-at.counts c.release_first.new.counts c.in-Some.at c.loop-at.invariant (sym c.release_first.ensures.first ∙ c.in-Some.is) c.release_first.ensures.released in
    subst (OnTheWay c.args.counts.now) (sym c.empty.ensures) (record { ready = out.ready; same = out.green (ap is_green (sym c.colour.ensures) ∙ (sym c.is_green.ensures ∙ c.if-not-is_green.false)) ∙ c.loop-at.invariant.same })

pub loop-at-smaller : goal.loop-at-smaller
loop-at-smaller c =
    let out = left c.args.counts.now c.loop-at.counts c.release_first.new.counts c.in-Some.at c.loop-at.invariant (sym c.release_first.ensures.first ∙ c.in-Some.is) c.release_first.ensures.released in
    subst (λ (u : State). length u.zeros < length c.loop-at.counts.zeros) (sym c.empty.ensures) out.zeros

pub returns-clause-first : goal.returns-clause-first
returns-clause-first c =
    ap (λ (n : Next). n.at) (stops c.loop-at.counts.zeros c.loop-at.counts c.release_first.new.counts (sym c.release_first.ensures.first ∙ c.in_default.is) c.release_first.ensures.released ∙ c.loop-at.invariant.same)

pub returns-clause-released : goal.returns-clause-released
returns-clause-released c =
    ap (λ (n : Next). n.counts) (stops c.loop-at.counts.zeros c.loop-at.counts c.release_first.new.counts (sym c.release_first.ensures.first ∙ c.in_default.is) c.release_first.ensures.released ∙ c.loop-at.invariant.same)

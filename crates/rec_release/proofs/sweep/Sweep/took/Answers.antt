-- The contract of `Sweep::took`: learns that the header is freed: the slot leaves the free list with one reference, Black and not released.
use Rattle.std.proofs.Common.{◌≡◌, ◌<◌, Some, length, slice_get, arith, rules, sym, ap, ◌∙◌}
use Rattle.rec_counts.specs.Counts.{State, slot_at}
use Rattle.rec_counts.proofs.Front.{first_in}
use Rattle.rec_counts.proofs.Times.{in_range_once}
use Rattle.rec_release.proofs.Sweeping.{unbuffered_rest, unbuffered_swept}
use Rattle.rec_release.proofs.sweep.Sweep.took.Goals as goal
use Rattle.rec_release.proofs.sweep.Sweep.took.Goals.{in-Some, in_default}

pub swept-requires-clause-in_range : goal.swept-requires-clause-in_range
swept-requires-clause-in_range c =
    let e : slice_get c.args.counts.now.free 0 ≡ Some c.in-Some.slot = sym c.in-Some.ensures.first in
    let l : c.in-Some.slot < length c.args.counts.now.slots = in_range_once _ _ _ c.rules.ensures.free_once (first_in _ _ e) in
    omega (arith, l, ap (λ (s : State). length s.slots) c.pop_free.ensures.rest)

pub swept-requires-clause-unbuffered : goal.swept-requires-clause-unbuffered
swept-requires-clause-unbuffered c = ap (λ (s : State). (slot_at s c.in-Some.slot).buffered) c.pop_free.ensures.rest ∙ c.requires.kept.unbuffered c.in-Some.slot (first_in _ _ (sym c.in-Some.ensures.first))

pub returns-clause-kept : goal.returns-clause-kept
returns-clause-kept c = record {
  first = search rules;
  unbuffered = elim c.match-pop_free.branch [
    | in-Some w ↦ rw (w.counts-is, w.swept.ensures, c.pop_free.ensures.rest) (unbuffered_swept c.args.counts.now w.in-Some.slot c.requires.kept.unbuffered)
    | in_default w ↦ rw (w.counts-is, c.pop_free.ensures.rest) (unbuffered_rest c.args.counts.now c.requires.kept.unbuffered)
  ];
}

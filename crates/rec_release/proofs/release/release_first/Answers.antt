-- The contract of `release_first`: the first of the zeros leaves them and is released; None where there are no zeros.
use Rattle.std.proofs.Common.{◌≡◌, ◌<◌, Some, length, slice_get, arith, sym, ap, ◌∙◌}
use Rattle.rec_counts.specs.Counts.{State}
use Rattle.rec_counts.proofs.Front.{first_in}
use Rattle.rec_counts.proofs.Times.{in_range_once}
use Rattle.rec_release.proofs.release.release_first.Goals as goal

pub release-requires : goal.release-requires
release-requires c =
    let e : slice_get c.args.counts.now.zeros 0 ≡ Some c.in_ok-slot.slot = sym c.pop_zero.ensures.first ∙ c.in_ok-slot.was in
    let l : c.in_ok-slot.slot < length c.args.counts.now.slots = in_range_once _ _ _ c.rules.ensures.zeros_once (first_in _ _ e) in
    omega (arith, l, ap (λ (s : State). length s.slots) c.pop_zero.ensures.rest)

-- The contract of `Touched::open`: nothing is told of so many slots.
use Rattle.std.proofs.Common.{◌≡◌, replicate, refl, rules}
use Rattle.rec_counts.specs.declared.touched.Mark.TheVariants.{Untouched}
use Rattle.rec_counts.proofs.Marking.{listed_open}
use Rattle.rec_counts.proofs.touched.Touched.open.Goals as goal

pub invariant_of-result : goal.invariant_of-result
invariant_of-result c =
    let e : c.in_ok-vec.field-0.items ≡ replicate c.args.slots Untouched = search rules in
    rw (c.in_ok-open.ensures, c.in_ok-open-2.ensures, e) (listed_open c.args.slots _ _ refl refl)

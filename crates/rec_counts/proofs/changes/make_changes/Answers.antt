-- The contract of `make_changes`: the changes are told, and each slot that they touch is settled.
use Rattle.std.proofs.Common.{ℕ, ◌++◌, List, arith, sym, ap, ◌∙◌}
use Rattle.rec_counts.specs.Batched.{is_root, is_zero}
use Rattle.rec_counts.specs.Shelf.{Shelf}
use Rattle.rec_counts.specs.Slot.{settled_due}
use Rattle.rec_counts.proofs.ToldSlots.{told_list, told_open, told_slots}
use Rattle.rec_counts.proofs.changes.make_changes.Goals as goal

pub settle-requires-clause-marked : goal.settle-requires-clause-marked
settle-requires-clause-marked g c =
    let k = c.tell.ensures c.args.slots.now (told_open c.args.slots.now c.args.touched.now c.requires.untouched (λ x. omega (arith, c.requires.fits x))) in
    k.marked ∙ sym k.many

pub returns-clause-slots : goal.returns-clause-slots
returns-clause-slots g c =
    let k = c.tell.ensures c.args.slots.now (told_open c.args.slots.now c.args.touched.now c.requires.untouched (λ x. omega (arith, c.requires.fits x))) in
    told_slots k c.requires.fits c.requires.covered c.settle.new.slots c.settle.auto.slots c.settle.ensures.slots

pub returns-clause-roots : goal.returns-clause-roots
returns-clause-roots g c =
    let k = c.tell.ensures c.args.slots.now (told_open c.args.slots.now c.args.touched.now c.requires.untouched (λ x. omega (arith, c.requires.fits x))) in
    c.settle.ensures.roots ∙ ap {A = List ℕ} {B = Shelf} (λ xs. record c.args.roots.now { list = c.args.roots.now.list ++ xs }) (told_list k c.requires.fits c.requires.covered (λ v. is_root (settled_due v)))

pub returns-clause-zeros : goal.returns-clause-zeros
returns-clause-zeros g c =
    let k = c.tell.ensures c.args.slots.now (told_open c.args.slots.now c.args.touched.now c.requires.untouched (λ x. omega (arith, c.requires.fits x))) in
    c.settle.ensures.zeros ∙ ap {A = List ℕ} {B = Shelf} (λ xs. record c.args.zeros.now { list = c.args.zeros.now.list ++ xs }) (told_list k c.requires.fits c.requires.covered (λ v. is_zero (settled_due v)))

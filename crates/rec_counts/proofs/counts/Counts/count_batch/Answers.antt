-- The contract of `Counts::count_batch`: counts the changes of all slots in one go.
use Rattle.std.proofs.Common.{◌≡◌, ◌≤◌, ◌++◌, [], length, take, drop, refl, arith, ◌∙◌}
use Rattle.rec_counts.specs.Counts.{State}
use Rattle.std.proofs.lemmas.List.{take_at}
use Rattle.rec_counts.proofs.Batching.{as_many, batched_kept}
use Rattle.rec_counts.proofs.Keeping.{roots_once}
use Rattle.rec_counts.proofs.Lessening.{room_kept}
use Rattle.rec_counts.proofs.Times.{length-once}
use Rattle.rec_counts.proofs.counts.Counts.count_batch.Goals as goal

pub make_changes-requires : goal.make_changes-requires
make_changes-requires g c =
    let roots : length c.self.inside.roots.list ≤ length c.self.inside.slots.items = length-once _ _ (roots_once c.self.invariant.0) in
    let zeros : length c.self.inside.zeros.list ≤ length c.self.inside.slots.items = length-once _ _ c.self.invariant.0.zeros_once in
    rw c.deref_mut.ensures.value (record {
      told = rw (← c.self.view_is) at c.requires.told;
      fits = rw (← c.self.view_is) at c.requires.fits;
      covered = rw (← c.self.view_is) at c.requires.covered;
      untouched = c.self.invariant.1.none_touched;
      roots_room = omega (arith, roots, c.self.invariant.1.roots_room);
      zeros_room = omega (arith, zeros, c.self.invariant.1.zeros_room);
    })

pub invariant_of-self : goal.invariant_of-self
invariant_of-self g c =
    let s : State = record { slots = c.self.inside.slots.items; roots = c.self.inside.roots.list; sets = c.self.inside.sets.sets; marked = c.self.inside.marked.list; work = c.self.inside.work.list; zeros = c.self.inside.zeros.list; free = c.self.inside.free.list } in
    let whole : take c.self.inside.slots.len (c.make_changes.new.slots ++ drop (length c.make_changes.new.slots) c.self.inside.slots.items) ≡ c.make_changes.new.slots = take_at _ _ _ (c.make_changes.auto.slots ∙ c.deref_mut.ensures.len) in
    let none : c.self.inside.zeros.list ≡ [] = rw (← c.self.view_is) at c.requires.zeros in
    rw (whole, c.make_changes.ensures.slots, c.make_changes.ensures.roots, c.make_changes.ensures.zeros, c.make_changes.ensures.touched, c.deref_mut.ensures.value, ← c.self.invariant.1.none_touched)
    (batched_kept s (g.C.Changes.born c.args.changes.now) (g.C.Changes.added c.args.changes.now) (g.C.Changes.taken c.args.changes.now) none c.self.invariant.0, room_kept c.self.invariant.1 (as_many s (g.C.Changes.born c.args.changes.now) (g.C.Changes.added c.args.changes.now) (g.C.Changes.taken c.args.changes.now)))

pub returns : goal.returns
returns g c =
    let whole : take c.self.inside.slots.len (c.make_changes.new.slots ++ drop (length c.make_changes.new.slots) c.self.inside.slots.items) ≡ c.make_changes.new.slots = take_at _ _ _ (c.make_changes.auto.slots ∙ c.deref_mut.ensures.len) in
    rw (← c.self.view_is, whole, c.make_changes.ensures.slots, c.make_changes.ensures.roots, c.make_changes.ensures.zeros, c.deref_mut.ensures.value) refl

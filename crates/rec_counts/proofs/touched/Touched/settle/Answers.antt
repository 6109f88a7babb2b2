-- The contract of `Touched::settle`: settles each slot that was touched, and forgets that it was.
use Rattle.std.proofs.Common.{◌≡◌, ◌++◌, List, length, take, drop, get_or, refl, ap, ◌∙◌}
use Rattle.std.proofs.lemmas.List.{take_at}
use Rattle.rec_counts.specs.declared.touched.Mark.{Mark}
use Rattle.rec_counts.specs.Slot.{absent}
use Rattle.rec_counts.specs.Touched.{mark_at, settled_at}
use Rattle.rec_counts.proofs.Marking.{listed_at, listed_open}
use Rattle.rec_counts.proofs.touched.Touched.settle.Goals as goal

pub settle_touched-requires-clause-listed : goal.settle_touched-requires-clause-listed
settle_touched-requires-clause-listed c =
    let many : length c.self.inside.marks.items ≡ length c.args.slots.now = rw (← c.self.view_is) at c.requires.marked in
    rw (c.deref_mut.ensures.value, c.as_slice-added.ensures, c.as_slice-taken.ensures) (listed_at c.self.invariant many)

pub invariant_of-self : goal.invariant_of-self
invariant_of-self c =
    let many : length c.self.inside.marks.items ≡ length c.args.slots.now = rw (← c.self.view_is) at c.requires.marked in
    let whole : take c.self.inside.marks.len (c.settle_touched.new.marks ++ drop (length c.settle_touched.new.marks) c.self.inside.marks.items) ≡ c.settle_touched.new.marks = take_at _ _ _ (c.settle_touched.auto.marks ∙ c.deref_mut.ensures.len) in
    rw (whole, c.settle_touched.ensures.marks, c.truncate.ensures, c.truncate-2.ensures) (listed_open _ _ _ (c.self.invariant.added_rooms ∙ many) (c.self.invariant.taken_rooms ∙ many))

pub returns-clause-forgotten : goal.returns-clause-forgotten
returns-clause-forgotten c =
    let whole : take c.self.inside.marks.len (c.settle_touched.new.marks ++ drop (length c.settle_touched.new.marks) c.self.inside.marks.items) ≡ c.settle_touched.new.marks = take_at _ _ _ (c.settle_touched.auto.marks ∙ c.deref_mut.ensures.len) in
    rw (whole, c.settle_touched.ensures.marks, c.truncate.ensures) refl

pub returns-clause-slots : goal.returns-clause-slots
returns-clause-slots c = rw (← c.self.view_is) (λ x. c.settle_touched.ensures.slots x ∙ ap (λ (marks : List Mark). settled_at (mark_at marks x) (get_or c.args.slots.now x absent)) c.deref_mut.ensures.value)

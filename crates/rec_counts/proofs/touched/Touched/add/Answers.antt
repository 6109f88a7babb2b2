-- The contract of `Touched::add`: there is one reference to `slot` more.
use Rattle.std.proofs.Common.{◌≡◌, ◌<◌, length, sym, ◌∙◌}
use Rattle.std.proofs.lemmas.List.{get_or_read}
use Rattle.rec_counts.specs.declared.touched.Mark.TheVariants.{Untouched}
use Rattle.rec_counts.specs.Touched.{mark_at}
use Rattle.rec_counts.proofs.Marking.{added_room_more, listed_added}
use Rattle.rec_counts.proofs.touched.Touched.add.Goals as goal

pub push-requires : goal.push-requires
push-requires c =
    let l : c.args.slot < length c.self.inside.marks.items = rw (← c.self.view_is) at c.requires.marked in
    let u : mark_at c.self.inside.marks.items c.args.slot ≡ Untouched = sym (get_or_read _ _ _ l c.index.ensures Untouched) ∙ c.in-Untouched.is in
    added_room_more c.self.invariant c.args.slot l u

pub invariant_of-self : goal.invariant_of-self
invariant_of-self c =
    let l : c.args.slot < length c.self.inside.marks.items = rw (← c.self.view_is) at c.requires.marked in
    let u : mark_at c.self.inside.marks.items c.args.slot ≡ Untouched = sym (get_or_read _ _ _ l c.index.ensures Untouched) ∙ c.in-Untouched.is in
    rw c.push.ensures (listed_added c.self.invariant c.args.slot l u)

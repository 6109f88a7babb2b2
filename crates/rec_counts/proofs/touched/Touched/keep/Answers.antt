-- The contract of `Touched::keep`: there is one reference to `slot` less and one more.
use Rattle.std.proofs.Common.{◌≡◌, ◌<◌, false, length, ap, sym, ◌∙◌, refl}
use Rattle.std.proofs.lemmas.List.{get_or_read}
use Rattle.rec_counts.specs.declared.touched.Mark.{Mark}
use Rattle.rec_counts.specs.declared.touched.Mark.TheVariants.{Untouched, Added, Taken}
use Rattle.rec_counts.specs.Touched.{is_taken, mark_at}
use Rattle.rec_counts.proofs.Marking.{taken_room_more, listed_taken}
use Rattle.rec_counts.proofs.touched.Touched.keep.Goals as goal

not_taken : (m : Mark) → (m ≡ Taken → ⊥) → is_taken m ≡ false
not_taken Taken n = absurd (n refl)
not_taken Added n = refl
not_taken Untouched n = refl

pub push-requires : goal.push-requires
push-requires c =
    let l : c.args.slot < length c.self.inside.marks.items = rw (← c.self.view_is) at c.requires in
    let u : is_taken (mark_at c.self.inside.marks.items c.args.slot) ≡ false = ap is_taken (sym (get_or_read _ _ _ l c.index.ensures Untouched)) ∙ not_taken c.index.result.now c.in_default.not-Taken in
    taken_room_more c.self.invariant c.args.slot l u

pub invariant_of-self : goal.invariant_of-self
invariant_of-self c =
    let l : c.args.slot < length c.self.inside.marks.items = rw (← c.self.view_is) at c.requires in
    let u : is_taken (mark_at c.self.inside.marks.items c.args.slot) ≡ false = ap is_taken (sym (get_or_read _ _ _ l c.index.ensures Untouched)) ∙ not_taken c.index.result.now c.in_default.not-Taken in
    rw c.push.ensures (listed_taken c.self.invariant c.args.slot l u)

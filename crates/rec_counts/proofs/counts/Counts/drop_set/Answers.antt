-- The contract of `Counts::drop_set`: takes the last set out of the cycle buffer.
use Rattle.std.proofs.Common.{◌≡◌, ℕ, ◌+◌, ◌-◌, ◌<◌, ◌≤◌, ◌++◌, length, map, take, drop, arith, refl, ◌∙◌}
use Rattle.std.proofs.lemmas.List.{take_at, length-map}
use Rattle.rec_counts.specs.Slot.{out_of_set, unbuffered_if}
use Rattle.rec_counts.specs.Groups.{last_set}
use Rattle.rec_counts.specs.Lists.{times}
use Rattle.rec_counts.proofs.Keeping.{keep_drop}
use Rattle.rec_counts.proofs.Leaving.{set_changed, work_room}
use Rattle.rec_counts.proofs.Lessening.{room_kept}
use Rattle.rec_counts.proofs.counts.Counts.drop_set.Goals as goal

pub push_all-requires : goal.push_all-requires
push_all-requires c =
    let some : 0 < length c.self.inside.sets.sets = rw (← c.self.view_is) at c.requires.some in
    let new : (x : ℕ) → times x c.self.inside.work.list + times x (last_set c.self.inside.sets.sets) ≤ 1 = rw (← c.self.view_is) at c.requires.new in
    let members : c.last-members.result.now ≡ last_set c.self.inside.sets.sets = c.last-members.ensures in
    rw members (omega (arith, work_room c.self.invariant.0 some new, c.self.invariant.1.work_room))

pub invariant_of-self : goal.invariant_of-self
invariant_of-self c =
    let some : 0 < length c.self.inside.sets.sets = rw (← c.self.view_is) at c.requires.some in
    let new : (x : ℕ) → times x c.self.inside.work.list + times x (last_set c.self.inside.sets.sets) ≤ 1 = rw (← c.self.view_is) at c.requires.new in
    let members : c.last-members.result.now ≡ last_set c.self.inside.sets.sets = c.last-members.ensures in
    let whole : take c.self.inside.slots.len (c.unbuffer.new.slots ++ drop (length c.unbuffer.new.slots) c.self.inside.slots.items) ≡ c.unbuffer.new.slots = take_at _ _ _ (c.unbuffer.auto.slots ∙ c.deref_mut.ensures.len) in
    let left : c.unbuffer.new.slots ≡ map (out_of_set (length c.self.inside.sets.sets - 1)) c.self.inside.slots.items = set_changed unbuffered_if c.self.invariant.0 c.deref_mut.result.now c.unbuffer.new.slots c.last-members.result.now c.deref_mut.ensures.value members c.unbuffer.auto.slots c.unbuffer.ensures in
    rw (whole, left, c.drop_last.ensures, c.push_all.ensures, members) (keep_drop c.self.invariant.0 some new, room_kept c.self.invariant.1 (length-map c.self.inside.slots.items (out_of_set (length c.self.inside.sets.sets - 1))))

pub returns : goal.returns
returns c =
    let members : c.last-members.result.now ≡ last_set c.self.inside.sets.sets = c.last-members.ensures in
    let whole : take c.self.inside.slots.len (c.unbuffer.new.slots ++ drop (length c.unbuffer.new.slots) c.self.inside.slots.items) ≡ c.unbuffer.new.slots = take_at _ _ _ (c.unbuffer.auto.slots ∙ c.deref_mut.ensures.len) in
    let left : c.unbuffer.new.slots ≡ map (out_of_set (length c.self.inside.sets.sets - 1)) c.self.inside.slots.items = set_changed unbuffered_if c.self.invariant.0 c.deref_mut.result.now c.unbuffer.new.slots c.last-members.result.now c.deref_mut.ensures.value members c.unbuffer.auto.slots c.unbuffer.ensures in
    rw (← c.self.view_is, c.drop_last.ensures, c.push_all.ensures, whole, left, members) refl

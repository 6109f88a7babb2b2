-- The contract of `CycleBuffer::drop_last`: takes out the last set.
use Rattle.std.proofs.Common.{◌≡◌, ℕ, ◌-◌, ◌<◌, List, length, take, get_or, refl, arith}
use Rattle.std.proofs.lemmas.List.{length-take-le}
use Rattle.rec_counts.specs.Groups.{Groups, parts_at, IsRising, IsGrouped, earlier_sets}
use Rattle.rec_counts.proofs.Parts as parts
use Rattle.rec_counts.proofs.cycle_buffer.CycleBuffer.drop_last.Goals as goal

pub truncate-requires : goal.truncate-requires
truncate-requires c =
    let some : 0 < length (parts_at c.self.inside.starts.list c.self.inside.members.list) = rw (← c.self.view_is) at c.requires in
    rw (c.as_slice.ensures, c.len-last.ensures) (parts.last_within _ _ (omega (arith, parts.length-parts c.self.inside.starts.list c.self.inside.members.list)) c.self.invariant.rising)

dropped : (starts members : List ℕ) (r r' : ℕ) → 0 < length starts → IsGrouped starts members r r' → IsGrouped (take (length starts - 1) starts) (take (get_or starts (length starts - 1) 0) members) r r'
dropped starts members r r' s g =
    let e : length (take (get_or starts (length starts - 1) 0) members) ≡ get_or starts (length starts - 1) 0 = length-take-le _ members (parts.last_within starts _ s g.rising) in
    record { rising = rw e (parts.rising_front starts _ s g.rising); from_front = rw e (parts.first_of_front starts (length members) s g.from_front); within = omega (arith, parts.last_within starts (length members) s g.rising, g.within); rooms = g.rooms; small = g.small }

pub invariant_of-self : goal.invariant_of-self
invariant_of-self c =
    let some : 0 < length (parts_at c.self.inside.starts.list c.self.inside.members.list) = rw (← c.self.view_is) at c.requires in
    rw (c.truncate.ensures, c.truncate-2.ensures, c.as_slice.ensures, c.len-last.ensures) (dropped _ _ _ _ (omega (arith, parts.length-parts c.self.inside.starts.list c.self.inside.members.list)) c.self.invariant)

sets_dropped : (starts members : List ℕ) (r : ℕ) → 0 < length starts → IsRising starts (length members) → (let g : Groups = record { sets = parts_at (take (length starts - 1) starts) (take (get_or starts (length starts - 1) 0) members); room = r } in g) ≡ record { sets = earlier_sets (parts_at starts members); room = r }
sets_dropped starts members r s h = rw (parts.parts_drop starts members s h) refl

pub returns : goal.returns
returns c =
    let some : 0 < length (parts_at c.self.inside.starts.list c.self.inside.members.list) = rw (← c.self.view_is) at c.requires in
    rw (c.truncate.ensures, c.truncate-2.ensures, c.as_slice.ensures, c.len-last.ensures, ← c.self.view_is) (sets_dropped _ _ _ (omega (arith, parts.length-parts c.self.inside.starts.list c.self.inside.members.list)) c.self.invariant.rising)

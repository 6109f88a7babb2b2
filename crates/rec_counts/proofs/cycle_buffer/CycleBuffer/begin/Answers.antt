-- The contract of `CycleBuffer::begin`: begins a set without members.
use Rattle.std.proofs.Common.{◌≡◌, ℕ, ◌<◌, List, [], ◌∷◌, ◌++◌, length, refl, arith}
use Rattle.rec_counts.specs.Groups.{Groups, parts_at, IsGrouped}
use Rattle.rec_counts.proofs.Parts as parts
use Rattle.rec_counts.proofs.cycle_buffer.CycleBuffer.begin.Goals as goal

pub overflow_cast-start : goal.overflow_cast-start
overflow_cast-start c = rw c.len-start.ensures (omega (arith, c.self.invariant))

pub push-requires : goal.push-requires
push-requires c =
    let few : length (parts_at c.self.inside.starts.list c.self.inside.members.list) < c.self.inside.members.room = rw (← c.self.view_is) at c.requires in
    omega (arith, parts.length-parts c.self.inside.starts.list c.self.inside.members.list, c.self.invariant)

begun : (starts members : List ℕ) (r r' n : ℕ) → n ≡ length members → IsGrouped starts members r r' → IsGrouped (starts ++ n ∷ []) members r r'
begun starts members r r' n e g = rw e (record { rising = parts.rising_begin starts (length members) g.rising; from_front = parts.first_begin starts (length members) g.from_front; within = g.within; rooms = g.rooms; small = g.small })

pub invariant_of-self : goal.invariant_of-self
invariant_of-self c = rw c.push.ensures (begun _ _ _ _ _ c.len-start.ensures c.self.invariant)

sets_begun : (starts members : List ℕ) (n r : ℕ) → n ≡ length members → (let g : Groups = record { sets = parts_at (starts ++ n ∷ []) members; room = r } in g) ≡ record { sets = parts_at starts members ++ [] ∷ []; room = r }
sets_begun starts members n r e = rw (e, parts.parts_begin starts members) refl

pub returns : goal.returns
returns c = rw (c.push.ensures, ← c.self.view_is) (sets_begun c.self.inside.starts.list c.self.inside.members.list c.len-start.result c.self.inside.members.room c.len-start.ensures)

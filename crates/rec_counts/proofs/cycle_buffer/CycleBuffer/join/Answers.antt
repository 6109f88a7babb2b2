-- The contract of `CycleBuffer::join`: lets `slot` join the last set.
use Rattle.std.proofs.Common.{◌≡◌, ℕ, ◌<◌, List, [], ◌∷◌, ◌++◌, length, drop, refl, arith, ◌∙◌, ap}
use Rattle.std.specs.List.{concat}
use Rattle.std.proofs.lemmas.List.{length_push}
use Rattle.rec_counts.specs.Groups.{Groups, parts_at, IsRising, IsGrouped, with_member}
use Rattle.rec_counts.proofs.Parts as parts
use Rattle.rec_counts.proofs.cycle_buffer.CycleBuffer.join.Goals as goal

-- there is room for one member more
room : (starts members : List ℕ) (r r' : ℕ) → IsGrouped starts members r r' → length (concat (parts_at starts members)) < r' → length members < r'
room starts members r r' g h =
    let whole : concat (parts_at starts members) ≡ members = parts.concat-parts starts members g.rising ∙ ap (λ k. drop k members) g.from_front in
    rw whole at h

pub push-requires : goal.push-requires
push-requires c = room _ _ _ _ c.self.invariant (rw (← c.self.view_is) at c.requires.room)

joined : (starts members : List ℕ) (r r' x : ℕ) → 0 < length starts → length members < r' → IsGrouped starts members r r' → IsGrouped starts (members ++ x ∷ []) r r'
joined starts members r r' x s l g = record { rising = parts.rising_longer starts _ _ (omega (arith, length_push members x)) g.rising; from_front = parts.first_longer starts (length members) _ s g.from_front; within = omega (arith, length_push members x); rooms = g.rooms; small = g.small }

pub invariant_of-self : goal.invariant_of-self
invariant_of-self c =
    let some : 0 < length (parts_at c.self.inside.starts.list c.self.inside.members.list) = rw (← c.self.view_is) at c.requires.some in
    rw c.push.ensures (joined _ _ _ _ _ (omega (arith, parts.length-parts c.self.inside.starts.list c.self.inside.members.list)) (room _ _ _ _ c.self.invariant (rw (← c.self.view_is) at c.requires.room)) c.self.invariant)

sets_joined : (starts members : List ℕ) (x r : ℕ) → 0 < length starts → IsRising starts (length members) → (let g : Groups = record { sets = parts_at starts (members ++ x ∷ []); room = r } in g) ≡ record { sets = with_member (parts_at starts members) x; room = r }
sets_joined starts members x r s h = rw (parts.parts_join starts members x s h) refl

pub returns : goal.returns
returns c =
    let some : 0 < length (parts_at c.self.inside.starts.list c.self.inside.members.list) = rw (← c.self.view_is) at c.requires.some in
    rw (c.push.ensures, ← c.self.view_is) (sets_joined _ _ _ _ (omega (arith, parts.length-parts c.self.inside.starts.list c.self.inside.members.list)) c.self.invariant.rising)

-- The contract of `Queue::push_all`: appends all of `slots`, in their order.
use Rattle.std.proofs.Common.{◌≡◌, ℕ, ◌+◌, List, ◌++◌, length, take, drop, ap, ap₂, ◌∙◌}
use Rattle.std.proofs.lemmas.List.{take_at}
use Rattle.rec_counts.specs.Shelf.{Shelf}
use Rattle.rec_counts.proofs.Windows.{window_more}
use Rattle.rec_counts.proofs.queue.Queue.push_all.Goals as goal

pub returns-then-slots-len : goal.returns-then-slots-len
returns-then-slots-len c =
    let xs : List ℕ = c.self.inside.items.items in
    let ys : List ℕ = c.write_at.new.items in
    let size : length ys ≡ length xs = c.write_at.auto.items ∙ ap (length {A = ℕ}) c.deref_mut.ensures.value in
    let whole : take c.self.inside.items.len (ys ++ drop (length ys) xs) ≡ ys = take_at _ _ _ (c.write_at.auto.items ∙ c.deref_mut.ensures.len) in
    let written : take (c.self.inside.end + length c.args.slots.now) ys ≡ take c.self.inside.end xs ++ c.args.slots.now =
    c.write_at.ensures ∙ ap (λ (zs : List ℕ). take c.self.inside.end zs ++ c.args.slots.now) c.deref_mut.ensures.value in
    let shelf : List ℕ → ℕ → Shelf = λ list room. record { list = list; room = room } in
    rw (← c.self.view_is, whole) (ap₂ shelf (window_more xs ys c.args.slots.now c.self.inside.head c.self.inside.end c.self.invariant.0 c.self.invariant.1 written) size)

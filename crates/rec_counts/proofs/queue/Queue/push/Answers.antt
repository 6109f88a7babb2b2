-- The contract of `Queue::push`: appends `slot`.
use Rattle.std.proofs.Common.{◌≡◌, ℕ, ◌+◌, ◌-◌, ◌<◌, ◌≤◌, List, [], ◌∷◌, ◌++◌, length, take, drop, arith, refl, sym, ap, ap₂, subst, ◌∙◌, append-nil, length-drop}
use Rattle.std.proofs.Math.ListN.{set}
use Rattle.std.proofs.lemmas.List.{drop_all, length-set, length-take, take_all}
use Rattle.rec_counts.specs.Shelf.{Shelf}
use Rattle.rec_counts.proofs.Windows.{window_push}
use Rattle.rec_counts.proofs.queue.Queue.push.Goals as goal

shelf_push : (xs : List ℕ) (h e v : ℕ) → h ≤ e → e < length xs → (let s : Shelf = record { list = take (e + 1 - h) (drop h (set xs e v)); room = length (set xs e v) } in s) ≡ record { list = take (e - h) (drop h xs) ++ v ∷ []; room = length xs }
shelf_push xs h e v l r = rw (window_push xs h e v l r, length-set xs e v) refl

pub returns-then-end-len : goal.returns-then-end-len
returns-then-end-len c =
    rw (← c.self.view_is) (shelf_push c.self.inside.items.items c.self.inside.head c.self.inside.end c.args.slot c.self.invariant.0 (omega arith))

-- what was moved to the front is the list as it was, with room behind it
moved_push : (xs ys : List ℕ) (h e v len : ℕ) → h ≤ e → e ≡ length xs → len ≡ length xs → length ys ≡ length xs → e - h < length xs → take (length xs - h) ys ≡ drop h xs
    → (let zs : List ℕ = take len (ys ++ drop (length ys) xs) in let s : Shelf = record { list = take (e - h + 1 - 0) (drop 0 (set zs (e - h) v)); room = length (set zs (e - h) v) } in s) ≡ record { list = take (e - h) (drop h xs) ++ v ∷ []; room = length xs }
moved_push xs ys h e v len l end all size free front =
    let none : drop (length ys) xs ≡ [] = drop_all (length ys) xs (omega (arith, size)) in
    let same : take len (ys ++ drop (length ys) xs) ≡ ys = ap (λ (t : List ℕ). take len (ys ++ t)) none ∙ ap (take len) (append-nil ys) ∙ take_all len ys (omega (arith, all, size)) in
    let here : e - h - 0 ≡ length xs - h = omega (arith, end) in
    let there : take (e - h) (drop h xs) ≡ drop h xs = take_all (e - h) (drop h xs) (omega (arith, end, length-drop h xs)) in
    let shelf : List ℕ → ℕ → Shelf = λ list room. record { list = list ++ v ∷ []; room = room } in
    ap (λ (zs : List ℕ). let s : Shelf = record { list = take (e - h + 1 - 0) (drop 0 (set zs (e - h) v)); room = length (set zs (e - h) v) } in s) same
    ∙ shelf_push ys 0 (e - h) v (omega arith) (omega (arith, size, free))
    ∙ ap₂ shelf (ap (λ n. take n ys) here ∙ front ∙ sym there) size

pub returns-else-end-len : goal.returns-else-end-len
returns-else-end-len c =
    let xs : List ℕ = c.self.inside.items.items in
    let end : c.self.inside.end ≡ length xs = omega (arith, c.self.invariant.1, c.if-end-len.false, c.len.ensures) in
    let all : c.self.inside.items.len ≡ length xs = omega arith in
    let size : length c.move_to_front.new.items ≡ length xs = c.move_to_front.auto.items ∙ ap (length {A = ℕ}) c.deref_mut.ensures.value in
    let room = rw (← c.self.view_is) at c.requires in
    let free : c.self.inside.end - c.self.inside.head < length xs = omega (arith, room, end, length-take {A = ℕ}, length-drop {A = ℕ}) in
    rw (← c.self.view_is)
    (moved_push xs c.move_to_front.new.items c.self.inside.head c.self.inside.end c.args.slot c.self.inside.items.len c.self.invariant.0 end all size free
    (subst (λ (l : List ℕ). take (length l - c.self.inside.head) c.move_to_front.new.items ≡ drop c.self.inside.head l) c.deref_mut.ensures.value c.move_to_front.ensures.front))

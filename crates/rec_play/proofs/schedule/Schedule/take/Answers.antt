-- The contract of `Schedule::take`: takes one command off those that a mutator, by its index, has left.
use Rattle.std.proofs.Common.{◌≡◌, ℕ, ◌-◌, ◌<◌, ◌++◌, List, slice_index_or, slice_set, length, take, drop, sym, ap, subst, ◌∙◌}
use Rattle.std.specs.List.{refill, slice_index}
use Rattle.std.proofs.Math.Nat.{pos_of_ne-zero}
use Rattle.std.proofs.Math.Seq.{take-append_seam}
use Rattle.std.proofs.lemmas.List.{get_or-set_same, length-set}
use Rattle.rec_play.specs.declared.schedule.Schedule.TheInside.{Inside}
use Rattle.rec_play.specs.Inside.{rest}
use Rattle.rec_play.specs.Playing.{Rest, unfinished}
use Rattle.rec_play.proofs.Unfinished.{still_unfinished}
use Rattle.rec_play.proofs.schedule.Schedule.take.Goals as goal

-- one command less, written through the slice of the elements
written : (xs slice : List ℕ) (at : ℕ) → slice ≡ xs → refill (length xs) xs (slice_set slice at (slice_index_or slice at 0 - 1)) ≡ slice_set xs at (slice_index_or xs at 0 - 1)
written xs slice at is =
    let new : List ℕ = slice_set slice at (slice_index_or slice at 0 - 1) in
    let many : length xs ≡ length new = sym (length-set slice at (slice_index_or slice at 0 - 1) ∙ ap length is) in
    ap (λ n. take n (new ++ drop (length new) xs)) many ∙ take-append_seam new (drop (length new) xs) ∙ ap (λ (l : List ℕ). slice_set l at (slice_index_or l at 0 - 1)) is

-- the view as a whole
view_is : (s : Inside) (now : Rest) (at : ℕ) (left : List ℕ) → rest s ≡ now → left ≡ slice_set s.left.items at (slice_index_or s.left.items at 0 - 1)
    → record { left = left; generator = s.generator; turns = s.turns } ≡ record now { left = slice_set now.left at (slice_index now.left at - 1) }
view_is s now at left is new =
    ap (λ (l : List ℕ). let r : Rest = record { left = l; generator = s.generator; turns = s.turns } in r) new
    ∙ ap (λ (r : Rest). let q : Rest = record r { left = slice_set r.left at (slice_index r.left at - 1) } in q) is

pub invariant_of-self-else-deref-at-eq0 : goal.invariant_of-self-else-deref-at-eq0
invariant_of-self-else-deref-at-eq0 c =
    let s : Inside = c.self.inside in
    let v : ℕ = slice_index_or s.left.items c.args.at 0 - 1 in
    let there : c.args.at < length s.left.items = subst (λ (r : Rest). c.args.at < length r.left) (sym c.self.view_is) c.requires.there in
    let some : 0 < slice_index_or s.left.items c.args.at 0 = subst (λ (r : Rest). 0 < slice_index r.left c.args.at) (sym c.self.view_is) c.requires.some in
    let new = written s.left.items c.deref_mut.result.now c.args.at c.deref_mut.ensures.value in
    let more : 0 < v = pos_of_ne-zero (λ none. c.if-deref-at-eq0.false (ap (λ (l : List ℕ). slice_index_or l c.args.at 0) (c.deref.ensures.0 ∙ new) ∙ get_or-set_same s.left.items c.args.at v 0 there ∙ none)) in
    c.self.invariant ∙ sym (ap unfinished new ∙ still_unfinished 1 s.left.items c.args.at v some more)

pub returns-then-deref-at-eq0 : goal.returns-then-deref-at-eq0
returns-then-deref-at-eq0 c = view_is c.self.inside c.args.self.now c.args.at _ c.self.view_is (written c.self.inside.left.items c.deref_mut.result.now c.args.at c.deref_mut.ensures.value)

pub returns-else-deref-at-eq0 : goal.returns-else-deref-at-eq0
returns-else-deref-at-eq0 c = view_is c.self.inside c.args.self.now c.args.at _ c.self.view_is (written c.self.inside.left.items c.deref_mut.result.now c.args.at c.deref_mut.ensures.value)

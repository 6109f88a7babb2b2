-- A fresh slot joins those so far.
use Rattle.std.proofs.Common.{◌≡◌, ℕ, ◌-◌, List, ◌++◌, [], ◌∷◌, length, map, get_or, replicate, sym, ◌∙◌, ap, arith}
use Rattle.std.proofs.lemmas.List.{append-nil, map_more, take_all}
use Rattle.rec_counts.specs.declared.slot.Slot.{Slot}
use Rattle.rec_counts.specs.Counts.{counted}
use Rattle.rec_counts.specs.Slot.{fresh}
use Rattle.rec_counts.proofs.Opening.{fresh_more}
use Rattle.rec_counts.proofs.counts.counted_slots.Goals as goal

none_fresh : (counts : List ℕ) → map counted counts ≡ map counted counts ++ replicate (length counts - length counts) fresh
none_fresh counts = let none : length counts - length counts ≡ 0 = omega arith in rw none (sym (append-nil (map counted counts)))

pub loop-preserved : goal.loop-preserved
loop-preserved c = c.in_ok-push-2.ensures.items ∙ (λ i. c.loop.invariant i ++ c.new.ensures i ∷ []) ∙ fresh_more c.args.counts.now c.loop.counter (omega arith)

pub loop-init : goal.loop-init
loop-init c = c.loop-count.invariant ∙ ap (map counted) (take_all c.loop-count.count-index c.args.counts.now c.loop-count-test.false) ∙ none_fresh c.args.counts.now

pub returns : goal.returns
returns c =
    let end : c.loop.counter ≡ c.args.number = omega (arith, c.loop-test.false, c.from-end.ensures, c.loop.auto.counter-end, c.requires) in
    c.loop.invariant ∙ ap (λ n. map counted c.args.counts.now ++ replicate (n - length c.args.counts.now) fresh) end

pub loop-count-preserved : goal.loop-count-preserved
loop-count-preserved c =
    let i : ℕ = c.loop-count.count-index in
    let count : ℕ = get_or c.args.counts.now i 0 in
    c.in_ok-push.ensures.items
    ∙ ap (λ (v : Slot). c.loop-count.slots.items ++ record v { count = count } ∷ []) c.new-slot.ensures
    ∙ ap (λ (vs : List Slot). vs ++ counted count ∷ []) c.loop-count.invariant
    ∙ sym (map_more counted c.args.counts.now i 0 c.loop-count-test.true)

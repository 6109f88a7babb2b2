-- The contract of `delta`: whether each member of set `set` is Orange.
use Rattle.std.proofs.Common.{◌≡◌, ◌<◌, length, get_or, IsTrue, arith, sym, subst, ap, ◌∙◌}
use Rattle.std.proofs.lemmas.Bool.{false≢true}
use Rattle.rec_counts.specs.declared.colour.Colour.TheVariants.{Orange}
use Rattle.rec_counts.specs.Counts.{slot_at}
use Rattle.rec_counts.specs.Lists.{times}
use Rattle.rec_counts.proofs.Keeping.{member_in_range}
use Rattle.rec_counts.proofs.Times.{inside_more, times-nil, times_at}
use Rattle.rec_sigma.specs.Prepare.{members_of}
use Rattle.rec_sigma.proofs.judge.delta.Goals as goal

pub loop-slot-init : goal.loop-slot-init
loop-slot-init c = λ x h. absurd (omega (arith, h, times-nil x))

pub colour-requires : goal.colour-requires
colour-requires c = rw c.set-slot-items.ensures (member_in_range c.args.counts.now c.args.set c.loop-slot.slot-index c.rules.ensures (omega (arith, ap length c.set-slot-items.ensures)))

pub returns-then-not-is_orange : goal.returns-then-not-is_orange
returns-then-not-is_orange c =
    let l : c.loop-slot.slot-index < length (members_of c.args.counts.now c.args.set) = omega (arith, ap length c.set-slot-items.ensures) in
    let t : 0 < times (get_or (members_of c.args.counts.now c.args.set) c.loop-slot.slot-index 0) (members_of c.args.counts.now c.args.set) = times_at (members_of c.args.counts.now c.args.set) c.loop-slot.slot-index l in
    let e : get_or c.set-slot-items.result.now c.loop-slot.slot-index 0 ≡ get_or (members_of c.args.counts.now c.args.set) c.loop-slot.slot-index 0 = ap (λ xs. get_or xs c.loop-slot.slot-index 0) c.set-slot-items.ensures in
    (λ n. absurd (false≢true n), λ o. let q : c.colour.result ≡ Orange = c.colour.ensures ∙ ap (λ x. (slot_at c.args.counts.now x).colour) e ∙ o _ t in subst IsTrue c.if-not-is_orange.true (c.is_orange.ensures.1 q))

pub loop-slot-preserved : goal.loop-slot-preserved
loop-slot-preserved c = inside_more (λ x. (slot_at c.args.counts.now x).colour ≡ Orange) c.set-slot-items.result.now c.loop-slot.slot-index c.loop-slot-test.true (sym c.colour.ensures ∙ c.is_orange.ensures.0 c.if-not-is_orange.false) c.loop-slot.invariant

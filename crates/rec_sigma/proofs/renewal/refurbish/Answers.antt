-- The contract of `refurbish`: takes set `set`, the last one, out of the cycle buffer, and gives each of its members its place, in the order of the set.
use Rattle.std.proofs.Common.{◌≡◌, ℕ, ◌-◌, Option, [], length, drop, get_or, slice_get, arith, sym, ap, ◌∙◌}
use Rattle.rec_counts.specs.Counts.{State, slot_at}
use Rattle.rec_counts.specs.Groups.{last_set}
use Rattle.rec_counts.proofs.Keeping.{last_new}
use Rattle.rec_sigma.specs.Refurbish.{fate_at, fate_of, LastRefurbished}
use Rattle.rec_sigma.specs.Settling.{refurbished_of, settled}
use Rattle.rec_sigma.proofs.Renewals.{ends_settled, first_due, free_unlisted, goes_on, refurbished_last, released_after, zero_unlisted, zeros_after}
use Rattle.rec_sigma.proofs.renewal.refurbish.Goals as goal

pub drop_set-requires-clause-new : goal.drop_set-requires-clause-new
drop_set-requires-clause-new c = last_new c.args.counts.now c.requires.refusable.work c.rules.ensures

pub fate_of_member-fate-requires : goal.fate_of_member-fate-requires
fate_of_member-fate-requires c = (first_due c.loop-slot.counts c.pop_work.new.self c.in-Some.slot c.pop_work.ensures.rest (sym c.pop_work.ensures.first ∙ c.in-Some.is) c.loop-slot.invariant.waiting).in_range

pub settle-requires : goal.settle-requires
settle-requires c =
    let d = (first_due c.loop-slot.counts c.pop_work.new.self c.in-Some.slot c.pop_work.ensures.rest (sym c.pop_work.ensures.first ∙ c.in-Some.is) c.loop-slot.invariant.waiting) in
    record {
      in_range = d.in_range;
      unbuffered = d.unbuffered;
      free = free_unlisted c.pop_work.new.self c.in-Some.slot c.is_the.result c.fate_of_member-fate.result d c.fate_of_member-fate.ensures;
      zeros = zero_unlisted c.pop_work.new.self c.in-Some.slot c.is_the.result c.fate_of_member-fate.result d c.fate_of_member-fate.ensures;
    }

pub loop-slot-preserved : goal.loop-slot-preserved
loop-slot-preserved c =
    let s : State = c.loop-slot.counts in
    let x : ℕ = c.in-Some.slot in
    let first : Option ℕ = c.copied-first.result in
    let e : c.fate_of_member-fate.result ≡ fate_at s first x =
    c.fate_of_member-fate.ensures ∙ ap (λ (u : State). fate_of c.is_the.result (slot_at u x)) c.pop_work.ensures.rest ∙ ap (λ b. fate_of b (slot_at s x)) c.is_the.ensures in
    let h : c.settle.new.counts ≡ settled c.fate_of_member-fate.result (record s { work = drop 1 s.work }) x = c.settle.ensures ∙ ap (λ (u : State). settled c.fate_of_member-fate.result u x) c.pop_work.ensures.rest in
    goes_on first c.args.counts.now s x c.fate_of_member-fate.result c.settle.new.counts (sym c.pop_work.ensures.first ∙ c.in-Some.is) e h c.loop-slot.invariant

pub returns : goal.returns
returns c =
    let s : State = c.args.counts.now in
    let t : State = c.loop-slot.counts in
    let n : c.args.set ≡ length s.sets - 1 = omega (arith, c.requires.last) in
    let ms : c.set.result.now ≡ last_set s.sets = c.set.ensures ∙ ap (λ i. get_or s.sets i []) n in
    let first : c.copied-first.result ≡ slice_get (last_set s.sets) 0 = c.copied-first.ensures ∙ c.first.ensures.value ∙ ap (λ xs. slice_get xs 0) ms in
    let e : c.pop_work.new.self ≡ refurbished_of s = c.pop_work.ensures.rest ∙ ends_settled c.copied-first.result s t (sym first) (sym c.pop_work.ensures.first ∙ c.in_default.is) c.loop-slot.invariant.going in
    let f : LastRefurbished s c.pop_work.new.self = rw e (refurbished_last s c.rules.ensures c.requires.refusable) in
    record {
      refurbished = f;
      settled = e;
      zeros = zeros_after s (last_set s.sets) (slice_get (last_set s.sets) 0) c.pop_work.new.self f c.rules-2.ensures.zeros_once;
      free = released_after s (last_set s.sets) (slice_get (last_set s.sets) 0) c.pop_work.new.self f;
    }

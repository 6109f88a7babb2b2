-- The contract of `renew`: the cyclic count of each member becomes its true count.
use Rattle.std.proofs.Common.{ℕ, ◌∙◌, ltb, List, length, arith, sym, ap}
use Rattle.std.proofs.lemmas.List.{length-map, take_all}
use Rattle.rec_counts.specs.declared.slot.Slot.{Slot}
use Rattle.rec_counts.specs.Counts.{State, slot_at}
use Rattle.rec_counts.specs.Lists.{times}
use Rattle.rec_counts.specs.Slot.{is_in}
use Rattle.rec_counts.proofs.Changing.{changed_all}
use Rattle.rec_counts.proofs.Times.{test_of}
use Rattle.rec_sigma.specs.Prepare.{members_of, renewed, renewed_if}
use Rattle.rec_sigma.proofs.Cyclics.{renewed_slot}
use Rattle.rec_sigma.proofs.prepare.renew.Goals as goal

pub returns : goal.returns
returns c =
    let s : State = c.args.counts.now in
    let n : ℕ = c.args.set in
    let ms : List ℕ = members_of s n in
    let after = c.renew_set.ensures in
    changed_all renewed_if ms s c.renew_set.new.self (length ms) (renewed s n).slots (omega arith) (length-map s.slots (λ (v : Slot). renewed_if (is_in n v.set) v))
    (λ x. renewed_slot s n x ∙ ap (λ b. renewed_if b (slot_at s x)) (sym (test_of (times x ms) (is_in n (slot_at s x).set) (c.rules.ensures.numbers n x))))
    (record { rest = after.rest; many = after.many; slots = λ x. after.slots x ∙ ap (λ xs. renewed_if (ltb 0 (times x xs)) (slot_at s x)) (sym (take_all (length ms) ms (omega arith))) })

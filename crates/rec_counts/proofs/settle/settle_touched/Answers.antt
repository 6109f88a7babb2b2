-- The contract of `settle_touched`: settles each slot that was touched, by its mark.
use Rattle.std.proofs.Common.{◌≡◌, ◌≤◌, length, arith, sym, ◌∙◌, subst}
use Rattle.rec_counts.specs.Lists.{EachOnce}
use Rattle.rec_counts.proofs.Marking.{added_each, taken_each}
use Rattle.rec_counts.proofs.Times.{length-once}
use Rattle.rec_counts.proofs.Settling.{all_cleared, all_settled}
use Rattle.rec_counts.proofs.settle.settle_touched.Goals as goal

pub settle_taken-requires : goal.settle_taken-requires
settle_taken-requires c =
    let many : length c.args.marks.now ≡ length c.args.slots.now = sym c.requires.listed.added_rooms in
    let once : EachOnce (length c.args.slots.now) c.args.taken.now = subst (λ n. EachOnce n c.args.taken.now) many (taken_each c.requires.listed) in
    let few : length c.args.taken.now ≤ length c.args.slots.now = length-once _ _ once in
    record { once = once; marked = many; roots_room = omega (arith, few, c.requires.roots_room); zeros_room = omega (arith, few, c.requires.zeros_room) }

pub settle_added-requires : goal.settle_added-requires
settle_added-requires c =
    let many : length c.args.marks.now ≡ length c.args.slots.now = sym c.requires.listed.added_rooms in
    record {
      once = subst (λ n. EachOnce n c.args.added.now) (many ∙ sym c.settle_taken.auto.slots) (added_each c.requires.listed);
      marked = c.settle_taken.auto.marks ∙ many ∙ sym c.settle_taken.auto.slots;
    }

pub returns-clause-marks : goal.returns-clause-marks
returns-clause-marks c = all_cleared c.requires.listed (length c.args.slots.now) c.settle_taken.new.marks c.settle_added.new.marks (c.settle_added.auto.marks ∙ c.settle_taken.auto.marks ∙ sym c.requires.listed.added_rooms) c.settle_taken.ensures.marks c.settle_added.ensures.marks

pub returns-clause-slots : goal.returns-clause-slots
returns-clause-slots c = all_settled c.requires.listed c.settle_taken.new.marks c.args.slots.now c.settle_taken.new.slots c.settle_added.new.slots c.settle_taken.ensures.marks c.settle_taken.ensures.slots c.settle_added.ensures.slots

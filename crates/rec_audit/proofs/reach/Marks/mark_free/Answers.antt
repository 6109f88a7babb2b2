-- The contract of `mark_free`: the slots that aren't taken are marked.
use Rattle.std.proofs.Common.{◌≡◌, ◌+◌, ℕ, false, not, filter, get_or, sym, subst, length, arith}
use Rattle.std.specs.List.{range_with_len}
use Rattle.rec_audit.specs.declared.reach.Marks.{Marks}
use Rattle.rec_audit.specs.States.{MarksMore}
use Rattle.rec_audit.proofs.Marking.{more_none, free_more_yes, free_more_no}
use Rattle.rec_audit.proofs.reach.Marks.mark_free.Goals as goal
use Rattle.rec_audit.proofs.reach.Marks.mark_free.Goals.{then-not-is_taken+in_ok-mark, else-not-is_taken}

pub loop-slot-init : goal.loop-slot-init
loop-slot-init c = more_none c.args.self.now c.requires.marking

pub loop-slot-preserved : goal.loop-slot-preserved
loop-slot-preserved c =
    elim c.if-not-is_taken.branch [
      | then-not-is_taken+in_ok-mark w ↦
          subst (λ (m : Marks). MarksMore c.args.self.now m (filter (λ slot. not (get_or c.args.taken.now slot false)) (range_with_len 0 (c.loop-slot.slot + 1)))) (sym w.self-is)
          (free_more_yes c.args.self.now c.loop-slot.self w.mark.new.self c.args.taken.now c.loop-slot.slot w.if-not-is_taken.true c.loop-slot.invariant w.in_ok-mark.ensures)
      | else-not-is_taken w ↦
          subst (λ (m : Marks). MarksMore c.args.self.now m (filter (λ slot. not (get_or c.args.taken.now slot false)) (range_with_len 0 (c.loop-slot.slot + 1)))) (sym w.self-is)
          (free_more_no c.args.self.now c.loop-slot.self c.args.taken.now c.loop-slot.slot w.if-not-is_taken.false c.loop-slot.invariant)
    ]

pub mark-requires : goal.mark-requires
mark-requires c = record { marking = c.loop-slot.invariant.marking; within = omega (arith, c.requires.size, c.loop-slot.invariant.size) }

pub returns : goal.returns
returns c =
    let same : c.loop-slot.slot ≡ length c.args.taken.now = omega arith in
    subst (λ (n : ℕ). MarksMore c.args.self.now c.loop-slot.self (filter (λ slot. not (get_or c.args.taken.now slot false)) (range_with_len 0 n))) same c.loop-slot.invariant

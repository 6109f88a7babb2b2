-- The contract of `mark_each`: each of some slots is marked.
use Rattle.std.proofs.Common.{ℕ, List, [], ◌∷◌, get_or, take, sym, subst, arith}
use Rattle.std.proofs.lemmas.List.{take_more, take_all}
use Rattle.rec_audit.specs.States.{MarksMore}
use Rattle.rec_audit.proofs.Marking.{more_none, more_both}
use Rattle.rec_audit.proofs.reach.Marks.mark_each.Goals as goal

pub loop-slot-init : goal.loop-slot-init
loop-slot-init c = more_none c.args.self.now c.requires.marking

pub loop-slot-preserved : goal.loop-slot-preserved
loop-slot-preserved c =
    let slots : List ℕ = c.args.slots.now in
    let i : ℕ = c.loop-slot.slot-index in
    subst (λ (t : List ℕ). MarksMore c.args.self.now c.mark.new.self t) (sym (take_more slots i 0 c.loop-slot-test.true))
    (more_both c.args.self.now c.loop-slot.self c.mark.new.self (take i slots) (get_or slots i 0 ∷ []) c.loop-slot.invariant c.in_ok-mark.ensures)

pub mark-requires : goal.mark-requires
mark-requires c = record { marking = c.loop-slot.invariant.marking; within = omega (arith, c.requires.within c.loop-slot.slot-index 0 c.loop-slot-test.true, c.loop-slot.invariant.size) }

pub returns : goal.returns
returns c = subst (λ (t : List ℕ). MarksMore c.args.self.now c.loop-slot.self t) (take_all c.loop-slot.slot-index c.args.slots.now (omega arith)) c.loop-slot.invariant

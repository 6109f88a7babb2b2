-- The contract of `open`: at the opening slot 0 alone is taken.
use Rattle.std.proofs.Common.{◌≡◌, ◌==◌, Bool, false, List, [], ◌∷◌, ◌++◌, length, get_or, ap, ◌∙◌, below_more, arith}
use Rattle.std.proofs.lemmas.List.{get_or_push, get_or_append_left, length_push}
use Rattle.rec_audit.proofs.slots.Slots.open.Goals as goal

pub loop-slot-init : goal.loop-slot-init
loop-slot-init c = record { size = ap (length {A = Bool}) c.in_ok-taken.ensures.items; taken = λ k lt. absurd (omega arith) }

pub loop-slot-preserved : goal.loop-slot-preserved
loop-slot-preserved c =
    let old : List Bool = c.loop-slot.taken.items in
    let is : c.push.new.self.items ≡ old ++ (c.loop-slot.slot == 0) ∷ [] = c.in_ok-push.ensures.items in
    record {
      size = omega (arith, ap (length {A = Bool}) is, length_push old (c.loop-slot.slot == 0), c.loop-slot.invariant.size);
      taken = below_more _ _
          (λ k lt. ap (λ (t : List Bool). get_or t k false) is ∙ get_or_append_left old ((c.loop-slot.slot == 0) ∷ []) false k (omega (arith, c.loop-slot.invariant.size)) ∙ c.loop-slot.invariant.taken k lt)
          (ap (λ (t : List Bool). get_or t c.loop-slot.slot false) is ∙ get_or_push old (c.loop-slot.slot == 0) false c.loop-slot.slot c.loop-slot.invariant.size);
    }

pub returns-clause-size : goal.returns-clause-size
returns-clause-size c = let same : c.loop-slot.slot ≡ c.args.slots = omega arith in c.loop-slot.invariant.size ∙ same

pub returns-clause-taken : goal.returns-clause-taken
returns-clause-taken c = λ k lt. c.loop-slot.invariant.taken k (omega arith)

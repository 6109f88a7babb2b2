-- The contract of `no_edges`: as many empty lists as there are slots.
use Rattle.std.proofs.Common.{◌≡◌, ℕ, List, [], ◌∷◌, ◌++◌, replicate, ap, ◌∙◌, arith, Vec, Global}
use Rattle.std.proofs.lemmas.List.{map_push, replicate_more}
use Rattle.rec_audit.specs.declared.references.Edge.{Edge}
use Rattle.rec_audit.proofs.references.no_edges.Goals as goal
use Rattle.rec_audit.proofs.Pruning.{inside}

pub loop-slot-init : goal.loop-slot-init
loop-slot-init c = ap inside c.in_ok-edges.ensures.items

pub loop-slot-preserved : goal.loop-slot-preserved
loop-slot-preserved c =
    ap inside c.in_ok-push.ensures.items
    ∙ map_push (λ (v : Vec Edge Global). v.items) c.loop-slot.edges.items c.new.result
    ∙ ap (λ (es : List (List Edge)). es ++ c.new.result.items ∷ []) c.loop-slot.invariant
    ∙ ap (λ (e : List Edge). replicate c.loop-slot._slot [] ++ e ∷ []) c.new.ensures.items
    ∙ replicate_more c.loop-slot._slot []

pub returns : goal.returns
returns c = let same : c.loop-slot._slot ≡ c.args.slots = omega arith in c.loop-slot.invariant ∙ ap (λ (n : ℕ). replicate {A = List Edge} n []) same

-- The contract of `mark_targets`: where some references lead is marked.
use Rattle.std.proofs.Common.{ℕ, List, [], ◌∷◌, get_or, take, map, sym, subst, arith}
use Rattle.std.proofs.lemmas.List.{map_more, take_all}
use Rattle.rec_audit.specs.declared.references.Edge.{Edge}
use Rattle.rec_audit.specs.States.{MarksMore}
use Rattle.rec_audit.proofs.Marking.{more_none, more_both}
use Rattle.rec_audit.proofs.reach.Marks.mark_targets.Goals as goal
use Rattle.rec_audit.proofs.Grown.{to}

abbrev none : Edge
none = record { to = 0; word = 0 }

pub loop-edge-init : goal.loop-edge-init
loop-edge-init c = more_none c.args.self.now c.requires.marking

pub loop-edge-preserved : goal.loop-edge-preserved
loop-edge-preserved c =
    let edges : List Edge = c.args.edges.now in
    let i : ℕ = c.loop-edge.edge-index in
    subst (λ (t : List ℕ). MarksMore c.args.self.now c.mark.new.self t) (sym (map_more to edges i none c.loop-edge-test.true))
    (more_both c.args.self.now c.loop-edge.self c.mark.new.self (map to (take i edges)) ((get_or edges i none).to ∷ []) c.loop-edge.invariant c.in_ok-mark.ensures)

pub mark-requires : goal.mark-requires
mark-requires c = record { marking = c.loop-edge.invariant.marking; within = omega (arith, c.requires.within c.loop-edge.edge-index none c.loop-edge-test.true, c.loop-edge.invariant.size) }

pub returns : goal.returns
returns c = subst (λ (t : List Edge). MarksMore c.args.self.now c.loop-edge.self (map to t)) (take_all c.loop-edge.edge-index c.args.edges.now (omega arith)) c.loop-edge.invariant

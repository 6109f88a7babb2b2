-- The contract of `sweep`: a slot was swept.
use Rattle.std.proofs.Common.{◌≡◌, ◌<◌, ◌||◌, ◌==◌, ℕ, Bool, true, false, [], ◌∷◌, ◌++◌, length, nat_eq, refl, sym, ap, ◌∙◌, subst, length-set, Vec, Global}
use Rattle.std.specs.List.{All}
use Rattle.std.specs.HashSet.{contains}
use Rattle.rec_model.specs.Reach.{is_in}
use Rattle.rec_audit.specs.Form.{is_heap, is_epoch}
use Rattle.rec_audit.specs.Graph.{is_out, is_put, roots, targets}
use Rattle.rec_audit.specs.Known.{AreKnown, IsKnownOf, IsRoomy}
use Rattle.rec_audit.specs.Graphs.{slots_of}
use Rattle.rec_audit.specs.States.{into_of}
use Rattle.rec_audit.proofs.Grown.{children_are, graph_sweep, known_less, more_roots, only_roots, references_pruned, targets_same}
use Rattle.rec_audit.proofs.Pruning.{pruned_none}
use Rattle.rec_audit.proofs.Sizes.{sized_pruned}
use Rattle.rec_audit.proofs.graph.Graph.sweep.Goals as goal

pub returns-then-not-self-clause-graph : goal.returns-then-not-self-clause-graph
returns-then-not-self-clause-graph c = λ lines line is sweep.
    graph_sweep lines line c.args.slot c.args.self.now _ sweep is.references c.sweep.ensures.taken c.sweep.ensures.named (subst (λ b. AreKnown b (lines ++ line ∷ []) c.args.self.now.known) (sym c.if-not-self.true) tt) is

pub returns-clause-graph : goal.returns-clause-graph
returns-clause-graph c = λ lines line is sweep.
    let g = c.args.self.now in
    let known : IsKnownOf (roots lines) (targets lines) g.known = subst (λ b. AreKnown b lines g.known) c.if-not-self.false is.known in
    let more = c.in_ok-bring_back.ensures.known (roots lines) (roots (lines ++ line ∷ [])) (targets lines) (children_are lines g.references is.references) (more_roots lines line sweep.kind)
    (λ n there. subst (λ (s : ℕ). (is_in n (roots lines) || (s == n)) ≡ true) sweep.slot-is (only_roots lines line sweep.kind n there)) known
    in
    let behind = known_less (roots (lines ++ line ∷ [])) (roots (lines ++ line ∷ [])) (targets lines) (targets (lines ++ line ∷ [])) c.bring_back.new.self refl
    (λ m n there. ap (is_in n) (sym (targets_same lines line (ap is_put sweep.kind) (ap is_out sweep.kind) (ap is_epoch sweep.kind) (ap is_heap sweep.kind) m)) ∙ there) more
    in
    graph_sweep lines line c.args.slot g _ sweep
    (references_pruned lines g.references _ is.references refl refl refl c.in_ok-bring_back.ensures.pruned (pruned_none (contains nat_eq g.references.dead) (into_of g.references)))
    c.sweep.ensures.taken c.sweep.ensures.named (subst (λ b. AreKnown b (lines ++ line ∷ []) c.bring_back.new.self) (sym c.if-not-self.false) behind) is

pub returns-clause-sized : goal.returns-clause-sized
returns-clause-sized c =
    let g = c.args.self.now in
    let size = ap (length {A = Bool}) c.sweep.ensures.taken ∙ length-set g.slots.taken.items c.args.slot false in
    sized_pruned g _ c.requires.sized c.in_ok-bring_back.ensures.pruned (pruned_none (contains nat_eq g.references.dead) (into_of g.references))
    (subst (λ (n : ℕ). IsRoomy n c.bring_back.new.self) c.requires.sized.edges c.in_ok-bring_back.ensures.roomy) size
    (subst (λ (v : Vec ℕ Global). All (λ n. n < slots_of g) v.items) (sym c.sweep.ensures.named) c.requires.sized.named)

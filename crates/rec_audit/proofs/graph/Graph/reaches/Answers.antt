-- The contract of `reaches`: one of some slots is reached.
use Rattle.std.proofs.Common.{◌≡◌, ℕ, Bool, true, false, not, List, nat_eq, refl, sym, ap, ◌∙◌, subst}
use Rattle.std.specs.HashSet.{contains}
use Rattle.std.proofs.lemmas.Bool.{false≢true}
use Rattle.rec_model.specs.Reach.{is_in}
use Rattle.rec_audit.specs.Lines.{Line}
use Rattle.rec_audit.specs.Graph.{roots, targets}
use Rattle.rec_audit.specs.Known.{AreKnown, IsKnownOf, IsRoomy}
use Rattle.rec_audit.specs.declared.known.Known.{Known}
use Rattle.rec_audit.specs.declared.graph.Graph.{Graph}
use Rattle.rec_audit.specs.Graphs.{IsGraphOf}
use Rattle.rec_audit.specs.States.{edges_of}
use Rattle.rec_audit.proofs.Grown.{references_pruned, sources_are}
use Rattle.rec_audit.proofs.Pruning.{pruned_none}
use Rattle.rec_audit.proofs.Asked.{apart_unreached}
use Rattle.rec_audit.proofs.Sizes.{sized_pruned}
use Rattle.rec_audit.proofs.graph.Graph.reaches.Goals as goal

-- what is known, where anything is
known_is : (lines : List Line) (g : Graph) → g.is_known ≡ true → IsGraphOf lines g → IsKnownOf (roots lines) (targets lines) g.known
known_is lines g known is = subst (λ b. AreKnown b lines g.known) known is.known

-- it is kept where no root was found
known_still : (lines : List Line) (k : Known) (found : Bool) → (found ≡ false → IsKnownOf (roots lines) (targets lines) k) → AreKnown (not found) lines k
known_still lines k true keeps = tt
known_still lines k false keeps = keeps refl

pub returns-clause-reached : goal.returns-clause-reached
returns-clause-reached c = λ lines is found.
    let g = c.learn.new.self in
    let now = c.in_ok-learn.ensures.graph lines is in
    let r = c.in_ok-found.ensures.found found (roots lines) (targets lines) (sources_are lines g.references now.references) (known_is lines g c.in_ok-learn.ensures.known now) in
    record { member = r.member; listed = r.listed; reached = r.reached }

pub returns-clause-unreached : goal.returns-clause-unreached
returns-clause-unreached c = λ lines is none has.
    let g = c.learn.new.self in
    let now = c.in_ok-learn.ensures.graph lines is in
    let known = c.in_ok-found.ensures.known none (roots lines) (targets lines) (sources_are lines g.references now.references) (known_is lines g c.in_ok-learn.ensures.known now) in
    false≢true
    (sym (c.in_ok-learn.ensures.apart has.member has.listed)
    ∙ sym (ap (λ b. is_in has.member b.order.items) c.in_ok-found.ensures.same)
    ∙ apart_unreached (roots lines) (targets lines) c.finds_root.new.self known has.member has.reached (c.in_ok-found.ensures.apart none has.member has.listed))

pub returns-clause-graph : goal.returns-clause-graph
returns-clause-graph c = λ lines is.
    let g = c.learn.new.self in
    let now = c.in_ok-learn.ensures.graph lines is in
    record {
      size = now.size;
      references = references_pruned lines g.references _ now.references refl refl refl (pruned_none (contains nat_eq g.references.dead) (edges_of g.references)) c.in_ok-found.ensures.pruned;
      taken = now.taken;
      named = now.named;
      known = known_still lines c.finds_root.new.self c.in_ok-found.found
          (λ none. c.in_ok-found.ensures.known none (roots lines) (targets lines) (sources_are lines g.references now.references) (known_is lines g c.in_ok-learn.ensures.known now));
    }

pub returns-clause-sized : goal.returns-clause-sized
returns-clause-sized c =
    let g = c.learn.new.self in
    sized_pruned g _ c.in_ok-learn.ensures.sized (pruned_none (contains nat_eq g.references.dead) (edges_of g.references)) c.in_ok-found.ensures.pruned
    (subst (λ (n : ℕ). IsRoomy n c.finds_root.new.self) c.in_ok-learn.ensures.sized.into c.in_ok-found.ensures.roomy) refl c.in_ok-learn.ensures.sized.named

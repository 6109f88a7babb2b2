-- The contract of `learn`: what is known begins anew, unless it tells of some slots.
use Rattle.std.proofs.Common.{ℕ, Bool, false, ◌||◌, List, get_or, sym, ap, ◌∙◌}
use Rattle.rec_model.specs.Reach.{is_in}
use Rattle.rec_audit.specs.Graph.{roots, targets}
use Rattle.rec_audit.specs.Walks.{free_slots}
use Rattle.rec_audit.proofs.Grown.{roots_are}
use Rattle.rec_audit.proofs.Asked.{none_member}
use Rattle.rec_audit.proofs.graph.Graph.learn.Goals as goal

pub returns-then-not-has_any-clause-apart : goal.returns-then-not-has_any-clause-apart
returns-then-not-has_any-clause-apart c = λ slot there.
    sym (c.requires.sized.roomy.back.listed slot)
    ∙ none_member (λ slot. get_or c.args.self.now.known.back.marked.items slot false) c.args.slots.now slot (sym c.has_any.ensures ∙ c.if-not-has_any.true) there

pub returns-clause-graph : goal.returns-clause-graph
returns-clause-graph c = λ lines is.
    record {
      size = is.size;
      references = is.references;
      taken = is.taken;
      named = is.named;
      known = c.in_ok-begin.ensures.known (roots lines) (targets lines)
          (λ slot.
          roots_are lines c.args.self.now is slot
          ∙ ap (λ (t : List Bool). is_in slot (free_slots t) || is_in slot c.args.self.now.slots.named.items) (sym c.deref.ensures.value)
          ∙ ap (λ (t : List ℕ). is_in slot (free_slots c.deref.result.now) || is_in slot t) (sym c.deref-2.ensures.value));
    }

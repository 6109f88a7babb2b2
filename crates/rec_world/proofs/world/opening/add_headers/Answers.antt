-- One header more.
use Rattle.std.proofs.Common.{ℕ, Bool, List, map, ◌++◌, ◌∷◌, [], sym, ap, subst, ◌∙◌, ◌≤◌, ◌^◌, arith, false}
use Rattle.std.proofs.lemmas.List.{append-nil, take_all}
use Rattle.rec_word.specs.Header.{label_bits}
use Rattle.rec_world.proofs.Openings.{headers_more, labels_more}
use Rattle.rec_core.specs.Objects.{HaveLabels}
use Rattle.rec_world.proofs.world.opening.add_headers.Goals as goal
use Rattle.rec_core.proofs.OpenedFromSeen.{header_of}

pub loop-node-preserved : goal.loop-node-preserved
loop-node-preserved c =
    let few : label_bits c.pack.result ≤ 2 ^ 32 = c.pack.ensures.taken.few in
    record {
      headers = c.in_ok-push.ensures.items ∙ (λ i. c.loop-node.invariant.headers i ++ c.pack.ensures.word i ∷ []) ∙ headers_more c.args.row.now.items c.args.nodes.now c.loop-node.node-index (0, false) c.loop-node-test.true;
      labels = labels_more c.args.nodes.now c.loop-node.node-index (0, false) c.loop-node-test.true c.loop-node.invariant.labels (omega (arith, few, c.pack.ensures.parts.label));
    }

pub loop-node-init : goal.loop-node-init
loop-node-init c = record { headers = sym (append-nil c.args.row.now.items); labels = λ k d below. absurd (omega (arith, below)) }

pub returns-clause-headers : goal.returns-clause-headers
returns-clause-headers c = c.loop-node.invariant.headers ∙ ap (λ (ns : List (ℕ × Bool)). c.args.row.now.items ++ map header_of ns) (take_all c.loop-node.node-index c.args.nodes.now (omega (arith, c.loop-node-test.false)))

pub returns-clause-labels : goal.returns-clause-labels
returns-clause-labels c = subst HaveLabels (take_all c.loop-node.node-index c.args.nodes.now (omega (arith, c.loop-node-test.false))) c.loop-node.invariant.labels

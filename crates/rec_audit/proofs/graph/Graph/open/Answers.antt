-- The contract of `open`: the graph of a heap at its opening.
use Rattle.std.proofs.Common.{refl}
use Rattle.rec_audit.proofs.Grown.{graph_none}
use Rattle.rec_audit.proofs.Sizes.{sized_open}
use Rattle.rec_audit.proofs.graph.Graph.open.Goals as goal

pub returns : goal.returns
returns c =
    record {
      sized = sized_open c.args.slots _ c.in_ok-open.ensures c.in_ok-open-2.ensures.size c.in_ok-open-2.ensures.named c.in_ok-open-3.ensures;
      size = c.in_ok-open-2.ensures.size;
      graph = λ lines tell. graph_none lines c.args.slots _ c.in_ok-open.ensures c.in_ok-open-2.ensures.size c.in_ok-open-2.ensures.taken c.in_ok-open-2.ensures.named refl tell;
    }

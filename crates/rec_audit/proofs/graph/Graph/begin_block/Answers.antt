-- The contract of `begin_block`: a block begins.
use Rattle.std.proofs.Common.{ℕ, ◌<◌, Bool, List, length, refl, sym, ap, subst, arith, Vec, Global}
use Rattle.std.specs.List.{All}
use Rattle.rec_audit.specs.Graphs.{slots_of}
use Rattle.rec_audit.proofs.Grown.{graph_epoch}
use Rattle.rec_audit.proofs.Sizes.{sized_same}
use Rattle.rec_audit.proofs.graph.Graph.begin_block.Goals as goal

pub returns : goal.returns
returns c =
    let size = ap (λ (v : Vec Bool Global). length v.items) c.begin_block.ensures.taken in
    record {
      sized = sized_same c.args.self.now _ c.requires c.in_ok-end_block.ensures.edges c.in_ok-end_block.ensures.into refl size
          (subst (λ (ns : List ℕ). All (λ n. n < slots_of c.args.self.now) ns) (sym c.begin_block.ensures.named) (λ k d lt. absurd (omega arith)));
      size = size;
      graph = λ lines line is epoch. graph_epoch lines line c.args.self.now _ epoch c.in_ok-end_block.ensures c.begin_block.ensures.taken c.begin_block.ensures.named refl is;
    }

-- The contract of `put`: a word is put into a field of a slot, and replaces another one.
use Rattle.std.proofs.Common.{refl, arith}
use Rattle.rec_audit.proofs.Grown.{graph_put}
use Rattle.rec_audit.specs.Graphs.{slots_of}
use Rattle.rec_audit.proofs.Sizes.{lists_of, lists_to, sized_put, target_below}
use Rattle.rec_audit.proofs.graph.Graph.put.Goals as goal

pub put-requires : goal.put-requires
put-requires c = record { source = omega (arith, c.requires.source, c.requires.sized.edges); target = omega (arith, c.requires.target, c.requires.sized.into) }

pub returns : goal.returns
returns c =
    record {
      sized = sized_put c.args.self.now _ c.args.source c.args.new c.args.old c.requires.sized c.requires.source c.requires.target c.in_ok-put.ensures refl refl;
      size = refl;
      graph = λ lines line is put.
          graph_put lines line c.args.source c.args.new c.args.old c.args.self.now _
          (omega (arith, lists_of c.args.self.now.references, c.requires.sized.edges, c.requires.source))
          (λ target. omega (arith, lists_to c.args.self.now.references, c.requires.sized.into, target_below (slots_of c.args.self.now) c.args.new c.requires.target target))
          put c.in_ok-put.ensures refl refl is;
    }

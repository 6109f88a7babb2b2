-- The contract of `take_out`: a word is taken out of a field.
use Rattle.std.proofs.Common.{refl}
use Rattle.rec_audit.proofs.Grown.{graph_out}
use Rattle.rec_audit.proofs.Sizes.{sized_same}
use Rattle.rec_audit.proofs.graph.Graph.take_out.Goals as goal

pub returns : goal.returns
returns c =
    record {
      sized = sized_same c.args.self.now _ c.requires c.in_ok-take_out.ensures.edges c.in_ok-take_out.ensures.into refl refl c.requires.named;
      size = refl;
      graph = λ lines line is out. graph_out lines line c.args.word c.args.self.now _ out c.in_ok-take_out.ensures refl refl refl is;
    }

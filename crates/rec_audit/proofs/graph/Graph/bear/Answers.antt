-- The contract of `bear`: a slot was born.
use Rattle.std.proofs.Common.{ℕ, ◌<◌, Bool, true, List, length, refl, sym, ap, ◌∙◌, subst, length-set}
use Rattle.std.specs.List.{All}
use Rattle.std.proofs.lemmas.List.Elements.{All-push}
use Rattle.rec_audit.specs.Graphs.{slots_of}
use Rattle.rec_audit.proofs.Grown.{graph_born}
use Rattle.rec_audit.proofs.Sizes.{sized_same}
use Rattle.rec_audit.proofs.graph.Graph.bear.Goals as goal

pub returns : goal.returns
returns c =
    let size = ap (length {A = Bool}) c.in_ok-bear.ensures.taken ∙ length-set c.args.self.now.slots.taken.items c.args.slot true in
    record {
      sized = sized_same c.args.self.now _ c.requires.sized refl refl refl size
          (subst (λ (ns : List ℕ). All (λ n. n < slots_of c.args.self.now) ns) (sym c.in_ok-bear.ensures.named) (All-push (λ n. n < slots_of c.args.self.now) c.args.self.now.slots.named.items c.args.slot c.requires.sized.named c.requires.slot));
      size = size;
      graph = λ lines line is born. graph_born lines line c.args.slot c.args.self.now _ born refl c.in_ok-bear.ensures.taken c.in_ok-bear.ensures.named refl is;
    }

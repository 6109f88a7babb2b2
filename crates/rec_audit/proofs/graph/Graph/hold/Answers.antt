-- The contract of `hold`: registers hold these slots.
use Rattle.std.proofs.Common.{ℕ, ◌<◌, Bool, List, length, refl, sym, ap, subst, Vec, Global}
use Rattle.std.specs.List.{All}
use Rattle.std.proofs.lemmas.List.Elements.{All-append}
use Rattle.rec_audit.specs.Graph.{held}
use Rattle.rec_audit.specs.Graphs.{slots_of}
use Rattle.rec_audit.proofs.Grown.{graph_snap}
use Rattle.rec_audit.proofs.Sizes.{held_within, sized_same}
use Rattle.rec_audit.proofs.graph.Graph.hold.Goals as goal

pub returns : goal.returns
returns c =
    let size = ap (λ (v : Vec Bool Global). length v.items) c.in_ok-hold.ensures.taken in
    record {
      sized = sized_same c.args.self.now _ c.requires.sized refl refl refl size
          (subst (λ (ns : List ℕ). All (λ n. n < slots_of c.args.self.now) ns) (sym c.in_ok-hold.ensures.named)
          (All-append (λ n. n < slots_of c.args.self.now) c.args.self.now.slots.named.items (held c.args.registers.now) c.requires.sized.named (held_within (slots_of c.args.self.now) c.args.registers.now c.requires.slots)));
      size = size;
      graph = λ lines line is snap. graph_snap lines line c.args.registers.now c.args.self.now _ snap refl c.in_ok-hold.ensures.taken c.in_ok-hold.ensures.named refl is;
    }

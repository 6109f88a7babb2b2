-- The contract of `put`: a word is put into a field of a slot, and replaces another one.
use Rattle.std.proofs.Common.{◌≡◌, ◌%◌, ◌-◌, true, cond, ◌||◌, ◌&&◌, ◌==◌, nat_eq, refl, sym, ap, ◌∙◌, arith}
use Rattle.std.specs.HashSet.{contains}
use Rattle.rec_audit.specs.Graph.{has_target}
use Rattle.rec_audit.specs.States.{back_edge, edge_of, edges_of, into_of, with_edge}
use Rattle.rec_audit.proofs.references.References.put.Goals as goal
use Rattle.rec_audit.proofs.Telling.{some_target}

pub push_at-requires-2 : goal.push_at-requires-2
push_at-requires-2 c = omega (arith, c.requires.target, c.if-target-eq0.false)

pub returns : goal.returns
returns c =
    let target : has_target c.args.new ≡ true = some_target (c.args.new % 65536) c.if-target-eq0.false in
    record {
      opened = λ w. c.in_ok-add_word.ensures w ∙ ap (λ b. contains nat_eq c.args.self.now.opened w || (b && (c.args.new == w))) (sym target);
      dead = refl;
      closing = c.in_ok-push.ensures.items;
      edges = c.in_ok-push_at.ensures ∙ ap (λ b. cond b (with_edge (edges_of c.args.self.now) c.args.source (edge_of c.args.new)) (edges_of c.args.self.now)) (sym target);
      into = c.in_ok-push_at-2.ensures ∙ ap (λ b. cond b (with_edge (into_of c.args.self.now) (c.args.new % 65536 - 1) (back_edge c.args.source c.args.new)) (into_of c.args.self.now)) (sym target);
    }

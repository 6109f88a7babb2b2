-- The contract of `push_at`: a reference is added to those of one slot.
use Rattle.std.proofs.Common.{List, [], ◌∷◌, ◌++◌}
use Rattle.rec_audit.specs.declared.references.Edge.{Edge}
use Rattle.rec_audit.proofs.Pruning.{written_list}
use Rattle.rec_audit.proofs.references.push_at.Goals as goal

pub returns : goal.returns
returns c = written_list (λ (es : List Edge). es ++ c.args.edge ∷ []) c.args.lists.now.items c.args.slot c.index_mut-edges.result.now c.push.new.self c.requires c.index_mut-edges.ensures.value c.in_ok-push.ensures.items

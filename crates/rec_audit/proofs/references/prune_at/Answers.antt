-- The contract of `prune_at`: the dead references of one slot are forgotten.
use Rattle.std.proofs.Common.{nat_eq}
use Rattle.std.specs.HashSet.{contains}
use Rattle.rec_audit.specs.States.{without}
use Rattle.rec_audit.proofs.Pruning.{written_list}
use Rattle.rec_audit.proofs.references.prune_at.Goals as goal

pub returns : goal.returns
returns c = written_list (without (contains nat_eq c.args.dead.now)) c.args.lists.now.items c.args.slot c.index_mut-edges.result.now c.drop_dead.new.edges c.requires c.index_mut-edges.ensures.value c.drop_dead.ensures

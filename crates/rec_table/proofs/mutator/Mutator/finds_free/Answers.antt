-- The contract of `Mutator::finds_free`: the slot with which the next scan would begin, where it is found free.
use Rattle.std.proofs.Common.{◌<◌, ℕ, IfSome, sym, subst}
use Rattle.rec_table.proofs.Common.{IsMutatorOf, IsWorld, MutatorView, Started, mutator_now, started}
use Rattle.rec_table.proofs.mutator.Mutator.finds_free.Goals as goal

pub finds_free-requires-clause-own : goal.finds_free-requires-clause-own
finds_free-requires-clause-own c = subst (λ (s : Started × MutatorView). IsMutatorOf s.0 s.1) (λ i. (started (sym c.board.ensures.table i) (sym c.board.ensures.world i), sym c.self.view_is i)) c.requires

pub finds_free-requires-clause-world : goal.finds_free-requires-clause-world
finds_free-requires-clause-world c = subst IsWorld (sym c.board.ensures.world) c.board.ensures.kept

pub returns : goal.returns
returns c = subst (λ (m : MutatorView). IfSome c.finds_free.result (λ (from : ℕ). from < (mutator_now m).slots)) c.self.view_is c.finds_free.ensures

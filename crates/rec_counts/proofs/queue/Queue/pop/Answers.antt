-- The contract of `Queue::pop`: takes the first out, or answers None where there is none.
use Rattle.std.proofs.Common.{ℕ, List, length, arith, ap}
use Rattle.rec_counts.specs.Shelf.{Shelf}
use Rattle.rec_counts.proofs.Windows.{window_rest}
use Rattle.rec_counts.proofs.queue.Queue.pop.Goals as goal

pub returns-else-self-2-clause-rest : goal.returns-else-self-2-clause-rest
returns-else-self-2-clause-rest c =
    let shelf : List ℕ → Shelf = λ l. record { list = l; room = length c.self.inside.items.items } in
    rw (← c.self.view_is) (ap shelf (window_rest c.self.inside.items.items c.self.inside.head c.self.inside.end (omega arith)))

-- So many moves were made.
use Rattle.std.proofs.Common.{◌≡◌}
use Rattle.recycler_watch.proofs.Running.{Passes}
use Rattle.recycler_watch.proofs.tell.Teller.pass.Given as goal

abbrev pub invariant-loop : goal.invariant-loop
invariant-loop l = (l.self.asked ≡ l.fn.self.asked) × (l.self.moves ≡ l.counter) × Passes l.fn.self.walk l.counter l.self.walk

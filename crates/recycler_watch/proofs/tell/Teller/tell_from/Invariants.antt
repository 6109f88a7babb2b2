-- The moves so far are told, and what is seen is known.
use Rattle.std.proofs.Common.{◌≡◌}
use Rattle.recycler_watch.specs.Seen.{seen, seen_of}
use Rattle.recycler_watch.specs.declared.request.Request.TheVariants.{Text}
use Rattle.recycler_watch.proofs.Running.{Told}
use Rattle.recycler_watch.proofs.tell.Teller.tell_from.Given as goal

abbrev pub invariant-loop : goal.invariant-loop
invariant-loop g l =
    (l.self.asked ≡ l.fn.self.asked)
    × (l.self.moves ≡ l.counter)
    × (seen l.known ≡ seen_of l.self.walk)
    × (l.fn.self.asked.request ≡ Text → Told l.fn.self.walk l.fn.self.moves l.self.walk l.self.moves (g.W.Write.contents l.fn.out) (g.W.Write.contents l.out))

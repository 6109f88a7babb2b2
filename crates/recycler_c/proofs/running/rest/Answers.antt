-- The contract of `rest`: takes all ends of a heap back.
use Rattle.std.proofs.Common.{◌≡◌, ◌%◌, All, subst, sym}
use Rattle.rec_core.specs.Core.{Core}
use Rattle.recycler_c.proofs.running.rest.Goals as goal

pub returns-clause-home : goal.returns-clause-home
returns-clause-home c = subst (λ (w : Core). All (λ word. word % 2 ≡ 0) w.crossing) (sym c.of.ensures) c.in-Ok.ensures.home

-- When a machine may make its next step on these words, with this in its mailbox.
use Rattle.std.specs.Prelude.{◌≡◌, Option, true, IsSome}
use Rattle.rec_log.specs.declared.contents.Contents.{Contents}
use Rattle.rec_mutator.specs.Next.{next_of}
use Rattle.rec_mutator.specs.Private.{Private, is_busy}
use Rattle.rec_mutator.specs.Took.{IsBetween, IsFound, IsSwapping, spare, took_of}
use Rattle.rec_core.specs.Cells.{Cells, IsWithin, cell}
use Rattle.rec_world.specs.Mailbox.{held}

-- the machine works, its operation names a word that is there and finds one that it may find, and a mailbox that it takes is home
-- with a spare
pub record MakesStep (p : Private) (cells : Cells) (mailbox : Option Contents) : Type 0 where
  pub busy : is_busy p ≡ true
  pub between : IsBetween p.phase
  pub within : IsWithin cells (next_of p)
  pub found : IsFound p (next_of p) (cell cells (next_of p))
  pub home : IsSome mailbox
  pub spare : IsSwapping (took_of p (cell cells (next_of p))).phase → held mailbox ≡ spare (took_of p (cell cells (next_of p)))

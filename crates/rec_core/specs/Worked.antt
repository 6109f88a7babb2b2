-- No work that isn't finished, and a work that was made to its end, with nothing between its steps.
use Rattle.std.specs.Prelude.{◌≡◌, ◌≢◌, ℕ, true, false}
use Rattle.rec_word.specs.Mailbox.{crossing_word}
use Rattle.rec_word.specs.declared.mailbox.Mailbox.TheVariants.{Retired}
use Rattle.rec_mutator.specs.Private.{is_busy}
use Rattle.rec_mutator.specs.declared.work.Work.{Work}
use Rattle.rec_collector.specs.declared.phase.Phase.TheVariants.{Looking}
use Rattle.rec_core.specs.Config.{IsMutator}
use Rattle.rec_core.specs.Core.{Core, mutator, crossing_of}
use Rattle.rec_core.specs.Moves.{begun, stepped}

-- no mutator has begun a work that isn't finished
abbrev pub AreIdle : Core → Type 0
AreIdle w = (t : ℕ) → IsMutator w.config t → is_busy (mutator w t) ≡ false

-- the states to which steps of a mutator lead, each made while it is busy
pub data StepsTo (before : Core) (t : ℕ) : Core → Type 0 where
  here : (w : Core) → w ≡ before → StepsTo before t w
  further : (w v : Core) → StepsTo before t w → is_busy (mutator w t) ≡ true → v ≡ stepped w t → StepsTo before t v

-- The work was begun, with slot 0 as its scan's first one, and its steps were made until it was finished. There is just one such state.
pub record IsWorked (before : Core) (t : ℕ) (work : Work) (after : Core) : Type 0 where
  -- the state before the last step
  pub last : Core
  pub path : StepsTo (begun before t work) t last
  pub busy : is_busy (mutator last t) ≡ true
  pub steps : after ≡ stepped last t
  pub idle : is_busy (mutator after t) ≡ false

-- the collector waits for a mutator that hasn't crossed into the requested epoch
pub record WaitsFor (w : Core) (t : ℕ) : Type 0 where
  pub looks : w.collector.phase ≡ Looking t
  pub behind : crossing_of w t ≢ crossing_word w.epoch Retired

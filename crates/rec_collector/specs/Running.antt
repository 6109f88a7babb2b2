-- Runs of turns for the machine that is at work: words that it learns one after another, each by a turn.
use Rattle.std.specs.Prelude.{◌≡◌, ℕ, ◌+◌, ◌-◌, ◌^◌, ◌<◌, Option, IsSome, []}
use Rattle.rec_word.specs.declared.op.Op.{Op}
use Rattle.rec_counts.specs.Counts.{State}
use Rattle.rec_release.specs.CycleFree as frees
use Rattle.rec_release.specs.Sweep as sweeps
use Rattle.rec_sigma.specs.Prepare as preps
use Rattle.rec_trial.specs.Trial as trials
use Rattle.rec_collector.specs.Followed.{Next, followed, prepared, relieved, tried}
use Rattle.rec_collector.specs.Given.{IsGiven}
use Rattle.rec_collector.specs.Kept.{IsMachine, KeepsSizes}
use Rattle.rec_collector.specs.Private.{Private, opened, parts_of, plain, with_parts}
use Rattle.rec_collector.specs.Took.{came, came_turn, moved, swept_phase, took_of, turn_of}
use Rattle.rec_collector.specs.declared.phase.Phase.{Phase}
use Rattle.rec_collector.specs.declared.phase.Phase.TheVariants.{Freeing, Trying, Preparing, Sweeping}
use Rattle.rec_collector.specs.declared.turn.Turn.{Turn}
use Rattle.rec_collector.specs.declared.turn.Turn.TheVariants.{Moved}

-- a machine to name where none is at hand
abbrev pub some_machine : Private
some_machine = opened 0 0 0 0 0 0 plain [] []

-- So many turns were made, and all but the last one moved. The machine has come to this record, and the last turn answered this.
pub data Turned (p : Private) : ℕ → Private → Turn → Type 0 where
  none : Turned p 0 p Moved
  more : (n : ℕ) (q : Private) (word : ℕ) → Turned p n q Moved → IsGiven q word → Turned p (n + 1) (took_of q word) (turn_of q word)

-- the machine as the last of so many turns is made
abbrev pub before_last : Private → (n : ℕ) → Private
before_last p n = record p { turns = p.turns + (n - 1) }

-- The last of so many turns came to these parts and this phase, and the machine behind it was complete before a collection ended.
pub record Led (p : Private) (n : ℕ) (next : Next) (now : Private) (turn : Turn) : Type 0 where
  pub is : now ≡ came (before_last p n) next
  pub answers : turn ≡ came_turn p.epoch next.phase
  pub machine : IsMachine (moved (with_parts (before_last p n) next.parts) next.phase)
  pub sizes : KeepsSizes p (moved (with_parts (before_last p n) next.parts) next.phase)
  pub fits : p.turns + n < 2 ^ 64

-- From a machine so many turns were made, as `stands` has it. While something is due it is in this phase with these counts, and nothing
-- else changed but how many turns there were. The last turn came to `next`.
pub record Runs (stands : ℕ → Private → Turn → Type 0) (p : Private) (n : ℕ) (due : Option Op) (phase : Phase) (counts : State) (next : Next) : Type 0 where
  pub now : Private
  pub turn : Turn
  pub turned : Turned p n now turn
  pub machine : IsMachine now
  pub sizes : KeepsSizes p now
  pub stood : stands n now turn
  pub busy : IsSome due → (now ≡ record p { phase = phase; counts = counts; turns = p.turns + n }) × (turn ≡ Moved)
  pub led : 0 < n → Led p n next now turn

-- a trial is at this work
abbrev pub TryingRuns : (stands : ℕ → Private → Turn → Type 0) → Private → ℕ → trials.Work → Type 0
TryingRuns stands p n w = Runs stands p n (trials.next_of w.machine) (Trying w.machine) w.counts (tried (parts_of p) w)

-- a preparation is
abbrev pub PreparingRuns : (stands : ℕ → Private → Turn → Type 0) → Private → ℕ → preps.Work → Type 0
PreparingRuns stands p n w = Runs stands p n (preps.next_of w.machine) (Preparing w.machine) w.counts (prepared (parts_of p) w)

-- the freeing of a set is
abbrev pub FreeingRuns : (stands : ℕ → Private → Turn → Type 0) → Private → ℕ → frees.Work → Type 0
FreeingRuns stands p n w = Runs stands p n (frees.next_of w.machine) (Freeing w.machine) w.counts (followed (relieved (parts_of p) w))

-- so many slots more were swept, and the sweep is at this work
abbrev pub swept_on : Private → (swept n : ℕ) → sweeps.Work → Private
swept_on p swept n w = record p { phase = swept_phase (swept + n) w.due; counts = w.counts; freed = p.freed + n; turns = p.turns + n }

-- a sweep is at this work
pub record SweepingRuns (stands : ℕ → Private → Turn → Type 0) (p : Private) (n : ℕ) (w : sweeps.Work) : Type 0 where
  pub due : Option ℕ
  pub swept : ℕ
  pub from : p.phase ≡ Sweeping due swept
  pub now : Private
  pub is : now ≡ swept_on p swept n w
  pub turned : Turned p n now Moved
  pub machine : IsMachine now
  pub sizes : KeepsSizes p now
  pub stood : stands n now Moved

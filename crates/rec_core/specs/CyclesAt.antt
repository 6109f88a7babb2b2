-- What is known of the sets of a heap with its collector, by the phase of the collection.
use Rattle.std.specs.Prelude.{◌≡◌, ℕ, List}
use Rattle.rec_model.specs.Pending.{Pending}
use Rattle.rec_counts.specs.Counts.{State, IsKept}
use Rattle.rec_word.specs.Load.{Load}
use Rattle.rec_sigma.specs.Prepared as prepared
use Rattle.rec_trial.specs.Loaded.{Run}
use Rattle.rec_trial.specs.Promised.{IsTrial}
use Rattle.rec_sigma.specs.Prepare as preps
use Rattle.rec_trial.specs.Trial.{Machine, Work}
use Rattle.rec_collector.specs.Private.{Private}
use Rattle.rec_collector.specs.declared.phase.Phase.{Phase}
use Rattle.rec_collector.specs.declared.phase.Phase.TheVariants.{Releasing, Freeing, Trying, Preparing}
use Rattle.rec_core.specs.Cycles.{AreFields, TrialStands, SetsStand, SetsWait, SetsTest}

-- A trial is at work: it has a record of what it loaded, which stands.
pub record IsLoading (w : Pending) (s : State) (trial_now : Machine) : Type 0 where
  pub before : State
  pub words : List ℕ
  pub run : Run
  pub trial : IsTrial w.fields before words run
  pub at : ◌≡◌ {A = Work} run.work (record { machine = trial_now; counts = s })
  pub stands : TrialStands w run

-- Sets are prepared: the words that were loaded for it stand.
pub record AreSeen (w : Pending) (s : State) (prep : preps.Machine) : Type 0 where
  pub before : State
  pub before_kept : IsKept before
  pub loads : List Load
  pub prepares : prepared.PreparedTo w.fields before prep.at s loads
  pub fields : AreFields w.fields loads
  pub stands : SetsStand w s loads

-- the sets that were found last wait for the next batch; from then on they are tested, until a trial looks for new ones
abbrev pub HasCyclesAt : Pending → Private → Phase → Type 0
HasCyclesAt w c (Releasing release) = SetsTest w c.counts
HasCyclesAt w c (Freeing freeing) = SetsTest w c.counts
HasCyclesAt w c (Trying trial) = IsLoading w c.counts trial
HasCyclesAt w c (Preparing prep) = AreSeen w c.counts prep
HasCyclesAt w c _ = SetsWait w c.counts

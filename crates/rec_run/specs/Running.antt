-- What runs on threads: which request, and a script's heap as it is set running.
use Rattle.std.specs.Prelude.{◌≡◌, ℕ, ◌+◌, ◌<◌, Bool, true, false, List, length, slice_index_or}
use Rattle.rec_core.specs.Config.{IsConfig}
use Rattle.rec_core.specs.Core.{opened}
use Rattle.rec_table.specs.Views.{AreMutatorsOf, CollectorView, MutatorView, IsCollectorOf, Started, fresh, fresh_collector}
use Rattle.rec_threads.specs.Done.{IsCrewFor}
use Rattle.rec_threads.specs.declared.crew.Crew.{Crew}
use Rattle.rec_play.specs.Played.{config_of}
use Rattle.rec_script.specs.Script.{ScriptContents}
use Rattle.rec_request.specs.declared.request.How.TheVariants as hows
use Rattle.rec_request.specs.declared.request.Request.{Request}
use Rattle.rec_request.specs.declared.request.Request.TheVariants as requests

-- whether a request is carried out by threads that wait for one another
abbrev pub on_threads : Request → Bool
on_threads (requests.Answer (hows.Play how)) = false
on_threads (requests.Answer hows.Threads) = true
on_threads (requests.Keep asked) = false
on_threads (requests.Resume asked) = false
on_threads (requests.Make make) = false
on_threads requests.Audit = false

-- The heap is the script's opening, with all its mutators and its collector. None of them made a step yet.
pub record IsStarted (script : ScriptContents) (heap : Started) (mutators : List MutatorView) (collector : CollectorView) : Type 0 where
  pub config : IsConfig (config_of script)
  pub opens : heap.world ≡ opened (config_of script)
  pub all : AreMutatorsOf heap mutators
  pub fresh_mutators : (k : ℕ) (d : MutatorView) → k < length mutators → slice_index_or mutators k d ≡ fresh heap (k + 1)
  pub own : IsCollectorOf heap collector
  pub fresh_collector : collector ≡ fresh_collector heap

-- And the crew may carry out the script's commands on it.
pub record IsSetRunning (script : ScriptContents) (heap : Started) (crew : Crew) : Type 0 where
  pub started : IsStarted script heap crew.mutators.items crew.collector
  pub whole : IsCrewFor heap script crew

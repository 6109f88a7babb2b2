-- What is told of a trace of a heap.
use Rattle.std.specs.Prelude.{◌≡◌, ℕ, Bool, true, false, List, [], Option, None, Some, length}
use Rattle.rec_model.specs.Sight.{NumbersSlots}
use Rattle.rec_core.specs.Core.{Core, sight}
use Rattle.rec_settle.specs.Collecting.{taken_slots}
use Rattle.rec_world.specs.World.{IsWorld}
use Rattle.rec_report.specs.Text.{trace_line}
use Rattle.rec_run.specs.declared.tracing.Traced.{Traced}

-- how many slots a trace of the heap lists, and how many hold objects
pub record IsOf (w : Core) (told : Traced) : Type 0 where
  pub slots : List ℕ
  pub numbers : NumbersSlots (sight w) slots
  pub reached : told.reached ≡ length slots
  pub taken : told.taken ≡ taken_slots w

-- it is told just where a trace is asked for; the heap is the end of a run
abbrev pub IsTold : (traced : Bool) → Core → Option Traced → Type 0
IsTold true w (Some told) = IsWorld w × IsOf w told
IsTold true w None = ⊥
IsTold false w told = IsWorld w × (told ≡ None)

-- what a trace that was made puts behind the text, where so many slots hold objects after settling
abbrev pub tail_of : Option Traced → (live : ℕ) → List ℕ
tail_of None live = []
tail_of (Some told) live = trace_line told.reached told.taken live

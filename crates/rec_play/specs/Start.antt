-- Where the run of a script begins.
use Rattle.std.specs.Prelude.{◌≡◌, ℕ, false, true, List, [], ◌∷◌, length, map, replicate}
use Rattle.rec_model.specs.Heap.{Heap, opening}
use Rattle.rec_model.specs.LegalOrder.{Moment}
use Rattle.rec_model.specs.Sight.{StandsBy}
use Rattle.rec_model.specs.Unfreed.{AreUnfreed}
use Rattle.rec_core.specs.Config.{IsMutator}
use Rattle.rec_core.specs.Core.{Core, mutator, opened, sight}
use Rattle.rec_core.specs.Worked.{AreIdle}
use Rattle.rec_order.specs.Naming.{Naming, naming_of}
use Rattle.rec_script.specs.Script.{ScriptContents}
use Rattle.rec_play.specs.Numbers.{config_of}

-- The heap in which a run begins. A heap that never frees stands for it: which of its objects each slot holds, and which ones are in taken
-- slots.
pub record Start : Type 0 where
  pub world : Core
  pub heap : Heap
  pub number : ℕ → ℕ
  pub unfreed : List ℕ

-- which object each slot holds there, and the number of the object that is born next
abbrev pub names_at : Start → Naming
names_at start = naming_of start.heap start.number

-- A script may be played on this heap: it has the script's numbers, nobody works there and nobody has left, all logs are empty, and no
-- sweep has begun.
pub record MayBegin (script : ScriptContents) (world : Core) : Type 0 where
  pub config : world.config ≡ config_of script
  pub idle : AreIdle world
  pub present : (t : ℕ) → IsMutator world.config t → (mutator world t).left ≡ false
  pub logs : map (λ p. length p.log.entries) world.mutators ≡ replicate (length script.commands) 0
  pub unswept : world.freed ≡ 0

-- And what stands for that heap. Its objects count as born.
pub record IsStartOf (script : ScriptContents) (start : Start) : Type 0 where
  pub begins : MayBegin script start.world
  pub stands : StandsBy start.heap (sight start.world) start.number
  pub unfreed : AreUnfreed (sight start.world) start.number start.unfreed
  pub made : start.world.made ≡ length start.heap.objects

-- the opening of a script's heap: slot 0 holds its one object
abbrev pub opening_of : ScriptContents → Start
opening_of script =
    record {
      world = opened (config_of script);
      heap = opening script.fields script.registers (length script.commands);
      number = λ slot. 0;
      unfreed = 0 ∷ [];
    }

-- the moment there, with no marks made, and logs that are empty
abbrev pub moment_at : ScriptContents → Start → Moment
moment_at script start = record { heap = start.heap; unfreed = start.unfreed; marks = 0; frees = true; done = replicate (length script.commands) 0 }

-- A heap that its one mutator can be asked on.
use Rattle.std.specs.Prelude.{◌≡◌, ◌<◌, false}
use Rattle.rec_mutator.specs.Private.{is_busy}
use Rattle.rec_core.specs.Core.{Core, mutator}

-- there are three slots and one mutator, which works at nothing
abbrev pub IsReady : Core → Type 0
IsReady w = (2 < w.config.slots) × (w.config.mutators ≡ 1) × (is_busy (mutator w 1) ≡ false)

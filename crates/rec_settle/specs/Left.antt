-- How many turns settling has left, at most.
use Rattle.std.specs.Prelude.{ℕ, ◌+◌, ◌-◌, ◌*◌}
use Rattle.rec_core.specs.Core.{Core}
use Rattle.rec_core.specs.declared.config.Config.{Config}
use Rattle.rec_settle.specs.Collecting.{turns_of, waits_at}
use Rattle.rec_settle.specs.declared.turns.Settling.{Settling}
use Rattle.rec_settle.specs.declared.turns.Settling.TheVariants.{Finishing, Offering, Trying, Freeing, Settled}

-- More turns than a collection of settling has. Each that goes on counts twice, and one that waits once.
abbrev pub most_turns : Config → ℕ
most_turns config = 2 * (turns_of config + 1) + 2

-- how many of them are left to the collection that goes on
abbrev pub left_of : Core → ℕ
left_of w = 2 * (turns_of w.config + 1 - w.collector.turns) + waits_at w w.collector.phase

-- How many collections settling still has to complete. Where it began, as many are complete as epochs were requested before this
-- one, but for the one under way. That one is completed, and then three more.
abbrev pub collections_left : Settling → Core → ℕ
collections_left (Finishing requested) w = requested + 3 - (w.config.first_epoch + w.collector.collections)
collections_left Offering w = 2
collections_left Trying w = 2
collections_left Freeing w = 1
collections_left Settled w = 0

-- The turns of those collections. The one that goes on is counted twice: whole, and by what is left of it.
abbrev pub left_in : Settling → Core → ℕ
left_in stage w = collections_left stage w * most_turns w.config + left_of w

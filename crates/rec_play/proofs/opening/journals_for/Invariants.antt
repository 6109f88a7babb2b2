-- The loops of `journals_for`: an empty journal for each mutator, with room for its commands.
use Rattle.std.proofs.Common.{◌≡◌, map, take}
use Rattle.rec_play.specs.Played.{lengths_of}
use Rattle.rec_play.proofs.Ready.{journal_with}
use Rattle.rec_play.proofs.opening.journals_for.Given as goal

-- the journals so far are open
abbrev pub invariant-loop-index : goal.invariant-loop-index
invariant-loop-index l = l.journals.items ≡ map journal_with (take l.index (lengths_of l.script))

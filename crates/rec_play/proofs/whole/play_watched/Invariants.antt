-- The turns so far were made, noted and shown, and the rule has the rest.
use Rattle.std.proofs.Common.{◌≤◌, List, length}
use Rattle.rec_collector.specs.Shown.{Shown}
use Rattle.rec_core.specs.Shown.{Shows}
use Rattle.rec_order.specs.Naming.{Naming, first_naming}
use Rattle.rec_play.specs.Playing.{to_come}
use Rattle.rec_play.specs.Shown.{IsShownTo, first_player}
use Rattle.rec_play.proofs.Rounds.{Between}
use Rattle.rec_play.proofs.whole.play_watched.Given as goal

abbrev pub invariant-loop-made : goal.invariant-loop-made
invariant-loop-made g l = record {
  between : Between l.script l.fn.world first_naming l.seed l.turns l.world l.journals l.order l.playing;
  -- whichever objects the slots hold at first
  each : (named : Naming) → Between l.script l.fn.world named l.seed l.turns l.world l.journals l.order l.playing;
  shown : (shown : List Shown) × IsShownTo (first_player l.script l.seed l.turns) l.fn.world shown l.playing l.world × g.W.Watch.WasShown l.fn.watch shown l.watch × Shows l.fn.world shown l.world;
  never_falls : g.W.Watch.refused l.fn.watch ≤ g.W.Watch.refused l.watch;
}

abbrev pub decreases-loop-made : goal.decreases-loop-made
decreases-loop-made g l = length (to_come l.playing.rest)

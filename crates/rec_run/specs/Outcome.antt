-- What carrying out a script's commands leaves.
use Rattle.std.specs.Prelude.{◌≡◌, List, length, option_map}
use Rattle.rec_model.specs.LegalOrder.{Event, actors}
use Rattle.rec_core.specs.Worked.{AreIdle}
use Rattle.rec_play.specs.Played.{config_of, last_moment, lines_of}
use Rattle.rec_play.specs.Start.{Start, moment_at}
use Rattle.rec_script.specs.Script.{ScriptContents}
use Rattle.rec_run.specs.Headline.{AreExplained, printed_order}
use Rattle.rec_run.specs.Making.{HasRun}
use Rattle.rec_request.specs.declared.request.How.{How}
use Rattle.rec_run.specs.declared.outcome.Outcome.{Outcome}

-- The heap and the journals are those of a run of the script from this start, and its order explains the journals. Nobody works in the
-- heap.
pub record IsOutcome (script : ScriptContents) (start : Start) (how : How) (outcome : Outcome) : Type 0 where
  pub events : List Event
  pub explained : AreExplained script (moment_at script start) (lines_of outcome.journals.items) events
  pub has_run : HasRun script start how (lines_of outcome.journals.items) events outcome.world
  pub made : outcome.world.made ≡ length (last_moment script start events).heap.objects
  pub order : option_map (λ order. order.list) outcome.order ≡ printed_order how (actors events)
  pub config : outcome.world.config ≡ config_of script
  pub idle : AreIdle outcome.world

-- What is known of a run of a script, whichever way it was run.
use Rattle.std.proofs.Common.{◌≡◌, ℕ, ◌++◌, Bool, true, false, List, Option, None, Some, drop, length, map, option_map, take, sym, ap, subst, ◌∙◌}
use Rattle.std.specs.List.{slice_get}
use Rattle.std.specs.Option.{IfSome}
use Rattle.std.proofs.Math.Seq.{take-append_seam}
use Rattle.std.proofs.lemmas.List.{length-map}
use Rattle.rec_model.specs.Asking.{allocation}
use Rattle.rec_model.specs.LegalOrder.{Line, Event, Moment, NewFits, actors, IsLegalOrder, NoLogFull}
use Rattle.rec_model.specs.declared.answer.Answer.TheVariants as answers
use Rattle.rec_model.specs.declared.told.Told.{Told}
use Rattle.rec_core.specs.Core.{Core}
use Rattle.rec_play.specs.Played.{IsPlayed, limits_of, lines_of}
use Rattle.rec_play.specs.Start.{Start, names_at}
use Rattle.rec_play.proofs.NotYet.{turn_told}
use Rattle.rec_report.specs.Text.{IsOrderOf}
use Rattle.rec_script.specs.Script.{ScriptContents}
use Rattle.rec_world.specs.Journal.{Notes}
use Rattle.rec_world.specs.Order.{Turns}
use Rattle.rec_run.specs.Headline.{AreExplained, before, printed_order}
use Rattle.rec_run.specs.Making.{HasRun}
use Rattle.rec_request.specs.declared.request.How.{How}
use Rattle.rec_request.specs.declared.request.How.TheVariants as hows
use Rattle.rec_request.specs.declared.request.Play.{Play}
use Rattle.rec_run.proofs.Turns.{legal_turns}

-- where an allocation is answered full, as many objects as there are slots are not freed
full_only : (script : ScriptContents) (first : Moment) (journals : List (List Line)) (events : List Event) → IsLegalOrder (limits_of script) first journals events
    → (i t reg label : ℕ) (leaf : Bool) (told : Told) → slice_get events i ≡ Some (Event.Answers t (allocation leaf reg label, told))
    → told.answer ≡ answers.Full → length (before script first events i).unfreed ≡ script.slots
full_only script first journals events legal i t reg label true told is full =
    subst (NewFits (limits_of script) (before script first events i)) full (legal.fits i (Event.Answers t (allocation true reg label, told)) is).allocation
full_only script first journals events legal i t reg label false told is full =
    subst (NewFits (limits_of script) (before script first events i)) full (legal.fits i (Event.Answers t (allocation false reg label, told)) is).allocation

-- what a legal order of a script's commands explains
pub explained : (script : ScriptContents) (first : Moment) (journals : List (List Line)) (events : List Event) → map (map (λ line. line.0)) journals ≡ script.commands
    → IsLegalOrder (limits_of script) first journals events → NoLogFull journals → AreExplained script first journals events
explained script first journals events commands legal no_log_full = record {
  commands = commands;
  legal = legal;
  given = λ i t cmd told is. (legal.fits i (Event.Answers t (cmd, told)) is).told.answer;
  full = full_only script first journals events legal;
  no_log_full = no_log_full;
}

-- what was played was run
pub played_run : (script : ScriptContents) (start : Start) (how : Play) (journals : List (List Line)) (events : List Event) (world : Core) → IsPlayed script start how.seed how.turns journals events world → HasRun script start (hows.Play how) journals events world
played_run script start how journals events world played = record {
  names = played.names;
  stands = played.stands;
  unfreed = played.unfreed;
  steps = record { in_order = played.in_order; run = played.run; not_yet = turn_told script start.world (names_at start) _ events played.names world played.run };
}

-- a vector holds what was written into its slice, where that has as many elements
pub written : (n : ℕ) (before after : List Notes) → n ≡ length after → after ≡ take n (after ++ drop (length after) before)
written n before after is = sym (ap (λ (k : ℕ). take k (after ++ drop (length after) before)) is ∙ take-append_seam after (drop (length after) before))

module _ (script : ScriptContents) (first : Moment) (journals : List (List Line)) (events : List Event) where
  -- there are as many journals as mutators
  pub many : (notes : List Notes) → journals ≡ lines_of notes → map (map (λ (line : Line). line.0)) journals ≡ script.commands → length notes ≡ length script.commands
  many notes is commands =
      sym (length-map notes (λ (j : Notes). j.lines)) ∙ ap length (sym is) ∙ sym (length-map journals (map (λ (line : Line). line.0))) ∙ ap length commands

  -- an order that is printed names each mutator as often as its journal has lines
  pub in_order : (how : How) → AreExplained script first journals events → (order : Option Turns) → option_map (λ (o : Turns). o.list) order ≡ printed_order how (actors events)
      → IfSome order (λ o. IsOrderOf journals o.list)
  in_order how are None is = tt
  in_order (hows.Play play) are (Some order) is =
      let same : order.list ≡ actors events = cc in
      subst (IsOrderOf journals) (sym same) (legal_turns _ _ _ events are.legal)
  in_order hows.Threads are (Some order) is = absurd (cc)

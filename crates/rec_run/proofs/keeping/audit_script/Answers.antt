-- The journal is that of all steps that were shown, while the script was played and while its heap was settled.
use Rattle.std.proofs.Common.{◌∙◌, subst, sym}
use Rattle.rec_core.specs.Core.{opened}
use Rattle.rec_play.specs.Played.{config_of, last_moment, lines_of}
use Rattle.rec_play.specs.Shown.{IsShownWhole}
use Rattle.rec_play.specs.Start.{opening_of}
use Rattle.rec_script.specs.Script.{ScriptContents}
use Rattle.rec_run.specs.Headline.{IsKept, heap_told}
use Rattle.rec_run.specs.Making.{HasRun}
use Rattle.rec_request.specs.declared.request.How.TheVariants as hows
use Rattle.rec_request.specs.declared.request.Play.{Play}
use Rattle.std.proofs.lemmas.Result.{IfOk-at_ok}
use Rattle.rec_run.proofs.Endings.{some_same}
use Rattle.rec_run.proofs.Noted.{noted_both, run_answered}
use Rattle.rec_run.proofs.keeping.audit_script.Goals as goal

pub returns : goal.returns
returns c =
    let script : ScriptContents = c.args.script.now in
    let o = c.in_ok-outcome.outcome in
    let is = c.in_ok-outcome.ensures.outcome in
    let (text, opens, noted) = c.in_ok-auditor.ensures in
    let (first, shown_first, noted_first, run_first) = c.in_ok-outcome.ensures.shown in
    let (later, shown_later, noted_later, run_later) = IfOk-at_ok _ c.in-Ok.is c.in_ok-_settled.ensures.shown in
    let done = IfOk-at_ok _ c.in-Ok.is c.in_ok-_settled.ensures.done in
    let number = is.has_run.names.number in
    let written = some_same _ _ (c.into_text.ensures ∙ noted_both (heap_told script) text _ _ _ first later noted opens noted_first noted_later) in
    record {
      journals = lines_of o.journals.items;
      events = is.events;
      end = o.world;
      world = c.settle_watched-settled.new.world;
      explained = is.explained;
      settled = done.settled;
      stands = (number, c.in_ok-_settled.ensures.stays.stands (last_moment script (opening_of script) is.events).heap number is.has_run.stands);
      kept = subst (λ k. IsKept k script c.args.asked o.world c.settle_watched-settled.new.world c.into_text.result.items) (sym c.requires.journal)
          (record {
            played = first;
            settling = later;
            written = written;
            answered = run_answered (config_of script) o.world done.settles.tried c.settle_watched-settled.new.world first later c.into_text.result.items c.in_ok-outcome.ensures.valid run_first run_later done.settles.frees written;
            made = record {
              while_played = subst (λ (p : Play). IsShownWhole script p.seed p.turns (opened (config_of script)) first o.world) c.played.ensures shown_first;
              while_settled = shown_later;
            };
          });
      made = record {
        run = subst (λ (p : Play). HasRun script (opening_of script) (hows.Play p) (lines_of o.journals.items) is.events o.world) c.played.ensures is.has_run;
        settles = done.settles;
      };
    }

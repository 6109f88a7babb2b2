-- What was played is the outcome.
use Rattle.std.proofs.Common.{◌≡◌, List, Some, length, refl, ap, sym, subst, ◌∙◌}
use Rattle.rec_play.specs.Played.{lines_of}
use Rattle.rec_play.specs.Start.{moment_at}
use Rattle.rec_script.specs.Script.{ScriptContents}
use Rattle.rec_world.specs.Journal.{Notes}
use Rattle.rec_request.specs.declared.request.How.TheVariants as hows
use Rattle.rec_run.specs.Headline.{AreExplained}
use Rattle.rec_run.specs.Making.{HasRun}
use Rattle.rec_run.proofs.Outcomes.{explained, many, played_run, written}
use Rattle.rec_run.proofs.playing.play_on.Goals as goal

pub returns-in-Ok-clause-outcome : goal.returns-in-Ok-clause-outcome
returns-in-Ok-clause-outcome c = λ start first is.
    let (events, played, stood, made) = c.in-Ok.ensures.played start first is in
    let js : List Notes = c.play_watched-played.new.journals in
    let script : ScriptContents = c.args.script.now in
    let all : length js ≡ length script.commands = many script (moment_at script start) (lines_of js) events js refl played.commands in
    let len : c.args.journals.len ≡ length js = sym c.as_mut_slice.ensures.len ∙ ap length c.as_mut_slice.ensures.value ∙ c.requires.notes.ready.one_each ∙ sym all in
    record {
      events = events;
      explained = subst (λ (ns : List Notes). AreExplained script (moment_at script start) (lines_of ns) events)
          (written c.args.journals.len c.args.journals.items js len)
          (explained script (moment_at script start) (lines_of js) events played.commands played.legal played.no_log_full);
      has_run = subst (λ (ns : List Notes). HasRun script start (hows.Play c.args.how) (lines_of ns) events c.play_watched-played.new.world)
          (written c.args.journals.len c.args.journals.items js len)
          (played_run script start c.args.how (lines_of js) events c.play_watched-played.new.world played);
      made = made;
      order = ap Some (c.in-Ok.ensures.order ∙ sym played.in_order);
      config = c.play_watched-played.ensures.config;
      idle = c.play_watched-played.ensures.idle;
    }

pub returns-in-Ok-clause-shown : goal.returns-in-Ok-clause-shown
returns-in-Ok-clause-shown c = c.in-Ok.ensures.shown

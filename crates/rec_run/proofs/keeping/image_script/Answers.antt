-- The image is that of the heap which settling left of the run.
use Rattle.std.proofs.Common.{sym, subst}
use Rattle.rec_core.specs.Core.{Core}
use Rattle.rec_play.specs.Played.{last_moment, lines_of}
use Rattle.rec_play.specs.Start.{opening_of}
use Rattle.rec_run.specs.Headline.{IsKept, TellsRun}
use Rattle.rec_run.specs.Making.{HasRun}
use Rattle.rec_request.specs.declared.request.How.TheVariants as hows
use Rattle.rec_request.specs.declared.request.Play.{Play}
use Rattle.std.proofs.lemmas.Result.{IfOk-weaker}
use Rattle.rec_run.proofs.keeping.image_script.Goals as goal

pub returns : goal.returns
returns c =
    let o = c.in_ok-outcome.outcome in
    let is = c.in_ok-outcome.ensures.outcome in
    let world : Core = c.settle.new.world in
    let number = is.has_run.names.number in
    IfOk-weaker c.write-image.result _ (λ image. TellsRun c.args.script.now c.args.asked image.items)
    (λ image written. record {
      journals = lines_of o.journals.items;
      events = is.events;
      end = o.world;
      world = world;
      explained = is.explained;
      settled = c.in-Ok.ensures.done.settled;
      stands = (number, c.settle.ensures.stays.stands (last_moment c.args.script.now (opening_of c.args.script.now) is.events).heap number is.has_run.stands);
      kept = subst (λ k. IsKept k c.args.script.now c.args.asked o.world world image.items) (sym c.requires.image)
          (record { contents = written.0; image = written.1; numbers = written.3; stands = written.4; written = sym written.2 });
      made = record { run = subst (λ (p : Play). HasRun c.args.script.now (opening_of c.args.script.now) (hows.Play p) (lines_of o.journals.items) is.events o.world) c.played.ensures is.has_run; settles = c.in-Ok.ensures.done.settles };
    })
    c.write-image.ensures.image

-- The contract of `play_source`: reads a script to its end, plays it, and writes its answer.
use Rattle.std.proofs.Common.{refl}
use Rattle.rec_request.specs.declared.request.How.TheVariants as hows
use Rattle.rec_request.specs.declared.request.Request.TheVariants as requests
use Rattle.rec_run.proofs.Endings.{bad_same, read_refused, wrote_answer, wrote_front}
use Rattle.rec_run.proofs.Fronts.{joined}
use Rattle.rec_run.proofs.alone.play_source.Goals as goal

pub returns-in-Err-Bad-clause-ends : goal.returns-in-Err-Bad-clause-ends
returns-in-Err-Bad-clause-ends g c =
    read_refused (requests.Answer (hows.Play c.args.how)) (g.S.Source.rest c.args.source.now) (g.S.Source.rest c.read_all.new.source) c.in-Ok.bytes.items _ _ c.in-Ok.ensures.passed c.in-Ok.ensures.whole c.in-Ok.ensures.few
    (c.in-Err-Bad.ensures.refused _ _ (bad_same c.in-Err-Bad.field-0 c.in-Err-Bad.line _ c.in-Err-Bad.kind _ c.in-Err-Bad.field-0-is refl))

pub returns-in-Ok-write_lines-clause-ends : goal.returns-in-Ok-write_lines-clause-ends
returns-in-Ok-write_lines-clause-ends g c =
    wrote_answer (hows.Play c.args.how) (g.S.Source.rest c.args.source.now) (g.S.Source.rest c.read_all.new.source) (g.K.Sink.written c.args.sink.now) (g.K.Sink.written c.write_lines.new.sink)
    c.in-Ok.bytes.items (joined c.in-Ok-play.text) c.in-Ok.ensures.passed c.in-Ok.ensures.whole
    c.in-Ok-play.ensures.answer
    c.in-Ok-write_lines.ensures.written

pub returns-clause-ends : goal.returns-clause-ends
returns-clause-ends g c = (
  c.in-Err.ensures.fault,
  wrote_front (hows.Play c.args.how) (g.S.Source.rest c.args.source.now) (g.S.Source.rest c.read_all.new.source) (g.K.Sink.written c.args.sink.now) (g.K.Sink.written c.write_lines.new.sink)
      c.in-Ok.bytes.items (joined c.in-Ok-play.text) c.in-Ok.ensures.passed c.in-Ok.ensures.whole
      c.in-Ok-play.ensures.answer
      c.in-Err.ensures.front,
)

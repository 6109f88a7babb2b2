-- The contract of `audit_source`: what is to be said of a journal is written.
use Rattle.std.proofs.Common.{◌≡◌, ◌++◌, ℕ, List, subst}
use Rattle.std.specs.Prelude.{string_bytes}
use Rattle.rec_io.specs.Sink.{Appends}
use Rattle.rec_run.specs.Headline.{SaysVerdict}
use Rattle.rec_run.proofs.Audits.{wrote_verdict, wrote_verdict_front}
use Rattle.rec_run.proofs.alone.audit_source.Goals as goal

pub returns-in-Ok-write_text-clause-ends : goal.returns-in-Ok-write_text-clause-ends
returns-in-Ok-write_text-clause-ends g c =
    wrote_verdict (g.S.Source.rest c.args.source.now) (g.S.Source.rest c.read_all.new.source) (g.K.Sink.written c.args.sink.now) (g.K.Sink.written c.write_text.new.sink)
    c.in-Ok.bytes.items (string_bytes c.in-Ok-verdict_text.text) c.in-Ok.ensures.passed c.in-Ok.ensures.whole c.in-Ok.ensures.few
    (subst (λ bytes. SaysVerdict bytes (string_bytes c.in-Ok-verdict_text.text)) c.deref.ensures.value c.in-Ok-verdict_text.ensures)
    (subst (λ text. Appends (g.K.Sink.written c.args.sink.now) (g.K.Sink.written c.write_text.new.sink) text) c.as_bytes.ensures.value c.in-Ok-write_text.ensures.written)

pub returns-clause-ends : goal.returns-clause-ends
returns-clause-ends g c =
    let P : List ℕ → Type 0 = λ text. (front back : List ℕ) × (text ≡ front ++ back) × Appends (g.K.Sink.written c.args.sink.now) (g.K.Sink.written c.write_text.new.sink) front in (
      c.in-Err.ensures.fault,
      wrote_verdict_front (g.S.Source.rest c.args.source.now) (g.S.Source.rest c.read_all.new.source) (g.K.Sink.written c.args.sink.now) (g.K.Sink.written c.write_text.new.sink)
          c.in-Ok.bytes.items (string_bytes c.in-Ok-verdict_text.text) c.in-Ok.ensures.passed c.in-Ok.ensures.whole c.in-Ok.ensures.few
          (subst (λ bytes. SaysVerdict bytes (string_bytes c.in-Ok-verdict_text.text)) c.deref.ensures.value c.in-Ok-verdict_text.ensures)
          (subst P c.as_bytes.ensures.value c.in-Err.ensures.front),
    )

-- The contract of `keep_source`: reads a script to its end, plays it, and writes what is to be kept of it.
use Rattle.std.proofs.Common.{◌≡◌, ◌++◌, ℕ, List, refl, subst}
use Rattle.rec_io.specs.Sink.{Appends}
use Rattle.rec_request.specs.declared.request.Request.TheVariants as requests
use Rattle.rec_run.proofs.Endings.{bad_same, read_refused, wrote_kept, wrote_kept_front}
use Rattle.rec_run.proofs.alone.keep_source.Goals as goal

pub returns-in-Err-Bad-clause-ends : goal.returns-in-Err-Bad-clause-ends
returns-in-Err-Bad-clause-ends g c =
    read_refused (requests.Keep c.args.asked) (g.S.Source.rest c.args.source.now) (g.S.Source.rest c.read_all.new.source) c.in-Ok.bytes.items _ _ c.in-Ok.ensures.passed c.in-Ok.ensures.whole c.in-Ok.ensures.few
    (c.in-Err-Bad.ensures.refused _ _ (bad_same c.in-Err-Bad.field-0 c.in-Err-Bad.line _ c.in-Err-Bad.kind _ c.in-Err-Bad.field-0-is refl))

pub returns-in-Ok-write_text-clause-ends : goal.returns-in-Ok-write_text-clause-ends
returns-in-Ok-write_text-clause-ends g c =
    wrote_kept c.args.asked (g.S.Source.rest c.args.source.now) (g.S.Source.rest c.read_all.new.source) (g.K.Sink.written c.args.sink.now) (g.K.Sink.written c.write_text.new.sink)
    c.in-Ok.bytes.items c.in-Ok-keep.kept.items c.in-Ok.ensures.passed c.in-Ok.ensures.whole
    c.in-Ok-keep.ensures.told
    (subst (λ text. Appends (g.K.Sink.written c.args.sink.now) (g.K.Sink.written c.write_text.new.sink) text) c.deref.ensures.value c.in-Ok-write_text.ensures.written)

pub returns-clause-ends : goal.returns-clause-ends
returns-clause-ends g c =
    let P : List ℕ → Type 0 = λ text. (front back : List ℕ) × (text ≡ front ++ back) × Appends (g.K.Sink.written c.args.sink.now) (g.K.Sink.written c.write_text.new.sink) front in (
      c.in-Err.ensures.fault,
      wrote_kept_front c.args.asked (g.S.Source.rest c.args.source.now) (g.S.Source.rest c.read_all.new.source) (g.K.Sink.written c.args.sink.now) (g.K.Sink.written c.write_text.new.sink)
          c.in-Ok.bytes.items c.in-Ok-keep.kept.items c.in-Ok.ensures.passed c.in-Ok.ensures.whole
          c.in-Ok-keep.ensures.told
          (subst P c.deref.ensures.value c.in-Err.ensures.front),
    )

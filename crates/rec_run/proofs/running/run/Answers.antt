-- Each clause is read off the end of the request, which stays an end when the sink has passed on what it held.
use Rattle.std.proofs.Common.{◌≡◌, ◌∙◌, Err, subst}
use Rattle.rec_request.specs.declared.request.Request.{Request}
use Rattle.rec_request.specs.declared.request.Request.TheVariants as requests
use Rattle.rec_run.specs.Ends.{Ends, Passage, passage}
use Rattle.rec_run.proofs.Endings.{audits, caused, completes, finished, makes, none_failed, refuses, refuses_resuming, resumes}
use Rattle.rec_request.proofs.Requests.{asked_in_range, asked_to_audit, asked_to_make, asked_to_read, asked_to_resume}
use Rattle.rec_run.proofs.running.run.Goals as goal

pub returns-in-Ok-clause-front : goal.returns-in-Ok-clause-front
returns-in-Ok-clause-front g c = λ is.
    let ends = finished g.K.Sink.written g.K.Sink.faults c.in-Ok.request c.carry_out-status.result c.finish.result
    (passage g.S.Source.rest g.S.Source.faults c.args.source.now c.carry_out-status.new.source) c.args.sink.now c.carry_out-status.new.sink c.finish.new.sink
    c.carry_out-status.ensures.ends c.carry_out-status.ensures.never_falls c.finish.ensures.fault c.finish.ensures.written c.finish.ensures.other in
    (c.in-Ok.request, c.in-Ok.ensures.asked, (subst (λ status. Ends c.in-Ok.request status (passage g.S.Source.rest g.S.Source.faults c.args.source.now c.carry_out-status.new.source) (passage g.K.Sink.written g.K.Sink.faults c.args.sink.now c.finish.new.sink)) is ends).1)

pub returns-in-Ok-clause-must : goal.returns-in-Ok-clause-must
returns-in-Ok-clause-must g c =
    let source : Passage = passage g.S.Source.rest g.S.Source.faults c.args.source.now c.carry_out-status.new.source in
    let sink : Passage = passage g.K.Sink.written g.K.Sink.faults c.args.sink.now c.finish.new.sink in
    let ends : Ends c.in-Ok.request c.finish.result source sink = finished g.K.Sink.written g.K.Sink.faults c.in-Ok.request c.carry_out-status.result c.finish.result source c.args.sink.now c.carry_out-status.new.sink c.finish.new.sink
    c.carry_out-status.ensures.ends c.carry_out-status.ensures.never_falls c.finish.ensures.fault c.finish.ensures.written c.finish.ensures.other in
    let asked = c.in-Ok.ensures.asked in
    let of : (request : Request) → c.in-Ok.request ≡ request → Ends request c.finish.result source sink = λ request same. subst (λ r. Ends r c.finish.result source sink) same ends in
    record {
      complete = λ reads. completes c.in-Ok.request c.finish.result source sink ends (asked_to_read _ c.in-Ok.request asked reads);
      resumed = λ (own, asks). let (resume, same) = asked_to_resume _ c.in-Ok.request asked own asks in resumes resume c.finish.result source sink (of (requests.Resume resume) same);
      unresumed = λ (own, asks). let (resume, same) = asked_to_resume _ c.in-Ok.request asked own asks in refuses_resuming resume c.finish.result source sink (of (requests.Resume resume) same);
      refuses = λ reads. refuses c.in-Ok.request c.finish.result source sink ends (asked_to_read _ c.in-Ok.request asked reads);
      audited = λ asks. audits c.finish.result source sink (of requests.Audit (asked_to_audit _ c.in-Ok.request asked asks));
      made = λ (own, asks). let (make, same) = asked_to_make _ c.in-Ok.request asked own asks in makes make c.finish.result source sink (of (requests.Make make) same);
    }

pub returns-in-Err-Usage-clause-must : goal.returns-in-Err-Usage-clause-must
returns-in-Err-Usage-clause-must g c = let no = c.read_words.ensures.usage (c.in-Err-Usage.is ∙ (λ k. Err (c.in-Err-Usage.field-0-is k))) in record {
  complete = λ (request, asks, reads). absurd (no (request, asks));
  resumed = λ (resume, asks). absurd (no (requests.Resume resume, asks));
  unresumed = λ (resume, asks). absurd (no (requests.Resume resume, asks));
  refuses = λ (request, asks, reads). absurd (no (request, asks));
  audited = λ asks. absurd (no (requests.Audit, asks));
  made = λ (make, asks). absurd (no (requests.Make make, asks));
}

pub returns-in-Ok-clause-writes : goal.returns-in-Ok-clause-writes
returns-in-Ok-clause-writes g c = none_failed g.K.Sink.faults c.carry_out-status.result c.finish.result c.args.sink.now c.carry_out-status.new.sink c.finish.new.sink
    c.carry_out-status.ensures.writes c.finish.ensures.fault c.finish.ensures.faultless c.finish.ensures.other

pub returns-in-Ok-clause-cause : goal.returns-in-Ok-clause-cause
returns-in-Ok-clause-cause g c =
    let ends = finished g.K.Sink.written g.K.Sink.faults c.in-Ok.request c.carry_out-status.result c.finish.result
    (passage g.S.Source.rest g.S.Source.faults c.args.source.now c.carry_out-status.new.source) c.args.sink.now c.carry_out-status.new.sink c.finish.new.sink
    c.carry_out-status.ensures.ends c.carry_out-status.ensures.never_falls c.finish.ensures.fault c.finish.ensures.written c.finish.ensures.other in
    caused _ c.in-Ok.request c.finish.result (passage g.S.Source.rest g.S.Source.faults c.args.source.now c.carry_out-status.new.source) (passage g.K.Sink.written g.K.Sink.faults c.args.sink.now c.finish.new.sink) c.in-Ok.ensures.asked ends

pub carry_out-status-requires-after_bounds : goal.carry_out-status-requires-after_bounds
carry_out-status-requires-after_bounds g c κs within = asked_in_range _ c.in-Ok.request c.in-Ok.ensures.asked

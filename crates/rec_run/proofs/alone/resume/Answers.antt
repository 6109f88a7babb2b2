-- The contract of `resume`: the answer of the image in the bytes, and of the mutators behind it.
use Rattle.std.proofs.Common.{◌≡◌, Err, List, false, ℕ, ap, subst}
use Rattle.std.specs.List.{flat_map}
use Rattle.rec_script.specs.Script.{ScriptContents}
use Rattle.rec_script.specs.declared.error.ScriptError.{ScriptError}
use Rattle.rec_script.specs.declared.error.ScriptError.TheVariants.{Bad}
use Rattle.rec_image.specs.Image.{ImageContents}
use Rattle.rec_run.specs.Headline.{Answers}
use Rattle.rec_run.specs.Resuming.{IsResumedAs, IsRestoredFor, IsUnresumed, Tells}
use Rattle.rec_request.specs.declared.request.How.{How}
use Rattle.rec_request.specs.declared.request.How.TheVariants as hows
use Rattle.rec_run.proofs.Resumed.{numbers_same}
use Rattle.rec_run.proofs.alone.resume.Goals as goal

pub returns-in-Err-clause-refused : goal.returns-in-Err-clause-refused
returns-in-Err-clause-refused g c = λ line kind is.
    let same : c.in-Err.error ≡ Bad line kind = cc in
    subst (λ bytes. IsUnresumed bytes line kind) c.deref.ensures.value (c.in-Err.ensures.refused line kind (ap (λ (e : ScriptError). Err e) same))

pub answer_resumed-answered-requires-clause-numbers : goal.answer_resumed-answered-requires-clause-numbers
answer_resumed-answered-requires-clause-numbers g c = λ κs lives. numbers_same c.deref.result.now c.in-Ok.read.0 c.in-Ok.read.1 c.in-Ok.ensures.found

pub returns-in-Ok-answered-clause-answer : goal.returns-in-Ok-answered-clause-answer
returns-in-Ok-answered-clause-answer g c =
    let v : ImageContents = c.in-Ok.read.0 in
    let text : List ℕ = flat_map (λ line. line) c.in-Ok-answered.text in
    let how : How = hows.Play (record { seed = c.args.asked.seed; turns = c.args.asked.turns; summary = false; trace = false }) in
    let is : IsResumedAs c.deref.result.now v c.in-Ok.read.1 = c.in-Ok.ensures.found in
    let (start, restored, answered) = c.in-Ok-answered.ensures in
    record {
      contents = v;
      given = is.given;
      told = subst (λ bytes. Tells bytes v is.given) c.deref.ensures.value is.told;
      start = start;
      restored = subst (λ (script : ScriptContents). IsRestoredFor v script start) is.all restored;
      answered = subst (λ (script : ScriptContents). Answers script start how text) is.all answered;
    }

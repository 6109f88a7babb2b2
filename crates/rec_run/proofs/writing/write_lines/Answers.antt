-- Each line stands behind what was written, and where a write fails a front of it does.
use Rattle.std.proofs.Common.{ℕ, ◌++◌, ◌+◌, List, length, take, drop, sym, subst, ◌∙◌, arith}
use Rattle.std.proofs.lemmas.List.{length_push, take_all}
use Rattle.std.proofs.lemmas.Iterator.Consumers.{YieldsList-from_first, YieldsList-turn, YieldsList-end}
use Rattle.std.proofs.lemmas.Result.{err_from_is_err_and}
use Rattle.rec_io.specs.Sink.{Appends}
use Rattle.rec_io.proofs.Writing.{appends_more}
use Rattle.rec_run.proofs.Fronts.{joined, joined_more, joined_cut}
use Rattle.rec_run.proofs.writing.write_lines.Goals as goal

pub returns-in_err-write_all-clause-front : goal.returns-in_err-write_all-clause-front
returns-in_err-write_all-clause-front g c =
    let (front, back, cut, appends) = c.in_err-write_all.ensures.front in
    let lines : List (List ℕ) = c.args.text.now in
    let i : ℕ = length c.loop-line.yielded in
    let t = YieldsList-turn (YieldsList-from_first (λ x. x.now) (λ s. s) lines (cc)) c.loop-line.yielded _ c.loop-line.yielded_by _ _ c.in-Some.line c.in-Some.is c.next.ensures.steps in
    let p = err_from_is_err_and c.from_residual.result c.from_residual.ensures.1 in
    rw p.1 (
      joined (take i lines) ++ front,
      back ++ joined (drop (i + 1) lines),
      joined_cut lines i c.in-Some.line.now front back _ t.0 t.1 cut,
      appends_more _ (g.K.Sink.written c.loop-line.sink) _ (joined (take i lines)) front c.loop-line.invariant.front appends,
    )

pub returns-clause-written : goal.returns-clause-written
returns-clause-written g c =
    let lines : List (List ℕ) = c.args.text.now in
    let t = YieldsList-end (YieldsList-from_first (λ x. x.now) (λ s. s) lines (cc)) c.loop-line.yielded _ c.loop-line.yielded_by _ _ c.in-None.is c.next.ensures.steps in
    let P : List (List ℕ) → Type 0 = λ all. Appends (g.K.Sink.written c.args.sink.now) (g.K.Sink.written c.loop-line.sink) (joined all) in
    subst P (take_all (length c.loop-line.yielded) lines (omega (arith, t.1))) c.loop-line.invariant.front

pub loop-line-preserved : goal.loop-line-preserved
loop-line-preserved g c =
    let lines : List (List ℕ) = c.args.text.now in
    let i : ℕ = length c.loop-line.yielded in
    let t = YieldsList-turn (YieldsList-from_first (λ x. x.now) (λ s. s) lines (cc)) c.loop-line.yielded _ c.loop-line.yielded_by _ _ c.in-Some.line c.in-Some.is c.next.ensures.steps in
    let P : List ℕ → Type 0 = Appends (g.K.Sink.written c.args.sink.now) (g.K.Sink.written c.write_all.new.sink) in
    record {
      front = rw (length_push c.loop-line.yielded c.in-Some.line) (subst P (sym (joined_more lines i c.in-Some.line.now _ t.0 t.1))
          (appends_more _ (g.K.Sink.written c.loop-line.sink) _ (joined (take i lines)) c.in-Some.line.now c.loop-line.invariant.front c.in_ok-write_all.ensures.written));
      faults = c.in_ok-write_all.ensures.faultless ∙ c.loop-line.invariant.faults;
    }

-- Each line stands behind what was written, and where a write fails a front of it does.
use Rattle.std.proofs.Common.{ℕ, ◌++◌, List, take, drop, append_assoc, sym, subst, ap, ◌∙◌}
use Rattle.std.proofs.lemmas.List.{take-append-drop}
use Rattle.std.proofs.lemmas.Result.{err_from_is_err_and}
use Rattle.rec_io.specs.Sink.{Appends}
use Rattle.rec_io.proofs.Writing.{appends_more, regrouped}
use Rattle.rec_io.proofs.writer.write_text.Goals as goal

pub returns-in_err-write_all-clause-front : goal.returns-in_err-write_all-clause-front
returns-in_err-write_all-clause-front g c =
    let (front, is, told) = c.loop-rest.invariant.front in
    let (near, far, cut, appends) = c.in_err-write_all.ensures.front in
    let n : ℕ = c.line_length.result in
    let rest : List ℕ = c.loop-rest.rest.now in
    let behind : List ℕ = drop n rest in
    let p = err_from_is_err_and c.from_residual.result c.from_residual.ensures.1 in
    rw p.1 (
      front ++ near,
      far ++ behind,
      is ∙ ap (λ (t : List ℕ). front ++ t) (sym (take-append-drop n rest) ∙ ap (λ (t : List ℕ). t ++ behind) (sym c.split_at.ensures.front ∙ cut)) ∙ regrouped front near far behind,
      appends_more _ (g.K.Sink.written c.loop-rest.sink) _ front near told appends,
    )

pub loop-rest-preserved : goal.loop-rest-preserved
loop-rest-preserved g c =
    let (front, is, told) = c.loop-rest.invariant.front in
    let n : ℕ = c.line_length.result in
    let rest : List ℕ = c.loop-rest.rest.now in
    let line : List ℕ = take n rest in
    let P : List ℕ → Type 0 = Appends (g.K.Sink.written c.loop-rest.sink) (g.K.Sink.written c.write_all.new.sink) in
    record {
      front = (
        front ++ line,
        is ∙ ap (λ (t : List ℕ). front ++ t) (sym (take-append-drop n rest)) ∙ sym (append_assoc front line (drop n rest)) ∙ ap (λ (t : List ℕ). (front ++ line) ++ t) (sym c.split_at.ensures.back),
        appends_more (g.K.Sink.written c.args.sink.now) (g.K.Sink.written c.loop-rest.sink) _ front line told (subst P c.split_at.ensures.front c.in_ok-write_all.ensures.written),
      );
      faults = c.in_ok-write_all.ensures.faultless ∙ c.loop-rest.invariant.faults;
    }

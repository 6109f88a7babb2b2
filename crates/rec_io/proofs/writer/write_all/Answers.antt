-- The contract of `write_all`: offers a piece, and its rest again, until all of it is taken.
use Rattle.std.proofs.Common.{ℕ, ◌++◌, take, append_assoc, sym, ap, ◌∙◌, List}
use Rattle.std.proofs.lemmas.List.{take-append-drop}
use Rattle.rec_io.proofs.Writing.{appends_more}
use Rattle.rec_io.proofs.writer.write_all.Goals as goal

pub loop-rest-preserved : goal.loop-rest-preserved
loop-rest-preserved g c =
    let (front, is, told) = c.loop-rest.invariant.front in
    let piece : List ℕ = take c.in-Bytes.count c.loop-rest.rest.now in
    record {
      front = (
        front ++ piece,
        is ∙ ap (λ rest. front ++ rest) (sym (take-append-drop c.in-Bytes.count c.loop-rest.rest.now)) ∙ sym (append_assoc front piece _)
            ∙ ap (λ rest. (front ++ piece) ++ rest) (sym c.split_at.ensures.back),
        appends_more (g.K.Sink.written c.args.sink.now) (g.K.Sink.written c.loop-rest.sink) _ front piece told c.in-Bytes.ensures.appends,
      );
      faults = c.write.ensures.uncounted (λ bad. cc) ∙ c.loop-rest.invariant.faults;
    }

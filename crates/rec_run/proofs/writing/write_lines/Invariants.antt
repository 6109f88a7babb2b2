-- The loops of `write_lines`: writes the lines of a text in order.
use Rattle.std.proofs.Common.{◌≡◌, length, take}
use Rattle.std.specs.List.{flat_map}
use Rattle.rec_io.specs.Sink.{Appends}
use Rattle.rec_run.proofs.writing.write_lines.Given as goal

-- the lines so far were written
abbrev pub invariant-loop-line : goal.invariant-loop-line
invariant-loop-line g l =
    record {
      front : Appends (g.K.Sink.written l.fn.sink) (g.K.Sink.written l.sink) (flat_map (λ line. line) (take (length l.yielded) l.text));
      faults : g.K.Sink.faults l.sink ≡ g.K.Sink.faults l.fn.sink;
    }

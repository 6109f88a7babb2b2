-- The loops of `write_all`: offers a piece, and its rest again, until all of it is taken.
use Rattle.std.proofs.Common.{◌≡◌, ◌++◌, ℕ, List, length}
use Rattle.rec_io.specs.Sink.{Appends}
use Rattle.rec_io.proofs.writer.write_all.Given as goal

-- the front of the piece was written, and the rest is to be
abbrev pub invariant-loop-rest : goal.invariant-loop-rest
invariant-loop-rest g l =
    record {
      front : (front : List ℕ) × (l.piece ≡ front ++ l.rest) × Appends (g.K.Sink.written l.fn.sink) (g.K.Sink.written l.sink) front;
      faults : g.K.Sink.faults l.sink ≡ g.K.Sink.faults l.fn.sink;
    }

abbrev pub decreases-loop-rest : goal.decreases-loop-rest
decreases-loop-rest g l = length l.rest

-- The loops of `read_all`: reads a source to its end, or past the limit.
use Rattle.std.proofs.Common.{◌≡◌, ◌+◌, ◌≤◌, ◌-◌, vec_len}
use Rattle.rec_io.specs.Source.{Passes}
use Rattle.rec_io.proofs.reader.read_all.Given as goal

-- what was read so far is the front of the rest, in order
abbrev pub invariant-loop-source : goal.invariant-loop-source
invariant-loop-source g l =
    record {
      room : vec_len l.chunk ≡ 65536;
      few : vec_len l.bytes ≤ l.most + 65536;
      passed : Passes (g.S.Source.rest l.fn.source) (g.S.Source.rest l.source) l.bytes.items;
      faults : g.S.Source.faults l.source ≡ g.S.Source.faults l.fn.source;
    }

abbrev pub decreases-loop-source : goal.decreases-loop-source
decreases-loop-source g l = (l.most + 1) - vec_len l.bytes

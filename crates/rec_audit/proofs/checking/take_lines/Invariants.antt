-- What was read so far.
use Rattle.std.proofs.Common.{◌+◌, ◌≤◌, length}
use Rattle.rec_model.specs.declared.limits.TheConstants.{MOST_BYTES}
use Rattle.rec_audit.specs.Checkers.{HasRead, IsReady}
use Rattle.rec_audit.proofs.checking.take_lines.Given as goal

abbrev pub invariant-loop-rest : goal.invariant-loop-rest
invariant-loop-rest l = record {
  ready : IsReady l.checker;
  few : l.checker.sets + length l.rest ≤ MOST_BYTES;
  upto : l.line + length l.rest ≤ length l.audit;
  read : HasRead l.audit l.rest l.line l.checker;
}

abbrev pub decreases-loop-rest : goal.decreases-loop-rest
decreases-loop-rest l = length l.rest

-- Every heap that keeps what all of them do is safe, by the laws of the core.
use Rattle.std.specs.Prelude.{false}
use Rattle.rec_table.proofs.Common.{Core, IsKept}
use Rattle.rec_collector.proofs.Always.{within_limit}
use Rattle.rec_core.proofs.BareRuns.{explained, reached_stays, turned_keeps}
use Rattle.rec_core.proofs.Freed.{freed_is_forgotten, given_up_are_gone, passed_are_garbage}
use Rattle.rec_core.proofs.Reach.{counted_so, steps_keep_taken}
use Rattle.rec_table.specs.Safe.{IsSafe}

pub safe : (w : Core) → IsKept false w → IsSafe w
safe w kept =
    let (v, e) = explained w kept in
    record {
      reached = reached_stays w kept;
      turned = turned_keeps w kept;
      claimed = steps_keep_taken w;
      passed = (v, e.bare, λ number. passed_are_garbage v number e.kept);
      gone = (v, e.bare, given_up_are_gone v e.kept);
      forgotten = (v, e.bare, λ slot. freed_is_forgotten v slot e.kept);
      counts = (v, e.bare, λ slot. counted_so v slot e.kept);
      turns = within_limit w.collector kept.collector.machine;
    }

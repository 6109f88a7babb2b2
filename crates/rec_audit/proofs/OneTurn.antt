-- What is known of one turn of the collector in a kept heap: its rule, the batch that it shows, and where the last applied epoch stands.
use Rattle.std.proofs.Common.{◌≡◌, true, ◌+◌, ◌≤◌, Option, Some, List, ap, subst}
use Rattle.rec_word.specs.declared.op.Op.{Op}
use Rattle.rec_collector.specs.Kept.{under_way}
use Rattle.rec_collector.specs.Next.{next_of}
use Rattle.rec_collector.specs.Shown.{batch_made, batch_of}
use Rattle.rec_collector.specs.Step.{Step}
use Rattle.rec_collector.specs.Took.{turn_of}
use Rattle.rec_collector.proofs.ShownSteps.{shown_as_made}
use Rattle.rec_core.specs.Cells.{cell}
use Rattle.rec_core.specs.Core.{Core, box, cells_of}
use Rattle.rec_core.specs.Kept.{IsKept}
use Rattle.rec_core.specs.Moves.{looked_at, turned_by}
use Rattle.rec_core.specs.Pending.{applied_at}
use Rattle.rec_core.proofs.Runs.{given_is, rule_of}
use Rattle.rec_core.proofs.Turning.{parts_of_turn}
use Rattle.rec_audit.specs.Journal.{op_lines}
use Rattle.rec_audit.specs.Lines.{Line}
use Rattle.rec_audit.specs.Runs.{place_of}
use Rattle.rec_audit.proofs.Journalled.{applied_in}
use Rattle.rec_audit.proofs.Runs.{begun}

-- the lines that tell what the collector did by this operation
abbrev pub ops_of : Core → Op → List Line
ops_of w op = op_lines op (cell (cells_of w) op)

-- a collection under way has an epoch of its own
pub some_epoch : (w : Core) → IsKept true w → 1 + under_way w.collector.phase ≤ w.epoch
some_epoch w kept = subst (λ e. 1 + under_way w.collector.phase ≤ e) kept.collector.epoch (begun w kept)

pub record OneTurn (w : Core) (op : Op) : Type 0 where
  pub s : Step w.collector (cell (cells_of w) op) (box w (looked_at w.collector.phase)) (Some op) (parts_of_turn w op).q (turn_of w.collector (cell (cells_of w) op))
  pub shown : batch_of op (parts_of_turn w op).q ≡ batch_made s
  pub at_w : (place_of w.collector).next ≡ applied_in w + 1
  pub at_v : applied_at (parts_of_turn w op).q.epoch (parts_of_turn w op).q.phase ≡ applied_in (turned_by w op (cell (cells_of w) op))

pub one_turn : (w : Core) (op : Op) → IsKept true w → ◌≡◌ {A = Option Op} (next_of w.collector) (Some op) → IsKept true (turned_by w op (cell (cells_of w) op)) → OneTurn w op
one_turn w op kept named still =
    let s = rule_of w op kept named in
    record {
      s = s;
      shown = (shown_as_made w.collector (parts_of_turn w op).q (cell (cells_of w) op) (box w (looked_at w.collector.phase)) op (turn_of w.collector (cell (cells_of w) op)) s kept.collector.machine (given_is w op kept named)).batch;
      at_w = ap (λ e. applied_at e w.collector.phase + 1) kept.collector.epoch;
      at_v = ap (λ e. applied_at e (parts_of_turn w op).q.phase) still.collector.epoch;
    }

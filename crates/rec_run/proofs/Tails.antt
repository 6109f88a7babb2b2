-- What stands behind the text of a run: the line of a trace, where one was made.
use Rattle.std.proofs.Common.{Bool, true, false, Option, None, Some, length, ap, ◌∙◌}
use Rattle.rec_model.specs.Sight.{NumbersSlots}
use Rattle.rec_core.specs.Core.{Core, sight}
use Rattle.rec_core.specs.Worked.{AreIdle}
use Rattle.rec_settle.specs.Collecting.{taken_slots}
use Rattle.rec_settle.specs.Whole.{HasSettled}
use Rattle.rec_settle.specs.declared.whole.Settled.{Settled}
use Rattle.rec_trace.proofs.Taken.{traced_many, traced_taken}
use Rattle.rec_trace.proofs.Traced.{settled_numbered}
use Rattle.rec_report.specs.Text.{trace_line}
use Rattle.rec_run.specs.Headline.{IsTail}
use Rattle.rec_run.specs.Tracing.{IsTold, tail_of}
use Rattle.rec_run.specs.declared.tracing.Traced.{Traced}

-- a trace before settling lists the slots that settling leaves
pub tail_is : (asked : Bool) (end world : Core) (settled : Settled) (traced : Option Traced) → AreIdle end → IsTold asked end traced → HasSettled end world settled → IsTail asked end world (tail_of traced settled.live)
tail_is false end world settled traced idle (kept, none) done = ap (λ (t : Option Traced). tail_of t settled.live) none
tail_is true end world settled None idle none done = absurd none
tail_is true end world settled (Some traced) idle (kept, is) done =
    let after : NumbersSlots (sight world) is.slots = settled_numbered end world settled is.slots kept idle done is.numbers in
    record {
      slots = is.slots;
      traced = is.numbers;
      left = traced_taken world is.slots done.settled after;
      many = traced_many world is.slots done.settled after;
      told = ap (λ n. trace_line n traced.taken settled.live) is.reached ∙ ap (λ n. trace_line (length is.slots) n settled.live) is.taken ∙ ap (trace_line (length is.slots) (taken_slots end)) done.live;
    }

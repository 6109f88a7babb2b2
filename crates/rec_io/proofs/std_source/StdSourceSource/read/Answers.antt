-- The contract of a read from a source over std: the count of faults rises where it fails, and stays else.
use Rattle.std.proofs.Common.{ℕ, ◌≤◌, ap, subst, ◌∙◌}
use Rattle.rec_io.specs.Faults.{counted_up, last_count}
use Rattle.rec_io.proofs.Faults.{counted_above, counted_within, rose_counted, same_above}
use Rattle.rec_io.proofs.std_source.StdSourceSource.read.Goals as goal

pub invariant_of-self : goal.invariant_of-self
invariant_of-self g c = c.self.invariant

pub invariant_of-self-in-Ok : goal.invariant_of-self-in-Ok
invariant_of-self-in-Ok g c = c.self.invariant

pub invariant_of-self-in-Err : goal.invariant_of-self-in-Err
invariant_of-self-in-Err g c = counted_within c.self.inside.faults _ c.saturating_add-self-inside.ensures

pub returns-in-Ok-eq0-clause-never_falls : goal.returns-in-Ok-eq0-clause-never_falls
returns-in-Ok-eq0-clause-never_falls g c = same_above _ _ c.self.view_is

pub returns-in-Ok-eq0-clause-within_count : goal.returns-in-Ok-eq0-clause-within_count
returns-in-Ok-eq0-clause-within_count g c = c.self.invariant

pub returns-in-Ok-eq0-clause-after_end : goal.returns-in-Ok-eq0-clause-after_end
returns-in-Ok-eq0-clause-after_end g c = c.self.view_is

pub returns-in-Ok-clause-never_falls : goal.returns-in-Ok-clause-never_falls
returns-in-Ok-clause-never_falls g c = same_above _ _ c.self.view_is

pub returns-in-Ok-clause-within_count : goal.returns-in-Ok-clause-within_count
returns-in-Ok-clause-within_count g c = c.self.invariant

pub returns-in-Ok-clause-after_bytes : goal.returns-in-Ok-clause-after_bytes
returns-in-Ok-clause-after_bytes g c = c.self.view_is

pub returns-in-Err-clause-rose : goal.returns-in-Err-clause-rose
returns-in-Err-clause-rose g c = rose_counted c.args.self.now _ (c.saturating_add-self-inside.ensures ∙ ap counted_up c.self.view_is)

pub returns-in-Err-clause-never_falls : goal.returns-in-Err-clause-never_falls
returns-in-Err-clause-never_falls g c = let within : c.args.self.now ≤ last_count = subst (λ (n : ℕ). n ≤ last_count) c.self.view_is c.self.invariant in counted_above c.args.self.now _ within (c.saturating_add-self-inside.ensures ∙ ap counted_up c.self.view_is)

pub returns-in-Err-clause-within_count : goal.returns-in-Err-clause-within_count
returns-in-Err-clause-within_count g c = counted_within c.self.inside.faults _ c.saturating_add-self-inside.ensures

pub returns-in-Err-clause-after_failed : goal.returns-in-Err-clause-after_failed
returns-in-Err-clause-after_failed g c = c.saturating_add-self-inside.ensures ∙ ap counted_up c.self.view_is

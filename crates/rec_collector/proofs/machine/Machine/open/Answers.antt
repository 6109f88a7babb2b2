-- The contract of `Machine::open`: the collector of a heap of which the first slots have these counts, and registers named these slots.
use Rattle.std.proofs.Common.{refl, sym, subst}
use Rattle.rec_collector.proofs.Common.{State, IsMachine}
use Rattle.rec_counts.specs.Counts.{IsKept as IsKeptCounts, opened as opened_counts}
use Rattle.rec_collector.proofs.Opening.{opened_keeps}
use Rattle.rec_collector.proofs.machine.Machine.open.Goals as goal

pub returns-clause-opened : goal.returns-clause-opened
returns-clause-opened c = rw (c.of.ensures, c.in_ok-counts.ensures, c.in_ok-spares.ensures.buffers, c.in_ok-older.ensures, c.in_ok-spares.ensures.left) refl

pub invariant_of-result : goal.invariant_of-result
invariant_of-result c =
    let counts : IsKeptCounts (opened_counts c.args.slots c.args.counts.now) = subst (λ (s : State). IsKeptCounts s) c.in_ok-counts.ensures c.rules.ensures in
    subst IsMachine (sym (returns-clause-opened c))
    (opened_keeps c.args.slots c.args.fields c.args.regs c.args.mutators c.args.cap c.args.first_epoch c.args.policy c.args.counts.now c.args.registers.now c.requires.fields c.ranges.fields.fits c.requires.mutators c.ranges.mutators.fits c.requires.epoch c.requires.some c.requires.registers counts)

pub returns-clause-kept : goal.returns-clause-kept
returns-clause-kept c = invariant_of-result c

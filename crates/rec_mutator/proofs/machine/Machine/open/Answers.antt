-- The contract of `Machine::open`: a machine with an empty log, whose registers name these slots.
use Rattle.std.proofs.Common.{length, refl, sym, subst}
use Rattle.std.proofs.lemmas.Result.{IfOk-from_err}
use Rattle.rec_mutator.specs.Private.{IsMachine}
use Rattle.rec_mutator.proofs.Machines.{opened_as, opened_machine}
use Rattle.rec_mutator.proofs.machine.Machine.open.Goals as goal

pub returns-clause-opened : goal.returns-clause-opened
returns-clause-opened c = opened_as c.args.number c.args.epoch c.args.slots c.args.fields (length c.args.registers.now) c.args.cap c.in_ok-frame.ensures c.in_ok-log.ensures

pub invariant_of-result : goal.invariant_of-result
invariant_of-result c =
    subst IsMachine (sym (returns-clause-opened c))
    (opened_machine c.args.number c.args.epoch c.args.slots c.args.fields c.args.registers.now (length c.args.registers.now) c.args.cap c.requires.number c.requires.epoch c.requires.slots c.ranges.slots.fits c.requires.capacity c.requires.targets refl)

pub returns-clause-kept : goal.returns-clause-kept
returns-clause-kept c = invariant_of-result c

pub returns-in_err-frame-clause-opened : goal.returns-in_err-frame-clause-opened
returns-in_err-frame-clause-opened c = IfOk-from_err c.from_residual.result _ c.from_residual.ensures.0

pub returns-in_err-frame-clause-kept : goal.returns-in_err-frame-clause-kept
returns-in_err-frame-clause-kept c = IfOk-from_err c.from_residual.result _ c.from_residual.ensures.0

pub returns-in_err-log-clause-opened : goal.returns-in_err-log-clause-opened
returns-in_err-log-clause-opened c = IfOk-from_err c.from_residual-in_err-log.result _ c.from_residual-in_err-log.ensures.0

pub returns-in_err-log-clause-kept : goal.returns-in_err-log-clause-kept
returns-in_err-log-clause-kept c = IfOk-from_err c.from_residual-in_err-log.result _ c.from_residual-in_err-log.ensures.0

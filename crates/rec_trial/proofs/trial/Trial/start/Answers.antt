-- The contract of `Trial::start`: begins a trial: roots are dropped, and what the first one that is Purple leads to is to be loaded.
use Rattle.std.proofs.Common.{◌<◌}
use Rattle.rec_trial.proofs.Common.{begins, started_of}
use Rattle.rec_trial.proofs.Promised.{begun_promised}
use Rattle.rec_trial.proofs.AtWork.{at_work_place, started_at_work, started_slots}
use Rattle.rec_trial.proofs.trial.Trial.start.Goals as goal

pub settle-requires-clause-goes_on : goal.settle-requires-clause-goes_on
settle-requires-clause-goes_on c =
    let f : 0 < c.args.self.now.fields = rw c.begin_phase.ensures.begun at c.begin_phase.ensures.wide in
    rw c.begin_phase.ensures.begun (begins f c.rules.ensures c.requires.ready)

pub returns-clause-started : goal.returns-clause-started
unfolding started_of
returns-clause-started c =
    rw c.begin_phase.ensures.begun at c.settle.ensures

pub returns-clause-kept : goal.returns-clause-kept
returns-clause-kept c =
    let f : 0 < c.args.self.now.fields = rw c.begin_phase.ensures.begun at c.begin_phase.ensures.wide in
    started_at_work c.args.self.now.fields c.args.counts.now c.settle.new.self c.settle.new.counts f c.rules.ensures c.requires.ready (returns-clause-started c)

pub returns-clause-place : goal.returns-clause-place
returns-clause-place c = at_work_place c.settle.new.self c.settle.new.counts (returns-clause-kept c)

pub returns-clause-slots : goal.returns-clause-slots
returns-clause-slots c =
    let f : 0 < c.args.self.now.fields = rw c.begin_phase.ensures.begun at c.begin_phase.ensures.wide in
    started_slots c.args.self.now.fields c.args.counts.now c.settle.new.self c.settle.new.counts f c.requires.ready (returns-clause-started c)

pub returns-clause-promised : goal.returns-clause-promised
returns-clause-promised c =
    let f : 0 < c.args.self.now.fields = rw c.begin_phase.ensures.begun at c.begin_phase.ensures.wide in
    begun_promised c.args.self.now.fields c.args.counts.now (record { machine = c.settle.new.self; counts = c.settle.new.counts }) f c.requires.ready (returns-clause-started c)

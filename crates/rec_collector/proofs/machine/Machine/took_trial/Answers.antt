-- The contract of `Machine::took_trial`: a field was loaded for the trial.
use Rattle.std.proofs.Common.{◌≡◌, arith}
use Rattle.rec_collector.proofs.Common.{KeepsSizes, Private, took_at, turn_at}
use Rattle.rec_collector.specs.Inside.{private}
use Rattle.rec_collector.proofs.Always.{turns_fit}
use Rattle.rec_collector.proofs.Keeping.{may_seen, seen_keeps, seen_turned}
use Rattle.rec_collector.proofs.PhaseKinds.{trying_works}
use Rattle.rec_collector.proofs.machine.Machine.took_trial.Goals as goal
use Rattle.rec_collector.proofs.machine.Machine.took_trial.Goals.{After-end_if_nothing_is_free}

pub took_trial-requires-clause-may : goal.took_trial-requires-clause-may
took_trial-requires-clause-may c = may_seen (private c.self.inside) c.args.self.now c.args.word c.self.invariant c.self.view_is (trying_works c.args.self.now.phase c.requires.trying) c.requires.given

pub overflow_add-self : goal.overflow_add-self
overflow_add-self c = omega (arith, turns_fit (private c.self.inside) c.self.invariant)

pub invariant_of-self : goal.invariant_of-self
invariant_of-self c =
    seen_keeps (private c.self.inside) c.args.self.now c.args.word c.self.invariant c.self.view_is (trying_works c.args.self.now.phase c.requires.trying) c.requires.given
    (record { parts = c.took_trial.new.self; phase = c.took_trial.new.phase }) c.took_trial.ensures

turned : (c : After-end_if_nothing_is_free) → (let now : Private = c.args.self.now in
    (c.end_if_nothing_is_free.new.self ≡ took_at now c.args.word now.phase) × (c.end_if_nothing_is_free.result ≡ turn_at now c.args.word now.phase) × KeepsSizes now c.end_if_nothing_is_free.new.self)
turned c =
    let ends = c.end_if_nothing_is_free.ensures in
    seen_turned (private c.self.inside) c.args.self.now c.args.word c.self.invariant c.self.view_is (trying_works c.args.self.now.phase c.requires.trying) c.requires.given
    (record { parts = c.took_trial.new.self; phase = c.took_trial.new.phase }) c.took_trial.ensures c.end_if_nothing_is_free.new.self c.end_if_nothing_is_free.result ends.took ends.turn ends.same

pub returns-clause-took : goal.returns-clause-took
returns-clause-took c = (turned c).0

pub returns-clause-turn : goal.returns-clause-turn
returns-clause-turn c = (turned c).1

pub returns-clause-same : goal.returns-clause-same
returns-clause-same c = (turned c).2

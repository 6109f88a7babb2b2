-- The contract of `Machine::run_trial`: makes turns of the trial that is at work.
use Rattle.std.proofs.Common.{ℕ, refl, sym, subst, arith, ◌∙◌}
use Rattle.rec_trial.specs.Trial as trials
use Rattle.rec_collector.proofs.Common.{Next, KeepsSizes, Private, parts_of, Trying, tried}
use Rattle.rec_collector.specs.Given.{IsTryingIn}
use Rattle.rec_collector.specs.Inside.{private}
use Rattle.rec_collector.specs.Running.{TryingRuns, Turned}
use Rattle.rec_collector.specs.declared.turn.Turn.{Turn}
use Rattle.rec_collector.specs.declared.turn.Turn.TheVariants as turns
use Rattle.rec_collector.proofs.PhaseKinds.{trying_is}
use Rattle.rec_collector.proofs.Running.{run_begins, run_lands, run_told}
use Rattle.rec_collector.proofs.machine.Machine.run_trial.Goals as goal

pub run_trial-made-requires-clause-stands : goal.run_trial-made-requires-clause-stands
run_trial-made-requires-clause-stands g c = λ m is.
    let p : Private = private c.self.inside in
    let stands = g.T.Turns.StandsAt c.args.board.now c.args.seat.now in
    let w : trials.Work = record { machine = m; counts = p.counts } in
    subst (λ (x : Private). TryingRuns stands x 0 w) (c.self.view_is ∙ sym c.requires.start)
    (run_begins stands p (trials.next_of m) (Trying m) p.counts (tried (parts_of p) w) c.self.invariant is refl (subst (λ (x : Private). stands 0 x turns.Moved) (sym c.self.view_is) c.requires.stands))

pub overflow_add-self : goal.overflow_add-self
overflow_add-self g c =
    let p : Private = private c.self.inside in
    let m = trying_is p.phase (subst (λ (q : Private). IsTryingIn q.phase) (sym c.self.view_is) c.requires.trying) in
    let ran = c.run_trial-made.ensures.ran m.0 m.1 in
    let r = subst (λ (x : Private). TryingRuns (g.T.Turns.StandsAt c.args.board.now c.run_trial-made.new.seat) x c.run_trial-made.result ran.0) (c.requires.start ∙ sym c.self.view_is) ran.2 in
    omega (arith, (r.led c.run_trial-made.ensures.some).fits)

pub invariant_of-self : goal.invariant_of-self
invariant_of-self g c =
    let p : Private = private c.self.inside in
    let m = trying_is p.phase (subst (λ (q : Private). IsTryingIn q.phase) (sym c.self.view_is) c.requires.trying) in
    let ran = c.run_trial-made.ensures.ran m.0 m.1 in
    let w : trials.Work = ran.0 in
    let r = subst (λ (x : Private). TryingRuns (g.T.Turns.StandsAt c.args.board.now c.run_trial-made.new.seat) x c.run_trial-made.result w) (c.requires.start ∙ sym c.self.view_is) ran.2 in
    let n : Next = record { parts = c.run_trial-made.new.self; phase = c.run_trial-made.new.phase } in
    run_lands p c.run_trial-made.result (tried (parts_of p) w) r.now r.turn (r.led c.run_trial-made.ensures.some) c.run_trial-made.ensures.some n ran.3 c.from.result c.from.ensures

pub returns-clause-turned : goal.returns-clause-turned
returns-clause-turned g c =
    let p : Private = private c.self.inside in
    let m = trying_is p.phase (subst (λ (q : Private). IsTryingIn q.phase) (sym c.self.view_is) c.requires.trying) in
    let ran = c.run_trial-made.ensures.ran m.0 m.1 in
    let w : trials.Work = ran.0 in
    let made : ℕ = c.run_trial-made.result in
    let r = subst (λ (x : Private). TryingRuns (g.T.Turns.StandsAt c.args.board.now c.run_trial-made.new.seat) x made w) (c.requires.start ∙ sym c.self.view_is) ran.2 in
    let n : Next = record { parts = c.run_trial-made.new.self; phase = c.run_trial-made.new.phase } in
    let ends = c.end_if_nothing_is_free.ensures in
    let told = run_told p made (tried (parts_of p) w) r.now r.turn (r.led c.run_trial-made.ensures.some) c.run_trial-made.ensures.some n ran.3 c.from.result c.from.ensures c.end_if_nothing_is_free.new.self c.end_if_nothing_is_free.result ends.took ends.turn ends.same in
    subst (λ (x : Private). Turned x made c.end_if_nothing_is_free.new.self c.end_if_nothing_is_free.result) c.self.view_is
    (subst (λ (t : Turn). Turned p made c.end_if_nothing_is_free.new.self t) told.1 (subst (λ (q : Private). Turned p made q r.turn) told.0 r.turned))

pub returns-clause-stands : goal.returns-clause-stands
returns-clause-stands g c =
    let p : Private = private c.self.inside in
    let m = trying_is p.phase (subst (λ (q : Private). IsTryingIn q.phase) (sym c.self.view_is) c.requires.trying) in
    let ran = c.run_trial-made.ensures.ran m.0 m.1 in
    let w : trials.Work = ran.0 in
    let made : ℕ = c.run_trial-made.result in
    let stands = g.T.Turns.StandsAt c.args.board.now c.run_trial-made.new.seat in
    let r = subst (λ (x : Private). TryingRuns stands x made w) (c.requires.start ∙ sym c.self.view_is) ran.2 in
    let n : Next = record { parts = c.run_trial-made.new.self; phase = c.run_trial-made.new.phase } in
    let ends = c.end_if_nothing_is_free.ensures in
    let told = run_told p made (tried (parts_of p) w) r.now r.turn (r.led c.run_trial-made.ensures.some) c.run_trial-made.ensures.some n ran.3 c.from.result c.from.ensures c.end_if_nothing_is_free.new.self c.end_if_nothing_is_free.result ends.took ends.turn ends.same in
    subst (λ (t : Turn). stands made c.end_if_nothing_is_free.new.self t) told.1 (subst (λ (q : Private). stands made q r.turn) told.0 r.stood)

pub returns-clause-same : goal.returns-clause-same
returns-clause-same g c =
    let p : Private = private c.self.inside in
    let m = trying_is p.phase (subst (λ (q : Private). IsTryingIn q.phase) (sym c.self.view_is) c.requires.trying) in
    let ran = c.run_trial-made.ensures.ran m.0 m.1 in
    let w : trials.Work = ran.0 in
    let made : ℕ = c.run_trial-made.result in
    let r = subst (λ (x : Private). TryingRuns (g.T.Turns.StandsAt c.args.board.now c.run_trial-made.new.seat) x made w) (c.requires.start ∙ sym c.self.view_is) ran.2 in
    let n : Next = record { parts = c.run_trial-made.new.self; phase = c.run_trial-made.new.phase } in
    let ends = c.end_if_nothing_is_free.ensures in
    let told = run_told p made (tried (parts_of p) w) r.now r.turn (r.led c.run_trial-made.ensures.some) c.run_trial-made.ensures.some n ran.3 c.from.result c.from.ensures c.end_if_nothing_is_free.new.self c.end_if_nothing_is_free.result ends.took ends.turn ends.same in
    subst (λ (x : Private). KeepsSizes x c.end_if_nothing_is_free.new.self) c.self.view_is told.2

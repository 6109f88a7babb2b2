-- The contract of `Parts::follow`: what follows where this was begun: while nothing was, the next set is tested, and after the last one a trial begins.
use Rattle.std.proofs.Common.{◌≡◌, ◌<◌, is_some, Option, length, arith, sym, ◌∙◌, ap, subst}
use Rattle.std.proofs.lemmas.Bool.{false≢true}
use Rattle.std.proofs.lemmas.List.{nil_from_length}
use Rattle.rec_collector.proofs.Common.{IsKept, IsClearingIn, IsCleared, Parts, Begun, Phase}
use Rattle.rec_collector.proofs.Answering.{last_under_test, none_of, starts_test, test_begins, test_ends}
use Rattle.rec_collector.proofs.Goings.{last_sets}
use Rattle.rec_collector.proofs.Testing.{clear_ready}
use Rattle.rec_collector.proofs.parts.Parts.follow.Goals as goal
use Rattle.rec_collector.proofs.parts.Parts.follow.Goals.{then-loop-self-test+else-sets-gt0, else-loop-self-test, In-None}

pub loop-self-init : goal.loop-self-init
loop-self-init c =
    starts_test (record { parts = c.args.self.now; phase = c.args.begun }) (subst (λ (w : Parts). IsKept w.counts) c.self.view_is c.rules.ensures) (subst (λ (w : Parts). 0 < w.fields) c.self.view_is c.self.invariant) c.requires

pub test_last-begun-requires-clause-cleared : goal.test_last-begun-requires-clause-cleared
test_last-begun-requires-clause-cleared c = subst (IsClearingIn c.loop-self.self) (none_of c.loop-self.begun c.loop-self-test.ensures) c.loop-self.invariant.clears.clearing

pub test_last-begun-requires-clause-told : goal.test_last-begun-requires-clause-told
test_last-begun-requires-clause-told c = c.loop-self.invariant.few

pub loop-self-smaller : goal.loop-self-smaller
loop-self-smaller c =
    let some : 0 < length c.loop-self.self.counts.sets = omega (arith, c.if-sets-gt0.true, c.sets.ensures, ap (λ (w : Parts). length w.counts.sets) c.self-in-loop-self.view_is) in
    omega (arith, last_sets c.loop-self.self some, ap (λ (b : Begun). length b.parts.counts.sets) c.test_last-begun.ensures)

pub loop-self-preserved : goal.loop-self-preserved
loop-self-preserved c =
    let some : 0 < length c.loop-self.self.counts.sets = omega (arith, c.if-sets-gt0.true, c.sets.ensures, ap (λ (w : Parts). length w.counts.sets) c.self-in-loop-self.view_is) in
    last_under_test (record { parts = c.args.self.now; phase = c.args.begun }) (record { parts = c.loop-self.self; phase = c.loop-self.begun }) (record { parts = c.test_last-begun.new.self; phase = c.test_last-begun.result }) c.loop-self.invariant (none_of c.loop-self.begun c.loop-self-test.ensures) some c.test_last-begun.ensures

no_sets : (c : In-None) → length c.loop-self.self.counts.sets ≡ 0
no_sets c = elim c.loop-self-test.branch [
  | then-loop-self-test+else-sets-gt0 w ↦ omega (arith, w.if-sets-gt0.false, w.sets.ensures, ap (λ (v : Parts). length v.counts.sets) c.self-in-loop-self.view_is)
  | else-loop-self-test w ↦ absurd (false≢true (sym (ap (λ (o : Option Phase). is_some o) c.in-None.is) ∙ w.loop-self-test.ensures))
]

pub start_trial-requires : goal.start_trial-requires
start_trial-requires c =
    let cleared : IsCleared c.loop-self.self = subst (IsClearingIn c.loop-self.self) c.in-None.is c.loop-self.invariant.clears.clearing in
    record { ready = clear_ready c.loop-self.self c.loop-self.invariant.clears.counts cleared (nil_from_length c.loop-self.self.counts.sets (no_sets c.before)) }

pub returns-in-Some : goal.returns-in-Some
returns-in-Some c = test_begins (record { parts = c.args.self.now; phase = c.args.begun }) (record { parts = c.loop-self.self; phase = c.loop-self.begun }) c.in-Some.phase c.loop-self.invariant c.in-Some.is

pub returns-in-None : goal.returns-in-None
returns-in-None c = c.start_trial.ensures ∙ test_ends (record { parts = c.args.self.now; phase = c.args.begun }) (record { parts = c.loop-self.self; phase = c.loop-self.begun }) c.loop-self.invariant c.in-None.is (no_sets c.before.before)

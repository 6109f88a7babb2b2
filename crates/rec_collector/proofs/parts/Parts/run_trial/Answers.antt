-- The contract of `Parts::run_trial`: fields are loaded for the trial.
use Rattle.std.proofs.Common.{◌≡◌, ℕ, sym, ◌∙◌, ap, subst}
use Rattle.rec_trial.specs.Loaded.{Ran}
use Rattle.rec_trial.specs.Trial.{Machine, Work}
use Rattle.rec_collector.proofs.Common.{Phase, State, Trying, tried, Parts}
use Rattle.rec_collector.proofs.Answering.{due, more_tried, over_tried, whole}
use Rattle.rec_collector.proofs.parts.Parts.run_trial.Goals as goal

same_trial : (m n : Machine) → Trying m ≡ Trying n → m ≡ n
same_trial m n e = cc

-- the run began where the phase says
begun : (phase : Phase) (m n : Machine) (s t : State) (made : ℕ) (w : Work) → phase ≡ Trying m → phase ≡ Trying n → s ≡ t → Ran (record { machine = m; counts = s }) made w → Ran (record { machine = n; counts = t }) made w
begun phase m n s t made w is was e r = let f : m ≡ n = same_trial m n (sym is ∙ was) in subst (λ (x : Work). Ran x made w) (λ i. record { machine = f i; counts = e i }) r

pub returns-else-is_none-clause-ran : goal.returns-else-is_none-clause-ran
returns-else-is_none-clause-ran g c = λ m is.
    let w : Parts = whole c.self.inside in
    let v : Work = record { machine = c.run-made.new.self; counts = c.run-made.new.counts } in (
      v,
      begun c.args.phase.now c.in-Trying.trial m w.counts c.args.self.now.counts c.run-made.result v c.in-Trying.is is (ap (λ (u : Parts). u.counts) c.self.view_is) c.run-made.ensures.ran,
      c.run-made.ensures.stands,
      more_tried w v (due c.next.ensures c.is_none.ensures c.if-is_none.false) ∙ ap (λ (u : Parts). tried u v) c.self.view_is,
    )

pub returns-then-is_none-clause-ran : goal.returns-then-is_none-clause-ran
returns-then-is_none-clause-ran g c = λ m is.
    let w : Parts = whole c.self.inside in
    let v : Work = record { machine = c.run-made.new.self; counts = c.run-made.new.counts } in (
      v,
      begun c.args.phase.now c.in-Trying.trial m w.counts c.args.self.now.counts c.run-made.result v c.in-Trying.is is (ap (λ (u : Parts). u.counts) c.self.view_is) c.run-made.ensures.ran,
      c.run-made.ensures.stands,
      c.end_trial.ensures ∙ over_tried w v (due c.next.ensures c.is_none.ensures c.if-is_none.true) ∙ ap (λ (u : Parts). tried u v) c.self.view_is,
    )

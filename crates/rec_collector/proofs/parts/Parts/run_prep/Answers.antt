-- The contract of `Parts::run_prep`: fields are loaded for the preparation.
use Rattle.std.proofs.Common.{◌≡◌, ℕ, sym, ◌∙◌, ap, subst}
use Rattle.rec_sigma.specs.Prepare.{Machine, Work}
use Rattle.rec_sigma.specs.Ran.{Ran}
use Rattle.rec_collector.proofs.Common.{Phase, State, Preparing, prepared, Parts}
use Rattle.rec_collector.specs.Works.{MayPrepare}
use Rattle.rec_collector.proofs.Answering.{due, more_prepared, over_prepared, whole}
use Rattle.rec_collector.proofs.Goings.{with_counts}
use Rattle.rec_collector.proofs.Steps.{prep_next}
use Rattle.rec_collector.proofs.parts.Parts.run_prep.Goals as goal

same_prep : (m n : Machine) → Preparing m ≡ Preparing n → m ≡ n
same_prep m n e = cc

-- the run began where the phase says
begun : (phase : Phase) (m n : Machine) (s t : State) (made : ℕ) (w : Work) → phase ≡ Preparing m → phase ≡ Preparing n → s ≡ t → Ran (record { machine = m; counts = s }) made w → Ran (record { machine = n; counts = t }) made w
begun phase m n s t made w is was e r = let f : m ≡ n = same_prep m n (sym is ∙ was) in subst (λ (x : Work). Ran x made w) (λ i. record { machine = f i; counts = e i }) r

pub run-made-requires-clause-busy : goal.run-made-requires-clause-busy
run-made-requires-clause-busy g c = prep_next _ ∙ (subst (MayPrepare c.args.self.now) c.in-Preparing.is c.requires.may).0

pub returns-else-is_none-clause-ran : goal.returns-else-is_none-clause-ran
returns-else-is_none-clause-ran g c = λ m is.
    let w : Parts = whole c.self.inside in
    let v : Work = record { machine = c.run-made.new.self; counts = c.run-made.new.counts } in (
      v,
      begun c.args.phase.now c.in-Preparing.prep m w.counts c.args.self.now.counts c.run-made.result v c.in-Preparing.is is (ap (λ (u : Parts). u.counts) c.self.view_is) c.run-made.ensures.ran,
      c.run-made.ensures.stands,
      more_prepared w v (due c.next.ensures.next c.is_none.ensures c.if-is_none.false) ∙ ap (λ (u : Parts). prepared u v) c.self.view_is,
    )

pub returns-then-is_none-clause-ran : goal.returns-then-is_none-clause-ran
returns-then-is_none-clause-ran g c = λ m is.
    let w : Parts = whole c.self.inside in
    let v : Work = record { machine = c.run-made.new.self; counts = c.run-made.new.counts } in (
      v,
      begun c.args.phase.now c.in-Preparing.prep m w.counts c.args.self.now.counts c.run-made.result v c.in-Preparing.is is (ap (λ (u : Parts). u.counts) c.self.view_is) c.run-made.ensures.ran,
      c.run-made.ensures.stands,
      ap (λ phase. record { parts = with_counts w v.counts; phase = phase }) c.end_preparing.ensures
          ∙ over_prepared w v (due c.next.ensures.next c.is_none.ensures c.if-is_none.true) ∙ ap (λ (u : Parts). prepared u v) c.self.view_is,
    )

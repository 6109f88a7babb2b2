-- The contract of `Parts::run_freeing`: fields of members of the set that is freed are cleared.
use Rattle.std.proofs.Common.{◌≡◌, ℕ, sym, ◌∙◌, ap, subst}
use Rattle.rec_release.specs.CycleFree.{Machine, Work}
use Rattle.rec_release.specs.Ran.{RanFreeing}
use Rattle.rec_collector.proofs.Common.{Phase, State, Freeing, IsClear, Parts, followed, relieved}
use Rattle.rec_collector.specs.Works.{MayFree}
use Rattle.rec_collector.proofs.Answering.{begun_follows, due, more_freed, over_freed, whole}
use Rattle.rec_collector.proofs.FreeingRuns.{ran_clear}
use Rattle.rec_collector.proofs.Goings.{with_counts}
use Rattle.rec_collector.proofs.Steps.{freeing_next}
use Rattle.rec_collector.proofs.parts.Parts.run_freeing.Goals as goal

same_freeing : (m n : Machine) → Freeing m ≡ Freeing n → m ≡ n
same_freeing m n e = cc

-- the run began where the phase says
begun : (phase : Phase) (m n : Machine) (s t : State) (made : ℕ) (w : Work) → phase ≡ Freeing m → phase ≡ Freeing n → s ≡ t → RanFreeing (record { machine = m; counts = s }) made w → RanFreeing (record { machine = n; counts = t }) made w
begun phase m n s t made w is was e r = let f : m ≡ n = same_freeing m n (sym is ∙ was) in subst (λ (x : Work). RanFreeing x made w) (λ i. record { machine = f i; counts = e i }) r

pub run-made-requires-clause-busy : goal.run-made-requires-clause-busy
run-made-requires-clause-busy g c = freeing_next c.in-Freeing.freeing ∙ (subst (MayFree c.args.self.now) c.in-Freeing.is c.requires.may).clearing.busy

pub end_freeing-requires-clause-clear : goal.end_freeing-requires-clause-clear
end_freeing-requires-clause-clear g c =
    let w : Parts = whole c.self.inside in
    let v : Work = record { machine = c.run-made.new.self; counts = c.run-made.new.counts } in
    let may : IsClear _ = subst (λ (u : Parts). MayFree u (Freeing c.in-Freeing.freeing)) (sym c.self.view_is) (subst (MayFree c.args.self.now) c.in-Freeing.is c.requires.may) in
    subst IsClear (sym (over_freed w v (due c.next.ensures.next c.is_none.ensures c.if-is_none.true)))
    (ran_clear w c.in-Freeing.freeing c.self.invariant c.rules.ensures may c.run-made.result v c.run-made.ensures.ran c.run-made.ensures.some).0

pub returns-else-is_none-clause-ran : goal.returns-else-is_none-clause-ran
returns-else-is_none-clause-ran g c = λ m is.
    let w : Parts = whole c.self.inside in
    let v : Work = record { machine = c.run-made.new.self; counts = c.run-made.new.counts } in (
      v,
      begun c.args.phase.now c.in-Freeing.freeing m w.counts c.args.self.now.counts c.run-made.result v c.in-Freeing.is is (ap (λ (u : Parts). u.counts) c.self.view_is) c.run-made.ensures.ran,
      c.run-made.ensures.stands,
      begun_follows (with_counts w v.counts) (Freeing v.machine)
          ∙ ap followed (more_freed w v (due c.next.ensures.next c.is_none.ensures c.if-is_none.false) ∙ ap (λ (u : Parts). relieved u v) c.self.view_is),
    )

pub returns-then-is_none-clause-ran : goal.returns-then-is_none-clause-ran
returns-then-is_none-clause-ran g c = λ m is.
    let w : Parts = whole c.self.inside in
    let v : Work = record { machine = c.run-made.new.self; counts = c.run-made.new.counts } in (
      v,
      begun c.args.phase.now c.in-Freeing.freeing m w.counts c.args.self.now.counts c.run-made.result v c.in-Freeing.is is (ap (λ (u : Parts). u.counts) c.self.view_is) c.run-made.ensures.ran,
      c.run-made.ensures.stands,
      c.end_freeing.ensures ∙ ap followed (over_freed w v (due c.next.ensures.next c.is_none.ensures c.if-is_none.true) ∙ ap (λ (u : Parts). relieved u v) c.self.view_is),
    )

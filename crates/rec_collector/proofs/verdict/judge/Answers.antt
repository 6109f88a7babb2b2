-- The contract of `judge`: tests set `set`: Delta first.
use Rattle.std.proofs.Common.{◌≡◌, ◌<◌, ℕ, inl, inr, arith, sym, ◌∙◌}
use Rattle.std.proofs.lemmas.Bool.{cases_lt, false≢true}
use Rattle.rec_sigma.specs.Judged.{cyclic_sum}
use Rattle.rec_collector.proofs.Judging.{held_verdict, passed_verdict, touched_verdict}
use Rattle.rec_collector.proofs.verdict.judge.Goals as goal

pub returns-then-not-delta : goal.returns-then-not-delta
returns-then-not-delta c = sym (touched_verdict c.args.counts.now c.args.set (λ all. false≢true (sym c.if-not-delta.true ∙ c.delta.ensures.1 all)))

pub returns-then-not-sigma : goal.returns-then-not-sigma
returns-then-not-sigma c = sym (held_verdict c.args.counts.now c.args.set (c.delta.ensures.0 c.if-not-delta.false) (held (cyclic_sum c.args.counts.now c.args.set) (λ none. false≢true (sym c.if-not-sigma.true ∙ c.sigma.ensures.1 none))))
  where
    held : (n : ℕ) → (n ≡ 0 → ⊥) → 0 < n
    held n some = elim (cases_lt 0 n) [ inl l ↦ l | inr l ↦ absurd (some (omega (arith, l))) ]

pub returns-else-not-sigma : goal.returns-else-not-sigma
returns-else-not-sigma c = sym (passed_verdict c.args.counts.now c.args.set (c.delta.ensures.0 c.if-not-delta.false) (c.sigma.ensures.0 c.if-not-sigma.false))

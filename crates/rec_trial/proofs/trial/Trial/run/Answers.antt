-- The contract of `Trial::run`: loads words and learns them.
use Rattle.std.proofs.Common.{IsSome, IsTrue, inl, inr, sym, subst, arith}
use Rattle.std.proofs.lemmas.Bool.{cases_lt, false≢true}
use Rattle.rec_trial.specs.Loaded.{IsAtWork, Ran}
use Rattle.rec_trial.proofs.Common.{Machine, Work, next_of}
use Rattle.rec_trial.proofs.trial.Trial.run.Goals as goal
use Rattle.rec_trial.proofs.trial.Trial.run.Goals.{then-loop-made-test+else-is_busy, else-loop-made-test}

pub loop-made-init : goal.loop-made-init
loop-made-init g c =
    let same = sym c.self.view_is in
    let first : Work = record { machine = c.args.self.now; counts = c.args.counts.now } in
    record {
      kept = subst (λ (m : Machine). IsAtWork m c.args.counts.now) same c.requires.kept;
      ran = subst (λ (m : Machine). Ran first 0 (record { machine = m; counts = c.args.counts.now })) same Ran.none;
      few = omega arith;
      first = λ none. subst (λ (m : Machine). IsSome (next_of m)) same c.requires.busy;
      stands = subst (λ (m : Machine). g.L.Loads.StandsAt c.args.board.now c.args.seat.now 0 (record { machine = m; counts = c.args.counts.now })) same c.requires.stands;
    }

pub returns-clause-some : goal.returns-clause-some
returns-clause-some g c =
    elim c.loop-made-test.branch [
      | then-loop-made-test+else-is_busy w ↦ elim (cases_lt 0 c.loop-made.made) [
        | inl some ↦ some
        | inr none ↦ absurd (false≢true (subst IsTrue w.if-is_busy.false (w.is_busy.ensures.1 (c.loop-made.invariant.first (omega (arith, none))))))
      ]
      | else-loop-made-test w ↦ omega (arith, w.loop-made-test.false, c.requires.some)
    ]

-- The contract of `refuse`: the set is refurbished.
use Rattle.std.proofs.Common.{◌≡◌, ℕ, arith, ap, ◌∙◌}
use Rattle.rec_counts.specs.Lists.{times}
use Rattle.rec_counts.proofs.Times.{times-nil}
use Rattle.rec_tests.proofs.refused_set.refuse.Goals as goal

pub refurbish-requires-clause-refusable : goal.refurbish-requires-clause-refusable
refurbish-requires-clause-refusable c = record {
  some = omega (arith, c.requires.sets);
  work = c.requires.work;
  free = λ x h r. ap (times x) c.requires.free ∙ times-nil x;
  zeros = λ x h r n. ap (times x) c.requires.zeros ∙ times-nil x;
}

pub returns-clause-ready : goal.returns-clause-ready
returns-clause-ready c =
    let none : (x : ℕ) → times x c.args.counts.now.zeros ≡ 0 = λ x. ap (times x) c.requires.zeros ∙ times-nil x in
    record {
      zeros = c.refurbish.ensures.zeros (record { once = λ x. omega (arith, none x); none = λ x l. absurd (omega (arith, none x, l)); unreleased = λ x l. absurd (omega (arith, none x, l)) });
      free = c.refurbish.ensures.free (λ x l. absurd (omega (arith, l, ap (times x) c.requires.free, times-nil x)));
    }

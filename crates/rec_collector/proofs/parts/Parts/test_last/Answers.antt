-- The contract of `Parts::test_last`: tests the last set, and begins to free it where it passes.
use Rattle.std.proofs.Common.{◌≡◌, ◌-◌, length, arith, sym, ◌∙◌, ap, subst}
use Rattle.rec_collector.proofs.Common.{IsKept, IsFreeable, IsRefusable, Parts, last_tested, verdict_of, Passed}
use Rattle.rec_collector.proofs.Answering.{passed_last, refused_last}
use Rattle.rec_collector.proofs.Judging.{last_freeable, last_refusable}
use Rattle.rec_collector.proofs.parts.Parts.test_last.Goals as goal

pub free_set-requires-clause-freeable : goal.free_set-requires-clause-freeable
free_set-requires-clause-freeable c =
    let kept : IsKept c.args.self.now.counts = subst (λ (v : Parts). IsKept v.counts) c.self.view_is c.rules.ensures in
    let passed : verdict_of c.self.inside.counts (length c.self.inside.counts.sets - 1) ≡ Passed = ap (λ n. verdict_of c.self.inside.counts (n - 1)) (sym c.sets-set.ensures) ∙ sym c.judge-verdict.ensures ∙ c.in-Passed.is in
    let now_passed : verdict_of c.args.self.now.counts (length c.args.self.now.counts.sets - 1) ≡ Passed = subst (λ (v : Parts). verdict_of v.counts (length v.counts.sets - 1) ≡ Passed) c.self.view_is passed in
    subst (λ (v : Parts). IsFreeable v.counts) (sym c.self.view_is) (last_freeable c.args.self.now c.requires.some now_passed kept c.requires.cleared)

pub refurbish-requires : goal.refurbish-requires
refurbish-requires c =
    let kept : IsKept c.args.self.now.counts = subst (λ (v : Parts). IsKept v.counts) c.self.view_is c.rules.ensures in
    let refusable : IsRefusable c.self.inside.counts = subst (λ (v : Parts). IsRefusable v.counts) (sym c.self.view_is) (last_refusable c.args.self.now c.requires.some kept c.requires.cleared) in
    record { last = omega (arith, c.sets-set.ensures, refusable.some); refusable = refusable }

pub returns-in-Passed : goal.returns-in-Passed
returns-in-Passed c =
    let w : Parts = record { counts = c.self.inside.counts; fields = c.self.inside.fields; sets = c.self.inside.sets; offers = c.self.inside.offers; postponed = c.self.inside.postponed; policy = c.self.inside.policy } in
    let verdict : c.judge-verdict.result ≡ verdict_of w.counts (length w.counts.sets - 1) = c.judge-verdict.ensures ∙ ap (λ n. verdict_of w.counts (n - 1)) c.sets-set.ensures in
    c.free_set.ensures ∙ passed_last w c.judge-verdict.result c.count.new.self verdict c.in-Passed.is c.count.ensures ∙ ap last_tested c.self.view_is

pub returns-in_default : goal.returns-in_default
returns-in_default c =
    let w : Parts = record { counts = c.self.inside.counts; fields = c.self.inside.fields; sets = c.self.inside.sets; offers = c.self.inside.offers; postponed = c.self.inside.postponed; policy = c.self.inside.policy } in
    let verdict : c.judge-verdict.result ≡ verdict_of w.counts (length w.counts.sets - 1) = c.judge-verdict.ensures ∙ ap (λ n. verdict_of w.counts (n - 1)) c.sets-set.ensures in
    c.release_zeros.ensures ∙ refused_last w c.judge-verdict.result c.refurbish.new.counts c.count.new.self verdict c.in_default.not-Passed c.refurbish.ensures.settled c.count.ensures ∙ ap last_tested c.self.view_is

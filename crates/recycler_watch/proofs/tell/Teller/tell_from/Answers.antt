-- One move more, or none is left.
use Rattle.std.proofs.Common.{refl, sym, subst, ◌∙◌, ◌+◌, ap, arith}
use Rattle.recycler_watch.specs.declared.request.Asked.{Asked}
use Rattle.recycler_watch.proofs.Running.{Told, told_none, told_next, told_all, told_over}
use Rattle.recycler_watch.proofs.tell.Teller.tell_from.Goals as goal

pub loop-init : goal.loop-init
loop-init g c = (refl, refl, c.requires, λ is. subst (λ out. Told c.args.self.now.walk c.args.self.now.moves c.args.self.now.walk c.args.self.now.moves (g.W.Write.contents c.args.out.now) (g.W.Write.contents out)) (sym (c.begin.ensures is)) (told_none _ _ _))

pub loop-preserved : goal.loop-preserved
loop-preserved g c = (
  c.in_ok-tell_next.ensures.asked ∙ c.loop.invariant.0,
  c.in_ok-tell_next.ensures.count c.if-not-branch.false ∙ ap (λ n. n + 1) c.loop.invariant.1,
  c.in_ok-tell_next.ensures.seen c.if-not-branch.false,
  λ is. told_next _ _ _ _ _ _ _ _ _ _ c.if-not-branch.false (c.loop.invariant.3 is) (c.in_ok-tell_next.ensures.told (ap (λ (a : Asked). a.request) c.loop.invariant.0 ∙ is)),
)

pub returns-after-loop-clause-told : goal.returns-after-loop-clause-told
returns-after-loop-clause-told g c is = told_all _ _ _ _ _ _ _ (c.loop.invariant.3 is) (omega (arith, c.loop.invariant.1, c.max-end.ensures, c.loop-test.false, c.loop.auto.counter-end))

pub returns-then-not-branch-clause-told : goal.returns-then-not-branch-clause-told
returns-then-not-branch-clause-told g c is = told_over _ _ _ _ _ _ _ _ _ _ _ c.if-not-branch.true (c.loop.invariant.3 is) (c.in_ok-tell_next.ensures.told (ap (λ (a : Asked). a.request) c.loop.invariant.0 ∙ is)) (omega (arith, c.loop.invariant.1, c.max-end.ensures, c.loop-test.true))

-- One move more.
use Rattle.std.proofs.Common.{refl, ◌∙◌, ap, ◌+◌}
use Rattle.recycler_watch.proofs.Running.{passes_none, passes_more}
use Rattle.recycler_watch.proofs.tell.Teller.pass.Goals as goal

pub loop-init : goal.loop-init
loop-init c = (refl, c.requires, passes_none c.args.self.now.walk)

pub loop-preserved : goal.loop-preserved
loop-preserved c = (c.make_move.ensures.asked ∙ c.loop.invariant.0, c.in-Some.ensures.made.1 ∙ ap (λ n. n + 1) c.loop.invariant.1, passes_more _ _ _ _ _ c.loop.invariant.2 c.in-Some.ensures.made.0)

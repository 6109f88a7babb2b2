-- The contract of `stay`: a heap that can't be set running after all rests again.
use Rattle.std.proofs.Common.{◌≡◌, ℕ, ◌<◌, ◌∙◌, None, refl, sym, ap, subst}
use Rattle.std.specs.Arc.{arc_value}
use Rattle.rec_core.specs.Core.{Core}
use Rattle.recycler_c.proofs.Runs.{fresh_moved, fresh_rests}
use Rattle.recycler_c.specs.declared.end.End.TheVariants as ends
use Rattle.recycler_c.proofs.running.stay.Goals as goal

pub unshare-requires : goal.unshare-requires
unshare-requires c = c.requires.fresh.all ∙ sym c.args.running.counted

pub returns-in-Ok : goal.returns-in-Ok
returns-in-Ok c =
    let s = arc_value c.args.running.heap in
    let same : c.in-Ok.resting ≡ s.world = fresh_rests s c.args.running.collector c.args.running.home.items c.in-Ok.resting c.requires.kept c.requires.home c.requires.fresh.collector
    (λ k e lt. c.requires.fresh.home k e (subst (λ (n : ℕ). k < n) c.requires.fresh.all lt)) c.in-Ok.ensures.stopped in
    ap (λ (w : Core). ends.Resting w None) same

pub returns-in-Err : goal.returns-in-Err
returns-in-Err c = (c.in-Err.running, refl, fresh_moved c.args.running c.in-Err.running (arc_value c.args.running.heap).world c.in-Err.ensures.shared.0 c.in-Err.ensures.shared.1 c.in-Err.ensures.shared.2 c.requires.fresh)

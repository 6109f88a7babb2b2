-- The contract of `postpone`: each root has its turn.
use Rattle.std.proofs.Common.{◌≡◌, ℕ, length, subst, sym, ap, ◌∙◌, refl, arith}
use Rattle.rec_counts.specs.Counts.{State}
use Rattle.rec_trial.specs.Postponed.{postponed, rotated, rotated_in}
use Rattle.rec_trial.proofs.Postponed.{IsPostponed, rotated_more, turned_none, turned_on}
use Rattle.rec_trial.proofs.postponing.postpone.Goals as goal

pub loop-place-init : goal.loop-place-init
loop-place-init c = record { is = refl; postponed = turned_none c.args.counts.now c.rules.ensures c.requires.unlisted }

pub rotate-requires : goal.rotate-requires
rotate-requires c = c.loop-place.invariant.postponed.unlisted

pub loop-place-preserved : goal.loop-place-preserved
loop-place-preserved c = record {
  is = c.rotate.ensures ∙ ap rotated c.loop-place.invariant.is ∙ sym (rotated_more c.loop-place.place c.args.counts.now);
  postponed = subst (λ (s : State). IsPostponed c.args.counts.now s) (sym c.rotate.ensures) (turned_on c.loop-place.invariant.postponed);
}

pub returns : goal.returns
unfolding postponed
returns c =
    let whole : c.loop-place.place ≡ length c.args.counts.now.roots = omega (arith, ap length c.roots-place-end.ensures) in
    c.loop-place.invariant.is ∙ ap (λ (n : ℕ). rotated_in n c.args.counts.now) whole

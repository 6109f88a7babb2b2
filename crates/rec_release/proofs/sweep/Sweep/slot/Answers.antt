-- The contract of `Sweep::slot`: the slot whose header is freed next.
use Rattle.std.proofs.Common.{IsSome, Option, ℕ, sym, subst, ap, ◌∙◌}
use Rattle.std.proofs.lemmas.Bool.{false≢true}
use Rattle.rec_release.specs.Sweep.{next_of}
use Rattle.rec_release.proofs.sweep.Sweep.slot.Goals as goal

pub unreachable-requires : goal.unreachable-requires
unfolding next_of
unreachable-requires c = absurd (false≢true (subst (λ (due : Option ℕ). IsSome (next_of due)) (sym c.self.view_is ∙ c.in_default.is) c.requires))

pub returns : goal.returns
unfolding next_of
returns c = ap next_of (sym c.self.view_is ∙ c.in-Some.is)

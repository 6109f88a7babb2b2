-- The contract of `Parts::took`: a word came out of a field or was loaded from one, for the machine that is at work.
use Rattle.std.proofs.Common.{subst, sym}
use Rattle.rec_collector.specs.Given.{IsReleasingIn, IsFreeingIn, IsTryingIn, IsPreparingIn}
use Rattle.rec_collector.proofs.parts.Parts.took.Goals as goal

pub took_release-requires-clause-releasing : goal.took_release-requires-clause-releasing
took_release-requires-clause-releasing c = subst IsReleasingIn (sym c.in-Releasing.is) tt

pub took_freeing-requires-clause-freeing : goal.took_freeing-requires-clause-freeing
took_freeing-requires-clause-freeing c = subst IsFreeingIn (sym c.in-Freeing.is) tt

pub took_trial-requires-clause-trying : goal.took_trial-requires-clause-trying
took_trial-requires-clause-trying c = subst IsTryingIn (sym c.in-Trying.is) tt

pub took_prep-requires-clause-preparing : goal.took_prep-requires-clause-preparing
took_prep-requires-clause-preparing c = subst IsPreparingIn (sym c.in-Preparing.is) tt

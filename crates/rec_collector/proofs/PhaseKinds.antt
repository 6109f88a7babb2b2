-- Which phase it is, by its kind.
use Rattle.std.proofs.Common.{◌≡◌, refl}
use Rattle.rec_release.specs.CycleFree.{Machine as Free}
use Rattle.rec_sigma.specs.Prepare.{Machine as Prep}
use Rattle.rec_trial.specs.Trial.{Machine}
use Rattle.rec_collector.specs.Given.{IsWork, IsReleasingIn, IsFreeingIn, IsTryingIn, IsPreparingIn, IsSweepingIn}
use Rattle.rec_collector.specs.Kind.{kind_of}
use Rattle.rec_collector.specs.declared.kind.Kind.TheVariants as kinds
use Rattle.rec_collector.specs.declared.phase.Phase.{Phase}
use Rattle.rec_collector.specs.declared.phase.Phase.TheVariants.{Idle, Looking, Swapping, Returning, Releasing, Freeing, Trying, Preparing, Opening, Sweeping, Closing}

-- a machine is at work in each of these
pub releasing_works : (phase : Phase) → IsReleasingIn phase → IsWork phase
releasing_works (Releasing release) is = tt
releasing_works _ is = absurd is

pub freeing_works : (phase : Phase) → IsFreeingIn phase → IsWork phase
freeing_works (Freeing freeing) is = tt
freeing_works _ is = absurd is

pub trying_works : (phase : Phase) → IsTryingIn phase → IsWork phase
trying_works (Trying trial) is = tt
trying_works _ is = absurd is

-- and of a trial there is a machine
pub trying_is : (phase : Phase) → IsTryingIn phase → (m : Machine) × (phase ≡ Trying m)
trying_is (Trying trial) is = (trial, refl)
trying_is _ is = absurd is

-- so it is of a preparation, and of the freeing of a set
pub preparing_is : (phase : Phase) → IsPreparingIn phase → (m : Prep) × (phase ≡ Preparing m)
preparing_is (Preparing prep) is = (prep, refl)
preparing_is _ is = absurd is

pub freeing_is : (phase : Phase) → IsFreeingIn phase → (m : Free) × (phase ≡ Freeing m)
freeing_is (Freeing freeing) is = (freeing, refl)
freeing_is _ is = absurd is

pub preparing_works : (phase : Phase) → IsPreparingIn phase → IsWork phase
preparing_works (Preparing prep) is = tt
preparing_works _ is = absurd is

-- the kind tells the phase
pub of_releasing : (phase : Phase) → kinds.Releasing ≡ kind_of phase → IsReleasingIn phase
of_releasing (Releasing release) is = tt
of_releasing Idle is = absurd (cc)
of_releasing (Looking t) is = absurd (cc)
of_releasing (Swapping t) is = absurd (cc)
of_releasing (Returning t) is = absurd (cc)
of_releasing (Freeing freeing) is = absurd (cc)
of_releasing (Trying trial) is = absurd (cc)
of_releasing (Preparing prep) is = absurd (cc)
of_releasing Opening is = absurd (cc)
of_releasing (Sweeping due swept) is = absurd (cc)
of_releasing (Closing swept) is = absurd (cc)

pub of_freeing : (phase : Phase) → kinds.Freeing ≡ kind_of phase → IsFreeingIn phase
of_freeing (Freeing freeing) is = tt
of_freeing Idle is = absurd (cc)
of_freeing (Looking t) is = absurd (cc)
of_freeing (Swapping t) is = absurd (cc)
of_freeing (Returning t) is = absurd (cc)
of_freeing (Releasing release) is = absurd (cc)
of_freeing (Trying trial) is = absurd (cc)
of_freeing (Preparing prep) is = absurd (cc)
of_freeing Opening is = absurd (cc)
of_freeing (Sweeping due swept) is = absurd (cc)
of_freeing (Closing swept) is = absurd (cc)

pub of_trying : (phase : Phase) → kinds.Trying ≡ kind_of phase → IsTryingIn phase
of_trying (Trying trial) is = tt
of_trying Idle is = absurd (cc)
of_trying (Looking t) is = absurd (cc)
of_trying (Swapping t) is = absurd (cc)
of_trying (Returning t) is = absurd (cc)
of_trying (Releasing release) is = absurd (cc)
of_trying (Freeing freeing) is = absurd (cc)
of_trying (Preparing prep) is = absurd (cc)
of_trying Opening is = absurd (cc)
of_trying (Sweeping due swept) is = absurd (cc)
of_trying (Closing swept) is = absurd (cc)

pub of_preparing : (phase : Phase) → kinds.Preparing ≡ kind_of phase → IsPreparingIn phase
of_preparing (Preparing prep) is = tt
of_preparing Idle is = absurd (cc)
of_preparing (Looking t) is = absurd (cc)
of_preparing (Swapping t) is = absurd (cc)
of_preparing (Returning t) is = absurd (cc)
of_preparing (Releasing release) is = absurd (cc)
of_preparing (Freeing freeing) is = absurd (cc)
of_preparing (Trying trial) is = absurd (cc)
of_preparing Opening is = absurd (cc)
of_preparing (Sweeping due swept) is = absurd (cc)
of_preparing (Closing swept) is = absurd (cc)

pub of_sweeping : (phase : Phase) → kinds.Sweeping ≡ kind_of phase → IsSweepingIn phase
of_sweeping (Sweeping due swept) is = tt
of_sweeping Idle is = absurd (cc)
of_sweeping (Looking t) is = absurd (cc)
of_sweeping (Swapping t) is = absurd (cc)
of_sweeping (Returning t) is = absurd (cc)
of_sweeping (Releasing release) is = absurd (cc)
of_sweeping (Freeing freeing) is = absurd (cc)
of_sweeping (Trying trial) is = absurd (cc)
of_sweeping (Preparing prep) is = absurd (cc)
of_sweeping Opening is = absurd (cc)
of_sweeping (Closing swept) is = absurd (cc)

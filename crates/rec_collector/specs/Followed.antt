-- What follows a word that came out of a field or was loaded from one: up to the next operation, and the phase that it is in.
use Rattle.std.specs.Prelude.{ℕ, ◌+◌, nat_le, if◌then◌else◌, Bool, true, false, Option, None, Some, List, [], ◌∷◌, length}
use Rattle.rec_word.specs.declared.op.Op.{Op}
use Rattle.rec_release.specs.CycleFree as frees
use Rattle.rec_release.specs.Release as releases
use Rattle.rec_word.specs.declared.member.Member.{Member}
use Rattle.rec_sigma.specs.Prepare as preps
use Rattle.rec_sigma.specs.declared.at.At as loads
use Rattle.rec_trial.specs.Postponed.{postponed}
use Rattle.rec_trial.specs.Rules.{visible}
use Rattle.rec_trial.specs.Trial as trials
use Rattle.rec_collector.specs.Offered.{offered_where}
use Rattle.rec_collector.specs.Parts.{Parts, new_prep}
use Rattle.rec_collector.specs.Testing.{Begun, tested, with_release, zeros_released}
use Rattle.rec_collector.specs.declared.phase.Phase.{Phase}
use Rattle.rec_collector.specs.declared.phase.Phase.TheVariants.{Releasing, Freeing, Trying, Preparing, Opening, Closing}

-- the parts, and the phase that follows
pub record Next : Type 0 where
  pub parts : Parts
  pub phase : Phase

abbrev pub next_in : Phase → Parts → Next
next_in phase w = record { parts = w; phase = phase }

-- a sweep begins, or there is nothing to sweep
abbrev pub sweep_phase : List ℕ → Phase
sweep_phase [] = Closing 0
sweep_phase (x ∷ free) = Opening

-- a preparation goes on while a field is due; then what is free is swept
abbrev pub prepared_at : Parts → preps.Machine → Option loads.At → Next
prepared_at w m (Some a) = next_in (Preparing m) w
prepared_at w m None = next_in (sweep_phase w.counts.free) w

-- a preparation came so far
unfoldable pub prepared : Parts → preps.Work → Next
prepared w v = prepared_at (record w { counts = v.counts }) v.machine v.machine.at

-- the sets are to be prepared
abbrev pub prep_started : Parts → preps.Work
prep_started w = preps.started_of (new_prep w.fields) w.counts

-- a trial goes on while a field is to be loaded; then its sets are prepared
abbrev pub tried_at : Parts → trials.Machine → Option Op → Next
tried_at w m (Some op) = next_in (Trying m) w
tried_at w m None = prepared w (prep_started w)

-- a trial came so far
unfoldable pub tried : Parts → trials.Work → Next
tried w v = tried_at (record w { counts = v.counts }) v.machine (trials.next_of v.machine)

-- a trial is made: every slot is offered to it where that was asked for
abbrev pub with_offers : Parts → Parts
with_offers w = record w { counts = offered_where w.offers w.counts; offers = false; postponed = 0 }

-- It is made where slots are offered, where as many candidate roots wait as the policy asks for, or where as many collections in a row
-- have postponed theirs as it lets.
abbrev pub makes_trial : Parts → Bool
makes_trial w = if w.offers then true else if nat_le w.policy.least_roots (length w.counts.roots) then true else nat_le w.policy.most_postponed w.postponed

-- it is postponed, one time more
abbrev pub put_off : Parts → Parts
put_off w = record w { counts = postponed w.counts; postponed = w.postponed + 1 }

-- A trial begins, once every slot was offered where that was asked for. Or it is postponed, and there are no sets to prepare.
abbrev pub trial_if : (made : Bool) → Parts → Next
trial_if true w = tried (with_offers w) (trials.started_of w.fields (with_offers w).counts)
trial_if false w = prepared (put_off w) (prep_started (put_off w))

abbrev pub trial_started : Parts → Next
trial_started w = trial_if (makes_trial w) w

-- what was begun goes on; where nothing was, a trial begins or is postponed
abbrev pub going_on : Parts → Option Phase → Next
going_on w (Some phase) = next_in phase w
going_on w None = trial_started w

abbrev pub gone_on : Begun → Next
gone_on b = going_on b.parts b.phase

-- sets are tested where nothing is released or freed
unfoldable pub followed : Begun → Next
followed b = gone_on (tested (length b.parts.counts.sets) b)

-- a word came out of a field of a released slot
abbrev pub with_released : releases.Machine → Parts → (word : ℕ) → Begun
with_released m w word = with_release w (releases.took_of (record { machine = m; counts = w.counts }) word)

-- the freeing of a set goes on while a field is due; then the zeros are released
abbrev pub relieved_at : Parts → frees.Machine → Option Member → Begun
relieved_at w m (Some a) = record { parts = w; phase = Some (Freeing m) }
relieved_at w m None = zeros_released true w

-- the freeing of a set came so far
abbrev pub relieved : Parts → frees.Work → Begun
relieved w v = relieved_at (record w { counts = v.counts }) v.machine v.machine.at

-- a word came out of a field of a member of the set that is freed
abbrev pub with_freed : frees.Machine → Parts → (word : ℕ) → Begun
with_freed m w word = relieved w (frees.took_of (record { machine = m; counts = w.counts }) word)

-- a field was loaded for the trial, which sees no leaf
abbrev pub with_tried : trials.Machine → Parts → (word : ℕ) → Next
with_tried m w word = tried w (trials.took_of (record { machine = m; counts = w.counts }) (visible w.counts word))

-- a field was loaded for the preparation
abbrev pub with_loaded : preps.Machine → Parts → (word : ℕ) → Next
with_loaded m w word = prepared w (preps.took_of (record { machine = m; counts = w.counts }) word)

-- what follows a word, by the machine that is at work
abbrev pub worked : Parts → (word : ℕ) → Phase → Next
worked w word (Releasing release) = followed (with_released release w word)
worked w word (Freeing freeing) = followed (with_freed freeing w word)
worked w word (Trying trial) = with_tried trial w word
worked w word (Preparing prep) = with_loaded prep w word
worked w word phase = next_in phase w

-- Where a turn lands that works on the parts of the machine: the phase that it came to, and what holds there.
use Rattle.std.proofs.Common.{◌≡◌, ℕ, ◌+◌, ◌*◌, ◌^◌, ◌<◌, ◌≤◌, false, Option, None, Some, List, [], ◌∷◌, length, refl, arith, ap, subst, ◌∙◌, IfSome, Bool, slice_get, true}
use Rattle.rec_collector.proofs.Common.{State, Next, followed, prepared, prepared_at, tried, tried_at, with_freed, with_released, going_on, gone_on, relieved_at, with_offers, makes_trial, put_off, trial_if, worked, prep_started, all_fields, IsAt, IsMachine, IsTold, KeepsSizes, swept_at, under_way, Parts, new_release, Private, with_parts, tested, zeros_released, Begun, freeing_at, last_tested, releasing_at, batch_next, batched, moved, Phase, Idle, Releasing, Freeing, Trying, Preparing, Opening, Closing, IsWork}
use Rattle.rec_counts.specs.Counts.{IsKept as IsKeptCounts}
use Rattle.rec_release.specs.declared.at.At.{At}
use Rattle.rec_trial.specs.Trial.{Machine as Trial}
use Rattle.rec_collector.proofs.Goings.{last_by, tested_all, still, last_refused}
use Rattle.rec_release.specs.Sweep.{swept}
use Rattle.rec_word.specs.declared.member.Member.{Member}
use Rattle.rec_word.specs.Walk.{first_member}
use Rattle.rec_counts.specs.Groups.{last_set}
use Rattle.rec_sigma.specs.declared.at.At as loads
use Rattle.rec_release.specs.CycleFree as frees
use Rattle.rec_release.specs.Release as releases
use Rattle.rec_sigma.specs.Prepare as preps
use Rattle.rec_trial.specs.Trial as trials
use Rattle.rec_trial.specs.Rules.{visible}

-- what holds in the phase of a machine
pub now_at : (p : Private) (phase : Phase) → IsMachine p → p.phase ≡ phase → IsAt p phase
now_at p phase k e = subst (λ (f : Phase). IsAt p f) e k.now

-- the collections, the swept slots and the sets of a machine in this phase
pub under_way_at : (p : Private) (phase : Phase) → IsMachine p → p.phase ≡ phase → p.collections + under_way phase ≤ p.epoch
under_way_at p phase k e = subst (λ (f : Phase). p.collections + under_way f ≤ p.epoch) e k.collections

pub freed_at : (p : Private) (phase : Phase) → IsMachine p → p.phase ≡ phase → p.freed ≤ 2 ^ 16 * p.collections + swept_at phase
freed_at p phase k e = subst (λ (f : Phase). p.freed ≤ 2 ^ 16 * p.collections + swept_at f) e k.freed

pub told_at : (p : Private) (phase : Phase) → IsMachine p → p.phase ≡ phase → IsTold p phase
told_at p phase k e = subst (λ (f : Phase). IsTold p f) e k.told

-- What holds of each phase to which a word may lead holds of the phase that follows a preparation, a trial, and the tests of sets.
module _ (P : Phase → Type 0) (preparing : (m : preps.Machine) → P (Preparing m)) (opening : P Opening) (closing : P (Closing 0)) where
  prepared_phase : (w : Parts) (v : preps.Work) → P (prepared w v).phase
  unfolding prepared
  prepared_phase w v = go v.machine.at v.counts.free
    where
      go : (at : Option loads.At) (free : List ℕ) → P (prepared_at (record w { counts = record v.counts { free = free } }) v.machine at).phase
      go (Some a) free = preparing v.machine
      go None [] = closing
      go None (x ∷ free) = opening

  module _ (trying : (m : Trial) → P (Trying m)) where
    pub tried_phase : (w : Parts) (v : trials.Work) → P (tried w v).phase
    unfolding tried
    tried_phase w v = elim (trials.next_of v.machine) as (λ op. P (tried_at (record w { counts = v.counts }) v.machine op).phase) [ None ↦ prepared_phase (record w { counts = v.counts }) (prep_started (record w { counts = v.counts })) | Some o ↦ trying v.machine ]

    trial_phase : (w : Parts) (made : Bool) → P (trial_if made w).phase
    trial_phase w true = tried_phase (with_offers w) (trials.started_of w.fields (with_offers w).counts)
    trial_phase w false = prepared_phase (put_off w) (prep_started (put_off w))

    module _ (freeing : (m : frees.Machine) → P (Freeing m)) (releasing : (m : releases.Machine) → P (Releasing m)) where
      releasing_phase : (m : releases.Machine) (at : Option At) → IfSome (releasing_at m at) P
      releasing_phase m None = tt
      releasing_phase m (Some a) = releasing m

      freeing_phase : (m : frees.Machine) (at : Option Member) → IfSome (freeing_at m at) P
      freeing_phase m None = tt
      freeing_phase m (Some a) = freeing m

      -- where the zeros are to be released
      pub zeros_phase : (lowers : Bool) (w : Parts) → IfSome (zeros_released lowers w).phase P
      zeros_phase lowers w = let v : releases.Work = releases.started_of (new_release w.fields) lowers w.counts in releasing_phase v.machine v.machine.at

      relieved_phase : (w : Parts) (m : frees.Machine) (at : Option Member) → IfSome (relieved_at w m at).phase P
      relieved_phase w m None = zeros_phase true w
      relieved_phase w m (Some a) = freeing m

      last_phase : (w : Parts) → IfSome (last_tested w).phase P
      last_phase w =
          let at : Option Member = first_member (slice_get (last_set w.counts.sets) 0) in
          last_by (λ b. IfSome b.phase P) w (λ e. freeing_phase (record { fields = w.fields; at = at }) at) (λ verdict. zeros_phase true (last_refused verdict w))

      pub followed_phase : (b : Begun) → IfSome b.phase P → P (followed b).phase
      unfolding followed
      followed_phase b h = go (tested n b) (tested_all (λ c. IfSome c.phase P) (λ w some i. last_phase w) n b (omega arith) h)
        where
          n : ℕ
          n = length b.parts.counts.sets

          go : (c : Begun) → IfSome c.phase P → P (gone_on c).phase
          go c i = by c.phase i
            where
              by : (o : Option Phase) → IfSome o P → P (going_on c.parts o).phase
              by None i = trial_phase c.parts (makes_trial c.parts)
              by (Some phase) i = i

      -- what a word makes of the parts, by phase
      pub worked_phase : (w : Parts) (word : ℕ) (phase : Phase) → IsWork phase → P (worked w word phase).phase
      worked_phase w word (Releasing m) at_work = let v : releases.Work = releases.took_of (record { machine = m; counts = w.counts }) word in followed_phase (with_released m w word) (releasing_phase v.machine v.machine.at)
      worked_phase w word (Freeing m) at_work = let v : frees.Work = frees.took_of (record { machine = m; counts = w.counts }) word in followed_phase (with_freed m w word) (relieved_phase (record w { counts = v.counts }) v.machine v.machine.at)
      worked_phase w word (Trying m) at_work = tried_phase w (trials.took_of (record { machine = m; counts = w.counts }) (visible w.counts word))
      worked_phase w word (Preparing m) at_work = prepared_phase w (preps.took_of (record { machine = m; counts = w.counts }) word)
      worked_phase w word _ at_work = absurd at_work

      -- what follows a batch
      pub batch_phase : (p : Private) → P (batch_next p).phase
      batch_phase p = followed_phase (zeros_released false (batched p)) (zeros_phase false (batched p))

-- a collection is under way then, and nothing is swept yet
pub work_on : (w : Parts) (word : ℕ) (phase : Phase) → IsWork phase → under_way (worked w word phase).phase ≡ 1
work_on w word phase at_work = worked_phase (λ f. under_way f ≡ 1) (λ m. refl) refl refl (λ m. refl) (λ m. refl) (λ m. refl) w word phase at_work

pub work_none : (w : Parts) (word : ℕ) (phase : Phase) → IsWork phase → swept_at (worked w word phase).phase ≡ 0
work_none w word phase at_work = worked_phase (λ f. swept_at f ≡ 0) (λ m. refl) refl refl (λ m. refl) (λ m. refl) (λ m. refl) w word phase at_work

pub batch_on : (p : Private) → under_way (batch_next p).phase ≡ 1
batch_on p = batch_phase (λ f. under_way f ≡ 1) (λ m. refl) refl refl (λ m. refl) (λ m. refl) (λ m. refl) p

pub batch_none : (p : Private) → swept_at (batch_next p).phase ≡ 0
batch_none p = batch_phase (λ f. swept_at f ≡ 0) (λ m. refl) refl refl (λ m. refl) (λ m. refl) (λ m. refl) p

-- these parts have as many slots, as many fields a slot, and the policy of the machine, which lets trials be postponed so often
pub record Fits (p : Private) (w : Parts) : Type 0 where
  pub slots : length w.counts.slots ≡ length p.counts.slots
  pub fields : w.fields ≡ p.fields
  pub policy : w.policy ≡ p.policy
  pub few : w.postponed ≤ w.policy.most_postponed

-- so as many fields in all
pub fits_all : (p : Private) (w : Parts) → Fits p w → length w.counts.slots * w.fields ≡ all_fields p
fits_all p w f = ap (λ n. n * w.fields) f.slots ∙ ap (λ n. length p.counts.slots * n) f.fields

-- one turn was made, which came to these parts and this phase
abbrev pub landed : Private → Next → Private
landed p n = moved (with_parts p n.parts) n.phase

-- what holds there
pub record Lands (p : Private) (n : Next) : Type 0 where
  pub counts : IsKeptCounts n.parts.counts
  pub fits : Fits p n.parts
  pub told : IsTold (landed p n) n.phase
  pub now : IsAt (landed p n) n.phase

pub landed_keeps : (p : Private) (n : Next) → IsMachine p → p.collections + 1 ≤ p.epoch → p.freed ≤ 2 ^ 16 * p.collections → under_way n.phase ≡ 1 → swept_at n.phase ≡ 0 → Lands p n → IsMachine (landed p n)
landed_keeps p n k requested freed on still l = record {
  epoch = k.epoch;
  collections = omega (arith, requested, on);
  freed = omega (arith, freed, still);
  some_fields = omega (arith, k.some_fields, l.fits.fields);
  few_fields = omega (arith, k.few_fields, l.fits.fields);
  rows = k.rows;
  left = k.left;
  counts = l.counts;
  told = l.told;
  postponed = l.fits.few;
  now = l.now;
}

-- the numbers stay
pub landed_sizes : (p q : Private) (n : Next) → Lands p n → KeepsSizes (landed p n) q → KeepsSizes p q
landed_sizes p q n l s = record { slots = s.slots ∙ l.fits.slots; fields = s.fields ∙ l.fits.fields; registers = s.registers; capacity = s.capacity; policy = s.policy ∙ l.fits.policy; mutators = s.mutators }

-- a turn that leaves the buffers and the sets that were tested
pub machine_on : (p : Private) (epoch : ℕ) (s : State) (freed : ℕ) (next : Phase) → IsMachine p → epoch < 2 ^ 24 → p.collections + under_way next ≤ epoch → freed ≤ 2 ^ 16 * p.collections + swept_at next → IsKeptCounts s →
    (let q : Private = moved (record p { epoch = epoch; counts = s; freed = freed }) next in IsTold q next → IsAt q next → IsMachine q)
machine_on p epoch s freed next k fits under swept counts told now = record { epoch = fits; collections = under; freed = swept; some_fields = k.some_fields; few_fields = k.few_fields; rows = k.rows; left = k.left; counts = counts; told = told; postponed = k.postponed; now = now }

-- at most one collection is under way
pub under_way_most : (phase : Phase) → under_way phase ≤ 1
under_way_most Idle = omega arith
under_way_most _ = omega arith

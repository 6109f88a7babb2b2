-- What comes next and what is learnt are a step, by the phase; what a step leaves in the mailbox that it looks at, and why each answer of
-- a turn comes.
use Rattle.std.proofs.Common.{◌≡◌, ◌≢◌, ℕ, zero, suc, ◌+◌, ◌-◌, ◌^◌, ◌<◌, true, false, Bool, cond, Option, None, Some, List, [], ◌∷◌, length, refl, arith, sym, ap, subst, ◌∙◌, ◌≤◌, IsSome, IsNone, is_some}
use Rattle.std.proofs.lemmas.Bool.{eqb-false, eqb-true, false≢true}
use Rattle.std.proofs.lemmas.List.{nil_from_length}
use Rattle.rec_collector.proofs.Common.{HaveLeft, batch_next, behind, behind_turn, gathering_on, gathering_turn, IsNextPresent, IsWork, MayGatherBehind, next_present, noted, requested, worked, Op, Contents, LastRefurbished, Next, followed, next_in, prep_started, prepared, prepared_at, sweep_phase, tried, tried_at, with_freed, with_released, going_on, gone_on, makes_trial, put_off, trial_if, with_offers, IsGiven, IsGivenAt, IsMachine, swept_at, IsAt, Parts, Private, parts_of, with_parts, last_tested, tested, tested_as, verdict_of, zeros_released, Begun, batched, came, came_turn, moved, step_of, swapped_of, swapped_at, swept_phase, took_at, took_of, turn_at, turn_of, ended_if, left_at, left_of, Phase, Idle, Looking, Swapping, Returning, Releasing, Freeing, Trying, Preparing, Opening, Sweeping, Closing, Passed, Touched, Held, IsClearingIn}
use Rattle.rec_word.specs.Looked.{looked}
use Rattle.rec_word.specs.declared.looked.Looked.{Looked}
use Rattle.rec_word.specs.declared.looked.Looked.TheVariants.{Takes, Crosses, Waits}
use Rattle.rec_collector.specs.Given.{IsLookGiven}
use Rattle.rec_collector.specs.Took.{after_look, crossed_for, look_turn}
use Rattle.rec_word.specs.declared.op.Op.TheVariants.{StoreEpoch, LookBox}
use Rattle.rec_release.specs.Sweep.{next_of as sweep_next}
use Rattle.rec_sigma.specs.Settling.{refurbished_of}
use Rattle.rec_sigma.proofs.Renewals.{refurbished_last}
use Rattle.rec_trial.specs.Trial.{next_of as trial_next}
use Rattle.rec_counts.specs.Batch.{IsCovered}
use Rattle.rec_collector.specs.Next.{is_spent, next_at, next_of}
use Rattle.rec_collector.specs.Step.{Step, Applies, ClearsOn, GoesOn, IsTested, PreparesOn, TriesOn, IsNext, IsBetween, LeavesBox, WholeStep}
use Rattle.rec_collector.specs.declared.turn.Turn.{Turn}
use Rattle.rec_collector.specs.declared.turn.Turn.TheVariants.{Moved, Waiting, EpochsSpent}
use Rattle.rec_collector.specs.declared.verdict.Verdict.{Verdict}
use Rattle.rec_collector.specs.Causes.{HasCause}
use Rattle.rec_collector.proofs.Clearing.{Clears}
use Rattle.rec_collector.proofs.Following.{HasCleared, begun_has, freed_has, released_has}
use Rattle.rec_collector.proofs.Gathering.{crossed_gathers, crossed_keeps, noted_gathers, noted_keeps, requested_gathers, requested_keeps}
use Rattle.rec_collector.proofs.Goings.{last_sets, still}
use Rattle.rec_collector.proofs.Judging.{Says, verdict_says, last_refusable}
use Rattle.rec_collector.proofs.Landing.{batch_none, batch_phase, landed, now_at, under_way_at, work_none, worked_phase}
use Rattle.rec_collector.proofs.Presence.{next_none, next_some}
use Rattle.rec_collector.proofs.Sweeping.{due_slot}
use Rattle.rec_collector.proofs.Testing.{last_clear}
use Rattle.rec_release.specs.Sweep as sweeps
use Rattle.rec_release.specs.CycleFree as frees
use Rattle.rec_release.specs.Release as releases
use Rattle.rec_sigma.specs.declared.at.At as loads
use Rattle.rec_sigma.specs.Prepare as preps
use Rattle.rec_trial.specs.Trial as trials
use Rattle.rec_trial.specs.Rules.{visible}

none_some : {A : Type 0} (x : A) → Some x ≢ None
none_some x e = cc

-- what a step makes of a machine that came to these parts and this phase, beside the buffer of a mailbox
abbrev went : Private → Next → Contents → Private
went p n box = swapped_of (came p n) box

-- a preparation that came so far
pub prepared_on : (p : Private) (w : Parts) (v : preps.Work) (box : Contents) → PreparesOn p w v (went p (prepared w v) box) (came_turn p.epoch (prepared w v).phase)
unfolding prepared swapped_of swapped_at
prepared_on p w v box = go v.machine.at refl
  where
    u : Parts
    u = record w { counts = v.counts }

    swept : (free : List ℕ) → v.counts.free ≡ free → v.machine.at ≡ None → PreparesOn p w v (went p (next_in (sweep_phase free) u) box) (came_turn p.epoch (sweep_phase free))
    swept [] f e = PreparesOn.completes e f (record { after = refl; answer = refl })
    swept (x ∷ xs) f e = PreparesOn.sweeps_next e (λ n. let q : x ∷ xs ≡ [] = sym f ∙ n in cc) (record { after = refl; answer = refl })

    go : (at : Option loads.At) → v.machine.at ≡ at → PreparesOn p w v (went p (prepared_at u v.machine at) box) (came_turn p.epoch (prepared_at u v.machine at).phase)
    go None e = swept v.counts.free refl e
    go (Some a) e = PreparesOn.more (λ n. none_some a (sym e ∙ n)) (record { after = refl; answer = refl })

-- a trial that came so far
pub tried_on : (p : Private) (w : Parts) (v : trials.Work) (box : Contents) → TriesOn p w v (went p (tried w v) box) (came_turn p.epoch (tried w v).phase)
unfolding tried swapped_of swapped_at
tried_on p w v box = go (trial_next v.machine) refl
  where
    u : Parts
    u = record w { counts = v.counts }

    go : (op : Option Op) → trial_next v.machine ≡ op → TriesOn p w v (went p (tried_at u v.machine op) box) (came_turn p.epoch (tried_at u v.machine op).phase)
    go None e = TriesOn.prepares e (prepared_on p u (prep_started u) box)
    go (Some o) e = TriesOn.more (λ n. none_some o (sym e ∙ n)) (record { after = refl; answer = refl })

-- the test of the last set
last_test : (w : Parts) → LastRefurbished w.counts (refurbished_of w.counts) → IsTested w (last_tested w)
unfolding last_tested
last_test w r = go (verdict_of w.counts (length w.counts.sets - 1)) (verdict_says w.counts (length w.counts.sets - 1))
  where
    go : (verdict : Verdict) → Says w.counts (length w.counts.sets - 1) verdict → IsTested w (tested_as verdict w)
    go Passed v = IsTested.passes v.0 v.1 refl
    go Touched v = IsTested.fails_delta (refurbished_of w.counts) v r refl
    go Held v = IsTested.fails_sigma (refurbished_of w.counts) v.0 v.1 r refl

-- what may be begun between a batch and the next trial
abbrev IsBegun : Option Phase → Type 0
IsBegun (Some (Releasing m)) = Unit {0}
IsBegun (Some (Freeing m)) = Unit {0}
IsBegun (Some _) = ⊥
IsBegun None = Unit {0}

begun_is : (b : Begun) {n : ℕ} → Clears b n → IsBegun b.phase
begun_is b c = go b.phase c.clearing
  where
    go : (o : Option Phase) → IsClearingIn b.parts o → IsBegun o
    go None c = tt
    go (Some (Releasing m)) c = tt
    go (Some (Freeing m)) c = tt
    go (Some _) c = absurd c

-- what was begun goes on; where nothing was, and no set is left, a trial begins
goes_on : (p : Private) (b : Begun) (box : Contents) → (b.phase ≡ None → b.parts.counts.sets ≡ []) → IsBegun b.phase → ClearsOn p (went p (gone_on b) box) (came_turn p.epoch (gone_on b).phase) b
unfolding swapped_of swapped_at
goes_on p b box none begun = go b.phase refl begun
  where
    go : (o : Option Phase) → b.phase ≡ o → IsBegun o → ClearsOn p (went p (going_on b.parts o) box) (came_turn p.epoch (going_on b.parts o).phase) b
    go None e i = by (makes_trial b.parts) refl
      where
        by : (made : Bool) → makes_trial b.parts ≡ made → ClearsOn p (went p (trial_if made b.parts) box) (came_turn p.epoch (trial_if made b.parts).phase) b
        by true d = ClearsOn.tries e (none e) d (tried_on p (with_offers b.parts) (trials.started_of b.parts.fields (with_offers b.parts).counts) box)
        by false d = ClearsOn.waits e (none e) d (prepared_on p (put_off b.parts) (prep_started (put_off b.parts)) box)
    go (Some (Releasing m)) e i = ClearsOn.works (Releasing m) e (record { after = refl; answer = refl })
    go (Some (Freeing m)) e i = ClearsOn.works (Freeing m) e (record { after = refl; answer = refl })
    go (Some _) e i = absurd i

tested_on_from : (n k : ℕ) (p : Private) (b : Begun) (box : Contents) → length b.parts.counts.sets ≡ n → Clears b k → ClearsOn p (went p (gone_on (tested n b)) box) (came_turn p.epoch (gone_on (tested n b)).phase) b
unfolding tested
tested_on_from zero k p b box e c = goes_on p b box (λ still. nil_from_length b.parts.counts.sets e) (begun_is b c)
tested_on_from (suc n) k p b box e c = go b.phase refl (tested_on_from n k p (last_tested b.parts) box)
  where
    some : 0 < length b.parts.counts.sets
    some = omega (arith, e)

    go : (o : Option Phase) → b.phase ≡ o → (length (last_tested b.parts).parts.counts.sets ≡ n → Clears (last_tested b.parts) k → ClearsOn p (went p (gone_on (tested n (last_tested b.parts))) box) (came_turn p.epoch (gone_on (tested n (last_tested b.parts))).phase) (last_tested b.parts))
        → ClearsOn p (went p (gone_on (cond (is_some o) b (tested n (last_tested b.parts)))) box) (came_turn p.epoch (gone_on (cond (is_some o) b (tested n (last_tested b.parts)))).phase) b
    go (Some phase) f more = goes_on p b box (λ none. let not_so : ◌≡◌ {A = Option Phase} (Some phase) None = sym f ∙ none in absurd (cc)) (begun_is b c)
    go None f more =
        let idle : Clears (still b.parts) k = subst (λ o. Clears (record { parts = b.parts; phase = o }) k) f c in
        ClearsOn.tests (last_tested b.parts) f some (last_test b.parts (refurbished_last b.parts.counts c.counts (last_refusable b.parts some c.counts idle.clearing)))
        (more (omega (arith, e, last_sets b.parts some)) (last_clear k b.parts some idle))

cleared_on : (p : Private) (b : Begun) (box : Contents) → HasCleared p b → ClearsOn p (went p (followed b) box) (came_turn p.epoch (followed b).phase) b
unfolding followed
cleared_on p b box h = tested_on_from (length b.parts.counts.sets) h.exchanged p b box refl h.clears

-- the phase of a turn that changes nothing
pub same_swapped : (p : Private) (box : Contents) (phase : Phase) → p.phase ≡ phase → IsBetween phase → swapped_of p box ≡ p
unfolding swapped_of swapped_at
same_swapped p box phase e b = ap (swapped_at p box) e ∙ go phase b
  where
    go : (f : Phase) → IsBetween f → swapped_at p box f ≡ p
    go (Swapping t) b = absurd b
    go _ b = refl

-- the next mutator's mailbox follows, or the batch
data Gathers (p q : Private) (turn : Turn) (t : ℕ) : Type 0 where
  next_one : (next : ℕ) → IsNextPresent p.left t next → GoesOn p q turn (Looking next) → Gathers p q turn t
  batch_now : HaveLeft p.left t → Applies p q turn → Gathers p q turn t

gathers : (p : Private) (t : ℕ) (box : Contents) → IsMachine p → MayGatherBehind p t → Gathers p (swapped_of (behind p t) box) (behind_turn p t) t
unfolding swapped_of swapped_at
gathers p t box k g = go (next_present p.left t) refl
  where
    go : (next : Option ℕ) → next_present p.left t ≡ next → Gathers p (swapped_of (gathering_on p next) box) (gathering_turn p next) t
    go None e = let gone : HaveLeft p.left t = next_none p.left t e in Gathers.batch_now gone (cleared_on p (zeros_released false (batched p)) box (begun_has p t k g (g.covered gone)))
    go (Some next) e = Gathers.next_one next (next_some p.left t next e) (record { after = refl; answer = refl })

idle_step : (p : Private) (word : ℕ) (box : Contents) → IsMachine p → p.phase ≡ Idle → (HaveLeft p.left 0 → IsCovered p.counts p.newer p.older) → Step p word box (next_at p Idle) (swapped_of (took_at p word Idle) box) (turn_at p word Idle)
unfolding next_at took_at turn_at
idle_step p word box k is covered = go (is_spent p) refl
  where
    go : (b : Bool) → is_spent p ≡ b → Step p word box (cond b None (Some (StoreEpoch (p.epoch + 1)))) (swapped_of (cond b p (behind (requested p) 0)) box) (cond b EpochsSpent (behind_turn (requested p) 0))
    go true e = Step.spent is (eqb-true (p.epoch + 1) (2 ^ 24) e) refl (same_swapped p box Idle is tt) refl
    go false e =
        let more : p.epoch + 1 ≢ 2 ^ 24 = eqb-false (p.epoch + 1) (2 ^ 24) e in
        elim (gathers (requested p) 0 box (requested_keeps p k is more) (requested_gathers p k is covered)) [
          | Gathers.next_one next n g ↦ Step.request next is more refl n g
          | Gathers.batch_now gone a ↦ Step.request_alone is more refl gone a
        ]

look_step : (p : Private) (word : ℕ) (box : Contents) (t : ℕ) → IsMachine p → p.phase ≡ Looking t → IsLookGiven p t (looked p.epoch word) → Step p word box (next_at p (Looking t)) (swapped_of (took_at p word (Looking t)) box) (turn_at p word (Looking t))
unfolding next_at took_at turn_at swapped_of swapped_at
look_step p word box t k is given = go (looked p.epoch word) refl given
  where
    go : (l : Looked) → looked p.epoch word ≡ l → IsLookGiven p t l → Step p word box (Some (LookBox t p.epoch)) (swapped_of (after_look p t l) box) (look_turn p t l)
    go (Takes new) e g = Step.gather t is e refl (record { after = refl; answer = refl })
    go (Crosses new) e g = elim (gathers (crossed_for p t) t box (crossed_keeps p t k is) (crossed_gathers p t k is g)) [
      | Gathers.next_one next n on ↦ Step.cross_for t next is e refl n on
      | Gathers.batch_now gone a ↦ Step.cross_for_last t is e refl gone a
    ]
    go Waits e g = Step.wait t is e refl (same_swapped p box (Looking t) is tt) refl

-- a mailbox was given back
return_step : (p : Private) (word : ℕ) (box : Contents) (t : ℕ) → IsMachine p → p.phase ≡ Returning t → (HaveLeft p.left t → IsCovered p.counts p.newer p.older) → Step p word box (next_at p (Returning t)) (swapped_of (took_at p word (Returning t)) box) (turn_at p word (Returning t))
unfolding next_at took_at turn_at
return_step p word box t k is covered = elim (gathers (noted p t) t box (noted_keeps p t k is) (noted_gathers p t k is covered)) [
  | Gathers.next_one next n g ↦ Step.give_back t next is refl n g
  | Gathers.batch_now gone a ↦ Step.apply t is refl gone a
]

swept_step : (p : Private) (word : ℕ) (box : Contents) (first : Option ℕ) (n : ℕ) (w : sweeps.Work) → p.phase ≡ Sweeping first n → w ≡ sweeps.took_of (record { due = first; counts = p.counts }) word → (due : Option ℕ) → w.due ≡ due
    → Step p word box (sweeps.next_of first) (swapped_of (moved (record p { counts = w.counts; freed = p.freed + 1 }) (swept_phase (n + 1) due)) box) Moved
unfolding swapped_of swapped_at
swept_step p word box first n w is e None d = Step.sweep first n w (Closing (n + 1)) is refl e (IsNext.last d refl) (record { after = refl; answer = refl })
swept_step p word box first n w is e (Some x) d = Step.sweep first n w (Sweeping (Some x) (n + 1)) is refl e (IsNext.more (λ m. none_some x (sym d ∙ m)) (ap (λ o. Sweeping o (n + 1)) (sym d))) (record { after = refl; answer = refl })

-- a step, by phase
step_at : (p : Private) (word : ℕ) (box : Contents) (phase : Phase) → IsMachine p → p.phase ≡ phase → IsBetween phase → IsGivenAt p word phase → Step p word box (next_at p phase) (swapped_of (took_at p word phase) box) (turn_at p word phase)
unfolding next_at took_at turn_at swapped_of swapped_at IsGivenAt
step_at p word box Idle k is b g = idle_step p word box k is g
step_at p word box (Looking t) k is b g = look_step p word box t k is g
step_at p word box (Swapping t) k is b g = absurd b
step_at p word box (Returning t) k is b g = return_step p word box t k is g
step_at p word box (Releasing m) k is b g = Step.release m is refl (cleared_on p (with_released m (parts_of p) word) box (released_has p m word k is g))
step_at p word box (Freeing m) k is b g = Step.freeing m is refl (cleared_on p (with_freed m (parts_of p) word) box (freed_has p m word k is g))
step_at p word box (Trying m) k is b g = Step.trial m is refl (tried_on p (parts_of p) (trials.took_of (record { machine = m; counts = p.counts }) (visible p.counts word)) box)
step_at p word box (Preparing m) k is b g = Step.preparation m is refl (prepared_on p (parts_of p) (preps.took_of (record { machine = m; counts = p.counts }) word) box)
step_at p word box Opening k is b g = Step.begin_sweep is refl (record { after = refl; answer = refl })
step_at p word box (Sweeping due n) k is b g = swept_step p word box due n (sweeps.took_of (record { due = due; counts = p.counts }) word) is refl (sweeps.took_of (record { due = due; counts = p.counts }) word).due refl
step_at p word box (Closing n) k is b g = Step.end_sweep n is refl (record { after = refl; answer = refl })

-- what comes next, what is learnt and what is answered is a step
pub step_made : (p : Private) (word : ℕ) (box : Contents) → IsMachine p → IsBetween p.phase → IsGiven p word → Step p word box (next_of p) (step_of p word box) (turn_of p word)
unfolding next_of step_of took_of turn_of IsGiven
step_made p word box k b g = step_at p word box p.phase k refl b g

-- what follows a word in the middle of a collection, or a batch, holds no mailbox
work_between : (w : Parts) (word : ℕ) (phase : Phase) → IsWork phase → IsBetween (worked w word phase).phase
work_between w word phase at_work = worked_phase IsBetween (λ m. tt) tt tt (λ m. tt) (λ m. tt) (λ m. tt) w word phase at_work

batch_between : (p : Private) → IsBetween (batch_next p).phase
batch_between p = batch_phase IsBetween (λ m. tt) tt tt (λ m. tt) (λ m. tt) (λ m. tt) p

came_between : (p : Private) (n : Next) → IsBetween n.phase → IsBetween (came p n).phase
came_between p n b = go n.phase b
  where
    go : (phase : Phase) → IsBetween phase → IsBetween (ended_if phase (moved (with_parts p n.parts) phase)).phase
    go (Closing m) b = tt
    go _ b = b

pub gathers_between : (p : Private) (next : Option ℕ) → IsBetween (gathering_on p next).phase
gathers_between p None = came_between p (batch_next p) (batch_between p)
gathers_between p (Some next) = tt

pub took_between : (p : Private) (word : ℕ) (phase : Phase) → p.phase ≡ phase → IsBetween phase → ((t : ℕ) → phase ≢ Looking t) → IsBetween (took_at p word phase).phase
unfolding took_at
took_between p word Idle is b other = elim (is_spent p) as (λ c. IsBetween (cond c p (behind (requested p) 0)).phase) [ true ↦ subst IsBetween (sym is) tt | false ↦ gathers_between (requested p) (next_present p.left 0) ]
took_between p word (Looking t) is b other = absurd (other t refl)
took_between p word (Swapping t) is b other = absurd b
took_between p word (Returning t) is b other = gathers_between (noted p t) (next_present (noted p t).left t)
took_between p word Opening is b other = tt
took_between p word (Sweeping due n) is b other = elim (sweeps.took_of (record { due = due; counts = p.counts }) word).due as (λ d. IsBetween (swept_phase (n + 1) d)) [ None ↦ tt | Some x ↦ tt ]
took_between p word (Closing n) is b other = tt
took_between p word phase is b other = came_between p (worked (parts_of p) word phase) (work_between (parts_of p) word phase tt)

left_between : (q : Private) (box : Contents) → IsBetween q.phase → left_of q box ≡ box
unfolding left_of left_at
left_between q box b = go q.phase b
  where
    go : (phase : Phase) → IsBetween phase → left_at q box phase ≡ box
    go (Swapping t) b = absurd b
    go _ b = refl

-- by phase
leaves_at : (p : Private) (word : ℕ) (box : Contents) (phase : Phase) → p.phase ≡ phase → IsBetween phase → LeavesBox p word box (left_of (took_at p word phase) box)
unfolding took_at left_of left_at
leaves_at p word box (Looking t) is between = go (looked p.epoch word) refl
  where
    go : (l : Looked) → looked p.epoch word ≡ l → LeavesBox p word box (left_of (after_look p t l) box)
    go (Takes new) e = LeavesBox.empties t is e refl
    go (Crosses new) e = LeavesBox.keeps (λ u n looks takes. let q : Crosses new ≡ Takes n = sym e ∙ takes in absurd (cc)) (left_between (behind (crossed_for p t) t) box (gathers_between (crossed_for p t) (next_present p.left t)))
    go Waits e = LeavesBox.keeps (λ u n looks takes. let q : Waits ≡ Takes n = sym e ∙ takes in absurd (cc)) (left_between p box (subst IsBetween (sym is) tt))
leaves_at p word box (Swapping t) is between = absurd between
leaves_at p word box phase is between = LeavesBox.keeps (λ t n looks. let q : phase ≡ Looking t = sym is ∙ looks in absurd (cc)) (left_between (took_at p word phase) box (took_between p word phase is between (λ t. λ e. cc)))

-- a whole step
pub whole_made : (p : Private) (word : ℕ) (box : Contents) → IsMachine p → IsBetween p.phase → IsGiven p word → WholeStep p word box (next_of p) (step_of p word box) (turn_of p word) (left_of (took_of p word) box)
unfolding took_of
whole_made p word box k between given = record { own = step_made p word box k between given; mailbox = leaves_at p word box p.phase refl between }

-- a turn that came to these parts and this phase, from a phase that has swept nothing; the epoch, who has left and the newer buffers may
-- have changed
module _ (p : Private) (word : ℕ) (epoch : ℕ) (left : List Bool) (newer : List Contents) (at : Phase) (some : 1 ≤ epoch) (z : swept_at p.phase ≡ 0) where
  came_cause : (n : Next) → swept_at n.phase ≡ 0 → HasCause p word (came (record p { epoch = epoch; left = left; newer = newer; phase = at }) n) (came_turn epoch n.phase)
  came_cause n none = go n.phase none
    where
      go : (phase : Phase) → swept_at phase ≡ 0 → HasCause p word (ended_if phase (landed (record p { epoch = epoch; left = left; newer = newer; phase = at }) (record { parts = n.parts; phase = phase }))) (came_turn epoch phase)
      go (Sweeping due m) none = (refl, refl, omega (arith, z, none))
      go (Closing m) none = (omega (arith, some), omega (arith, z, none), refl, refl, refl, refl)
      go _ none = (refl, refl, ap (λ m. p.freed + m) z)

  gathers_cause : (next : Option ℕ) → (let q : Private = record p { epoch = epoch; left = left; newer = newer; phase = at } in HasCause p word (gathering_on q next) (gathering_turn q next))
  gathers_cause None = let q : Private = record p { epoch = epoch; left = left; newer = newer; phase = at } in came_cause (batch_next q) (batch_none q)
  gathers_cause (Some next) = (refl, refl, ap (λ m. p.freed + m) z)

idle_cause : (p : Private) (word : ℕ) (b : Bool) → is_spent p ≡ b → p.phase ≡ Idle → HasCause p word (cond b p (behind (requested p) 0)) (cond b EpochsSpent (behind_turn (requested p) 0))
idle_cause p word true e is = (is, eqb-true (p.epoch + 1) (2 ^ 24) e, refl)
idle_cause p word false e is = gathers_cause p word (p.epoch + 1) p.left p.newer p.phase (omega arith) (ap swept_at is) (next_present p.left 0)

look_cause : (p : Private) (word t : ℕ) (l : Looked) → looked p.epoch word ≡ l → p.phase ≡ Looking t → 1 ≤ p.epoch → HasCause p word (after_look p t l) (look_turn p t l)
look_cause p word t (Takes new) e is some = (refl, refl, ap (λ f. p.freed + swept_at f) is)
look_cause p word t (Crosses new) e is some = gathers_cause p word p.epoch p.left (crossed_for p t).newer (Returning t) some (ap swept_at is) (next_present p.left t)
look_cause p word t Waits e is some = (is, e, refl)

sweep_cause : (p : Private) (first : Option ℕ) (n : ℕ) (due : Option ℕ) → p.phase ≡ Sweeping first n → p.freed + 1 + swept_at p.phase ≡ p.freed + swept_at (swept_phase (n + 1) due)
sweep_cause p first n None is = omega (arith, ap swept_at is)
sweep_cause p first n (Some x) is = omega (arith, ap swept_at is)

cause_at : (p : Private) (word : ℕ) (phase : Phase) → p.phase ≡ phase → IsMachine p → HasCause p word (took_at p word phase) (turn_at p word phase)
unfolding took_at turn_at
cause_at p word Idle is k = idle_cause p word (is_spent p) refl is
cause_at p word (Looking t) is k = look_cause p word t (looked p.epoch word) refl is (omega (arith, under_way_at p (Looking t) k is))
cause_at p word (Swapping t) is k = (refl, refl, ap (λ f. p.freed + swept_at f) is)
cause_at p word (Returning t) is k = gathers_cause p word p.epoch (noted p t).left p.newer p.phase (omega (arith, under_way_at p (Returning t) k is)) (ap swept_at is) (next_present (noted p t).left t)
cause_at p word Opening is k = (refl, refl, ap (λ f. p.freed + swept_at f) is)
cause_at p word (Sweeping due n) is k = (refl, refl, sweep_cause p due n _ is)
cause_at p word (Closing n) is k = (omega (arith, under_way_at p (Closing n) k is), sym (ap swept_at is), refl, refl, refl, refl)
cause_at p word phase is k = came_cause p word p.epoch p.left p.newer p.phase (omega (arith, under_way_at p phase k is)) (ap swept_at is) (worked (parts_of p) word phase) (work_none (parts_of p) word phase tt)

-- why an answer comes
pub has_cause : (p : Private) (word : ℕ) → IsMachine p → HasCause p word (took_of p word) (turn_of p word)
unfolding took_of turn_of
has_cause p word k = cause_at p word p.phase refl k

-- a mutator is waited for where the look leaves its crossing word
pub waits : (p : Private) (word t : ℕ) → p.phase ≡ Looking t → looked p.epoch word ≡ Waits → turn_of p word ≡ Waiting t
unfolding turn_of turn_at
waits p word t is stays = ap (turn_at p word) is ∙ ap (look_turn p t) stays

-- a machine has a next step where it is at a field
pub release_next : (m : releases.Machine) → is_some (releases.next_of m) ≡ is_some m.at
unfolding releases.next_of
release_next m = elim m.at as (λ at. is_some (releases.op_at m.fields at) ≡ is_some at) [ None ↦ refl | Some a ↦ refl ]

pub freeing_next : (m : frees.Machine) → is_some (frees.next_of m) ≡ is_some m.at
unfolding frees.next_of
freeing_next m = elim m.at as (λ at. is_some (frees.op_at m.fields at) ≡ is_some at) [ None ↦ refl | Some a ↦ refl ]

pub prep_next : (m : preps.Machine) → is_some (preps.next_of m) ≡ is_some m.at
unfolding preps.next_of
prep_next m = elim m.at as (λ at. is_some (preps.op_at m.fields at) ≡ is_some at) [ None ↦ refl | Some a ↦ refl ]

is_none : {A : Type 0} (x : Option A) → IsSome x → IsNone x → ⊥
is_none None s n = false≢true s
is_none (Some x) s n = false≢true (sym n)

spent_at : (p : Private) (word : ℕ) (phase : Phase) → p.phase ≡ phase → IsMachine p → IsNone (next_at p phase) → turn_at p word phase ≡ EpochsSpent
unfolding next_at turn_at
spent_at p word Idle is k n = (elim (is_spent p) as (λ b. IsNone (cond b None (Some (StoreEpoch (p.epoch + 1)))) → cond b EpochsSpent (behind_turn (requested p) 0) ≡ EpochsSpent) [ true ↦ λ n. refl | false ↦ λ n. absurd (false≢true (sym n)) ]) n
spent_at p word (Releasing m) is k n = absurd (is_none (releases.next_of m) (release_next m ∙ (now_at p (Releasing m) k is).clearing.busy) n)
spent_at p word (Freeing m) is k n = absurd (is_none (frees.next_of m) (freeing_next m ∙ (now_at p (Freeing m) k is).clearing.busy) n)
spent_at p word (Trying m) is k n = absurd (is_none (trial_next m) (now_at p (Trying m) k is).busy n)
spent_at p word (Preparing m) is k n = absurd (is_none (preps.next_of m) (prep_next m ∙ (now_at p (Preparing m) k is).busy) n)
spent_at p word (Sweeping due m) is k n = let a : IsAt p (Sweeping due m) = now_at p (Sweeping due m) k is in absurd (is_none (sweep_next due) (due_slot p.counts.free due a.1 a.2) n)
spent_at p word _ is k n = absurd (false≢true (sym n))

-- where no step comes next, the epochs are spent
pub spends : (p : Private) (word : ℕ) → IsMachine p → IsNone (next_of p) → turn_of p word ≡ EpochsSpent
unfolding next_of turn_of
spends p word k n = spent_at p word p.phase refl k n

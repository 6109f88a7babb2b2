-- When a trial is made, and how many in a row are postponed.
use Rattle.std.proofs.Common.{◌≡◌, ◌≢◌, IfSome, subst, nat_le, if◌then◌else◌, ℕ, zero, suc, ◌+◌, ◌<◌, ◌≤◌, Bool, true, false, Option, None, Some, [], length, refl, arith, sym, ◌∙◌, ap, inl, inr, ◌⊎◌}
use Rattle.std.proofs.lemmas.Bool.{false≢true, le-leb, leb-false}
use Rattle.rec_collector.proofs.Common.{makes_trial, least_after, relieved_at, with_freed, IsMachine, Parts, new_release, parts_of, Private, Begun, counted_by, new_freeing, Held, Passed, Touched, freeing_at, releasing_at, with_freeing, with_release, zeros_released, batched, noted, requested, Phase, Idle, Looking, Returning, Releasing, Freeing, Trying, Preparing, Opening, Sweeping, Closing}
use Rattle.rec_collector.proofs.Landing.{now_at}
use Rattle.rec_collector.specs.Took.{crossed_for}
use Rattle.rec_collector.specs.Postponed.{Does, Untried, decided, decided_in, decides, postponed_behind, trial_among, trial_in}
use Rattle.rec_collector.specs.Step.{ClearsOn, GoesOn, IsNext, IsTested, PreparesOn, Step, TriesOn}
use Rattle.rec_collector.specs.declared.policy.Policy.{Policy}
use Rattle.rec_collector.specs.declared.turn.Turn.{Turn}
use Rattle.rec_log.specs.declared.contents.Contents.{Contents}
use Rattle.rec_release.specs.CycleFree as frees
use Rattle.rec_release.specs.Release as releases
use Rattle.rec_release.specs.Sweep as sweeps
use Rattle.rec_sigma.specs.Prepare as preps
use Rattle.rec_trial.specs.Trial as trials
use Rattle.rec_word.specs.declared.member.Member.{Member}
use Rattle.rec_word.specs.declared.op.Op.{Op}

-- where slots are offered, a trial is made
pub offers_try : (w : Parts) → w.offers ≡ true → makes_trial w ≡ true
offers_try w e = rw e refl

-- so it is where the policy asks for no candidate roots,
pub always_tries : (w : Parts) → w.policy.least_roots ≡ 0 → makes_trial w ≡ true
always_tries w e = by w.offers
  where
    enough : nat_le w.policy.least_roots (length w.counts.roots) ≡ true
    enough = le-leb w.policy.least_roots (length w.counts.roots) (omega (arith, e))

    by : (offers : Bool) → (if offers then true else if nat_le w.policy.least_roots (length w.counts.roots) then true else nat_le w.policy.most_postponed w.postponed) ≡ true
    by true = refl
    by false = rw enough refl

-- and where as many were postponed as it lets
pub tries_when_due : (w : Parts) → w.policy.most_postponed ≤ w.postponed → makes_trial w ≡ true
tries_when_due w l = by w.offers (nat_le w.policy.least_roots (length w.counts.roots))
  where
    due : nat_le w.policy.most_postponed w.postponed ≡ true
    due = le-leb w.policy.most_postponed w.postponed l

    by : (offers enough : Bool) → (if offers then true else if enough then true else nat_le w.policy.most_postponed w.postponed) ≡ true
    by true enough = refl
    by false true = refl
    by false false = due

-- Where it is postponed, too few candidate roots wait for one, and it may be postponed once more.
pub record IsPutOff (v : Parts) : Type 0 where
  pub few : length v.counts.roots < v.policy.least_roots
  pub again : v.postponed + 1 ≤ v.policy.most_postponed

pub put_off_where : (v : Parts) → makes_trial v ≡ false → IsPutOff v
put_off_where v off = by v.offers (nat_le v.policy.least_roots (length v.counts.roots)) (nat_le v.policy.most_postponed v.postponed) refl refl off
  where
    by : (offers enough often : Bool) → nat_le v.policy.least_roots (length v.counts.roots) ≡ enough → nat_le v.policy.most_postponed v.postponed ≡ often → (if offers then true else if enough then true else often) ≡ false → IsPutOff v
    by true enough often e f off = absurd (false≢true (sym off))
    by false true often e f off = absurd (false≢true (sym off))
    by false false true e f off = absurd (false≢true (sym off))
    by false false false e f off = record { few = omega (arith, leb-false v.policy.least_roots (length v.counts.roots) e); again = omega (arith, leb-false v.policy.most_postponed v.postponed f) }

pub least_postponed : (n : ℕ) (policy : Policy) → least_after (n + 1) policy ≡ policy.least_roots
least_postponed n policy = ap (λ m. least_after m policy) one_more
  where
    one_more : n + 1 ≡ suc n
    one_more = omega arith

least_none : (n : ℕ) (policy : Policy) → n ≡ 0 → least_after n policy ≡ 0
least_none n policy e = ap (λ m. least_after m policy) e

least_asked : (n : ℕ) (policy : Policy) → policy.least_roots ≡ 0 → least_after n policy ≡ 0
least_asked zero policy e = refl
least_asked (suc n) policy e = e

-- so behind a trial no candidate root waits between two collections
none_left : (p : Private) → IsMachine p → least_after p.postponed p.policy ≡ 0 → p.phase ≡ Idle → p.counts.roots ≡ []
none_left p k e idle = elim (now_at p Idle k idle).0.roots [ inl few ↦ absurd (omega (arith, few, e)) | inr none ↦ none ]

pub none_waits : (p : Private) → IsMachine p → p.postponed ≡ 0 → p.phase ≡ Idle → p.counts.roots ≡ []
none_waits p k e idle = none_left p k (least_none p.postponed p.policy e) idle

pub never_waits : (p : Private) → IsMachine p → (p.policy.least_roots ≡ 0) ⊎ (p.policy.most_postponed ≡ 0) → p.phase ≡ Idle → p.counts.roots ≡ []
never_waits p k (inl e) idle = none_left p k (least_asked p.postponed p.policy e) idle
never_waits p k (inr e) idle = none_waits p k (omega (arith, e, k.postponed)) idle

-- a step counts the trials that are postponed in a row, and it postpones none where as many were as the policy lets
pub record Counted (does : Does) (n : ℕ) (policy : Policy) (q : Private) : Type 0 where
  pub postponed : q.postponed ≡ postponed_behind does n
  pub kept : q.policy ≡ policy
  pub again : does ≡ Does.postpones → n < policy.most_postponed

abbrev Same : (n : ℕ) → Policy → Private → Type 0
Same n policy q = (q.postponed ≡ n) × (q.policy ≡ policy)

as_is : {n : ℕ} {policy : Policy} {r q : Private} → q ≡ r → Same n policy r → Same n policy q
as_is e s = (ap (λ (x : Private). x.postponed) e ∙ s.0, ap (λ (x : Private). x.policy) e ∙ s.1)

nothing : {n : ℕ} {policy : Policy} {q : Private} → Same n policy q → Counted Does.neither n policy q
nothing s = record { postponed = s.0; kept = s.1; again = λ e. absurd (cc) }

goes_same : {r q : Private} {turn : Turn} (phase : _) → GoesOn r q turn phase → Same r.postponed r.policy q
goes_same phase g = as_is g.after (refl, refl)

prepares_same : {p q : Private} {w : Parts} {v : preps.Work} {turn : Turn} → PreparesOn p w v q turn → Same w.postponed w.policy q
prepares_same (PreparesOn.more some on) = as_is on.after (refl, refl)
prepares_same (PreparesOn.sweeps_next none some on) = as_is on.after (refl, refl)
prepares_same (PreparesOn.completes none empty on) = as_is on.after (refl, refl)

tries_same : {p q : Private} {w : Parts} {v : trials.Work} {turn : Turn} → TriesOn p w v q turn → Same w.postponed w.policy q
tries_same (TriesOn.more some on) = as_is on.after (refl, refl)
tries_same (TriesOn.prepares none on) = prepares_same on

tested_same : {w : Parts} {v : Begun} → IsTested w v → (v.parts.postponed ≡ w.postponed) × (v.parts.policy ≡ w.policy)
tested_same (IsTested.passes orange none e) = (ap (λ (x : Begun). x.parts.postponed) e, ap (λ (x : Begun). x.parts.policy) e)
tested_same (IsTested.fails_delta s touched last e) = (ap (λ (x : Begun). x.parts.postponed) e, ap (λ (x : Begun). x.parts.policy) e)
tested_same (IsTested.fails_sigma s orange some last e) = (ap (λ (x : Begun). x.parts.postponed) e, ap (λ (x : Begun). x.parts.policy) e)

clears_counted : {p q : Private} {turn : Turn} {b : Begun} (on : ClearsOn p q turn b) → Counted (trial_among on) b.parts.postponed b.parts.policy q
clears_counted (ClearsOn.works phase begun on) = nothing (goes_same phase on)
clears_counted {b = b} (ClearsOn.tests c none some test on) =
    let k = clears_counted on in
    let t = tested_same test in
    record {
      postponed = k.postponed ∙ ap (postponed_behind (trial_among on)) t.0;
      kept = k.kept ∙ t.1;
      again = λ e. omega (arith, k.again e, t.0, ap (λ (x : Policy). x.most_postponed) t.1);
    }
clears_counted (ClearsOn.tries none empty due on) = let s = tries_same on in record { postponed = s.0; kept = s.1; again = λ e. absurd (cc) }
clears_counted {b = b} (ClearsOn.waits none empty off on) = let s = prepares_same on in record { postponed = s.0; kept = s.1; again = λ e. omega (arith, (put_off_where b.parts off).again) }

freed_same : (m : frees.Machine) (w : Parts) (word : ℕ) → ((with_freed m w word).parts.postponed ≡ w.postponed) × ((with_freed m w word).parts.policy ≡ w.policy)
freed_same m w word =
    let v : frees.Work = frees.took_of (record { machine = m; counts = w.counts }) word in
    go (record w { counts = v.counts }) v.machine v.machine.at
  where
    go : (x : Parts) (n : frees.Machine) (at : Option Member) → ((relieved_at x n at).parts.postponed ≡ x.postponed) × ((relieved_at x n at).parts.policy ≡ x.policy)
    go x n None = (refl, refl)
    go x n (Some a) = (refl, refl)

counted_from : {does : Does} {m n : ℕ} {old policy : Policy} {q : Private} → m ≡ n → old ≡ policy → Counted does m old q → Counted does n policy q
counted_from {does} e f k = record { postponed = k.postponed ∙ ap (postponed_behind does) e; kept = k.kept ∙ f; again = λ d. omega (arith, k.again d, e, ap (λ (x : Policy). x.most_postponed) f) }

pub step_counted : {p q : Private} {word : ℕ} {box : Contents} {op : Option Op} {turn : Turn} (s : Step p word box op q turn) → Counted (trial_in s) p.postponed p.policy q
step_counted (Step.spent idle last is same told) = nothing (as_is same (refl, refl))
step_counted (Step.request next idle more is there on) = nothing (goes_same _ on)
step_counted (Step.request_alone idle last is alone applies) = clears_counted applies
step_counted (Step.wait t looking waits is same told) = nothing (as_is same (refl, refl))
step_counted (Step.cross_for t next looking crosses is there on) = nothing (goes_same _ on)
step_counted (Step.cross_for_last t looking crosses is left applies) = clears_counted applies
step_counted (Step.gather t looking retired is on) = nothing (goes_same _ on)
step_counted (Step.give_back t next returning is there on) = nothing (goes_same _ on)
step_counted (Step.apply t returning is left applies) = clears_counted applies
step_counted (Step.release m releasing is clears) = clears_counted clears
step_counted {p = p} {word = word} (Step.freeing m freeing is clears) = let s = freed_same m (parts_of p) word in counted_from s.0 s.1 (clears_counted clears)
step_counted (Step.trial m trying is on) = nothing (tries_same on)
step_counted (Step.preparation m preparing is on) = nothing (prepares_same on)
step_counted (Step.begin_sweep opening is on) = nothing (goes_same _ on)
step_counted (Step.sweep due swept w next_phase sweeping is took next on) = nothing (goes_same next_phase on)
step_counted (Step.end_sweep swept closing is on) = nothing (as_is on.after (refl, refl))

-- between a batch and the trial of its collection nothing is decided
abbrev IsOpen : Option Phase → Type 0
IsOpen o = IfSome o (λ phase. decided_in phase ≡ 0)

release_open : (w : Parts) (v : releases.Work) → IsOpen (with_release w v).phase
release_open w v = elim v.machine.at as (λ at. IsOpen (releasing_at v.machine at)) [ None ↦ tt | Some a ↦ refl ]

freeing_open : (w : Parts) (v : frees.Work) → IsOpen (with_freeing w v).phase
freeing_open w v = elim v.machine.at as (λ at. IsOpen (freeing_at v.machine at)) [ None ↦ tt | Some a ↦ refl ]

zeros_open : (lowers : Bool) (w : Parts) → IsOpen (zeros_released lowers w).phase
zeros_open lowers w = release_open w (releases.started_of (new_release w.fields) lowers w.counts)

tested_open : {w : Parts} {v : Begun} → IsTested w v → IsOpen v.phase
tested_open {w} (IsTested.passes orange none e) = subst (λ (b : Begun). IsOpen b.phase) (sym e) (freeing_open (record w { sets = counted_by Passed w.sets }) (frees.started_of (new_freeing w.fields) w.counts))
tested_open {w} (IsTested.fails_delta s touched last e) = subst (λ (b : Begun). IsOpen b.phase) (sym e) (zeros_open true (record w { counts = s; sets = counted_by Touched w.sets }))
tested_open {w} (IsTested.fails_sigma s orange some last e) = subst (λ (b : Begun). IsOpen b.phase) (sym e) (zeros_open true (record w { counts = s; sets = counted_by Held w.sets }))

freed_open : (m : frees.Machine) (w : Parts) (word : ℕ) → IsOpen (with_freed m w word).phase
freed_open m w word =
    let v : frees.Work = frees.took_of (record { machine = m; counts = w.counts }) word in
    go (record w { counts = v.counts }) v.machine v.machine.at
  where
    go : (x : Parts) (n : frees.Machine) (at : Option Member) → IsOpen (relieved_at x n at).phase
    go x n None = zeros_open true x
    go x n (Some a) = refl

-- the decision, as a record that is gone on from has it
goes_decided : {r q : Private} {turn : Turn} (phase : Phase) → GoesOn r q turn phase → decided q ≡ r.collections + decided_in phase
goes_decided phase g = ap decided g.after

prepares_decided : {p q : Private} {w : Parts} {v : preps.Work} {turn : Turn} → PreparesOn p w v q turn → decided q ≡ p.collections + 1
prepares_decided (PreparesOn.more some on) = ap decided on.after
prepares_decided (PreparesOn.sweeps_next none some on) = ap decided on.after
prepares_decided {p = p} (PreparesOn.completes none empty on) = let e = ap decided on.after in omega (arith, e)

tries_decided : {p q : Private} {w : Parts} {v : trials.Work} {turn : Turn} → TriesOn p w v q turn → decided q ≡ p.collections + 1
tries_decided (TriesOn.more some on) = ap decided on.after
tries_decided (TriesOn.prepares none on) = prepares_decided on

clears_decided : {p q : Private} {turn : Turn} {b : Begun} → IsOpen b.phase → (on : ClearsOn p q turn b) → decided q ≡ p.collections + decides (trial_among on)
clears_decided {p = p} free (ClearsOn.works phase begun on) =
    let still : decided_in phase ≡ 0 = subst IsOpen begun free in
    let e = goes_decided phase on in
    omega (arith, e, still)
clears_decided free (ClearsOn.tests c none some test on) = clears_decided (tested_open test) on
clears_decided free (ClearsOn.tries none empty due on) = tries_decided on
clears_decided free (ClearsOn.waits none empty off on) = prepares_decided on

-- a step that goes on where nothing changes of it
same_decided : (p q : Private) (phase : Phase) → p.phase ≡ phase → decided q ≡ p.collections + decided_in phase → decided q ≡ decided p + 0
same_decided p q phase at e = let was : decided_in p.phase ≡ decided_in phase = ap decided_in at in omega (arith, e, was)

begun_decided : (p q : Private) (phase : Phase) (does : Does) → p.phase ≡ phase → decided_in phase ≡ 0 → decided q ≡ p.collections + decides does → decided q ≡ decided p + decides does
begun_decided p q phase does at none e = let was : decided_in p.phase ≡ decided_in phase = ap decided_in at in omega (arith, e, was, none)

next_decided : {swept : ℕ} {w : sweeps.Work} {phase : Phase} → IsNext swept w phase → decided_in phase ≡ 1
next_decided (IsNext.more some e) = ap decided_in e
next_decided (IsNext.last none e) = ap decided_in e

pub step_decided : {p q : Private} {word : ℕ} {box : Contents} {op : Option Op} {turn : Turn} (s : Step p word box op q turn) → decided q ≡ decided p + decides (trial_in s)
step_decided {p = p} {q = q} (Step.spent idle last is same told) = let e = ap decided same in omega (arith, e)
step_decided {p = p} {q = q} (Step.request next idle more is there on) = same_decided p q Idle idle (goes_decided _ on)
step_decided {p = p} {q = q} (Step.request_alone idle last is alone applies) = begun_decided p q Idle (trial_among applies) idle refl (clears_decided (zeros_open false (batched (requested p))) applies)
step_decided {p = p} {q = q} (Step.wait t looking waits is same told) = let e = ap decided same in omega (arith, e)
step_decided {p = p} {q = q} (Step.cross_for t next looking crosses is there on) = same_decided p q (Looking t) looking (goes_decided _ on)
step_decided {p = p} {q = q} (Step.cross_for_last t looking crosses is left applies) = begun_decided p q (Looking t) (trial_among applies) looking refl (clears_decided (zeros_open false (batched (crossed_for p t))) applies)
step_decided {p = p} {q = q} (Step.gather t looking retired is on) = same_decided p q (Looking t) looking (goes_decided _ on)
step_decided {p = p} {q = q} (Step.give_back t next returning is there on) = same_decided p q (Returning t) returning (goes_decided _ on)
step_decided {p = p} {q = q} (Step.apply t returning is left applies) = begun_decided p q (Returning t) (trial_among applies) returning refl (clears_decided (zeros_open false (batched (noted p t))) applies)
step_decided {p = p} {q = q} {word = word} (Step.release m releasing is clears) = begun_decided p q (Releasing m) (trial_among clears) releasing refl (clears_decided (release_open (parts_of p) (releases.took_of (record { machine = m; counts = p.counts }) word)) clears)
step_decided {p = p} {q = q} {word = word} (Step.freeing m freeing is clears) = begun_decided p q (Freeing m) (trial_among clears) freeing refl (clears_decided (freed_open m (parts_of p) word) clears)
step_decided {p = p} {q = q} (Step.trial m trying is on) = same_decided p q (Trying m) trying (tries_decided on)
step_decided {p = p} {q = q} (Step.preparation m preparing is on) = same_decided p q (Preparing m) preparing (prepares_decided on)
step_decided {p = p} {q = q} (Step.begin_sweep opening is on) = same_decided p q Opening opening (goes_decided _ on)
step_decided {p = p} {q = q} (Step.sweep due swept w phase sweeping is took next on) = same_decided p q (Sweeping due swept) sweeping (goes_decided phase on ∙ ap (λ n. p.collections + n) (next_decided next))
step_decided {p = p} {q = q} (Step.end_sweep swept closing is on) = same_decided p q (Closing swept) closing (let e = ap decided on.after in omega (arith, e))

-- While none makes a trial, as many are postponed as are decided on.
record IsRow (p q : Private) (n : ℕ) : Type 0 where
  postponed : q.postponed ≡ p.postponed + n
  kept : q.policy ≡ p.policy
  few : p.postponed + n ≤ p.policy.most_postponed
  decided : decided q ≡ decided p + n

row_on : {p q r : Private} {n : ℕ} (does : Does) → IsRow p q n → Counted does q.postponed q.policy r → decided r ≡ decided q + decides does → does ≢ Does.makes → IsRow p r (postponed_behind does n)
row_on Does.makes row k d not = absurd (not refl)
row_on Does.postpones row k d not = record { postponed = omega (arith, k.postponed, row.postponed); kept = k.kept ∙ row.kept; few = omega (arith, k.again refl, row.postponed, ap (λ (x : Policy). x.most_postponed) row.kept); decided = omega (arith, d, row.decided) }
row_on Does.neither row k d not = record { postponed = k.postponed ∙ row.postponed; kept = k.kept ∙ row.kept; few = row.few; decided = omega (arith, d, row.decided) }

row_of : {p q : Private} {n : ℕ} → p.postponed ≤ p.policy.most_postponed → Untried p n q → IsRow p q n
row_of few Untried.none = record { postponed = omega arith; kept = refl; few = omega (arith, few); decided = omega arith }
row_of few (Untried.more before s not) = row_on (trial_in s) (row_of few before) (step_counted s) (step_decided s) not

pub in_a_row : (p q : Private) (n : ℕ) → IsMachine p → Untried p n q → (decided q ≡ decided p + n) × (p.postponed + n ≤ p.policy.most_postponed)
in_a_row p q n k u = let row = row_of k.postponed u in (row.decided, row.few)

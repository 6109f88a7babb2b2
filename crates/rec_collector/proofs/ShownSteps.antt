-- What is shown of a step is what it did.
use Rattle.std.proofs.Common.{◌≡◌, IsSome, map, ℕ, ◌+◌, ◌-◌, ◌<◌, ◌==◌, Bool, true, false, cond, Option, None, Some, List, [], ◌∷◌, ◌++◌, refl, arith, sym, ap, subst, ◌∙◌}
use Rattle.std.proofs.lemmas.Bool.{ne_eqb}
use Rattle.rec_word.specs.declared.op.Op.TheVariants.{StoreEpoch, LookBox, ReturnBox}
use Rattle.rec_counts.specs.Groups.{last_set}
use Rattle.rec_word.specs.declared.member.Member.{Member}
use Rattle.rec_word.specs.Walk.{first_in}
use Rattle.rec_release.specs.CycleFree as frees
use Rattle.rec_release.specs.Release as releases
use Rattle.rec_release.specs.Sweep as sweeps
use Rattle.rec_release.specs.declared.at.At.{At}
use Rattle.rec_release.proofs.Keeping.{each_zero}
use Rattle.rec_sigma.specs.Prepare as preps
use Rattle.rec_sigma.specs.declared.at.At as prep_at
use Rattle.rec_trial.specs.Trial as trials
use Rattle.rec_trial.specs.declared.phase.Phase as trial_phase
use Rattle.rec_collector.specs.Shown.{IsShownAsMade, Batch, applied_in, applied_newer, applied_of, batch_made, batch_with, begun_at, completed_in, completed_of, epoch_told, if_passes, members_or, passed_among, passed_in, passed_of, set_passed}
use Rattle.rec_collector.specs.Step.{ClearsOn, Ends, GoesOn, IsNext, IsTested, PreparesOn, Step, TriesOn}
use Rattle.rec_collector.specs.Given.{IsLookGiven}
use Rattle.rec_collector.specs.Took.{crossed_for}
use Rattle.rec_collector.specs.declared.turn.Turn.{Turn}
use Rattle.rec_collector.specs.declared.turn.Turn.TheVariants.{Moved}
use Rattle.rec_collector.proofs.Common.{Begun, Contents, Freeing, Idle, IsClearingIn, IsGiven, IsGivenAt, IsMachine, Looking, MayGatherBehind, Op, Opening, Parts, Phase, Preparing, Private, Releasing, Returning, State, Trying, Held, Passed, Touched, batched, cleared, counted_by, emptied, freeing_at, listed_if, new_freeing, new_release, noted, parts_of, releasing_at, requested, slot_at, with_freed, with_freeing, with_parts, with_release, with_released, zeros_released}
use Rattle.rec_collector.proofs.Clearing.{Clears}
use Rattle.rec_collector.proofs.Following.{HasCleared, begun_has, freed_has, released_has}
use Rattle.rec_collector.proofs.Gathering.{crossed_gathers, crossed_keeps, noted_gathers, noted_keeps, requested_gathers, requested_keeps}
use Rattle.rec_collector.proofs.Goings.{freed_by, freed_listed}

-- a collection is under way, and no mailbox is looked at
abbrev IsUnder : Phase → Type 0
IsUnder Idle = ⊥
IsUnder (Looking t) = ⊥
IsUnder (Returning t) = ⊥
IsUnder _ = Unit {0}

-- What is shown of a step that begins, behind a request or a mailbox that was given back, with such a record.
record IsShownOf (p q : Private) (turn : Turn) (passed : Option (List ℕ)) : Type 0 where
  applied : applied_in q q.phase ≡ Some (p.epoch - 1)
  newer : applied_newer q ≡ p.newer
  passed_so : passed_of q ≡ passed
  completed : completed_of q ≡ epoch_told turn
  between : q.phase ≡ Idle → completed_of q ≡ Some (q.epoch - 1)

-- so it is not between two collections
under_not_between : (phase : Phase) (A : Type 0) → IsUnder phase → phase ≡ Idle → A
under_not_between phase A under is = absurd (subst IsUnder is under)

-- a step that goes on
goes_shown : (p r q : Private) (turn : Turn) (phase : Phase) (passed : Option (List ℕ)) → IsUnder phase → r.epoch ≡ p.epoch → r.newer ≡ p.newer → passed_in r phase ≡ passed → GoesOn r q turn phase → IsShownOf p q turn passed
goes_shown p r q turn phase passed under epoch newer same on =
    subst (λ x. IsShownOf p x turn passed) (sym on.after) (subst (λ t. IsShownOf p (record r { phase = phase; turns = r.turns + 1 }) t passed) (sym on.answer) (go phase under same))
  where
    go : (phase : Phase) → IsUnder phase → passed_in r phase ≡ passed → IsShownOf p (record r { phase = phase; turns = r.turns + 1 }) Moved passed
    go Idle under same = absurd under
    go (Looking t) under same = absurd under
    go (Returning t) under same = absurd under
    go (Freeing m) under same = record { applied = ap (λ e. Some (e - 1)) epoch; newer = newer; passed_so = same; completed = refl; between = λ is. under_not_between (Freeing m) _ tt is }
    go f under same = record { applied = ap (λ e. Some (e - 1)) epoch; newer = newer; passed_so = same; completed = refl; between = λ is. under_not_between f _ under is }

-- and one that completes the collection
ends_shown : (p r q : Private) (turn : Turn) (swept : ℕ) → r.epoch ≡ p.epoch → r.newer ≡ p.newer → Ends r q turn swept → IsShownOf p q turn None
ends_shown p r q turn swept epoch newer on =
    subst (λ x. IsShownOf p x turn None) (sym on.after) (subst (λ t. IsShownOf p (record r { phase = Idle; turns = 0; collections = r.collections + 1; newer = map cleared r.older; older = r.newer }) t None) (sym on.answer)
    (record { applied = ap (λ e. Some (e - 1)) epoch; newer = newer; passed_so = refl; completed = told; between = λ is. told }))
  where
    told : cond (r.collections + 1 == 0) None (Some (r.epoch - 1)) ≡ Some (r.epoch - 1)
    told = ap (λ b. cond b None (Some (r.epoch - 1))) (ne_eqb (r.collections + 1) 0 (λ e. omega (arith, e)))

prepares_shown : (p q : Private) (turn : Turn) (w : Parts) (v : preps.Work) → PreparesOn p w v q turn → IsShownOf p q turn None
prepares_shown p q turn w v (PreparesOn.more due on) = goes_shown p _ q turn (Preparing v.machine) None tt refl refl refl on
prepares_shown p q turn w v (PreparesOn.sweeps_next none some on) = goes_shown p _ q turn Opening None tt refl refl refl on
prepares_shown p q turn w v (PreparesOn.completes none free on) = ends_shown p _ q turn 0 refl refl on

tries_shown : (p q : Private) (turn : Turn) (w : Parts) (v : trials.Work) → TriesOn p w v q turn → IsShownOf p q turn None
tries_shown p q turn w v (TriesOn.more due on) = goes_shown p _ q turn (Trying v.machine) None tt refl refl refl on
tries_shown p q turn w v (TriesOn.prepares none on) = prepares_shown p q turn _ _ on

-- the set whose freeing has just begun, by what was begun
abbrev begun_in : Parts → Option Phase → Option (List ℕ)
begun_in w (Some (Freeing m)) = begun_at w.counts.work m.at
begun_in w _ = None

abbrev begun_set : Begun → Option (List ℕ)
begun_set b = begun_in b.parts b.phase

-- a release or a freeing was begun, or nothing was
abbrev IsBegun : Option Phase → Type 0
IsBegun None = Unit {0}
IsBegun (Some (Releasing m)) = Unit {0}
IsBegun (Some (Freeing m)) = Unit {0}
IsBegun (Some _) = ⊥

-- where nothing was, the work list is empty
record IsFit (b : Begun) : Type 0 where
  begun : IsBegun b.phase
  work : b.phase ≡ None → b.parts.counts.work ≡ []

-- the one, or else the other
abbrev or_else : Option (List ℕ) → Option (List ℕ) → Option (List ℕ)
or_else None later = later
or_else (Some members) later = Some members

or_none : (o : Option (List ℕ)) → o ≡ or_else o None
or_none None = refl
or_none (Some members) = refl

-- a release changes nothing of the work list
emptied_work : (s : State) (x : ℕ) → (emptied s x).work ≡ s.work
emptied_work s x = go (slot_at s x).buffered
  where
    go : (b : Bool) → (listed_if b s x).work ≡ s.work
    go true = refl
    go false = refl

zeros_work : (lowers : Bool) (w : Parts) → (zeros_released lowers w).parts.counts.work ≡ w.counts.work
unfolding releases.started_of
zeros_work lowers w = each_zero (λ u. u.work ≡ w.counts.work) (λ u z e. emptied_work u z ∙ e) (λ u z zs e. e) w.counts.zeros w.counts refl

-- no set's freeing begins with it
release_none : (w : Parts) (v : releases.Work) → begun_set (with_release w v) ≡ None
release_none w v = go v.machine.at
  where
    go : (at : Option At) → begun_in (record w { counts = v.counts }) (releasing_at v.machine at) ≡ None
    go None = refl
    go (Some a) = refl

release_begun : (w : Parts) (v : releases.Work) → IsBegun (with_release w v).phase
release_begun w v = go v.machine.at
  where
    go : (at : Option At) → IsBegun (releasing_at v.machine at)
    go None = tt
    go (Some a) = tt

-- the last set passed both tests: its freeing begins, if it has members
passes_begun : (w : Parts) → w.counts.work ≡ [] → (later : Option (List ℕ))
    → or_else (begun_set (with_freeing w (frees.started_of (new_freeing w.fields) w.counts))) later ≡ members_or (last_set w.counts.sets) later
unfolding frees.started_of
passes_begun w none later = go (last_set w.counts.sets)
  where
    go : (members : List ℕ) → or_else (begun_in (record w { counts = record (frees.given_up w.counts) { work = w.counts.work ++ members } }) (freeing_at (record { fields = w.fields; at = first_in members }) (first_in members))) later ≡ members_or members later
    go [] = refl
    go (x ∷ xs) = ap (λ ws. Some (ws ++ x ∷ xs)) none

passes_fit : (w : Parts) → w.counts.work ≡ [] → IsFit (with_freeing w (frees.started_of (new_freeing w.fields) w.counts))
unfolding frees.started_of
passes_fit w none = record { begun = (go (last_set w.counts.sets)).0; work = (go (last_set w.counts.sets)).1 }
  where
    go : (members : List ℕ) → (let phase : Option Phase = freeing_at (record { fields = w.fields; at = first_in members }) (first_in members) in IsBegun phase × (phase ≡ None → w.counts.work ++ members ≡ []))
    go [] = (tt, λ e. ap (λ ws. ws ++ []) none)
    go (x ∷ xs) = (tt, λ e. absurd (cc))

-- the last set was tested
tests_shown : (p q : Private) (turn : Turn) (w : Parts) (c : Begun) (later : Option (List ℕ)) → w.counts.work ≡ [] → (IsFit c → IsShownOf p q turn (or_else (begun_set c) later))
    → (test : IsTested w c) → IsShownOf p q turn (if_passes test later)
tests_shown p q turn w c later none again = go
  where
    refused : (lowers : Bool) (v : Parts) → v.counts.work ≡ [] → c ≡ zeros_released lowers v → IsShownOf p q turn later
    refused lowers v work is =
        let zeros : releases.Work = releases.started_of (new_release v.fields) lowers v.counts in
        subst (λ o. IsShownOf p q turn (or_else o later)) (ap begun_set is ∙ release_none v zeros)
        (again (subst IsFit (sym is) (record { begun = release_begun v zeros; work = λ e. zeros_work lowers v ∙ work })))

    go : (test : IsTested w c) → IsShownOf p q turn (if_passes test later)
    go (IsTested.passes orange sum is) =
        subst (IsShownOf p q turn) (ap (λ d. or_else (begun_set d) later) is ∙ passes_begun w none later) (again (subst IsFit (sym is) (passes_fit (record w { sets = counted_by Passed w.sets }) none)))
    go (IsTested.fails_delta s touched r is) = refused true (record w { counts = s; sets = counted_by Touched w.sets }) (r.work ∙ none) is
    go (IsTested.fails_sigma s orange more r is) = refused true (record w { counts = s; sets = counted_by Held w.sets }) (r.work ∙ none) is

-- What a release or a freeing came to: what is shown of all that follows in the step.
clears_shown : (p q : Private) (turn : Turn) (b : Begun) → IsFit b → (on : ClearsOn p q turn b) → IsShownOf p q turn (or_else (begun_set b) (passed_among on))
clears_shown p q turn b fit (ClearsOn.works phase is on) = goes_shown p _ q turn phase _ (under phase (subst IsBegun is fit.begun)) refl refl (begun phase (subst IsBegun is fit.begun) ∙ ap (begun_in b.parts) (sym is) ∙ or_none (begun_set b)) on
  where
    under : (phase : Phase) → IsBegun (Some phase) → IsUnder phase
    under (Releasing m) i = tt
    under (Freeing m) i = tt
    under _ i = absurd i

    begun : (phase : Phase) → IsBegun (Some phase) → passed_in (with_parts p b.parts) phase ≡ begun_in b.parts (Some phase)
    begun (Releasing m) i = refl
    begun (Freeing m) i = refl
    begun _ i = absurd i
clears_shown p q turn b fit (ClearsOn.tries none sets due on) = subst (λ o. IsShownOf p q turn (or_else (begun_in b.parts o) None)) (sym none) (tries_shown p q turn _ _ on)
clears_shown p q turn b fit (ClearsOn.waits none sets off on) = subst (λ o. IsShownOf p q turn (or_else (begun_in b.parts o) None)) (sym none) (prepares_shown p q turn _ _ on)
clears_shown p q turn b fit (ClearsOn.tests c none some test on) =
    subst (λ o. IsShownOf p q turn (or_else (begun_in b.parts o) (if_passes test (passed_among on)))) (sym none)
    (tests_shown p q turn b.parts c (passed_among on) (fit.work none) (λ next. clears_shown p q turn c next on) test)

-- what was begun is fit where it clears
cleared_fit : (b : Begun) (n : ℕ) → Clears b n → IsFit b
cleared_fit b n c = go b.phase refl c.clearing
  where
    go : (o : Option Phase) → b.phase ≡ o → IsClearingIn b.parts o → IsFit b
    go None e i = record { begun = subst IsBegun (sym e) tt; work = λ none. i.work }
    go (Some (Releasing m)) e i = record { begun = subst IsBegun (sym e) tt; work = λ none. let q : ◌≡◌ {A = Option Phase} (Some (Releasing m)) None = sym e ∙ none in absurd (cc) }
    go (Some (Freeing m)) e i = record { begun = subst IsBegun (sym e) tt; work = λ none. let q : ◌≡◌ {A = Option Phase} (Some (Freeing m)) None = sym e ∙ none in absurd (cc) }
    go (Some _) e i = absurd i

-- a batch
batch_shown : (p q : Private) (turn : Turn) → HasCleared p (zeros_released false (batched p)) → (on : ClearsOn p q turn (zeros_released false (batched p))) → IsShownOf p q turn (passed_among on)
batch_shown p q turn h on =
    subst (λ o. IsShownOf p q turn (or_else o (passed_among on))) (release_none (batched p) (releases.started_of (new_release p.fields) false (batched p).counts)) (clears_shown p q turn _ (cleared_fit _ _ h.clears) on)

-- a word that came out of a released slot
released_none : (m : releases.Machine) (w : Parts) (word : ℕ) → begun_set (with_released m w word) ≡ None
released_none m w word = release_none w (releases.took_of (record { machine = m; counts = w.counts }) word)

-- and one that came out of a member of a set: its freeing began before
freed_none : (m : frees.Machine) (w : Parts) (word : ℕ) → IsSome m.at → begun_set (with_freed m w word) ≡ None
freed_none m w word busy = freed_by (λ b. begun_set b ≡ None) m w word busy
    (λ a e l. later _ a.index (a.field + 1) (omega arith))
    (λ a e l i. later _ (a.index + 1) 0 (omega arith))
    (λ a e l i. let v : Parts = freed_listed w word in release_none v (releases.started_of (new_release v.fields) true v.counts))
  where
    later : (members : List ℕ) (index field : ℕ) → 0 < index + field → cond (index + field == 0) (Some members) None ≡ None
    later members index field some = ap (λ b. cond b (Some members) None) (ne_eqb (index + field) 0 (λ e. omega (arith, e, some)))

-- the operations of the machines request nothing, and give no mailbox back
abbrev IsWithin : Op → Type 0
IsWithin op = (q : Private) → applied_of op q ≡ None

within : {op named : Op} → ◌≡◌ {A = Option Op} (Some op) (Some named) → IsWithin named → IsWithin op
within {op} {named} is w = let same : op ≡ named = cc in subst IsWithin (sym same) w

-- what is shown of a step within a collection
inside_made : {p q : Private} {word : ℕ} {box : Contents} {turn : Turn} (op : Op) (s : Step p word box (Some op) q turn) → applied_of op q ≡ None → batch_made s ≡ None → passed_of q ≡ set_passed s → completed_of q ≡ epoch_told turn → (q.phase ≡ Idle → completed_of q ≡ Some (q.epoch - 1)) → IsShownAsMade op s
inside_made {p} {q} op s w none passed completed between = record { batch = ap (batch_with (applied_newer q)) w ∙ sym none; passed = passed; completed = completed; between = between }

-- a mailbox is looked at, or was taken: no batch was applied
none_applied : (op : Op) (q : Private) (phase : Phase) → q.phase ≡ phase → applied_in q phase ≡ None → applied_of op q ≡ None
none_applied (StoreEpoch e) q phase is none = ap (applied_in q) is ∙ none
none_applied (LookBox u e) q phase is none = ap (applied_in q) is ∙ none
none_applied (ReturnBox u e) q phase is none = ap (applied_in q) is ∙ none
none_applied _ q phase is none = refl

looking_made : {p q : Private} {word : ℕ} {box : Contents} {turn : Turn} (op : Op) (s : Step p word box (Some op) q turn) (t : ℕ) → q.phase ≡ Looking t → batch_made s ≡ None → set_passed s ≡ None → epoch_told turn ≡ None → IsShownAsMade op s
looking_made {p} {q} op s t is none passed told = record {
  batch = ap (batch_with (applied_newer q)) (none_applied op q (Looking t) is refl) ∙ sym none;
  passed = ap (passed_in q) is ∙ sym passed;
  completed = ap (completed_in q) is ∙ sym told;
  between = λ idle. let no : Looking t ≡ Idle = sym is ∙ idle in absurd (cc);
}

-- the batch was applied
applied_made : {p q : Private} {word : ℕ} {box : Contents} {turn : Turn} (op : Op) (s : Step p word box (Some op) q turn) (r : Private) (passed : Option (List ℕ)) (batch : Batch) → applied_of op q ≡ applied_in q q.phase
    → IsShownOf r q turn passed → batch ≡ record { epoch = r.epoch - 1; newer = r.newer } → batch_made s ≡ Some batch → set_passed s ≡ passed → IsShownAsMade op s
applied_made {p} {q} op s r passed batch same h is made set = record {
  batch = ap (λ n. batch_with n (applied_of op q)) h.newer ∙ ap (batch_with r.newer) (same ∙ h.applied) ∙ sym (made ∙ ap (λ b. Some b) is);
  passed = h.passed_so ∙ sym set;
  completed = h.completed;
  between = h.between;
}

-- a step of a machine at work
works_made : {p q : Private} {word : ℕ} {box : Contents} {turn : Turn} (op : Op) (s : Step p word box (Some op) q turn) (passed : Option (List ℕ)) → IsWithin op → IsShownOf p q turn passed → batch_made s ≡ None → set_passed s ≡ passed → IsShownAsMade op s
works_made op s passed w h none set = inside_made op s (w _) none (h.passed_so ∙ sym set) h.completed h.between

-- what the machines name
release_within : (op : Op) (m : releases.Machine) → Some op ≡ releases.next_of m → IsWithin op
unfolding releases.next_of
release_within op m = go m.at
  where
    go : (at : Option At) → Some op ≡ releases.op_at m.fields at → IsWithin op
    go None is = absurd (cc)
    go (Some a) is = within is (λ q. refl)

freeing_within : (op : Op) (m : frees.Machine) → Some op ≡ frees.next_of m → IsWithin op × IsSome m.at
unfolding frees.next_of
freeing_within op m = go m.at
  where
    go : (at : Option Member) → Some op ≡ frees.op_at m.fields at → IsWithin op × IsSome at
    go None is = absurd (cc)
    go (Some a) is = (within is (λ q. refl), refl)

trial_within : (op : Op) (m : trials.Machine) → Some op ≡ trials.next_of m → IsWithin op
unfolding trials.next_of
trial_within op m = go m.phase
  where
    go : (phase : trial_phase.Phase) → Some op ≡ trials.op_at phase m → IsWithin op
    go trial_phase.TheVariants.Idle is = absurd (cc)
    go _ is = within is (λ q. refl)

prep_within : (op : Op) (m : preps.Machine) → Some op ≡ preps.next_of m → IsWithin op
unfolding preps.next_of
prep_within op m = go m.at
  where
    go : (at : Option prep_at.At) → Some op ≡ preps.op_at m.fields at → IsWithin op
    go None is = absurd (cc)
    go (Some a) is = within is (λ q. refl)

sweep_within : (op : Op) (due : Option ℕ) → Some op ≡ sweeps.next_of due → IsWithin op
unfolding sweeps.next_of
sweep_within op None is = absurd (cc)
sweep_within op (Some x) is = within is (λ q. refl)

sweep_phase_under : (swept : ℕ) (w : sweeps.Work) (phase : Phase) → IsNext swept w phase → IsUnder phase × ((r : Private) → passed_in r phase ≡ None)
sweep_phase_under swept w phase (IsNext.more due is) = subst (λ f. IsUnder f × ((r : Private) → passed_in r f ≡ None)) (sym is) (tt, λ r. refl)
sweep_phase_under swept w phase (IsNext.last due is) = subst (λ f. IsUnder f × ((r : Private) → passed_in r f ≡ None)) (sym is) (tt, λ r. refl)

-- Whatever rule made the step.
pub shown_as_made : (p q : Private) (word : ℕ) (box : Contents) (op : Op) (turn : Turn) (s : Step p word box (Some op) q turn) → IsMachine p → IsGiven p word → IsShownAsMade op s
unfolding IsGiven IsGivenAt
shown_as_made p q word box op turn s kept given = go s
  where
    at : (phase : Phase) → p.phase ≡ phase → IsGivenAt p word phase
    at phase is = subst (IsGivenAt p word) is given

    go : (s : Step p word box (Some op) q turn) → IsShownAsMade op s
    go (Step.spent idle last is same answer) = absurd (cc)
    go (Step.request next idle more is present on) = looking_made op (Step.request next idle more is present on) next (ap (λ (x : Private). x.phase) on.after) refl refl (ap epoch_told on.answer)
    go (Step.request_alone idle more is alone on) =
        let same : op ≡ StoreEpoch (p.epoch + 1) = cc in
        let h : IsShownOf (requested p) q turn (passed_among on) = batch_shown (requested p) q turn (begun_has (requested p) 0 (requested_keeps p kept idle more) (requested_gathers p kept idle (at Idle idle)) (at Idle idle alone)) on in
        applied_made op (Step.request_alone idle more is alone on) (requested p) (passed_among on) (record { epoch = p.epoch; newer = p.newer }) (ap (λ o. applied_of o q) same) h
        (let less : p.epoch ≡ p.epoch + 1 - 1 = omega arith in ap (λ e. let b : Batch = record { epoch = e; newer = p.newer } in b) less) refl refl
    go (Step.wait t looks other is same answer) = looking_made op (Step.wait t looks other is same answer) t (ap (λ (x : Private). x.phase) same ∙ looks) refl refl (ap epoch_told answer)
    go (Step.cross_for t next looks crosses is present on) = looking_made op (Step.cross_for t next looks crosses is present on) next (ap (λ (x : Private). x.phase) on.after) refl refl (ap epoch_told on.answer)
    go (Step.cross_for_last t looks crosses is left on) =
        let same : op ≡ LookBox t p.epoch = cc in
        let r : Private = crossed_for p t in
        let gathers : MayGatherBehind r t = crossed_gathers p t kept looks (subst (IsLookGiven p t) crosses (at (Looking t) looks)) in
        let h : IsShownOf r q turn (passed_among on) = batch_shown r q turn (begun_has r t (crossed_keeps p t kept looks) gathers (gathers.covered left)) on in
        applied_made op (Step.cross_for_last t looks crosses is left on) r (passed_among on) (record { epoch = p.epoch - 1; newer = r.newer }) (ap (λ o. applied_of o q) same) h refl refl refl
    go (Step.gather t looks word_is is on) = inside_made op (Step.gather t looks word_is is on) (none_applied op q (Returning t) (ap (λ (x : Private). x.phase) on.after) refl) refl (ap passed_of on.after) (ap completed_of on.after ∙ sym (ap epoch_told on.answer)) (λ idle. let no : Returning t ≡ Idle = sym (ap (λ (x : Private). x.phase) on.after) ∙ idle in absurd (cc))
    go (Step.give_back t next returning is present on) = looking_made op (Step.give_back t next returning is present on) next (ap (λ (x : Private). x.phase) on.after) refl refl (ap epoch_told on.answer)
    go (Step.apply t returning is left on) =
        let same : op ≡ ReturnBox t p.epoch = cc in
        let gathers : MayGatherBehind (noted p t) t = noted_gathers p t kept returning (at (Returning t) returning) in
        let h : IsShownOf (noted p t) q turn (passed_among on) = batch_shown (noted p t) q turn (begun_has (noted p t) t (noted_keeps p t kept returning) gathers (gathers.covered left)) on in
        applied_made op (Step.apply t returning is left on) (noted p t) (passed_among on) (record { epoch = p.epoch - 1; newer = p.newer }) (ap (λ o. applied_of o q) same) h refl refl refl
    go (Step.release m releasing is on) =
        works_made op (Step.release m releasing is on) (passed_among on) (release_within op m is)
        (subst (λ o. IsShownOf p q turn (or_else o (passed_among on))) (released_none m (parts_of p) word) (clears_shown p q turn _ (cleared_fit _ _ (released_has p m word kept releasing (at (Releasing m) releasing)).clears) on)) refl refl
    go (Step.freeing m freeing is on) =
        works_made op (Step.freeing m freeing is on) (passed_among on) (freeing_within op m is).0
        (subst (λ o. IsShownOf p q turn (or_else o (passed_among on))) (freed_none m (parts_of p) word (freeing_within op m is).1) (clears_shown p q turn _ (cleared_fit _ _ (freed_has p m word kept freeing (at (Freeing m) freeing)).clears) on)) refl refl
    go (Step.trial m trying is on) = works_made op (Step.trial m trying is on) None (trial_within op m is) (tries_shown p q turn _ _ on) refl refl
    go (Step.preparation m preparing is on) = works_made op (Step.preparation m preparing is on) None (prep_within op m is) (prepares_shown p q turn _ _ on) refl refl
    go (Step.begin_sweep opening is on) = works_made op (Step.begin_sweep opening is on) None (within is (λ x. refl)) (goes_shown p _ q turn _ None tt refl refl refl on) refl refl
    go (Step.sweep due swept w phase sweeping is which next on) =
        let h = sweep_phase_under swept w phase next in
        let r : Private = record p { counts = w.counts; freed = p.freed + 1 } in
        works_made op (Step.sweep due swept w phase sweeping is which next on) None (sweep_within op due is) (goes_shown p r q turn phase None h.0 refl refl (h.1 r) on) refl refl
    go (Step.end_sweep swept closing is on) = works_made op (Step.end_sweep swept closing is on) None (within is (λ x. refl)) (ends_shown p p q turn swept refl refl on) refl refl

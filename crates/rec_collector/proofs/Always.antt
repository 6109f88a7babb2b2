-- What holds in every phase: the zeros are exactly the slots without a count that are neither released nor Orange, no collection takes more
-- turns than its limit, and what comes next names a word of the heap.
use Rattle.std.proofs.Common.{true, false, cond, ◌≡◌, [], arith, ap, ℕ, ◌+◌, ◌*◌, ◌^◌, ◌<◌, ◌≤◌, Option, List, length, None, Some, IfSome, slice_get, refl, sym}
use Rattle.std.proofs.Math.Nat.{mul-le-mul}
use Rattle.std.proofs.lemmas.Bool.{eqb-false}
use Rattle.rec_collector.proofs.Common.{Op, State, IsKept, times, times-nil, in_range_once, times_at, IsAtWork, IsHeld, Machine, op_at, IsTidy, IsAt, IsMachine, all_fields, limit_of, IsPreparing, IsTesting, IsTrying, Private, parts_of, Phase, Looking, Swapping, Returning, Releasing, Freeing, Trying, Preparing, Idle, Opening, Sweeping, Closing}
use Rattle.rec_word.specs.declared.op.Op.TheVariants.{StoreEpoch, LoadChild}
use Rattle.rec_word.proofs.FieldPlaces.{place_within}
use Rattle.rec_counts.specs.Counts.{IsKept as IsKeptCounts}
use Rattle.rec_word.specs.Load.{Load}
use Rattle.rec_word.specs.declared.member.Member.{Member}
use Rattle.rec_word.specs.Walk.{IsOf}
use Rattle.rec_release.specs.declared.at.At.{At}
use Rattle.rec_release.specs.Release.{next_of as release_next}
use Rattle.rec_release.specs.Sweep.{next_of as sweep_next}
use Rattle.rec_counts.proofs.Front.{first_in}
use Rattle.rec_sigma.specs.Prepared.{PreparedTo, LoadsWithin}
use Rattle.rec_sigma.proofs.Bounds.{few_loads, names_place}
use Rattle.rec_trial.proofs.Keeps.{at_work_few}
use Rattle.rec_trial.specs.Trial.{Machine as Trial, next_of as trial_next, op_at as trial_op_at}
use Rattle.rec_trial.proofs.AtWork.{at_work_place}
use Rattle.rec_collector.specs.Zeros.{AreCounted, AreTheZeros}
use Rattle.rec_collector.specs.Next.{is_spent, next_at, next_of}
use Rattle.rec_collector.specs.Step.{NamesWord}
use Rattle.rec_collector.proofs.Exchanging.{exchanged_few}
use Rattle.rec_collector.proofs.Landing.{now_at}
use Rattle.rec_counts.specs.Rest.{AreZeros}
use Rattle.rec_release.specs.CycleFree as frees
use Rattle.rec_sigma.specs.declared.at.At as loads_at
use Rattle.rec_sigma.specs.Prepare as preps
use Rattle.rec_trial.specs.declared.phase.Phase as trial_phase
use Rattle.rec_trial.specs.declared.phase.Phase.TheVariants as trial_at
use Rattle.rec_trial.specs.Loaded as trials

-- where each slot has a count, there are none
none_exact : (s : State) → s.zeros ≡ [] → AreCounted s → AreTheZeros s
none_exact s z c x = (
  λ h. absurd (omega (arith, h, ap (times x) z, times-nil x)),
  λ q. absurd (omega (arith, q.1, c x q.0)),
)

-- while slots are released and sets tested
tidy_exact : {fields : ℕ} (s : State) (at : Option At) → IsTidy fields s at → AreZeros s → AreTheZeros s
tidy_exact s at c z x = (
  λ h. (z.unreleased x h, z.none x h, λ o. absurd (omega (arith, h, (c.apart x o).no_zero))),
  λ q. c.all_zeros x q.0 q.1 q.2,
)

exact_at : (p : Private) (phase : Phase) → IsAt p phase → AreTheZeros p.counts
exact_at p (Releasing m) a = tidy_exact p.counts m.at a.clearing.tidy a.clearing.release.ready.zeros
exact_at p (Freeing m) a = tidy_exact p.counts None a.clearing.tidy a.clearing.freeing.ready.zeros
exact_at p (Trying m) a = none_exact p.counts a.zeros a.counted
exact_at p (Preparing m) a = none_exact p.counts a.tried.zeros a.tried.counted
exact_at p (Looking t) a = none_exact p.counts a.rest.zeros a.rest.counted
exact_at p (Swapping t) a = none_exact p.counts a.rest.zeros a.rest.counted
exact_at p (Returning t) a = none_exact p.counts a.rest.zeros a.rest.counted
exact_at p _ a = none_exact p.counts a.0.zeros a.0.counted

pub machine_exact : (p : Private) → IsMachine p → AreTheZeros p.counts
machine_exact p k = exact_at p p.phase k.now

-- a release and the freeing of sets exchange each field of a slot at most once
testing_few : (p : Private) (phase : Phase) → IsKeptCounts p.counts → IsTesting p phase → p.turns ≤ 1 + 2 * length p.newer + all_fields p
testing_few p phase c k = omega (arith, k.turns, exchanged_few (parts_of p) k.exchanged c k.exchanges)

-- a trial takes in three words for each field at most
trying_few : (p : Private) (m : Trial) → IsTrying p m → p.turns ≤ 1 + 2 * length p.newer + 4 * all_fields p
trying_few p m k =
    let all : length p.counts.slots * m.fields ≡ all_fields p = ap (λ n. length p.counts.slots * n) k.fields in
    omega (arith, k.turns, at_work_few m p.counts k.kept k.busy, all)

-- a preparation takes in a word for each field at most
pub loads_few : (fields : ℕ) (before : State) (at : Option loads_at.At) (after : State) (loads : List Load) → IsKeptCounts before → PreparedTo fields before at after loads → length loads ≤ length after.slots * fields
loads_few fields before at after loads k h =
    let f = few_loads fields before at after loads k h in
    let many : length after.slots * fields ≡ length before.slots * fields = ap (λ n. n * fields) h.others.many in
    omega (arith, f.0, f.1, many)

preparing_few : (p : Private) (m : preps.Machine) → IsPreparing p m → p.turns ≤ 2 + 2 * length p.newer + 5 * all_fields p
preparing_few p m k =
    let all : length p.counts.slots * m.fields ≡ all_fields p = ap (λ n. length p.counts.slots * n) k.fields in
    omega (arith, k.turns, loads_few m.fields k.before m.at p.counts k.loads k.before_kept k.prepares, all)

within_at : (p : Private) (phase : Phase) → IsMachine p → IsAt p phase → p.turns ≤ limit_of p
within_at p Idle m k = omega (arith, k.2)
within_at p (Releasing r) m k = omega (arith, testing_few p (Releasing r) m.counts k)
within_at p (Freeing f) m k = omega (arith, testing_few p (Freeing f) m.counts k)
within_at p (Trying t) m k = omega (arith, trying_few p t k)
within_at p (Preparing r) m k = omega (arith, preparing_few p r k)
within_at p Opening m k = omega (arith, k.0.turns)
within_at p (Sweeping due n) m k = omega (arith, k.0.turns, k.0.left)
within_at p (Closing n) m k = omega (arith, k.0.turns, k.0.left)
within_at p _ m k = omega (arith, k.turns, k.there)

-- in every state
pub within_limit : (p : Private) → IsMachine p → p.turns ≤ limit_of p
within_limit p k = within_at p p.phase k k.now

-- so they can be counted
pub turns_fit : (p : Private) → IsMachine p → p.turns + 1 < 2 ^ 64
turns_fit p k =
    let m : all_fields p ≤ 2 ^ 16 * 2 ^ 8 = mul-le-mul {n₁ = length p.counts.slots} {m₁ = p.fields} {n₂ = 2 ^ 16} {m₂ = 2 ^ 8} (omega (arith, k.counts.few_slots)) (omega (arith, k.few_fields)) in
    omega (arith, m, within_limit p k, k.few, k.counts.few_slots)

release_names : (m : Machine) (s : State) (mutators : ℕ) → IsAtWork m s → IfSome (release_next m) (NamesWord (length s.slots) m.fields mutators)
unfolding release_next
release_names m s mutators k = go m.at k.field k.held
  where
    go : (at : Option At) → IfSome at (λ (a : At). a.field < m.fields) → IfSome at (IsHeld s) → IfSome (op_at m.fields at) (NamesWord (length s.slots) m.fields mutators)
    go None f h = tt
    go (Some a) f h = place_within (length s.slots) m.fields a.slot a.field h.in_range f

-- the members of a set that is freed are there
freeing_names : (m : frees.Machine) (s : State) (mutators : ℕ) → IsKept s → frees.IsAtWork m s → IfSome (frees.next_of m) (NamesWord (length s.slots) m.fields mutators)
unfolding frees.next_of
freeing_names m s mutators kept k = go m.at k.field k.held
  where
    go : (at : Option Member) → IfSome at (λ (a : Member). a.field < m.fields) → IfSome at (IsOf s.work) → IfSome (frees.op_at m.fields at) (NamesWord (length s.slots) m.fields mutators)
    go None f h = tt
    go (Some a) f h =
        let l : a.slot < length s.slots = in_range_once (length s.slots) s.work a.slot kept.work_once (rw h.slot (times_at s.work a.index h.index)) in
        place_within (length s.slots) m.fields a.slot a.field l f

-- a preparation loads fields of members
prep_names : (m : preps.Machine) (s : State) (fields mutators : ℕ) → m.fields ≡ fields → IsKept s → preps.IsAtWork m s → IfSome (preps.next_of m) (NamesWord (length s.slots) fields mutators)
prep_names m s fields mutators e kept k = go (preps.next_of m) (names_place m s kept k)
  where
    go : (op : Option Op) → IfSome op (LoadsWithin (length s.slots * m.fields)) → IfSome op (NamesWord (length s.slots) fields mutators)
    go None h = tt
    go (Some o) h = rw h.1 (rw (← e) h.2)

trial_names : (m : Trial) (s : State) (fields mutators : ℕ) → m.fields ≡ fields → trials.IsAtWork m s → IfSome (trial_next m) (NamesWord (length s.slots) fields mutators)
unfolding trial_next
trial_names m s fields mutators e k = go m.phase refl
  where
    named : (place : ℕ) → trial_next m ≡ Some (LoadChild place) → place < length s.slots * fields
    named place q = rw (← e) (at_work_place m s k place q)

    go : (p : trial_phase.Phase) → m.phase ≡ p → IfSome (trial_op_at p m) (NamesWord (length s.slots) fields mutators)
    go trial_at.Idle q = tt
    go _ q = named _ (ap (λ p. trial_op_at p m) q)

sweep_names : (s : State) (due : Option ℕ) (fields mutators : ℕ) → IsKept s → due ≡ slice_get s.free 0 → IfSome (sweep_next due) (NamesWord (length s.slots) fields mutators)
unfolding sweep_next
sweep_names s None fields mutators k e = tt
sweep_names s (Some x) fields mutators k e = in_range_once (length s.slots) s.free x k.free_once (first_in s.free x (sym e))

names_at : (p : Private) (phase : Phase) → IsMachine p → p.phase ≡ phase → IfSome (next_at p phase) (NamesWord (length p.counts.slots) p.fields (length p.newer))
unfolding next_at
names_at p Idle k e =
    (elim (is_spent p) as (λ b. is_spent p ≡ b → IfSome (cond b None (Some (StoreEpoch (p.epoch + 1)))) (NamesWord (length p.counts.slots) p.fields (length p.newer))) [
      | true ↦ λ q. tt
      | false ↦ λ q. omega (arith, k.epoch, eqb-false (p.epoch + 1) (2 ^ 24) q)
    ]) refl
names_at p (Looking t) k e = let a : IsAt p (Looking t) = now_at p (Looking t) k e in (a.first, a.there, k.epoch)
names_at p (Swapping t) k e = let a : IsAt p (Swapping t) = now_at p (Swapping t) k e in (a.first, a.there, k.epoch)
names_at p (Returning t) k e = let a : IsAt p (Returning t) = now_at p (Returning t) k e in (a.first, a.there, k.epoch)
names_at p (Releasing m) k e = let a : IsAt p (Releasing m) = now_at p (Releasing m) k e in rw (← a.clearing.fields) (release_names m p.counts (length p.newer) a.clearing.release)
names_at p (Freeing m) k e = let a : IsAt p (Freeing m) = now_at p (Freeing m) k e in rw (← a.clearing.fields) (freeing_names m p.counts (length p.newer) k.counts a.clearing.freeing)
names_at p (Trying m) k e = let a : IsAt p (Trying m) = now_at p (Trying m) k e in trial_names m p.counts p.fields (length p.newer) a.fields a.kept
names_at p (Preparing m) k e = let a : IsAt p (Preparing m) = now_at p (Preparing m) k e in prep_names m p.counts p.fields (length p.newer) a.fields k.counts a.kept
names_at p Opening k e = tt
names_at p (Sweeping due n) k e = sweep_names p.counts due p.fields (length p.newer) k.counts (now_at p (Sweeping due n) k e).2
names_at p (Closing n) k e = tt

-- in every state
pub names_word : (p : Private) → IsMachine p → IfSome (next_of p) (NamesWord (length p.counts.slots) p.fields (length p.newer))
unfolding next_of
names_word p k = names_at p p.phase k refl

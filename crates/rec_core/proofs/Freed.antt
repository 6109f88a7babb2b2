-- The sets that pass both tests are out of reach, and a slot that is freed is named by nothing.
use Rattle.std.proofs.Common.{◌≡◌, ℕ, ◌+◌, ◌-◌, ◌<◌, ◌≤◌, ◌==◌, Bool, true, false, List, if◌then◌else◌, ltb, Option, None, Some, IfSome, inl, inr, get_or, length, slice_get, slice_index_or, refl, sym, ap, subst, ◌∙◌, arith}
use Rattle.std.specs.List.{All}
use Rattle.std.proofs.lemmas.Bool.{cases_lt, eq-eqb, false≢true}
use Rattle.std.proofs.lemmas.List.{get_or_default}
use Rattle.rec_core.proofs.Common.{Op, is_dead, HasUncountedReleased, uncounted_gone, slot_at, one, times, Slot, in_range_once, one-le, times-nil, IsApart, times_at, At, Member, Phase, Idle, Releasing, Freeing, Trying, Preparing, Sweeping, Core, is_member_of, SetsTest, freeing_due, IsKept, slot_of, pending, applied_at}
use Rattle.rec_word.specs.declared.op.Op.TheVariants as ops
use Rattle.rec_model.proofs.Naming.{dead_out_of_reach}
use Rattle.rec_model.proofs.Sets.{passed_out_of_reach}
use Rattle.rec_word.specs.Walk.{IsOf}
use Rattle.rec_release.specs.CycleFree as frees
use Rattle.rec_release.specs.CycleFree.{next_of as freeing_next, op_at as freeing_op_at}
use Rattle.rec_release.specs.Release.{next_of as release_next, op_at as release_op_at}
use Rattle.rec_release.specs.Sweep.{next_of as sweep_next, op_at as sweep_op_at}
use Rattle.rec_counts.proofs.Front.{first_in}
use Rattle.rec_sigma.specs.Prepare.{next_of as prep_next, op_at as prep_op_at}
use Rattle.rec_sigma.specs.declared.at.At as loads
use Rattle.rec_trial.specs.Trial.{Machine as Trial, next_of as trial_next, op_at as trial_op_at}
use Rattle.rec_trial.specs.declared.phase.Phase as trial_phases
use Rattle.rec_trial.specs.declared.phase.Phase.TheVariants as trial_at
use Rattle.rec_collector.specs.Next.{is_spent, next_at, next_of}
use Rattle.rec_collector.specs.Shown.{begun_at, passed_in, passed_of}
use Rattle.rec_core.specs.Freed.{TestsSets, Passes, IsProvenGarbage, IsGone, AreGone, IsForgotten}
use Rattle.rec_core.proofs.CyclesTest.{IsJudged, set_is_tested}
use Rattle.rec_core.proofs.Steps.{slot_there}
use Rattle.rec_core.proofs.Turns.{cycles_in, now_at}
use Rattle.rec_collector.specs.Given.{IsFreeingIn}

-- A set that passes both tests.
passes_with : (w : Core) (number : ℕ) → IsKept true w → SetsTest (pending w) w.collector.counts → IsApart w.collector.counts → Passes w number → IsProvenGarbage w number
passes_with w number kept tests apart p =
    let judged : IsJudged (pending w) w.collector.counts number = record {
      kept = kept.collector.machine.counts;
      apart = apart;
      released = λ x below. ap (λ (v : Slot). v.released) (slot_there w kept x (subst (λ n. x < n) kept.collector.slots below));
      count = λ x below. ap (λ (v : Slot). v.count) (slot_there w kept x (subst (λ n. x < n) kept.collector.slots below));
      orange = p.orange;
      none = p.none;
    } in
    let tested = set_is_tested (pending w) w.collector.counts number tests judged in
    record {
      seen = tested.passes.0;
      passes = tested.passes.1;
      unreached = λ node member from. passed_out_of_reach (pending w) (is_member_of w.collector.counts number) tested.passes.0 kept.accounted.ledger kept.accounted.late tested.passes.1 node from member;
    }

pub passed_are_garbage : (w : Core) (number : ℕ) → IsKept true w → TestsSets w.collector.phase → Passes w number → IsProvenGarbage w number
passed_are_garbage w number kept tests p = go w.collector.phase refl tests
  where
    go : (phase : Phase) → w.collector.phase ≡ phase → TestsSets phase → IsProvenGarbage w number
    go (Releasing m) is t = passes_with w number kept (cycles_in w (Releasing m) kept.whole is) (now_at w (Releasing m) kept is).clearing.apart p
    go (Freeing m) is t = passes_with w number kept (cycles_in w (Freeing m) kept.whole is) (now_at w (Freeing m) kept is).clearing.apart p
    go _ is t = absurd t

-- what was given up is dead
dead_is : (free released : Bool) → released ≡ true → (if free then true else released) ≡ true
dead_is true released is = refl
dead_is false released is = is

pub given_up_are_gone : (w : Core) → IsKept true w → AreGone w
given_up_are_gone w kept = record {
  released = λ slot below is.
      let dead : is_dead (pending w) (slot + 1) ≡ true = dead_is ((pending w).free (slot + 1)) ((pending w).released (slot + 1)) (ap (λ (v : Slot). v.released) (slot_there w kept slot below) ∙ is) in
      record {
        unreached = λ epoch from reached. dead_out_of_reach (pending w) epoch from kept.accounted.unnamed (slot + 1) reached dead;
        unnamed = kept.accounted.unnamed (slot + 1) (omega arith) dead;
      };
  members = members_released w.collector.phase refl;
}
  where
    members_released : (phase : Phase) → w.collector.phase ≡ phase → IsFreeingIn phase → (slot : ℕ) → 0 < times slot w.collector.counts.work → (slot_at w.collector.counts slot).released ≡ true
    members_released (Freeing m) here is slot some = (now_at w (Freeing m) kept here).clearing.freeing.released slot some
    members_released _ here is slot some = absurd is

-- A slot that is swept next.
swept_is_forgotten : (w : Core) (n slot : ℕ) → IsKept true w → w.collector.phase ≡ Sweeping (Some slot) n → IsForgotten w slot
swept_is_forgotten w n slot kept is =
    let now = now_at w (Sweeping (Some slot) n) kept is in
    let c = w.collector.counts in
    let first : slice_get c.free 0 ≡ Some slot = sym now.2 in
    let there : 0 < times slot c.free = first_in c.free slot first in
    let listed_released : (slot_at c slot).released ≡ true = kept.collector.listed slot there in
    let once = kept.collector.machine.counts.free_once slot in
    let below : slot < length c.slots = in_range_once (length c.slots) c.free slot kept.collector.machine.counts.free_once there in
    let node : slot_of w (slot + 1) ≡ slot_at c slot = slot_there w kept slot (subst (λ n. slot < n) kept.collector.slots below) in
    let uncounted : HasUncountedReleased (pending w) = kept.uncounted (ap freeing_due is) in
    let none : (pending w).count (slot + 1) ≡ 0 = uncounted (slot + 1) (omega arith) (ap (λ (v : Slot). v.released) node ∙ listed_released) in
    let done : (pending w).applied + 1 ≡ (pending w).requested = ap (λ (f : Phase). applied_at w.epoch f + 1) is ∙ positive in
    let alone : one (slot_at c slot).buffered ≡ 0 = ap one (now.0.tried.unbuffered slot there) in
    let buffers = kept.collector.machine.counts.buffers slot in
    record {
      unnamed = (uncounted_gone (pending w) kept.accounted (slot + 1) (omega arith) done none).1;
      roots = omega (arith, buffers, alone);
      sets = omega (arith, buffers, alone);
      marked = ap (times slot) now.0.tried.untried.marked ∙ times-nil slot;
      work = ap (times slot) now.0.tried.work ∙ times-nil slot;
      zeros = ap (times slot) now.0.tried.zeros ∙ times-nil slot;
      free = omega (arith, once, there, one-le (ltb slot (length c.slots)));
    }
  where
    positive : w.epoch - 1 + 1 ≡ w.epoch
    positive = let some : 1 ≤ w.config.first_epoch = kept.config.some_epoch in omega (arith, kept.collector.begun)

-- an operation that frees a header is none of the others
stores_none : (spent : Bool) (epoch slot : ℕ) → ◌≡◌ {A = Option Op} (if spent then None else Some (ops.StoreEpoch epoch)) (Some (ops.FreeHeader slot)) → ⊥
stores_none true epoch slot e = cc
stores_none false epoch slot e = cc

releases_none : (fields slot : ℕ) (at : Option At) → ◌≡◌ {A = Option Op} (release_op_at fields at) (Some (ops.FreeHeader slot)) → ⊥
releases_none fields slot None e = cc
releases_none fields slot (Some a) e = cc

frees_none : (fields slot : ℕ) (at : Option Member) → ◌≡◌ {A = Option Op} (freeing_op_at fields at) (Some (ops.FreeHeader slot)) → ⊥
frees_none fields slot None e = cc
frees_none fields slot (Some a) e = cc

tries_none : (m : Trial) (slot : ℕ) (phase : trial_phases.Phase) → ◌≡◌ {A = Option Op} (trial_op_at phase m) (Some (ops.FreeHeader slot)) → ⊥
tries_none m slot trial_at.Idle e = cc
tries_none m slot _ e = cc

prepares_none : (fields slot : ℕ) (at : Option loads.At) → ◌≡◌ {A = Option Op} (prep_op_at fields at) (Some (ops.FreeHeader slot)) → ⊥
prepares_none fields slot None e = cc
prepares_none fields slot (Some a) e = cc

sweeps_it : (slot : ℕ) (due : Option ℕ) → ◌≡◌ {A = Option Op} (sweep_op_at due) (Some (ops.FreeHeader slot)) → due ≡ Some slot
sweeps_it slot None e = cc
sweeps_it slot (Some x) e = cc

-- A slot whose header is to be set to 0.
pub freed_is_forgotten : (w : Core) (slot : ℕ) → IsKept true w → ◌≡◌ {A = Option Op} (next_of w.collector) (Some (ops.FreeHeader slot)) → IsForgotten w slot
unfolding next_of next_at release_next freeing_next trial_next prep_next sweep_next
freed_is_forgotten w slot kept named = go w.collector.phase refl named
  where
    go : (phase : Phase) → w.collector.phase ≡ phase → ◌≡◌ {A = Option Op} (next_at w.collector phase) (Some (ops.FreeHeader slot)) → IsForgotten w slot
    go Idle is e = absurd (stores_none (is_spent w.collector) (w.collector.epoch + 1) slot e)
    go (Releasing m) is e = absurd (releases_none m.fields slot m.at e)
    go (Freeing m) is e = absurd (frees_none m.fields slot m.at e)
    go (Trying m) is e = absurd (tries_none m slot m.phase e)
    go (Preparing m) is e = absurd (prepares_none m.fields slot m.at e)
    go (Sweeping due n) is e = swept_is_forgotten w n slot kept (is ∙ ap (λ (o : Option ℕ). Sweeping o n) (sweeps_it slot due e))
    go _ is e = absurd (cc)

-- a set of which a watch is shown that it passed both tests is given up
pub shown_is_gone : (w : Core) (members : List ℕ) (slot : ℕ) → IsKept true w → passed_of w.collector ≡ Some members → 0 < times slot members → IsGone w slot
shown_is_gone w members slot kept passed member = go w.collector.phase refl passed
  where
    gone : AreGone w
    gone = given_up_are_gone w kept

    given_up : IsFreeingIn w.collector.phase → w.collector.counts.work ≡ members → IsGone w slot
    given_up freeing same =
        let there : 0 < times slot w.collector.counts.work = subst (λ xs. 0 < times slot xs) (sym same) member in
        gone.released slot (omega (arith, in_range_once (length w.collector.counts.slots) w.collector.counts.work slot kept.collector.machine.counts.work_once there, kept.collector.slots)) (gone.members freeing slot there)

    first : (freeing : IsFreeingIn w.collector.phase) (b : Bool) → ◌≡◌ {A = Option (List ℕ)} (if b then Some w.collector.counts.work else None) (Some members) → IsGone w slot
    first freeing true is = given_up freeing (cc)
    first freeing false is = absurd (cc)

    at : (freeing : IsFreeingIn w.collector.phase) (a : Option Member) → begun_at w.collector.counts.work a ≡ Some members → IsGone w slot
    at freeing None is = absurd (cc)
    at freeing (Some a) is = first freeing (a.index + a.field == 0) is

    go : (phase : Phase) → w.collector.phase ≡ phase → passed_in w.collector phase ≡ Some members → IsGone w slot
    go (Freeing m) e is = at (subst IsFreeingIn (sym e) tt) m.at is
    go _ e is = absurd (cc)

-- its members are slots of the heap, and there are some
pub shown_is_within : (w : Core) (members : List ℕ) → IsKept true w → passed_of w.collector ≡ Some members → (0 < length members) × All (λ slot. slot < w.config.slots) members
shown_is_within w members kept passed = go w.collector.phase refl passed
  where
    all : w.collector.counts.work ≡ members → All (λ slot. slot < w.config.slots) members
    all same k d below =
        let member : 0 < times (get_or members k 0) w.collector.counts.work = subst (λ xs. 0 < times (get_or members k 0) xs) (sym same) (times_at members k below) in
        subst (λ n. n < w.config.slots) (get_or_default members k 0 d below)
        (omega (arith, in_range_once (length w.collector.counts.slots) w.collector.counts.work (get_or members k 0) kept.collector.machine.counts.work_once member, kept.collector.slots))

    first : (m : frees.Machine) (a : Member) → w.collector.phase ≡ Freeing m → m.at ≡ Some a → (b : Bool) → ◌≡◌ {A = Option (List ℕ)} (if b then Some w.collector.counts.work else None) (Some members) → (0 < length members) × All (λ slot. slot < w.config.slots) members
    first m a e at true is =
        let same : w.collector.counts.work ≡ members = cc in
        let held : IsOf w.collector.counts.work a = subst (λ (x : Option Member). IfSome x (IsOf w.collector.counts.work)) at (now_at w (Freeing m) kept e).clearing.freeing.held in
        (subst (λ (xs : List ℕ). 0 < length xs) same (omega (arith, held.index)), all same)
    first m a e at false is = absurd (cc)

    begun : (m : frees.Machine) → w.collector.phase ≡ Freeing m → (a : Option Member) → m.at ≡ a → begun_at w.collector.counts.work a ≡ Some members → (0 < length members) × All (λ slot. slot < w.config.slots) members
    begun m e None at is = absurd (cc)
    begun m e (Some a) at is = first m a e at (a.index + a.field == 0) is

    go : (phase : Phase) → w.collector.phase ≡ phase → passed_in w.collector phase ≡ Some members → (0 < length members) × All (λ slot. slot < w.config.slots) members
    go (Freeing m) e is = begun m e m.at refl is
    go _ e is = absurd (cc)

-- and they are taken
pub shown_is_taken : (w : Core) (members : List ℕ) (slot : ℕ) → IsKept true w → passed_of w.collector ≡ Some members → 0 < times slot members → 0 < slice_index_or w.headers slot 0
shown_is_taken w members slot kept passed member = elim (cases_lt 0 (slice_index_or w.headers slot 0)) [
  | inl taken ↦ taken
  | inr none ↦ go w.collector.phase refl passed none
]
  where
    gone : AreGone w
    gone = given_up_are_gone w kept

    freed : (freeing : IsFreeingIn w.collector.phase) → w.collector.counts.work ≡ members → slice_index_or w.headers slot 0 ≤ 0 → 0 < slice_index_or w.headers slot 0
    freed freeing same none =
        let there : 0 < times slot w.collector.counts.work = subst (λ xs. 0 < times slot xs) (sym same) member in
        let below : slot < w.config.slots = omega (arith, in_range_once (length w.collector.counts.slots) w.collector.counts.work slot kept.collector.machine.counts.work_once there, kept.collector.slots) in
        let at : slot + 1 - 1 ≡ slot = omega arith in
        let free : (pending w).free (slot + 1) ≡ true = ap (λ n. slice_index_or w.headers n 0 == 0) at ∙ eq-eqb (slice_index_or w.headers slot 0) 0 (omega (arith, none)) in
        let released : (pending w).released (slot + 1) ≡ true = ap (λ (v : Slot). v.released) (slot_there w kept slot below) ∙ gone.members freeing slot there in
        absurd (false≢true (sym (kept.accounted.apart (slot + 1) (omega arith) free) ∙ released))

    first : (freeing : IsFreeingIn w.collector.phase) (b : Bool) → ◌≡◌ {A = Option (List ℕ)} (if b then Some w.collector.counts.work else None) (Some members) → slice_index_or w.headers slot 0 ≤ 0 → 0 < slice_index_or w.headers slot 0
    first freeing true is none = freed freeing (cc) none
    first freeing false is none = absurd (cc)

    begun : (freeing : IsFreeingIn w.collector.phase) (a : Option Member) → begun_at w.collector.counts.work a ≡ Some members → slice_index_or w.headers slot 0 ≤ 0 → 0 < slice_index_or w.headers slot 0
    begun freeing None is none = absurd (cc)
    begun freeing (Some a) is none = first freeing (a.index + a.field == 0) is none

    go : (phase : Phase) → w.collector.phase ≡ phase → passed_in w.collector phase ≡ Some members → slice_index_or w.headers slot 0 ≤ 0 → 0 < slice_index_or w.headers slot 0
    go (Freeing m) e is none = begun (subst IsFreeingIn (sym e) tt) m.at is none
    go _ e is none = absurd (cc)

-- a header is freed by a sweep alone
pub frees_while_sweeping : (w : Core) (slot : ℕ) → ◌≡◌ {A = Option Op} (next_of w.collector) (Some (ops.FreeHeader slot)) → (due : Option ℕ) × (n : ℕ) × (w.collector.phase ≡ Sweeping due n)
unfolding next_of next_at release_next freeing_next trial_next prep_next sweep_next
frees_while_sweeping w slot named = go w.collector.phase refl named
  where
    go : (phase : Phase) → w.collector.phase ≡ phase → ◌≡◌ {A = Option Op} (next_at w.collector phase) (Some (ops.FreeHeader slot)) → (due : Option ℕ) × (n : ℕ) × (w.collector.phase ≡ Sweeping due n)
    go Idle is e = absurd (stores_none (is_spent w.collector) (w.collector.epoch + 1) slot e)
    go (Releasing m) is e = absurd (releases_none m.fields slot m.at e)
    go (Freeing m) is e = absurd (frees_none m.fields slot m.at e)
    go (Trying m) is e = absurd (tries_none m slot m.phase e)
    go (Preparing m) is e = absurd (prepares_none m.fields slot m.at e)
    go (Sweeping due n) is e = (due, n, is)
    go _ is e = absurd (cc)

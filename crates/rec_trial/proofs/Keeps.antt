-- What a trial leaves of the counts as it was, from its start to its end and from word to word.
use Rattle.std.proofs.Common.{◌≡◌, ℕ, ◌*◌, ◌<◌, ◌≤◌, Bool, false, IsNone, IsSome, List, [], ◌++◌, length, refl, sym, ap, subst, ◌∙◌, arith}
use Rattle.std.specs.List.{filter}
use Rattle.rec_trial.proofs.Common.{State, slot_at, times, is_green, is_gray, is_white, Run, IsAtWork, run_of, IsReady, LeadsToVisible, released_among, Machine, Work, next_of, started_of, took_of}
use Rattle.rec_trial.specs.Tried.{IsCareful, IsOver, members}
use Rattle.rec_trial.proofs.AtWork.{run_none, took_at_work, took_before}
use Rattle.rec_trial.proofs.Views.{same_functions}
use Rattle.rec_trial.proofs.Whole.{whole_careful, whole_over}

-- no true count changes, and nothing is released; the released roots go to the free list as they leave the root buffer; no
-- member of a set is released
pub record KeepsCounts (s t : State) : Type 0 where
  pub counts : (x : ℕ) → (slot_at t x).count ≡ (slot_at s x).count
  pub released : (x : ℕ) → (slot_at t x).released ≡ (slot_at s x).released
  pub slots : length t.slots ≡ length s.slots
  pub zeros : t.zeros ≡ s.zeros
  pub free : t.free ++ released_among s t.roots ≡ s.free ++ released_among s s.roots
  pub members : (x : ℕ) → 0 < times x (members t) → (slot_at s x).released ≡ false
  pub green : (x : ℕ) → is_green (slot_at t x).colour ≡ is_green (slot_at s x).colour

-- at every moment, since the trial began
careful_keeps : {fields words : ℕ} {before : State} {r : Run} → IsCareful fields before words r → KeepsCounts before r.work.counts
careful_keeps c = record { counts = c.counts; released = c.released; slots = c.slots; zeros = c.zeros; free = c.free; members = c.sets_unreleased; green = c.green }

pub at_work_keeps : (m : Machine) (s : State) (a : IsAtWork m s) → KeepsCounts a.before s
at_work_keeps m s a = subst (λ (w : Work). KeepsCounts a.before w.counts) (sym a.is) (careful_keeps (whole_careful m.fields a.before a.words a.wide a.ready a.named))

-- so it does between two moments
pub same_among : (s t : State) → ((x : ℕ) → (slot_at t x).released ≡ (slot_at s x).released) → (xs : List ℕ) → released_among t xs ≡ released_among s xs
same_among s t h xs = ap (λ (f : ℕ → Bool). filtered f xs) (same_functions h)
  where
    filtered : (ℕ → Bool) → List ℕ → List ℕ
    filtered f xs = filter f xs

between : {b s t : State} → KeepsCounts b s → KeepsCounts b t → KeepsCounts s t
between {b} {s} {t} k l = record {
  counts = λ x. l.counts x ∙ sym (k.counts x);
  released = λ x. l.released x ∙ sym (k.released x);
  slots = l.slots ∙ sym k.slots;
  zeros = l.zeros ∙ sym k.zeros;
  free = ap (λ xs. t.free ++ xs) (same_among b s k.released t.roots) ∙ l.free ∙ sym k.free ∙ ap (λ xs. s.free ++ xs) (sym (same_among b s k.released s.roots));
  members = λ x h. k.released x ∙ l.members x h;
  green = λ x. l.green x ∙ sym (k.green x);
}

-- its start
pub started_keeps : (fields : ℕ) (s : State) → 0 < fields → IsReady s → KeepsCounts s (started_of fields s).counts
started_keeps fields s f r = subst (λ (w : Work). KeepsCounts s w.counts) (run_none fields s) (careful_keeps (whole_careful fields s [] f r tt))

-- one word
pub took_keeps : (m : Machine) (s : State) → IsAtWork m s → (word : ℕ) → LeadsToVisible s word → KeepsCounts s (took_of (record { machine = m; counts = s }) word).counts
took_keeps m s a word lead =
    let w : Work = took_of (record { machine = m; counts = s }) word in
    let n : IsAtWork w.machine w.counts = took_at_work m s a word lead w.machine w.counts refl in
    between (at_work_keeps m s a) (subst (λ (b : State). KeepsCounts b w.counts) (took_before m s a word lead w.machine w.counts refl) (at_work_keeps w.machine w.counts n))

-- a trial that is at work has loaded no more than three words a field
pub at_work_few : (m : Machine) (s : State) (a : IsAtWork m s) → IsSome (next_of m) → length a.words ≤ 3 * (length s.slots * m.fields)
at_work_few m s a b =
    let r : Run = run_of m.fields a.before a.words in
    let c : IsCareful m.fields a.before (length a.words) r = whole_careful m.fields a.before a.words a.wide a.ready a.named in
    let busy : IsSome (next_of r.work.machine) = subst (λ (w : Work). IsSome (next_of w.machine)) a.is b in
    let many : length a.before.slots * m.fields ≡ length s.slots * m.fields = ap (λ n. n * m.fields) (sym (at_work_keeps m s a).slots) in
    omega (arith, c.turns busy, c.marking_few, c.blackening_few, c.collecting_few, many)

-- what is left when it is over
pub record LeavesNothing (s : State) : Type 0 where
  pub roots : s.roots ≡ []
  pub marked : s.marked ≡ []
  pub work : s.work ≡ []
  pub no_gray : (x : ℕ) → is_gray (slot_at s x).colour ≡ false
  pub no_white : (x : ℕ) → is_white (slot_at s x).colour ≡ false

over_leaves : {fields : ℕ} {before : State} {r : Run} {marked : List ℕ} → IsOver fields before r marked → LeavesNothing r.work.counts
over_leaves o = record { roots = o.roots; marked = o.no_marked; work = o.no_work; no_gray = o.no_gray; no_white = o.no_white }

pub at_work_over : (m : Machine) (s : State) → IsAtWork m s → IsNone (next_of m) → LeavesNothing s
at_work_over m s a n =
    let o = whole_over m.fields a.before a.words a.wide a.ready a.named (subst (λ (w : Work). IsNone (next_of w.machine)) a.is n) in
    subst (λ (w : Work). LeavesNothing w.counts) (sym a.is) (over_leaves o.1)

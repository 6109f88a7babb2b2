-- A trial that goes on without a load: what holds of it, and what its next move requires.
use Rattle.std.proofs.Common.{◌≡◌, ℕ, ◌+◌, ◌<◌, Bool, true, false, eqb, ltb, cond, List, [], ◌∷◌, ◌++◌, length, refl, sym, ap, subst, ◌∙◌, arith}
use Rattle.std.specs.List.{concat}
use Rattle.std.proofs.lemmas.Bool.Decides.{nat_tests}
use Rattle.rec_trial.proofs.Common.{State, IsKept, slot_at, one, is_gray, roots_once, Phase, Idle, Marking, Scanning, Collecting, IsAtWork, GoesOn, begins, learns, run_of, IsReady, RulesAt, released_among, Machine, Work, is_due, moved_at, settled}
use Rattle.rec_trial.specs.Loaded.{HasMoved}
use Rattle.rec_counts.specs.Lists as in_counts
use Rattle.rec_counts.proofs.Times.{times-nil, times-cons, times-append, one-le}
use Rattle.rec_trial.proofs.Course.{Course, learnt_course, first_view, moved_course, released_same}
use Rattle.rec_trial.proofs.Deletion.{Loads}
use Rattle.rec_trial.proofs.Holding.{inv_at}
use Rattle.rec_trial.proofs.Rest.{Rest}
use Rattle.rec_trial.proofs.Runs.{Told, seen_in, opened_course, told_run}
use Rattle.rec_trial.proofs.Moving.{settled_at_once, settled_after}
use Rattle.rec_trial.proofs.Totals.{occurs}
use Rattle.rec_trial.proofs.Views.{view}

-- a trial began on counts that were ready for it, and came this far
pub record Midway (w : Work) : Type 0 where
  pub fields : ℕ
  pub before : State
  pub kept : IsKept before
  pub ready : IsReady before
  pub loads : Loads
  pub course : Course fields before w loads

-- a trial at work
pub at_work_told : (m : Machine) (s : State) (a : IsAtWork m s) → Told m.fields a.before (run_of m.fields a.before a.words)
at_work_told m s a = told_run m.fields a.before a.words a.wide a.ready a.named

pub at_work_course : (m : Machine) (s : State) (a : IsAtWork m s) → Course m.fields a.before (record { machine = m; counts = s }) (seen_in (run_of m.fields a.before a.words))
at_work_course m s a = subst (λ v. Course m.fields a.before v (seen_in (run_of m.fields a.before a.words))) (sym a.is) (at_work_told m s a).course

pub at_work_due : (m : Machine) (s : State) → IsAtWork m s → is_due (record { machine = m; counts = s }) ≡ true
at_work_due m s a = ap is_due a.is ∙ (at_work_told m s a).due

pub going_midway : {m : Machine} {s : State} → GoesOn m s → Midway (record { machine = m; counts = s })
going_midway (begins {fields} {s} f kept ready) = record { fields = fields; before = s; kept = kept; ready = ready; loads = _; course = opened_course fields s f ready }
going_midway (learns {m} {s} a busy word lead) = record { fields = m.fields; before = a.before; kept = a.kept; ready = a.ready; loads = _; course = learnt_course (record { machine = m; counts = s }) (at_work_course m s a) (at_work_due m s a) busy word lead }

-- the released ones of some slots
pub times_released : (x : ℕ) (s : State) (xs : List ℕ) → in_counts.times x (released_among s xs) ≡ cond (slot_at s x).released (in_counts.times x xs) 0
times_released x s [] = grind (arith, times-nil x)
times_released x s (y ∷ ys) = go (slot_at s y).released refl (times_released x s ys)
  where
    fit : {a b : ℕ} (m : ℕ) (out : Bool) → a ≡ cond (slot_at s x).released m 0 → (x ≡ y → (slot_at s x).released ≡ out) → b ≡ one (eqb x y) + m → cond out (one (eqb x y) + a) a ≡ cond (slot_at s x).released b 0
    fit m out r e b = grind (arith, nat_tests, e)

    go : (out : Bool) → (slot_at s y).released ≡ out → in_counts.times x (released_among s ys) ≡ cond (slot_at s x).released (in_counts.times x ys) 0 → in_counts.times x (released_among s (y ∷ ys)) ≡ cond (slot_at s x).released (in_counts.times x (y ∷ ys)) 0
    go true o r = rw (o, times-cons x y (released_among s ys)) (fit (in_counts.times x ys) true r (λ q. ap (λ z. (slot_at s z).released) q ∙ o) (times-cons x y ys))
    go false o r = rw o (fit (in_counts.times x ys) false r (λ q. ap (λ z. (slot_at s z).released) q ∙ o) (times-cons x y ys))

-- a released root is not in the free list yet
unlisted_now : (before s : State) → IsKept before → IsReady before → s.free ++ released_among before s.roots ≡ before.free ++ released_among before before.roots → ((x : ℕ) → 0 < in_counts.times x s.roots → 0 < in_counts.times x before.roots) →
    (x : ℕ) → 0 < in_counts.times x s.roots → (slot_at before x).released ≡ true → in_counts.times x s.free ≡ 0
unlisted_now before s kept ready e old x h r =
    let a : in_counts.times x (released_among before s.roots) ≡ in_counts.times x s.roots = times_released x before s.roots ∙ ap (λ b. cond b (in_counts.times x s.roots) 0) r in
    let b : in_counts.times x (released_among before before.roots) ≡ in_counts.times x before.roots = times_released x before before.roots ∙ ap (λ b. cond b (in_counts.times x before.roots) 0) r in
    omega (arith, a, b, h, ap (in_counts.times x) e, times-append x s.free (released_among before s.roots), times-append x before.free (released_among before before.roots), ready.unlisted x (old x h) r, roots_once kept x, one-le (ltb x (length before.slots)))

-- what the next move requires
module _ (w : Work) (m : Midway w) where
  rules_by : (p : Phase) → inv_at p (first_view m.fields m.before) (view w) m.loads → Rest m.before p w.counts → RulesAt p w.counts
  rules_by Idle i r = tt
  rules_by Marking i r = record {
    gray = λ x. occurs x w.counts.marked ∙ i.grays x;
    unlisted = λ x h o. unlisted_now m.before w.counts m.kept m.ready r.free (λ y k. omega (arith, occurs y m.before.roots, i.roots_old y (omega (arith, occurs y w.counts.roots, k)))) x h (sym (released_same w m.course x) ∙ o);
  }
  rules_by Scanning i r = record {
    work = λ x. omega (arith, occurs x w.counts.work, i.worked x);
    gray = λ x e. let n : one (is_gray (slot_at w.counts x).colour) ≡ 1 = ap one e in omega (arith, occurs x w.counts.marked, i.parts x);
  }
  rules_by Collecting i r = record {
    roots = r.no_roots;
    members = λ x. omega (arith, occurs x (concat w.counts.sets), i.oranges x);
    few = r.few;
  }

  pub rules_midway : RulesAt w.machine.phase w.counts
  rules_midway = rules_by w.machine.phase m.course.inv m.course.rest

  pub moved_midway : is_due w ≡ false → Midway (moved_at w.machine.phase w)
  moved_midway d = record { fields = m.fields; before = m.before; kept = m.kept; ready = m.ready; loads = m.loads; course = moved_course w m.course d }

-- what learning a word requires
pub at_work_midway : (m : Machine) (s : State) → IsAtWork m s → Midway (record { machine = m; counts = s })
at_work_midway m s a = record { fields = m.fields; before = a.before; kept = a.kept; ready = a.ready; loads = _; course = at_work_course m s a }

-- moves on the way to the next load
pub record OnTheWay (first now : Work) : Type 0 where
  pub midway : Midway now
  pub same : settled now ≡ settled first

pub moved_on : (first now : Work) → OnTheWay first now → is_due now ≡ false → OnTheWay first (moved_at now.machine.phase now)
moved_on first now o d = record { midway = moved_midway now o.midway d; same = sym (settled_after now d) ∙ o.same }

pub arrived : (first now : Work) → OnTheWay first now → is_due now ≡ true → now ≡ settled first
arrived first now o d = sym (settled_at_once now d) ∙ o.same

-- so after each of them
pub on_the_way : (first : Work) → GoesOn first.machine first.counts → (n : ℕ) (now : Work) → HasMoved first n now → OnTheWay first now
on_the_way first g n now HasMoved.none = record { midway = going_midway g; same = refl }
on_the_way first g n now (HasMoved.more i w h d) = moved_on first w (on_the_way first g i w h) d

-- one move more, in a phase that is known
pub moves_more : (first w v : Work) (n : ℕ) (phase : Phase) → HasMoved first n w → w.machine.phase ≡ phase → is_due w ≡ false → v ≡ moved_at phase w → HasMoved first (n + 1) v
moves_more first w v n phase h at d is = subst (λ (u : Work). HasMoved first (n + 1) u) (ap (λ (p : Phase). moved_at p w) at ∙ sym is) (HasMoved.more n w h d)

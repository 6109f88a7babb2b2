-- A trial begins, takes in words and is over; then the sets that it found are prepared, and a sweep follows: what that leaves of the
-- counts.
use Rattle.std.proofs.Common.{Bool, ◌≡◌, ℕ, ◌+◌, ◌*◌, ◌^◌, ◌<◌, ◌≤◌, Option, None, Some, IsSome, List, [], ◌∷◌, ◌++◌, length, refl, arith, sym, ◌∙◌, ap, subst, ◌≢◌, true, cond, ltb, IsNone, inl, inr}
use Rattle.std.proofs.lemmas.List.{length-append, length_push}
use Rattle.std.specs.List.{concat}
use Rattle.std.proofs.lemmas.Bool.{cases_Bool, cases_lt, false≢true}
use Rattle.rec_collector.proofs.Common.{Op, Slot, State, slot_at, times, one, length-once, one-le, times-append, times-nil, one-none, Orange, next_in, prep_started, prepared, prepared_at, sweep_phase, tried, tried_at, AreInPreparation, IsMachine, IsPreparing, IsSweeping, all_fields, AreOnTrial, IsListed, IsTrying, AreFew, AreTried, least_after, Parts, Private, parts_of, Phase, Preparing, Opening, Closing, Trying, told, listed}
use Rattle.rec_counts.specs.Counts.{IsKept as IsKeptCounts}
use Rattle.rec_counts.specs.Colour.{is_black}
use Rattle.rec_counts.specs.declared.colour.Colour.{Colour}
use Rattle.rec_release.specs.TakenOff.{IsApart}
use Rattle.rec_sigma.specs.declared.at.At.{At}
use Rattle.rec_sigma.specs.Prepared.{KeepsOthers, PreparedTo, loaded_at}
use Rattle.rec_sigma.proofs.Cyclics.{others_same}
use Rattle.rec_sigma.proofs.Runs.{Came, came_first, came_on, more_others, next_set_others}
use Rattle.rec_sigma.proofs.Kept.{others_kept}
use Rattle.rec_trial.specs.Loaded.{IsAtWork, Run, run_of}
use Rattle.rec_trial.specs.Rules.{IsReady, LeadsToVisible, released_among}
use Rattle.rec_trial.specs.Tried.{IsOver, members}
use Rattle.rec_trial.specs.Trial.{Machine as Trial, Work, next_of, started_of, took_of}
use Rattle.rec_trial.proofs.AtWork.{run_none, started_fields, took_at_work, took_before, took_fields, took_words}
use Rattle.rec_trial.proofs.Counted.{started_counted, took_counted}
use Rattle.rec_trial.proofs.Keeps.{KeepsCounts, LeavesNothing, at_work_few, at_work_keeps, at_work_over, started_keeps, took_keeps}
use Rattle.rec_trial.proofs.Midway.{times_released}
use Rattle.rec_trial.proofs.Whole.{whole_over}
use Rattle.rec_collector.specs.Zeros.{AreCounted}
use Rattle.rec_collector.proofs.Landing.{Fits, Lands, fits_all, landed, now_at, told_at}
use Rattle.rec_collector.proofs.Always.{loads_few}
use Rattle.rec_collector.proofs.Outside.{apart_on, untried_on, prepared_outside}
use Rattle.rec_collector.specs.Outside.{AreOutside}
use Rattle.rec_sigma.specs.Prepare as preps

-- What a trial has left holds still where no more than cyclic counts change.
others_tried : {least : ℕ} (s t : State) → KeepsOthers s t → AreTried least s → AreTried least t
others_tried {least} s t o k = record {
  untried = untried_on s t o.marked (λ x f black purple green h. ap (λ (u : Slot). f u.colour) (o.slots x) ∙ h) k.untried;
  apart = apart_on s t o.sets o.zeros (λ x e. (sym (ap (λ (u : Slot). u.colour) (o.slots x)) ∙ e, ap (λ (u : Slot). u.released) (o.slots x))) k.apart;
  counted = λ x r. omega (arith, ap (λ (u : Slot). u.count) (o.slots x), k.counted x (sym (ap (λ (u : Slot). u.released) (o.slots x)) ∙ r));
  zeros = o.zeros ∙ k.zeros;
  roots = subst (AreFew least) (sym o.roots) k.roots;
  work = o.work ∙ k.work;
  listed = λ x l r. rw o.free (k.listed x (omega (arith, l, o.many)) (sym (ap (λ (u : Slot). u.released) (o.slots x)) ∙ r));
  unbuffered = λ x l. ap (λ (u : Slot). u.buffered) (o.slots x) ∙ k.unbuffered x (subst (λ free. 0 < times x free) o.free l);
}

-- A collection has come so far in its preparation.
pub record HasPrepared (p : Private) (w : Parts) (v : preps.Work) : Type 0 where
  pub fields : v.machine.fields ≡ w.fields
  pub preparation : AreInPreparation (least_after w.postponed w.policy) v.counts v.machine
  pub open preparation use *
  pub counts : IsKeptCounts v.counts
  pub fits : Fits p (record w { counts = v.counts })
  pub turns : p.turns ≤ 1 + 2 * length p.newer + 4 * all_fields p + length loads
  pub told : told w.sets + length v.counts.sets ≤ 2 ^ 16 * (p.collections + 1)

-- it has begun
pub started_prepared : (p : Private) (w : Parts) → 0 < w.fields → AreTried (least_after w.postponed w.policy) w.counts → IsKeptCounts w.counts → Fits p w → p.turns ≤ 1 + 2 * length p.newer + 4 * all_fields p
    → told w.sets + length w.counts.sets ≤ 2 ^ 16 * (p.collections + 1) → HasPrepared p w (prep_started w)
unfolding preps.started_of
started_prepared p w wide t k fits turns told =
    let v : preps.Work = prep_started w in
    let c : Came w.fields w.counts v [] = came_first w.fields w.counts wide k.numbers in
    let o : KeepsOthers w.counts v.counts = next_set_others w.counts 0 in
    record {
      fields = refl;
      preparation = record { tried = others_tried w.counts v.counts o t; kept = c.work; before = w.counts; before_kept = k; loads = []; prepares = c.law };
      counts = others_kept w.counts _ o k;
      fits = record { slots = o.many ∙ fits.slots; fields = fits.fields; policy = fits.policy; few = fits.few };
      turns = omega (arith, turns);
      told = rw o.sets told;
    }

-- it has gone on
pub took_others : (w : preps.Work) (word : ℕ) → KeepsOthers w.counts (preps.took_of w word).counts
unfolding preps.took_of
took_others w word = elim w.machine.at as (λ at. KeepsOthers w.counts (preps.took_at w word at).counts) [ None ↦ others_same w.counts | Some a ↦ more_others w.machine.fields a w.counts word ]

loaded_one : (at : Option At) (word : ℕ) → IsSome at → length (loaded_at at word) ≡ 1
loaded_one None word b = cc
loaded_one (Some a) word b = refl

pub took_prepared : (p : Private) (m : preps.Machine) (word : ℕ) → IsMachine p → p.phase ≡ Preparing m → HasPrepared p (parts_of p) (preps.took_of (record { machine = m; counts = p.counts }) word)
took_prepared p m word k e =
    let a : IsPreparing p m = now_at p (Preparing m) k e in
    let w : preps.Work = record { machine = m; counts = p.counts } in
    let c : Came m.fields a.before (preps.took_of w word) (a.loads ++ loaded_at m.at word) =
    came_on m.fields a.before w a.loads word a.before_kept.numbers (record { fields_kept = refl; work = a.kept; law = a.prepares }) in
    let o : KeepsOthers p.counts (preps.took_of w word).counts = took_others w word in
    record {
      fields = c.fields_kept ∙ a.fields;
      preparation = record {
        tried = others_tried p.counts (preps.took_of w word).counts o a.tried;
        kept = c.work;
        before = a.before;
        before_kept = a.before_kept;
        loads = a.loads ++ loaded_at m.at word;
        prepares = rw c.fields_kept c.law;
      };
      counts = others_kept p.counts _ o k.counts;
      fits = record { slots = o.many; fields = refl; policy = refl; few = k.postponed };
      turns = omega (arith, a.turns, length-append a.loads (loaded_at m.at word), loaded_one m.at word a.busy);
      told = rw o.sets (told_at p (Preparing m) k e);
    }

-- a sweep follows, or has ended
sweep_follows : (p : Private) (w : Parts) (v : preps.Work) (phase : Phase) (made : ℕ) → HasPrepared p w v → v.machine.at ≡ None → IsSweeping (landed p (next_in phase (record w { counts = v.counts }))) 0 made
sweep_follows p w v phase made h e = record {
  before = record { tried = h.tried; outside = subst (λ n. AreOutside n v.counts) h.fields (prepared_outside v.machine.fields h.before v.counts h.loads h.before_kept (subst (λ (at : Option At). PreparedTo v.machine.fields h.before at v.counts h.loads) e h.prepares)) };
  left = omega (arith, length-once (length v.counts.slots) v.counts.free h.counts.free_once);
  turns = omega (arith, h.turns, fits_all p (record w { counts = v.counts }) h.fits, loads_few v.machine.fields h.before v.machine.at v.counts h.loads h.before_kept h.prepares, ap (λ n. length v.counts.slots * n) h.fields);
}

-- what follows
pub prepared_lands : (p : Private) (w : Parts) (v : preps.Work) → HasPrepared p w v → Lands p (prepared w v)
unfolding prepared
prepared_lands p w v h = go v.machine.at refl
  where
    u : Parts
    u = record w { counts = v.counts }

    swept : (free : List ℕ) → v.counts.free ≡ free → v.machine.at ≡ None → Lands p (next_in (sweep_phase free) u)
    swept [] f e = record { counts = h.counts; fits = h.fits; told = h.told; now = (sweep_follows p w v (Closing 0) 1 h e, f) }
    swept (x ∷ xs) f e = record { counts = h.counts; fits = h.fits; told = h.told; now = (sweep_follows p w v Opening 0 h e, omega (arith, ap length f)) }

    go : (at : Option At) → v.machine.at ≡ at → Lands p (prepared_at u v.machine at)
    go None e = swept v.counts.free refl e
    go (Some a) e = record {
      counts = h.counts;
      fits = h.fits;
      told = h.told;
      now = record { fields = h.fields; preparation = h.preparation; busy = subst (λ (o : Option At). IsSome o) (sym e) refl; turns = omega (arith, h.turns, fits_all p u h.fits) };
    }

module _ (s t : State) (k : KeepsCounts s t) (old : IsKeptCounts s) (new : IsKeptCounts t) (l : IsListed s) where
  -- the released ones among the roots
  among : (x : ℕ) (xs : List ℕ) {b : Bool} → (slot_at s x).released ≡ b → times x (released_among s xs) ≡ cond b (times x xs) 0
  among x xs r = times_released x s xs ∙ ap (λ b. cond b (times x xs) 0) r

  moves : (x : ℕ) → times x t.free + times x (released_among s t.roots) ≡ times x s.free + times x (released_among s s.roots)
  moves x = omega (arith, ap (times x) k.free, times-append x t.free (released_among s t.roots), times-append x s.free (released_among s s.roots))

  -- a released slot goes from the root buffer to the free list
  released_stays : (x : ℕ) → (slot_at s x).released ≡ true → times x t.free + times x t.roots ≡ times x s.free + times x s.roots
  released_stays x r = omega (arith, moves x, among x t.roots r, among x s.roots r)

  -- and no other one does
  released_alone : (x : ℕ) → 0 < times x t.free → (slot_at s x).released ≡ true
  released_alone x h = elim (cases_Bool (slot_at s x).released) [ inl r ↦ r | inr r ↦ l.only x (omega (arith, h, moves x, among x s.roots r)) ]

  -- it was in one of them, and once
  listed_once : (x : ℕ) → times x s.free + times x s.roots ≤ 1
  listed_once x = elim (cases_lt 0 (times x s.free)) [
    | inl h ↦ let n : one (slot_at s x).buffered ≡ 0 = ap one (l.unbuffered x h) in omega (arith, old.buffers x, n, old.free_once x, one-le (ltb x (length s.slots)))
    | inr h ↦ omega (arith, h, old.buffers x, one-le (slot_at s x).buffered)
  ]

  no_member : (x : ℕ) → (slot_at s x).released ≡ true → times x (concat t.sets) ≡ 0
  no_member x r = elim (cases_lt 0 (times x (concat t.sets))) [
    | inl h ↦ absurd (false≢true (sym (k.members x h) ∙ r))
    | inr h ↦ omega (arith, h)
  ]

  pub still_listed : IsListed t
  still_listed = record {
    listed = λ x h r.
        let q : (slot_at s x).released ≡ true = sym (k.released x) ∙ r in
        omega (arith, released_stays x q, l.listed x (omega (arith, h, k.slots)) q);
    only = λ x h. k.released x ∙ released_alone x h;
    unbuffered = λ x h.
        let r : (slot_at s x).released ≡ true = released_alone x h in
        one-none (slot_at t x).buffered (omega (arith, new.buffers x, no_member x r, released_stays x r, listed_once x, h));
  }

-- Where no slot was Orange as a trial began, just the members of its sets are once it is over.
orange_member : {fields : ℕ} {before : State} {r : Run} {marked : List ℕ} → IsOver fields before r marked → ((x : ℕ) → (slot_at before x).colour ≢ Orange)
    → (x : ℕ) → (slot_at r.work.counts x).colour ≡ Orange → 0 < times x (members r.work.counts)
orange_member {fields} {before} {r} {marked} o none x e = elim (cases_lt 0 (times x marked)) [
  | inl l ↦ let b : one (is_black (slot_at r.work.counts x).colour) ≡ 0 = ap (λ (c : Colour). one (is_black c)) e in omega (arith, b, o.member_or_black x l)
  | inr l ↦ absurd (none x (sym (o.others x (omega (arith, l))) ∙ e))
]

over_apart : (m : Trial) (s : State) (a : IsAtWork m s) → IsNone (next_of m) → ((x : ℕ) → (slot_at a.before x).colour ≢ Orange) → s.zeros ≡ [] → IsApart s
over_apart m s a n none z = λ x e.
    let o = whole_over m.fields a.before a.words a.wide a.ready a.named (subst (λ (w : Work). IsNone (next_of w.machine)) a.is n) in
    let all : (y : ℕ) → (slot_at s y).colour ≡ Orange → 0 < times y (members s) =
    subst (λ (w : Work). (y : ℕ) → (slot_at w.counts y).colour ≡ Orange → 0 < times y (members w.counts)) (sym a.is) (orange_member o.1 none) in
    let k : KeepsCounts a.before s = at_work_keeps m s a in
    record { member = all x e; no_zero = ap (times x) z ∙ times-nil x; unreleased = k.released x ∙ k.members x (all x e) }

-- A collection has come so far in its trial.
pub record HasTried (p : Private) (w : Parts) (v : Work) : Type 0 where
  pub fields : v.machine.fields ≡ w.fields
  pub on_trial : AreOnTrial v.counts v.machine
  pub open on_trial use *
  pub counts : IsKeptCounts v.counts
  pub wide : 0 < w.fields
  pub fits : Fits p (record w { counts = v.counts })
  pub turns : p.turns ≤ 2 * length p.newer + all_fields p + length kept.words
  pub few : length kept.words ≤ 3 * all_fields p + 1
  pub told : told w.sets ≤ 2 ^ 16 * p.collections

-- no true count changes
pub counted_on : (s t : State) → KeepsCounts s t → AreCounted s → AreCounted t
counted_on s t k c = λ x r. omega (arith, k.counts x, c x (sym (k.released x) ∙ r))

-- it has begun
pub started_tried : (p : Private) (w : Parts) → 0 < w.fields → IsReady w.counts → IsKeptCounts w.counts → IsListed w.counts → ((x : ℕ) → (slot_at w.counts x).colour ≢ Orange) → AreCounted w.counts → w.counts.zeros ≡ []
    → Fits p w → p.turns ≤ 2 * length p.newer + all_fields p → told w.sets ≤ 2 ^ 16 * p.collections → HasTried p w (started_of w.fields w.counts)
started_tried p w wide ready k listed none counted zeros fits turns told =
    let v : Work = started_of w.fields w.counts in
    let keeps : KeepsCounts w.counts v.counts = started_keeps w.fields w.counts wide ready in
    let fields : v.machine.fields ≡ w.fields = started_fields w.fields w.counts wide ready in
    let counts : IsKeptCounts v.counts = started_counted w.fields w.counts wide k ready in
    record {
      fields = fields;
      on_trial = record {
        kept = record { wide = omega (arith, wide, fields); before = w.counts; words = []; kept = k; ready = ready; named = tt; is = sym (run_none w.fields w.counts) ∙ ap (λ n. (run_of n w.counts []).work) (sym fields) };
        uncoloured = none;
        counted = counted_on w.counts v.counts keeps counted;
        zeros = keeps.zeros ∙ zeros;
        places = still_listed w.counts v.counts keeps k counts listed;
      };
      counts = counts;
      wide = wide;
      fits = record { slots = keeps.slots ∙ fits.slots; fields = fits.fields; policy = fits.policy; few = fits.few };
      turns = omega (arith, turns);
      few = omega arith;
      told = told;
    }

-- it has gone on
pub took_tried : (p : Private) (m : Trial) (word : ℕ) → IsMachine p → p.phase ≡ Trying m → LeadsToVisible p.counts word → HasTried p (parts_of p) (took_of (record { machine = m; counts = p.counts }) word)
took_tried p m word k e l =
    let v : Work = took_of (record { machine = m; counts = p.counts }) word in
    let a : IsTrying p m = now_at p (Trying m) k e in
    let keeps : KeepsCounts p.counts v.counts = took_keeps m p.counts a.kept word l in
    let counts : IsKeptCounts v.counts = took_counted m p.counts a.kept a.busy word l k.counts in
    let more : length (took_at_work m p.counts a.kept word l v.machine v.counts refl).words ≡ length a.kept.words + 1 = ap length (took_words m p.counts a.kept word l v.machine v.counts refl) ∙ length_push a.kept.words word in
    record {
      fields = took_fields m p.counts a.kept word l ∙ a.fields;
      on_trial = record {
        kept = took_at_work m p.counts a.kept word l v.machine v.counts refl;
        uncoloured = subst (λ (b : State). (x : ℕ) → (slot_at b x).colour ≢ Orange) (sym (took_before m p.counts a.kept word l v.machine v.counts refl)) a.uncoloured;
        counted = counted_on p.counts v.counts keeps a.counted;
        zeros = keeps.zeros ∙ a.zeros;
        places = still_listed p.counts v.counts keeps k.counts counts a.places;
      };
      counts = counts;
      wide = k.some_fields;
      fits = record { slots = keeps.slots; fields = refl; policy = refl; few = k.postponed };
      turns = omega (arith, a.turns, more);
      few = omega (arith, more, at_work_few m p.counts a.kept a.busy, ap (λ n. length p.counts.slots * n) a.fields);
      told = told_at p (Trying m) k e;
    }

-- it is over
over_tried : (p : Private) (w : Parts) (v : Work) → HasTried p w v → IsNone (next_of v.machine) → AreTried (least_after w.postponed w.policy) v.counts
over_tried p w v h n =
    let l : LeavesNothing v.counts = at_work_over v.machine v.counts h.kept n in
    record {
      untried = record { marked = l.marked; no_gray = l.no_gray; no_white = l.no_white };
      apart = over_apart v.machine v.counts h.kept n h.uncoloured h.zeros;
      counted = h.counted;
      zeros = h.zeros;
      roots = inr l.roots;
      work = l.work;
      listed = λ x i t. omega (arith, h.listed x i t, ap (times x) l.roots, times-nil x);
      unbuffered = h.unbuffered;
    }

-- what follows
pub tried_lands : (p : Private) (w : Parts) (v : Work) → HasTried p w v → Lands p (tried w v)
unfolding tried
tried_lands p w v h = go (next_of v.machine) refl
  where
    u : Parts
    u = record w { counts = v.counts }

    go : (op : Option Op) → next_of v.machine ≡ op → Lands p (tried_at u v.machine op)
    go (Some o) e = record {
      counts = h.counts;
      fits = h.fits;
      told = h.told;
      now = record { fields = h.fields; on_trial = h.on_trial; busy = subst (λ (op : Option Op). IsSome op) (sym e) refl; turns = omega (arith, h.turns, fits_all p u h.fits) };
    }
    go None e = prepared_lands p u (prep_started u) (
        started_prepared p u h.wide (over_tried p w v h (subst (λ (op : Option Op). IsNone op) (sym e) refl)) h.counts h.fits (omega (arith, h.turns, h.few)) (omega (arith, h.told, h.counts.few_sets, h.counts.few_slots))
        )

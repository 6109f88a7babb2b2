-- A sweep goes on, and a collection ends.
use Rattle.std.proofs.Common.{◌≡◌, ap, sym, subst, ◌∙◌, ℕ, ◌+◌, ◌*◌, ◌^◌, ◌<◌, ◌≤◌, true, eqb, inl, inr, Option, None, Some, IsSome, List, [], ◌∷◌, length, map, drop, slice_get, refl, arith, false, is_some}
use Rattle.std.proofs.lemmas.List.{length-set, length-map, get_or-set_same, get_or-set_other}
use Rattle.std.proofs.lemmas.Bool.{false≢true}
use Rattle.std.proofs.lemmas.Bool.Decides.{eqb_tells}
use Rattle.rec_collector.proofs.Common.{Slot, one, times, State, slot_at, absent, swept_clean, times-cons, written, IsMachine, ArePrepared, IsAt, IsSweeping, AreTried, Private, Phase, cleared, ended, moved, swept_phase, swept_one, took_at, Opening, Sweeping, Closing}
use Rattle.rec_counts.specs.Counts.{IsKept as IsKeptCounts}
use Rattle.rec_release.specs.Sweep.{swept, took_of, started_of, next_of}
use Rattle.rec_release.proofs.Sweeping.{unbuffered_swept}
use Rattle.rec_collector.specs.Inside.{private}
use Rattle.rec_collector.specs.declared.machine.Machine.TheInside.{Inside}
use Rattle.rec_collector.specs.Zeros.{AreCounted}
use Rattle.rec_collector.proofs.Landing.{machine_on, freed_at, now_at, told_at, under_way_at}
use Rattle.rec_collector.proofs.Outside.{apart_on, unlike_was, untried_moved, outside_on, swept_lowers}
use Rattle.rec_collector.proofs.Rows.{cleared_sized, cleared_spares}
use Rattle.rec_release.specs.Sweep as sweeps

-- the same fields make up the same machine
pub same_machine : {i j : Inside} → i ≡ j → IsMachine (private j) → IsMachine (private i)
same_machine e k = subst (λ i. IsMachine (private i)) (sym e) k

pub same_phase : {i j : Inside} {p : Private} {phase : Phase} → i ≡ j → private j ≡ p → p.phase ≡ phase → i.phase ≡ phase
same_phase e v is = ap (λ (i : Inside). i.phase) e ∙ ap (λ (p : Private). p.phase) v ∙ is

-- a sweep begins
pub opening_keeps : (p : Private) → IsMachine p → p.phase ≡ Opening → IsMachine (took_at p 0 Opening)
unfolding took_at started_of
opening_keeps p k e =
    let a : IsAt p Opening = now_at p Opening k e in
    machine_on p p.epoch p.counts p.freed (Sweeping (slice_get p.counts.free 0) 0) k k.epoch (under_way_at p Opening k e) (freed_at p Opening k e) k.counts (told_at p Opening k e)
    (record { before = a.0.before; left = a.0.left; turns = omega (arith, a.0.turns) }, a.1, refl)

first_gone : (free : List ℕ) (x y : ℕ) → slice_get free 0 ≡ Some x → times y free ≡ one (eqb y x) + times y (drop 1 free)
first_gone [] x y e = cc
first_gone (z ∷ zs) x y e = let q : z ≡ x = cc in times-cons y z zs ∙ ap (λ n. one (eqb y n) + times y zs) q

-- a swept slot is not released, and every other released slot is in the free list still
swept_listed : (s : State) (x : ℕ) → slice_get s.free 0 ≡ Some x → ((y : ℕ) → y < length s.slots → (slot_at s y).released ≡ true → 0 < times y s.free)
    → (y : ℕ) → y < length (swept s x).slots → (slot_at (swept s x) y).released ≡ true → 0 < times y (drop 1 s.free)
swept_listed s x first k y l t = elim (eqb_tells y x) [
  | inl q ↦
      let there : x < length s.slots = omega (arith, l, q.1, length-set s.slots x (swept_clean (slot_at s x))) in
      absurd (false≢true (sym (ap (λ z. (slot_at (swept s x) z).released) q.1 ∙ ap (λ (v : Slot). v.released) (get_or-set_same s.slots x (swept_clean (slot_at s x)) absent there)) ∙ t))
  | inr q ↦
      let other : one (eqb y x) ≡ 0 = ap one q.0 in
      let was : (slot_at s y).released ≡ true = sym (ap (λ (v : Slot). v.released) (get_or-set_other s.slots x y (swept_clean (slot_at s x)) absent q.1)) ∙ t in
      omega (arith, other, first_gone s.free x y first, k y (omega (arith, l, length-set s.slots x (swept_clean (slot_at s x)))) was)
]

-- a swept slot has one count
swept_counted : (s : State) (x : ℕ) → AreCounted s → AreCounted (swept s x)
swept_counted s x c = λ y r. elim (written s x (swept_clean (slot_at s x)) y) [
  | inl q ↦ omega (arith, ap (λ (v : Slot). v.count) q.1)
  | inr q ↦ omega (arith, ap (λ (v : Slot). v.count) q, c y (ap (λ (v : Slot). v.released) (sym q) ∙ r))
]

swept_tried : {least : ℕ} (s : State) (x : ℕ) → slice_get s.free 0 ≡ Some x → AreTried least s → AreTried least (swept s x)
swept_tried s x first t = record {
  untried = untried_moved s (swept s x) refl (swept_lowers s x) t.untried;
  apart = apart_on s (swept s x) refl refl (unlike_was s x (swept_clean (slot_at s x)) (λ o. cc)) t.apart;
  counted = swept_counted s x t.counted;
  zeros = t.zeros;
  roots = t.roots;
  work = t.work;
  listed = swept_listed s x first t.listed;
  unbuffered = unbuffered_swept s x t.unbuffered;
}

swept_prepared : {least : ℕ} (fields : ℕ) (s : State) (x : ℕ) → slice_get s.free 0 ≡ Some x → ArePrepared least fields s → ArePrepared least fields (swept s x)
swept_prepared fields s x first k = record { tried = swept_tried s x first k.tried; outside = outside_on s (swept s x) (swept_lowers s x) k.outside }

-- a slot more is swept
swept_keeps_on : (p : Private) (due : Option ℕ) (n x : ℕ) (r : List ℕ) → IsMachine p → p.phase ≡ Sweeping due n → slice_get p.counts.free 0 ≡ Some x → drop 1 p.counts.free ≡ r → length p.counts.free ≡ length r + 1
    → IsKeptCounts (swept p.counts x) → IsMachine (moved (record p { counts = swept p.counts x; freed = p.freed + 1 }) (swept_phase (n + 1) (slice_get r 0)))
swept_keeps_on p due n x r k e first left len s = go r left len
  where
    a : IsAt p (Sweeping due n)
    a = now_at p (Sweeping due n) k e

    many : length (swept p.counts x).slots ≡ length p.counts.slots
    many = length-set p.counts.slots x (swept_clean (slot_at p.counts x))

    after : (ys : List ℕ) → Private
    after ys = moved (record p { counts = swept p.counts x; freed = p.freed + 1 }) (swept_phase (n + 1) (slice_get ys 0))

    on : (ys : List ℕ) → drop 1 p.counts.free ≡ ys → length p.counts.free ≡ length ys + 1 → IsSweeping (after ys) (n + 1) (n + 1 + 1)
    on ys l m = record {
      before = swept_prepared p.fields p.counts x first a.0.before;
      left = omega (arith, a.0.left, m, many, ap length l);
      turns = omega (arith, a.0.turns, ap (λ m. m * p.fields) many);
    }

    go : (ys : List ℕ) → drop 1 p.counts.free ≡ ys → length p.counts.free ≡ length ys + 1 → IsMachine (after ys)
    go [] l m = machine_on p p.epoch (swept p.counts x) (p.freed + 1) (Closing (n + 1)) k k.epoch (under_way_at p (Sweeping due n) k e) (omega (arith, freed_at p (Sweeping due n) k e)) s (told_at p (Sweeping due n) k e) (on [] l m, l)
    go (y ∷ ys) l m =
        machine_on p p.epoch (swept p.counts x) (p.freed + 1) (Sweeping (Some y) (n + 1)) k k.epoch (under_way_at p (Sweeping due n) k e) (omega (arith, freed_at p (Sweeping due n) k e)) s (told_at p (Sweeping due n) k e)
        (on (y ∷ ys) l m, omega (arith, ap length l), sym (ap (λ zs. slice_get zs 0) l))

-- a slot is due while any is left
pub due_slot : (free : List ℕ) (due : Option ℕ) → 0 < length free → due ≡ slice_get free 0 → IsSome (next_of due)
unfolding next_of
due_slot [] due l e = absurd (omega (arith, l))
due_slot (x ∷ rest) due l e = rw e refl

pub sweeping_keeps : (p : Private) (due : Option ℕ) (n word : ℕ) → IsMachine p → p.phase ≡ Sweeping due n → IsKeptCounts (took_of (record { due = due; counts = p.counts }) word).counts → IsMachine (took_at p word (Sweeping due n))
unfolding took_at took_of
sweeping_keeps p due n word k e s = go p.counts.free refl
  where
    a : IsAt p (Sweeping due n)
    a = now_at p (Sweeping due n) k e

    go : (free : List ℕ) → p.counts.free ≡ free → IsMachine (took_at p word (Sweeping due n))
    go [] f = absurd (omega (arith, a.1, ap length f))
    go (x ∷ rest) f =
        let d : due ≡ Some x = a.2 ∙ ap (λ xs. slice_get xs 0) f in
        let w : took_of (record { due = due; counts = p.counts }) word ≡ record { due = slice_get (drop 1 p.counts.free) 0; counts = swept p.counts x } = ap (λ o. sweeps.took_at (record { due = o; counts = p.counts }) o) d in
        let t : IsKeptCounts (swept p.counts x) = subst (λ (v : sweeps.Work). IsKeptCounts v.counts) w s in
        let r : drop 1 p.counts.free ≡ rest = ap (drop 1) f in
        subst (λ (v : sweeps.Work). IsMachine (swept_one p n v)) (sym w) (swept_keeps_on p due n x (drop 1 p.counts.free) k e (ap (λ xs. slice_get xs 0) f) refl (omega (arith, ap length f, ap length r)) t)

-- the collection is complete
pub ended_keeps : (p : Private) (n : ℕ) → IsMachine p → p.phase ≡ Closing n → IsMachine (ended p)
ended_keeps p n k e =
    let a : IsAt p (Closing n) = now_at p (Closing n) k e in
    let d : p.freed ≤ 2 ^ 16 * p.collections + n = freed_at p (Closing n) k e in
    let m : length (map cleared p.older) ≡ length p.newer = length-map p.older cleared ∙ k.both in
    record {
      epoch = k.epoch;
      collections = omega (arith, under_way_at p (Closing n) k e);
      freed = omega (arith, d, a.0.left, k.counts.few_slots);
      some_fields = k.some_fields;
      few_fields = k.few_fields;
      rows = record { mutators = omega (arith, k.mutators, m); few = omega (arith, k.few, m); both = sym m; newer = cleared_sized p p.older k.older; older = k.newer };
      left = k.left ∙ sym m;
      counts = k.counts;
      told = omega (arith, told_at p (Closing n) k e);
      postponed = k.postponed;
      now = (
        record { prepared = a.0.before; free = a.1 },
        cleared_spares p 0 k.older,
        refl,
      );
    }

-- a sweep that begins, and one that goes on, as their calls tell
pub opening_on : (p : Private) (w : sweeps.Work) → IsMachine p → p.phase ≡ Opening → w ≡ started_of p.counts → IsMachine (moved (record p { counts = w.counts }) (Sweeping w.due 0))
unfolding took_at
opening_on p w k e q = subst (λ (v : sweeps.Work). IsMachine (moved (record p { counts = v.counts }) (Sweeping v.due 0))) (sym q) (opening_keeps p k e)

pub slot_due : (p : Private) (due : Option ℕ) (n : ℕ) → IsMachine p → p.phase ≡ Sweeping due n → IsSome (next_of due)
slot_due p due n k e = due_slot p.counts.free due (now_at p (Sweeping due n) k e).1 (now_at p (Sweeping due n) k e).2

pub sweeping_on : (p : Private) (due : Option ℕ) (n word : ℕ) (w : sweeps.Work) (phase : Phase) → IsMachine p → p.phase ≡ Sweeping due n → w ≡ took_of (record { due = due; counts = p.counts }) word → IsKeptCounts w.counts → phase ≡ swept_phase (n + 1) w.due
    → IsMachine (moved (record p { counts = w.counts; freed = p.freed + 1 }) phase)
unfolding took_at
sweeping_on p due n word w phase k e q s f =
    let kept : IsKeptCounts (took_of (record { due = due; counts = p.counts }) word).counts = subst (λ (v : sweeps.Work). IsKeptCounts v.counts) q s in
    subst (λ (g : Phase). IsMachine (moved (record p { counts = w.counts; freed = p.freed + 1 }) g)) (sym f) (subst (λ (v : sweeps.Work). IsMachine (swept_one p n v)) (sym q) (sweeping_keeps p due n word k e kept))

-- the phase that follows, by whether a slot is due
pub sweeps_last : (n : ℕ) (due : Option ℕ) → is_some (next_of due) ≡ false → Closing n ≡ swept_phase n due
unfolding next_of
sweeps_last n None e = refl
sweeps_last n (Some x) e = absurd (false≢true (sym e))

pub sweeps_more : (n : ℕ) (due : Option ℕ) → is_some (next_of due) ≡ true → Sweeping due n ≡ swept_phase n due
unfolding next_of
sweeps_more n (Some x) e = refl
sweeps_more n None e = absurd (false≢true e)

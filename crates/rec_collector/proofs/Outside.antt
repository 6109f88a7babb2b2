-- What each move leaves of the outside counts: an orange member is as it was, or was lowered. A batch takes its colour from every
-- orange slot that it names, and leaves every slot that it does not name as it was.
use Rattle.std.proofs.Common.{◌≡◌, ℕ, ◌+◌, ◌-◌, ◌<◌, Bool, true, false, eqb, Option, None, Some, IfSome, List, [], ◌∷◌, length, refl, arith, sym, ◌∙◌, ap, subst, inl, inr, ◌≢◌}
use Rattle.std.specs.List.{concat}
use Rattle.std.proofs.lemmas.Bool.{cases_lt, false≢true}
use Rattle.std.proofs.lemmas.List.{append-nil, get_or_past}
use Rattle.std.proofs.lemmas.Option.{none-some}
use Rattle.rec_collector.proofs.Common.{Contents, Black, Orange, Purple, Green, Slot, State, IsKept, slot_at, with_slot, sent, times, is_in, lessened, lessened_if, lowered, due_of, swept_clean, unbuffered_if, absent, stays, dead_if, given_up, without_first, listed_if, next_from, written, refurbished, LastRefurbished, IsUntried, IsAt, IsMachine, NoneReleased, Private, Phase, Looking, Swapping, Returning, Releasing, Freeing, Trying, Preparing}
use Rattle.rec_word.specs.Place.{places_of}
use Rattle.rec_counts.specs.declared.colour.Colour.{Colour}
use Rattle.rec_counts.specs.Colour.{is_gray, is_white, in_use}
use Rattle.rec_counts.specs.declared.slot.Due.{Due}
use Rattle.rec_counts.specs.declared.slot.Due.TheVariants.{Nothing, Zero, Root}
use Rattle.rec_counts.specs.Groups.{last_set}
use Rattle.rec_counts.proofs.Keeping.{set_there}
use Rattle.rec_counts.proofs.Decrementing.{stays_released}
use Rattle.rec_word.specs.Load.{Load}
use Rattle.rec_counts.specs.Batch.{is_touched, names, IsBatch}
use Rattle.rec_counts.proofs.Touching.{touched_orange}
use Rattle.rec_release.specs.Sweep.{swept}
use Rattle.rec_release.specs.TakenOff.{down_if, is_lowered, taken_off, IsApart, IsMember}
use Rattle.rec_release.proofs.Giving.{given_slot}
use Rattle.rec_sigma.specs.declared.fate.Fate.{Fate}
use Rattle.rec_sigma.specs.declared.fate.Fate.TheVariants as fates
use Rattle.rec_sigma.specs.Prepared.{PreparedTo, seen}
use Rattle.rec_collector.specs.Outside.{AreOutside, IsOutside, HasSets}
use Rattle.rec_release.proofs.Keeping.{each_zero}

-- the member was one before, and so many references were taken off its counts
pub record WasMember (number : ℕ) (u v : Slot) : Type 0 where
  pub set : u.set ≡ Some number
  pub colour : u.colour ≡ Orange
  pub by : ℕ
  pub count : v.count + by ≡ u.count
  pub cyclic : v.cyclic ≡ u.cyclic - by

-- A slot after a move: where it is an orange member it was one before; and it has no colour that it hadn't but Black, Purple or Green.
pub record Moved (u v : Slot) : Type 0 where
  pub member : (number : ℕ) → v.set ≡ Some number → v.colour ≡ Orange → WasMember number u v
  pub colours : (f : Colour → Bool) → f Black ≡ false → f Purple ≡ false → f Green ≡ false → f u.colour ≡ false → f v.colour ≡ false

-- so it is of each slot
abbrev pub Lowers : (s t : State) → Type 0
Lowers s t = (x : ℕ) → Moved (slot_at s x) (slot_at t x)

-- then the outside counts are right still
pub outside_on : {fields : ℕ} → (s t : State) → Lowers s t → AreOutside fields s → AreOutside fields t
outside_on s t l a = record {
  before = a.before;
  loads = a.loads;
  places = a.places;
  members = λ number x e o.
      let m = (l x).member number e o in
      let i : IsOutside a.before s a.loads number x = a.members number x m.set m.colour in
      record { member = i.member; fewer = omega (arith, m.count, i.fewer); cyclic = omega (arith, m.count, m.cyclic, i.fewer, i.cyclic) };
}

-- orange slots stay apart where each was orange before, and neither the sets nor the zeros change
pub apart_on : (s t : State) → t.sets ≡ s.sets → t.zeros ≡ s.zeros → ((x : ℕ) → (slot_at t x).colour ≡ Orange → ((slot_at s x).colour ≡ Orange) × ((slot_at t x).released ≡ (slot_at s x).released)) → IsApart s → IsApart t
apart_on s t sets zeros was a x o =
    let w = was x o in
    let m : IsMember s x = a x w.0 in
    record { member = rw sets m.member; no_zero = rw zeros m.no_zero; unreleased = w.1 ∙ m.unreleased }

-- so they do where a slot becomes what isn't Orange
pub unlike_was : (s : State) (x : ℕ) (v : Slot) → v.colour ≢ Orange → (y : ℕ) → (slot_at (with_slot s x v) y).colour ≡ Orange → ((slot_at s y).colour ≡ Orange) × ((slot_at (with_slot s x v) y).released ≡ (slot_at s y).released)
unlike_was s x v b y o = elim (written s x v y) [
  | inl q ↦ absurd (b (ap (λ (w : Slot). w.colour) (sym q.1) ∙ o))
  | inr q ↦ (ap (λ (w : Slot). w.colour) (sym q) ∙ o, ap (λ (w : Slot). w.released) q)
]

-- no trial is at work where a move makes no slot Gray or White
pub untried_on : (s t : State) → t.marked ≡ s.marked → ((x : ℕ) (f : Colour → Bool) → f Black ≡ false → f Purple ≡ false → f Green ≡ false → f (slot_at s x).colour ≡ false → f (slot_at t x).colour ≡ false) → IsUntried s → IsUntried t
untried_on s t marked keeps u = record { marked = marked ∙ u.marked; no_gray = λ x. keeps x is_gray refl refl refl (u.no_gray x); no_white = λ x. keeps x is_white refl refl refl (u.no_white x) }

pub untried_moved : (s t : State) → t.marked ≡ s.marked → Lowers s t → IsUntried s → IsUntried t
untried_moved s t marked l u = untried_on s t marked (λ x. (l x).colours) u

-- a slot that stays
was_same : (u v : Slot) → v ≡ u → Moved u v
was_same u v e = record {
  member = λ number s o. record {
    set = ap (λ (w : Slot). w.set) (sym e) ∙ s;
    colour = ap (λ (w : Slot). w.colour) (sym e) ∙ o;
    by = 0;
    count = omega (arith, ap (λ (w : Slot). w.count) e);
    cyclic = omega (arith, ap (λ (w : Slot). w.cyclic) e);
  };
  colours = λ f black purple green h. ap (λ (w : Slot). f w.colour) e ∙ h;
}

-- no slot changes
pub same_lowers : (s t : State) → ((x : ℕ) → slot_at t x ≡ slot_at s x) → Lowers s t
same_lowers s t e x = was_same (slot_at s x) (slot_at t x) (e x)

-- one slot is written, of which this is known
written_lowers : (s : State) (y : ℕ) (v : Slot) → Moved (slot_at s y) v → Lowers s (with_slot s y v)
written_lowers s y v m x = elim (written s y v x) [
  | inl q ↦ subst (λ (w : Slot). Moved (slot_at s x) w) (sym q.1) (subst (λ z. Moved (slot_at s z) v) (sym q.0) m)
  | inr q ↦ was_same (slot_at s x) (slot_at (with_slot s y v) x) q
]

-- what is in use isn't Orange, and has no colour that it hadn't but Black
pub in_use_orange : (c : Colour) → in_use c ≡ Orange → ⊥
in_use_orange Green o = cc
in_use_orange _ o = cc

in_use_colour : (f : Colour → Bool) (c : Colour) → f Black ≡ false → f c ≡ false → f (in_use c) ≡ false
in_use_colour f Green black h = h
in_use_colour f _ black h = black

-- a reference is taken off: the slot is decremented
lessened_member : (b l : Bool) (u : Slot) → stays u ≡ b → (u.colour ≡ Orange → u.released ≡ false) → Moved u (lessened_if b l u)
lessened_member true l u e a = record { member = λ number i o. absurd (false≢true (sym (a o) ∙ stays_released u e o)); colours = λ f black purple green h. h }
lessened_member false true u e a = record { member = λ number i o. cc; colours = λ f black purple green h. black }
lessened_member false false u e a = record { member = λ number i o. cc; colours = λ f black purple green h. purple }

sent_lowers : (d : Due) (s t : State) (y : ℕ) → Lowers s t → Lowers s (sent d t y)
sent_lowers Nothing s t y l = l
sent_lowers Zero s t y l = l
sent_lowers Root s t y l = l

-- or lowered
down_lowers : (b : Bool) (s : State) (y : ℕ) → IsApart s → 0 < (slot_at s y).count → Lowers s (down_if b s y)
down_lowers true s y a h = written_lowers s y (lowered (slot_at s y)) (record { member = λ number i o. record { set = i; colour = o; by = 1; count = omega (arith, h); cyclic = refl }; colours = λ f black purple green e. e })
down_lowers false s y a h =
    let u : Slot = slot_at s y in
    sent_lowers (due_of u) s (with_slot s y (lessened u)) y (written_lowers s y (lessened u) (lessened_member (stays u) (eqb u.count 1) u refl (λ c. (a y c).unreleased)))

pub off_lowers : (lowers : Bool) (s : State) (t : Option ℕ) → IsApart s → IfSome t (λ x. 0 < (slot_at s x).count) → Lowers s (taken_off lowers s t)
off_lowers lowers s None a h = same_lowers s s (λ x. refl)
off_lowers lowers s (Some y) a h = down_lowers (is_lowered lowers (slot_at s y).colour) s y a h

-- the next of the zeros is released
pub first_lowers : (zs : List ℕ) (s : State) → Lowers s (without_first zs s)
first_lowers [] s = same_lowers s s (λ x. refl)
first_lowers (z ∷ zs) s = written_lowers s z (record (slot_at s z) { released = true }) (record { member = λ number i o. record { set = i; colour = o; by = 0; count = omega arith; cyclic = omega arith }; colours = λ f black purple green h. h })

-- one move after another
moved_then : {u v w : Slot} → Moved u v → Moved v w → Moved u w
moved_then {u} {v} {w} m n = record {
  member = λ number i o.
      let b = n.member number i o in
      let a = m.member number b.set b.colour in
      record { set = a.set; colour = a.colour; by = a.by + b.by; count = omega (arith, a.count, b.count); cyclic = omega (arith, a.cyclic, b.cyclic) };
  colours = λ f black purple green h. n.colours f black purple green (m.colours f black purple green h);
}

emptied_lowers : (b : Bool) (s : State) (x : ℕ) → Lowers s (listed_if b s x)
emptied_lowers true s x = same_lowers s s (λ y. refl)
emptied_lowers false s x = same_lowers s (listed_if false s x) (λ y. refl)

-- the zeros are released up to the first that isn't Green
pub next_lowers : (s : State) → Lowers s (next_from s.zeros s).counts
next_lowers s =
    each_zero (λ u. Lowers s u)
    (λ u z l x. moved_then (l x) (emptied_lowers (slot_at u z).buffered u z x))
    (λ u z zs l x. moved_then (l x) (first_lowers (z ∷ zs) u x))
    s.zeros s (same_lowers s s (λ x. refl))

-- the last set is given up
given_member : (b : Bool) (u : Slot) → Moved u (dead_if b (unbuffered_if b u))
given_member true u = record { member = λ number i o. cc; colours = λ f black purple green h. black }
given_member false u = was_same u u refl

pub given_lowers : (s : State) → Lowers s (given_up s)
given_lowers s x = subst (λ (v : Slot). Moved (slot_at s x) v) (sym (given_slot s x)) (given_member (is_in (length s.sets - 1) (slot_at s x).set) (slot_at s x))

-- the last set is refurbished
fate_member : (f : Fate) (u : Slot) → Moved u (refurbished f u)
fate_member fates.Free u = record { member = λ number i o. cc; colours = λ f black purple green h. h }
fate_member fates.Root u = record { member = λ number i o. cc; colours = λ f black purple green h. purple }
fate_member _ u = record { member = λ number i o. absurd (in_use_orange u.colour o); colours = λ f black purple green h. in_use_colour f u.colour black h }

pub refurbished_lowers : (s t : State) → LastRefurbished s t → Lowers s t
refurbished_lowers s t r x = elim (cases_lt 0 (times x (last_set s.sets))) [
  | inl m ↦ subst (λ (v : Slot). Moved (slot_at s x) v) (sym (r.inside x m)) (fate_member _ (slot_at s x))
  | inr m ↦ was_same (slot_at s x) (slot_at t x) (r.others x (omega (arith, m)))
]

-- a slot is swept
pub swept_lowers : (s : State) (x : ℕ) → Lowers s (swept s x)
swept_lowers s x = written_lowers s x (swept_clean (slot_at s x)) (record { member = λ number i o. cc; colours = λ f black purple green h. black })

-- there are no sets
pub none_outside : (fields : ℕ) (s : State) → s.sets ≡ [] → ((x : ℕ) → (slot_at s x).set ≡ None) → AreOutside fields s
none_outside fields s e none = record {
  before = s;
  loads = [];
  places = ap (λ sets. places_of fields (concat sets)) (sym e);
  members = λ number x i o. absurd (none-some number (sym (none x) ∙ i));
}

-- preparation is done
pub prepared_outside : (fields : ℕ) (before s : State) (loads : List Load) → IsKept before → PreparedTo fields before None s loads → AreOutside fields s
prepared_outside fields before s loads k p = record {
  before = before;
  loads = loads;
  places = sym (append-nil _) ∙ p.places;
  members = λ number x i o.
      let was : (slot_at before x).set ≡ Some number = ap (λ (v : Slot). v.set) (sym (p.others.slots x)) ∙ i in
      let same : (slot_at s x).count ≡ (slot_at before x).count = ap (λ (v : Slot). v.count) (p.others.slots x) in
      record { member = was; fewer = omega (arith, same); cyclic = omega (arith, p.members number x (set_there before number x k was) was, same) };
}

-- A batch of counts of which none is released: a slot that is Orange after it is as it was, and nothing of the batch names it.
pub batch_same : {s t : State} {newer older : List Contents} → IsBatch s newer older t → NoneReleased s → (x : ℕ) → (slot_at t x).colour ≡ Orange → (slot_at t x ≡ slot_at s x) × (names x newer older ≡ 0)
batch_same {s} {t} {newer} {older} b none x o = elim (cases_lt x (length s.slots)) [
  | inl there ↦ elim (cases_lt 0 (names x newer older)) [
    | inl l ↦ absurd (touched_orange (slot_at t x).colour (b.touched x (none x there) l) o)
    | inr l ↦ (b.same x (omega (arith, l)), omega (arith, l))
  ]
  | inr past ↦ let black : Black ≡ Orange = ap (λ (v : Slot). v.colour) (sym (get_or_past t.slots x absent (omega (arith, past, b.rest.slots)))) ∙ o in absurd (cc)
]

touched_colour : (f : Colour → Bool) (c : Colour) → f Black ≡ false → f Purple ≡ false → f Green ≡ false → is_touched c ≡ true → f c ≡ false
touched_colour f Black black purple green h = black
touched_colour f Purple black purple green h = purple
touched_colour f Green black purple green h = green
touched_colour f _ black purple green h = absurd (false≢true h)

pub batch_lowers : {s t : State} {newer older : List Contents} → IsBatch s newer older t → NoneReleased s → Lowers s t
batch_lowers {s} {t} {newer} {older} b none x = record {
  member = λ number i o. (was_same (slot_at s x) (slot_at t x) (batch_same b none x o).0).member number i o;
  colours = λ f black purple green h. elim (cases_lt x (length s.slots)) [
    | inl there ↦ elim (cases_lt 0 (names x newer older)) [
      | inl l ↦ touched_colour f (slot_at t x).colour black purple green (b.touched x (none x there) l)
      | inr l ↦ ap (λ (v : Slot). f v.colour) (b.same x (omega (arith, l))) ∙ h
    ]
    | inr past ↦ ap (λ (v : Slot). f v.colour) (get_or_past t.slots x absent (omega (arith, past, b.rest.slots))) ∙ black
  ];
}

-- the members of the sets of a machine
outside_at : (p : Private) (phase : Phase) → IsAt p phase → HasSets phase → AreOutside p.fields p.counts
outside_at p (Looking t) a h = a.rest.outside
outside_at p (Swapping t) a h = a.rest.outside
outside_at p (Returning t) a h = a.rest.outside
outside_at p (Releasing release) a h = a.clearing.outside
outside_at p (Freeing freeing) a h = a.clearing.outside
outside_at p (Trying trial) a h = absurd h
outside_at p (Preparing prep) a h = absurd h
outside_at p _ a h = a.0.outside

pub machine_outside : (p : Private) → IsMachine p → HasSets p.phase → AreOutside p.fields p.counts
machine_outside p k h = outside_at p p.phase k.now h

-- it is the true count now, less the words that were seen
pub outside_cyclic : (fields : ℕ) (s : State) (a : AreOutside fields s) (number x : ℕ) → (slot_at s x).set ≡ Some number → (slot_at s x).colour ≡ Orange → (slot_at s x).cyclic ≡ (slot_at s x).count - seen a.before number a.loads x
outside_cyclic fields s a number x i o = let m : IsOutside a.before s a.loads number x = a.members number x i o in omega (arith, m.fewer, m.cyclic)

-- One decrement: what it leaves, what it counts, and which slots stand in the zeros afterwards.
use Rattle.std.proofs.Common.{◌||◌, ◌≡◌, ℕ, ◌+◌, ◌-◌, ◌<◌, ◌≤◌, Bool, true, false, eqb, List, [], ◌∷◌, ◌++◌, length, get_or, refl, arith, sym, ◌∙◌, ap, subst, inl, inr}
use Rattle.std.proofs.lemmas.List.{append-nil, length-set, get_or-set_same, get_or-set_other, get_or_past}
use Rattle.std.proofs.lemmas.Bool.{cases_lt, eq-eqb, false≢true}
use Rattle.std.proofs.lemmas.Bool.Decides.{eqb_tells}
use Rattle.rec_counts.specs.declared.colour.Colour.TheVariants.{Orange}
use Rattle.rec_counts.specs.declared.slot.Slot.{Slot}
use Rattle.rec_counts.specs.declared.slot.Due.{Due}
use Rattle.rec_counts.specs.declared.slot.Due.TheVariants.{Nothing, Zero, Root}
use Rattle.rec_counts.specs.Colour.{is_green}
use Rattle.rec_counts.specs.Counts.{State, slot_at, with_slot, sent, decremented, IsKept}
use Rattle.rec_counts.specs.Lists.{one, times}
use Rattle.rec_counts.specs.Rest.{KeepsRest, AreZeros, AllZeros}
use Rattle.rec_counts.specs.Slot.{absent, lessened, lessened_if, due_of, due_if, stays}
use Rattle.rec_counts.proofs.Keeping.{field_kept, keep_slot, less_at}
use Rattle.rec_counts.proofs.Lessening.{to_zeros, to_roots, keep_zero, keep_root, ToNothing, to_nothing}
use Rattle.rec_counts.proofs.Times.{times-nil, times-cons, times-append, times_push, one-le, one-same}

pub rest_same : (s : State) → KeepsRest s s
rest_same s = record { slots = refl; sets = refl; marked = refl; work = refl; free = refl; released = λ x. refl; cyclic = λ x. refl; set = λ x. refl }

rest_on : {s t u : State} → KeepsRest s t → KeepsRest t u → KeepsRest s u
rest_on a b = record {
  slots = b.slots ∙ a.slots;
  sets = b.sets ∙ a.sets;
  marked = b.marked ∙ a.marked;
  work = b.work ∙ a.work;
  free = b.free ∙ a.free;
  released = λ x. b.released x ∙ a.released x;
  cyclic = λ x. b.cyclic x ∙ a.cyclic x;
  set = λ x. b.set x ∙ a.set x;
}

-- a slot is written that keeps these parts
rest_slot : (s : State) (x : ℕ) (v : Slot) → v.released ≡ (slot_at s x).released → v.cyclic ≡ (slot_at s x).cyclic → v.set ≡ (slot_at s x).set → KeepsRest s (with_slot s x v)
rest_slot s x v r c e = record {
  slots = length-set s.slots x v;
  sets = refl;
  marked = refl;
  work = refl;
  free = refl;
  released = field_kept (λ (w : Slot). w.released) s.slots x v r;
  cyclic = field_kept (λ (w : Slot). w.cyclic) s.slots x v c;
  set = field_kept (λ (w : Slot). w.set) s.slots x v e;
}

-- a slot goes where it is due
rest_sent : (d : Due) (s : State) (x : ℕ) → KeepsRest s (sent d s x)
rest_sent Nothing s x = rest_same s
rest_sent Zero s x = record { slots = refl; sets = refl; marked = refl; work = refl; free = refl; released = λ y. refl; cyclic = λ y. refl; set = λ y. refl }
rest_sent Root s x = record { slots = refl; sets = refl; marked = refl; work = refl; free = refl; released = λ y. refl; cyclic = λ y. refl; set = λ y. refl }

lessened_keeps : (r l : Bool) (v : Slot) → ((lessened_if r l v).released ≡ v.released) × ((lessened_if r l v).cyclic ≡ v.cyclic) × ((lessened_if r l v).set ≡ v.set) × ((lessened_if r l v).count ≡ v.count - 1)
lessened_keeps true l v = (refl, refl, refl, refl)
lessened_keeps false true v = (refl, refl, refl, refl)
lessened_keeps false false v = (refl, refl, refl, refl)

-- a decrement keeps all but count, colour, the flag buffered, and the two lists
pub rest_decremented : (s : State) (x : ℕ) → KeepsRest s (decremented s x)
rest_decremented s x =
    let v : Slot = slot_at s x in
    let k = lessened_keeps (stays v) (eqb v.count 1) v in
    rest_on (rest_slot s x (lessened v) k.0 k.1 k.2) (rest_sent (due_of v) (with_slot s x (lessened v)) x)

sent_slots : (d : Due) (s : State) (x : ℕ) → (sent d s x).slots ≡ s.slots
sent_slots Nothing s x = refl
sent_slots Zero s x = refl
sent_slots Root s x = refl

pub same_slot : (s : State) (x y : ℕ) → slot_at (decremented s x) y ≡ slot_at (with_slot s x (lessened (slot_at s x))) y
same_slot s x y = ap (λ ss. get_or ss y absent) (sent_slots (due_of (slot_at s x)) (with_slot s x (lessened (slot_at s x))) x)

-- the count of the slot falls by one, if it has one
pub decremented_less : (s : State) (x y : ℕ) → (slot_at (decremented s x) y).count ≡ (slot_at s y).count - one (eqb y x)
decremented_less s x y =
    let v : Slot = slot_at s x in
    ap (λ (w : Slot). w.count) (same_slot s x y) ∙ less_at (λ (w : Slot). w.count) s.slots x (lessened v) refl (lessened_keeps (stays v) (eqb v.count 1) v).3 y

-- a slot with a count is there
pub in_range_counted : (s : State) (x : ℕ) → 0 < (slot_at s x).count → x < length s.slots
in_range_counted s x h =
    elim (cases_lt x (length s.slots)) [
      | inl l ↦ l
      | inr l ↦ absurd (omega (arith, h, ap (λ (w : Slot). w.count) (get_or_past s.slots x absent l)))
    ]

-- the zeros after a decrement: those before, and the slot where its last reference went
pub record ZerosFrom (s : State) (x : ℕ) : Type 0 where
  pub more : List ℕ
  pub zeros : (decremented s x).zeros ≡ s.zeros ++ more
  pub once : (y : ℕ) → times y more ≤ 1
  pub last : (y : ℕ) → 0 < times y more → (slot_at s y).count ≡ 1
  pub count : (y : ℕ) → 0 < times y more → (slot_at (decremented s x) y).count ≡ 0
  pub unreleased : (y : ℕ) → 0 < times y more → (slot_at (decremented s x) y).released ≡ false

pub zeros_from : (s : State) (x : ℕ) → ZerosFrom s x
zeros_from s x = go (due_of (slot_at s x)) refl
  where
    to : (d : Due) → due_of (slot_at s x) ≡ d → (decremented s x).zeros ≡ (sent d (with_slot s x (lessened (slot_at s x))) x).zeros
    to d e = ap (λ d. (sent d (with_slot s x (lessened (slot_at s x))) x).zeros) e

    none : (P : Type 0) (y : ℕ) → 0 < times y [] → P
    none P y h = absurd (omega (arith, h, times-nil y))

    go : (d : Due) → due_of (slot_at s x) ≡ d → ZerosFrom s x
    go Nothing e = record { more = []; zeros = to Nothing e ∙ sym (append-nil s.zeros); once = λ y. omega (arith, times-nil y); last = λ y. none _ y; count = λ y. none _ y; unreleased = λ y. none _ y }
    go Root e = record { more = []; zeros = to Root e ∙ sym (append-nil s.zeros); once = λ y. omega (arith, times-nil y); last = λ y. none _ y; count = λ y. none _ y; unreleased = λ y. none _ y }
    go Zero e = record {
      more = x ∷ [];
      zeros = to Zero e;
      once = λ y. omega (arith, times-cons y x [], times-nil y, one-le (eqb y x));
      last = λ y h. ap (λ z. (slot_at s z).count) (it y h).1 ∙ (to_zeros (slot_at s x) e).last;
      count = λ y h. let q = it y h in let last : (slot_at s x).count ≡ 1 = (to_zeros (slot_at s x) e).last in let o : (slot_at s y).count ≡ (slot_at s x).count = ap (λ z. (slot_at s z).count) q.1 in let n : one (eqb y x) ≡ 1 = ap one q.0 in omega (arith, decremented_less s x y, last, o, n);
      unreleased = λ y h. (rest_decremented s x).released y ∙ ap (λ z. (slot_at s z).released) (it y h).1 ∙ (to_zeros (slot_at s x) e).unreleased;
    }
      where
        it : (y : ℕ) → 0 < times y (x ∷ []) → (eqb y x ≡ true) × (y ≡ x)
        it y h = elim (eqb_tells y x) [ inl q ↦ (q.0, q.1) | inr q ↦ let n : one (eqb y x) ≡ 0 = ap one q.0 in absurd (omega (arith, h, n, times-cons y x [], times-nil y)) ]

-- the zeros stay zeros
pub zeros_kept : (s : State) (x : ℕ) → AreZeros s → AreZeros (decremented s x)
zeros_kept s x k =
    let f : ZerosFrom s x = zeros_from s x in
    let n : (y : ℕ) → times y (decremented s x).zeros ≡ times y s.zeros + times y f.more = λ y. ap (times y) f.zeros ∙ times-append y s.zeros f.more in
    record {
      once = λ y. elim (cases_lt 0 (times y f.more)) [
        | inl l ↦ elim (cases_lt 0 (times y s.zeros)) [ inl m ↦ absurd (omega (arith, f.last y l, k.none y m)) | inr m ↦ omega (arith, n y, f.once y, m) ]
        | inr l ↦ omega (arith, n y, k.once y, l)
      ];
      none = λ y h. elim (cases_lt 0 (times y s.zeros)) [
        | inl l ↦ omega (arith, decremented_less s x y, k.none y l)
        | inr l ↦ f.count y (omega (arith, h, l, n y))
      ];
      unreleased = λ y h. elim (cases_lt 0 (times y s.zeros)) [
        | inl l ↦ (rest_decremented s x).released y ∙ k.unreleased y l
        | inr l ↦ f.unreleased y (omega (arith, h, l, n y))
      ];
    }

-- a released slot is buffered or not as before
pub buffered_kept : (s : State) (x y : ℕ) → (slot_at s y).released ≡ true → (slot_at (decremented s x) y).buffered ≡ (slot_at s y).buffered
buffered_kept s x y r =
    let v : Slot = slot_at s x in
    elim (eqb_tells y x) [
      | inl q ↦ let t : v.released ≡ true = ap (λ z. (slot_at s z).released) (sym q.1) ∙ r in
          let b : (lessened v).buffered ≡ v.buffered = ap (λ c. (lessened_if (c || is_green v.colour) (eqb v.count 1) v).buffered) t in
          ap (λ (w : Slot). w.buffered) (same_slot s x y) ∙ field_kept (λ (w : Slot). w.buffered) s.slots x (lessened v) b y
      | inr q ↦ ap (λ (w : Slot). w.buffered) (same_slot s x y) ∙ ap (λ (w : Slot). w.buffered) (get_or-set_other s.slots x y (lessened v) absent q.1)
    ]

lessened_buffered : (r l : Bool) (v : Slot) → (lessened_if r l v).buffered ≡ false → v.buffered ≡ false
lessened_buffered true l v e = e
lessened_buffered false true v e = e
lessened_buffered false false v e = absurd (false≢true (sym e))

-- no slot leaves a buffer
pub unbuffered_before : (s : State) (x y : ℕ) → (slot_at (decremented s x) y).buffered ≡ false → (slot_at s y).buffered ≡ false
unbuffered_before s x y b =
    let v : Slot = slot_at s x in
    let b' : (slot_at (with_slot s x (lessened v)) y).buffered ≡ false = ap (λ (w : Slot). w.buffered) (sym (same_slot s x y)) ∙ b in
    elim (eqb_tells y x) [
      | inl q ↦ ap (λ z. (slot_at s z).buffered) q.1 ∙ elim (cases_lt x (length s.slots)) [
        | inl l ↦ lessened_buffered (stays v) (eqb v.count 1) v (ap (λ (w : Slot). w.buffered) (sym (get_or-set_same s.slots x (lessened v) absent l)) ∙ ap (λ z. (slot_at (with_slot s x (lessened v)) z).buffered) (sym q.1) ∙ b')
        | inr l ↦ ap (λ (w : Slot). w.buffered) (get_or_past s.slots x absent l)
      ]
      | inr q ↦ ap (λ (w : Slot). w.buffered) (sym (get_or-set_other s.slots x y (lessened v) absent q.1)) ∙ b'
    ]

-- a slot whose last reference goes stands in the zeros
pub zero_found : (s : State) (x : ℕ) → (slot_at s x).released ≡ false → (slot_at s x).count ≡ 1 → 0 < times x (decremented s x).zeros
zero_found s x r o =
    let due : due_of (slot_at s x) ≡ Zero = ap (λ c. due_if c (eqb (slot_at s x).count 1) ((slot_at s x).buffered || is_green (slot_at s x).colour)) r ∙ ap (λ c. due_if false c ((slot_at s x).buffered || is_green (slot_at s x).colour)) (eq-eqb (slot_at s x).count 1 o) in
    let z : (decremented s x).zeros ≡ s.zeros ++ x ∷ [] = ap (λ d. (sent d (with_slot s x (lessened (slot_at s x))) x).zeros) due in
    omega (arith, ap (times x) z, times_push x s.zeros x, one-same x)

-- where all zeros stood in the zeros, they still do
pub all_zeros_kept : (s : State) (x : ℕ) → AllZeros s → AllZeros (decremented s x)
all_zeros_kept s x k = λ y r n.
    let u : (slot_at s y).released ≡ false = sym ((rest_decremented s x).released y) ∙ r in
    let f : ZerosFrom s x = zeros_from s x in
    let more : times y (decremented s x).zeros ≡ times y s.zeros + times y f.more = ap (times y) f.zeros ∙ times-append y s.zeros f.more in
    elim (cases_lt 0 (slot_at s y).count) [
      | inl l ↦ elim (eqb_tells y x) [
        | inl q ↦ let e : one (eqb y x) ≡ 1 = ap one q.0 in
            let o : (slot_at s y).count ≡ 1 = omega (arith, l, n, decremented_less s x y, e) in
            subst (λ z. 0 < times z (decremented s x).zeros) (sym q.1) (zero_found s x (ap (λ z. (slot_at s z).released) (sym q.1) ∙ u) (ap (λ z. (slot_at s z).count) (sym q.1) ∙ o))
        | inr q ↦ let e : one (eqb y x) ≡ 0 = ap one q.0 in absurd (omega (arith, l, n, decremented_less s x y, e))
      ]
      | inr l ↦ omega (arith, k y u (omega (arith, l)), more)
    ]

-- one reference less, of a slot that is counted: it isn't among the zeros yet
pub decremented_kept : (s : State) (x : ℕ) → 0 < (slot_at s x).count → AreZeros s → IsKept s → IsKept (decremented s x)
decremented_kept s x h z k = go (due_of (slot_at s x)) refl
  where
    new : times x s.zeros ≡ 0
    new = elim (cases_lt 0 (times x s.zeros)) [ inl l ↦ absurd (omega (arith, h, z.none x l)) | inr l ↦ omega (arith, l) ]

    go : (d : Due) → due_of (slot_at s x) ≡ d → IsKept (sent d (with_slot s x (lessened (slot_at s x))) x)
    go Nothing e = let n : ToNothing (slot_at s x) = to_nothing (slot_at s x) e in keep_slot k x (lessened (slot_at s x)) n.buffered n.set
    go Zero e = keep_zero k x (slot_at s x) (in_range_counted s x h) (to_zeros (slot_at s x) e) refl new
    go Root e = keep_root k x (slot_at s x) (in_range_counted s x h) (to_roots (slot_at s x) e) refl

-- a slot that does not keep its colour isn't Green
pub stays_green : (r : Bool) (v : Slot) → (r || is_green v.colour) ≡ false → is_green v.colour ≡ false
stays_green true v e = absurd (false≢true (sym e))
stays_green false v e = e

lessened_green : (b l : Bool) (v : Slot) → (b ≡ false → is_green v.colour ≡ false) → is_green (lessened_if b l v).colour ≡ is_green v.colour
lessened_green true l v h = refl
lessened_green false true v h = sym (h refl)
lessened_green false false v h = sym (h refl)

-- no slot becomes Green by a decrement, and each that is stays so
pub green_kept : (s : State) (x y : ℕ) → is_green (slot_at (decremented s x) y).colour ≡ is_green (slot_at s y).colour
green_kept s x y =
    let v : Slot = slot_at s x in
    ap (λ (w : Slot). is_green w.colour) (same_slot s x y) ∙ field_kept (λ (w : Slot). is_green w.colour) s.slots x (lessened v) (lessened_green (stays v) (eqb v.count 1) v (stays_green v.released v)) y

-- an orange slot that keeps its colour is released
pub stays_released : (v : Slot) → stays v ≡ true → v.colour ≡ Orange → v.released ≡ true
stays_released v e o = go v.released refl
  where
    go : (r : Bool) → v.released ≡ r → v.released ≡ true
    go true t = t
    go false t = absurd (false≢true (sym (ap (λ b. b || is_green v.colour) t ∙ ap is_green o) ∙ e))

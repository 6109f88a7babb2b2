-- The members of a refused set get their places, and leave the lists ready for the next release.
use Rattle.std.proofs.Common.{◌≡◌, ◌≢◌, ℕ, ◌-◌, ◌<◌, ◌≤◌, Bool, true, false, eqb, ltb, cond, Option, Some, None, List, [], ◌∷◌, ◌++◌, length, drop, slice_get, refl, arith, sym, ◌∙◌, ap, subst, inl, inr, append_assoc}
use Rattle.std.specs.List.{filter}
use Rattle.std.proofs.Math.ListN.{set}
use Rattle.std.proofs.lemmas.List.{append-nil, length-set, length-map, set-get_or, get_or-set_same, get_or-set_other}
use Rattle.std.proofs.lemmas.Bool.{cases_lt, eqb-true, ne_eqb}
use Rattle.std.proofs.lemmas.Bool.Decides.{eqb_tells}
use Rattle.rec_word.specs.Word.{is_slot}
use Rattle.rec_counts.specs.declared.slot.Slot.{Slot}
use Rattle.rec_counts.specs.Counts.{State, IsKept, slot_at, without_last_set}
use Rattle.rec_counts.specs.Groups.{last_set}
use Rattle.rec_counts.specs.Lists.{one, times, EachOnce}
use Rattle.rec_counts.specs.Rest.{AreZeros}
use Rattle.rec_counts.specs.Slot.{absent, is_in, unbuffered, unbuffered_if, out_of_set}
use Rattle.rec_counts.proofs.Times.{times-nil, times-cons, times-append, one-same, one-le, in_range_once, one-some, one-none}
use Rattle.rec_counts.proofs.Front.{first_and_rest, first_in, nothing_first}
use Rattle.rec_counts.proofs.Keeping.{last_once, map_at}
use Rattle.rec_sigma.specs.declared.fate.Fate.{Fate}
use Rattle.rec_sigma.specs.declared.fate.Fate.TheVariants.{Free, Zero, Root, Plain}
use Rattle.rec_sigma.specs.Refurbish.{coloured, fate_at, fate_of, fate_if, is_root, is_free, is_zero, is_rooted, refurbished, AreReleased, IsRefusable, LastRefurbished, Refurbished}
use Rattle.rec_sigma.specs.Settling.{refurbished_of, settled, settled_all}

-- what one place more does
settled_is : (f : Fate) (s : State) (x : ℕ) →
    settled f s x ≡ record s { slots = set s.slots x (coloured f (slot_at s x)); free = s.free ++ cond (is_free f) (x ∷ []) []; zeros = s.zeros ++ cond (is_zero f) (x ∷ []) []; roots = s.roots ++ cond (is_rooted f) (x ∷ []) [] }
settled_is Free s x = rw (set-get_or s.slots x absent, append-nil s.zeros, append-nil s.roots) refl
settled_is Zero s x = rw (append-nil s.free, append-nil s.roots) refl
settled_is Root s x = rw (append-nil s.free, append-nil s.zeros) refl
settled_is Plain s x = rw (append-nil s.free, append-nil s.zeros, append-nil s.roots) refl

settled_other : (f : Fate) (s : State) (x y : ℕ) → y ≢ x → slot_at (settled f s x) y ≡ slot_at s y
settled_other f s x y d = ap (λ (u : State). slot_at u y) (settled_is f s x) ∙ get_or-set_other s.slots x y (coloured f (slot_at s x)) absent d

settled_many : (f : Fate) (s : State) (x : ℕ) → length (settled f s x).slots ≡ length s.slots
settled_many f s x = ap (λ (u : State). length u.slots) (settled_is f s x) ∙ length-set s.slots x (coloured f (slot_at s x))

-- the work list doesn't matter to it
settled_idle : (f : Fate) (s : State) (x : ℕ) → settled f (record s { work = [] }) x ≡ record (settled f s x) { work = [] }
settled_idle Free s x = refl
settled_idle _ s x = refl

-- what is known before a slot gets its place
pub record IsDue (s : State) (x : ℕ) : Type 0 where
  pub in_range : x < length s.slots
  pub unbuffered : (slot_at s x).buffered ≡ false
  pub free : (slot_at s x).released ≡ true → times x s.free ≡ 0
  pub zeros : (slot_at s x).released ≡ false → (slot_at s x).count ≡ 0 → times x s.zeros ≡ 0

-- these slots wait for their places
pub record IsWaiting (s : State) (xs : List ℕ) : Type 0 where
  pub once : (x : ℕ) → times x xs ≤ 1
  pub due : (x : ℕ) → 0 < times x xs → IsDue s x

-- a slot behind the first is another one
other_than : (x : ℕ) (xs : List ℕ) → ((y : ℕ) → times y (x ∷ xs) ≤ 1) → (y : ℕ) → 0 < times y xs → y ≢ x
other_than x xs once y h q = absurd (omega (arith, h, once x, times-cons x x xs, one-same x, ap (λ z. times z xs) q))

times_cond : (b : Bool) (x y : ℕ) → y ≢ x → times y (cond b (x ∷ []) []) ≡ 0
times_cond true x y d = omega (arith, times-cons y x [], times-nil y, ap one (ne_eqb y x d))
times_cond false x y d = times-nil y

-- the others wait on
pub waiting_rest : (f : Fate) (s : State) (x : ℕ) (xs : List ℕ) → IsWaiting s (x ∷ xs) → IsWaiting (settled f s x) xs
waiting_rest f s x xs w = record {
  once = λ y. omega (arith, w.once y, times-cons y x xs);
  due = λ y h.
      let d : IsDue s y = w.due y (omega (arith, h, times-cons y x xs)) in
      let other : y ≢ x = other_than x xs w.once y h in
      let same : slot_at (settled f s x) y ≡ slot_at s y = settled_other f s x y other in
      record {
        in_range = omega (arith, d.in_range, settled_many f s x);
        unbuffered = ap (λ (v : Slot). v.buffered) same ∙ d.unbuffered;
        free = λ r. omega (arith, ap (λ (u : State). times y u.free) (settled_is f s x), times-append y s.free (cond (is_free f) (x ∷ []) []), times_cond (is_free f) x y other, d.free (ap (λ (v : Slot). v.released) (sym same) ∙ r));
        zeros = λ r n. omega (arith, ap (λ (u : State). times y u.zeros) (settled_is f s x), times-append y s.zeros (cond (is_zero f) (x ∷ []) []), times_cond (is_zero f) x y other, d.zeros (ap (λ (v : Slot). v.released) (sym same) ∙ r) (ap (λ (v : Slot). v.count) (sym same) ∙ n));
      };
}

-- From s, these slots got the places of these fates, which made t of it.
record Placed (fate : ℕ → Fate) (s : State) (xs : List ℕ) (t : State) : Type 0 where
  free : t.free ≡ s.free ++ filter (λ x. is_free (fate x)) xs
  zeros : t.zeros ≡ s.zeros ++ filter (λ x. is_zero (fate x)) xs
  roots : t.roots ≡ s.roots ++ filter (λ x. is_rooted (fate x)) xs
  inside : (x : ℕ) → 0 < times x xs → slot_at t x ≡ coloured (fate x) (slot_at s x)
  others : (x : ℕ) → times x xs ≡ 0 → slot_at t x ≡ slot_at s x
  many : length t.slots ≡ length s.slots
  rest : t ≡ record s { slots = t.slots; free = t.free; zeros = t.zeros; roots = t.roots }

cond_first : (b : Bool) (x : ℕ) (xs : List ℕ) → cond b (x ∷ []) [] ++ xs ≡ cond b (x ∷ xs) xs
cond_first true x xs = refl
cond_first false x xs = refl

-- what goes into a list, first one and then the others
one_list : (p : ℕ → Bool) (x : ℕ) (xs old new last : List ℕ) → new ≡ old ++ cond (p x) (x ∷ []) [] → last ≡ new ++ filter p xs → last ≡ old ++ filter p (x ∷ xs)
one_list p x xs old new last e f = f ∙ ap (λ ys. ys ++ filter p xs) e ∙ append_assoc old (cond (p x) (x ∷ []) []) (filter p xs) ∙ ap (λ ys. old ++ ys) (cond_first (p x) x (filter p xs))

placed_all : (first : Option ℕ) (fate : ℕ → Fate) (xs : List ℕ) (s : State) → IsWaiting s xs → ((y : ℕ) → 0 < times y xs → fate_at s first y ≡ fate y) → Placed fate s xs (settled_all first xs s)
placed_all first fate [] s w h = record {
  free = sym (append-nil s.free);
  zeros = sym (append-nil s.zeros);
  roots = sym (append-nil s.roots);
  inside = λ x t. absurd (omega (arith, t, times-nil x));
  others = λ x t. refl;
  many = refl;
  rest = refl;
}
placed_all first fate (x ∷ xs) s w h =
    let now : State = settled (fate_at s first x) s x in
    let end : State = settled_all first xs now in
    let in_it : 0 < times x (x ∷ xs) = omega (arith, times-cons x x xs, one-same x) in
    let more : (y : ℕ) → 0 < times y xs → 0 < times y (x ∷ xs) = λ y t. omega (arith, t, times-cons y x xs) in
    let is : now ≡ record s { slots = set s.slots x (coloured (fate x) (slot_at s x)); free = s.free ++ cond (is_free (fate x)) (x ∷ []) []; zeros = s.zeros ++ cond (is_zero (fate x)) (x ∷ []) []; roots = s.roots ++ cond (is_rooted (fate x)) (x ∷ []) [] } =
    ap (λ f. settled f s x) (h x in_it) ∙ settled_is (fate x) s x in
    let same : (y : ℕ) → 0 < times y xs → slot_at now y ≡ slot_at s y = λ y t. settled_other (fate_at s first x) s x y (other_than x xs w.once y t) in
    let i : Placed fate now xs end = placed_all first fate xs now (waiting_rest (fate_at s first x) s x xs w) (λ y t. ap (fate_of (is_slot y first)) (same y t) ∙ h y (more y t)) in
    record {
      free = one_list (λ y. is_free (fate y)) x xs s.free now.free end.free (ap (λ (u : State). u.free) is) i.free;
      zeros = one_list (λ y. is_zero (fate y)) x xs s.zeros now.zeros end.zeros (ap (λ (u : State). u.zeros) is) i.zeros;
      roots = one_list (λ y. is_rooted (fate y)) x xs s.roots now.roots end.roots (ap (λ (u : State). u.roots) is) i.roots;
      inside = λ y t. elim (eqb_tells y x) [
        | inl q ↦ rw q.1 (i.others x (omega (arith, w.once x, times-cons x x xs, one-same x)) ∙ ap (λ (u : State). slot_at u x) is ∙ get_or-set_same s.slots x (coloured (fate x) (slot_at s x)) absent (w.due x in_it).in_range)
        | inr q ↦ let n : one (eqb y x) ≡ 0 = ap one q.0 in
            let t' : 0 < times y xs = omega (arith, t, n, times-cons y x xs) in
            i.inside y t' ∙ ap (coloured (fate y)) (same y t')
      ];
      others = λ y t. i.others y (omega (arith, t, times-cons y x xs)) ∙ settled_other (fate_at s first x) s x y (λ q. absurd (omega (arith, t, ap (λ z. times z (x ∷ xs)) q, in_it)));
      many = i.many ∙ settled_many (fate_at s first x) s x;
      rest = i.rest ∙ ap (λ (u : State). record u { slots = end.slots; free = end.free; zeros = end.zeros; roots = end.roots }) is;
    }

-- the state once the last set is dropped, with the work list read off
abbrev pub dropped : State → State
dropped s = record (without_last_set s) { work = [] }

-- a member is then in no buffer, and any other slot is as it was
dropped_inside : (s : State) (x : ℕ) → IsKept s → 0 < times x (last_set s.sets) → slot_at (dropped s) x ≡ unbuffered (slot_at s x)
dropped_inside s x k h =
    let n : ℕ = length s.sets - 1 in
    map_at (out_of_set n) refl s.slots x ∙ ap (λ b. unbuffered_if b (slot_at s x)) (one-some (is_in n (slot_at s x).set) (omega (arith, k.numbers n x, h)))

dropped_outside : (s : State) (x : ℕ) → IsKept s → times x (last_set s.sets) ≡ 0 → slot_at (dropped s) x ≡ slot_at s x
dropped_outside s x k h =
    let n : ℕ = length s.sets - 1 in
    map_at (out_of_set n) refl s.slots x ∙ ap (λ b. unbuffered_if b (slot_at s x)) (one-none (is_in n (slot_at s x).set) (sym (k.numbers n x) ∙ h))

fate_if_dropped : (b first : Bool) (v : Slot) → fate_of first (unbuffered_if b v) ≡ fate_of first v
fate_if_dropped true first v = refl
fate_if_dropped false first v = refl

dropped_fate : (s : State) (first : Option ℕ) (x : ℕ) → fate_at (dropped s) first x ≡ fate_at s first x
dropped_fate s first x = ap (fate_of (is_slot x first)) (map_at (out_of_set (length s.sets - 1)) refl s.slots x) ∙ fate_if_dropped (is_in (length s.sets - 1) (slot_at s x).set) (is_slot x first) (slot_at s x)

-- the members wait for their places then
pub waiting_first : (s : State) → IsKept s → IsRefusable s → IsWaiting (dropped s) (last_set s.sets)
waiting_first s k r = record {
  once = λ x. omega (arith, last_once s k x, one-le (ltb x (length s.slots)));
  due = λ x h.
      let e : slot_at (dropped s) x ≡ unbuffered (slot_at s x) = dropped_inside s x k h in
      record {
        in_range = omega (arith, in_range_once (length s.slots) (last_set s.sets) x (last_once s k) h, length-map s.slots (out_of_set (length s.sets - 1)));
        unbuffered = ap (λ (v : Slot). v.buffered) e;
        free = λ f. r.free x h (ap (λ (v : Slot). v.released) (sym e) ∙ f);
        zeros = λ f m. r.zeros x h (ap (λ (v : Slot). v.released) (sym e) ∙ f) (ap (λ (v : Slot). v.count) (sym e) ∙ m);
      };
}

-- all members got their places
pub refurbished_last : (s : State) → IsKept s → IsRefusable s → LastRefurbished s (refurbished_of s)
unfolding refurbished_of
refurbished_last s k r =
    let first : Option ℕ = slice_get (last_set s.sets) 0 in
    let p : Placed (λ x. fate_at s first x) (dropped s) (last_set s.sets) (settled_all first (last_set s.sets) (dropped s)) = placed_all first (λ x. fate_at s first x) (last_set s.sets) (dropped s) (waiting_first s k r) (λ y h. dropped_fate s first y) in
    record {
      free = p.free;
      zeros = p.zeros;
      roots = p.roots;
      inside = λ x h. p.inside x h ∙ ap (coloured (fate_at s first x)) (dropped_inside s x k h);
      others = λ x h. p.others x h ∙ dropped_outside s x k h;
      many = p.many ∙ length-map s.slots (out_of_set (length s.sets - 1));
      sets = ap (λ (u : State). u.sets) p.rest;
      marked = ap (λ (u : State). u.marked) p.rest;
      work = ap (λ (u : State). u.work) p.rest ∙ sym r.work;
    }

-- the first of the work list is due, once it is taken out
pub first_due : (s t : State) (x : ℕ) → t ≡ record s { work = drop 1 s.work } → slice_get s.work 0 ≡ Some x → IsWaiting (record s { work = [] }) s.work → IsDue t x
first_due s t x e f w = let d : IsDue (record s { work = [] }) x = w.due x (first_in s.work x f) in rw e (record { in_range = d.in_range; unbuffered = d.unbuffered; free = d.free; zeros = d.zeros })

-- once the first of the work list got its place, the others wait, and come to what all members of the last set come to
pub record Waits (first : Option ℕ) (before s : State) : Type 0 where
  pub waiting : IsWaiting (record s { work = [] }) s.work
  pub going : settled_all first s.work (record s { work = [] }) ≡ settled_all first (last_set before.sets) (dropped before)

pub goes_on : (first : Option ℕ) (before s : State) (x : ℕ) (f : Fate) (t : State) → slice_get s.work 0 ≡ Some x → f ≡ fate_at s first x → t ≡ settled f (record s { work = drop 1 s.work }) x → Waits first before s → Waits first before t
goes_on first before s x f t e g h w =
    let xs : List ℕ = drop 1 s.work in
    let p : State = record s { work = xs } in
    let q : s.work ≡ x ∷ xs = first_and_rest s.work x e in
    let ws : t.work ≡ xs = ap (λ (u : State). u.work) (h ∙ settled_is f p x) in
    let is : record t { work = [] } ≡ settled (fate_at s first x) (record s { work = [] }) x =
    ap (λ (u : State). record u { work = [] }) h ∙ sym (settled_idle f p x) ∙ ap (λ (k : Fate). settled k (record s { work = [] }) x) g in
    record {
      going = ap (λ ys. settled_all first ys (record t { work = [] })) ws ∙ ap (settled_all first xs) is ∙ ap (λ ys. settled_all first ys (record s { work = [] })) (sym q) ∙ w.going;
      waiting = subst (IsWaiting (record t { work = [] })) (sym ws) (subst (λ u. IsWaiting u xs) (sym is) (waiting_rest (fate_at s first x) (record s { work = [] }) x xs (subst (IsWaiting (record s { work = [] })) q w.waiting)));
    }

-- what a fate says of the slot
free_if : (released none root : Bool) → is_free (fate_if released none root) ≡ true → released ≡ true
free_if true none root e = refl
free_if false true root e = cc
free_if false false true e = cc
free_if false false false e = cc

zero_if : (released none root : Bool) → is_zero (fate_if released none root) ≡ true → (released ≡ false) × (none ≡ true)
zero_if true none root e = cc
zero_if false true root e = (refl, refl)
zero_if false false true e = cc
zero_if false false false e = cc

free_says : (first : Bool) (v : Slot) → is_free (fate_of first v) ≡ true → v.released ≡ true
free_says first v h = free_if v.released (eqb v.count 0) (is_root first v.colour) h

zero_says : (first : Bool) (v : Slot) → is_zero (fate_of first v) ≡ true → (v.released ≡ false) × (v.count ≡ 0)
zero_says first v h = let z = zero_if v.released (eqb v.count 0) (is_root first v.colour) h in (z.0, eqb-true v.count 0 z.1)

pub free_unlisted : (s : State) (x : ℕ) (first : Bool) (f : Fate) → IsDue s x → f ≡ fate_of first (slot_at s x) → is_free f ≡ true → times x s.free ≡ 0
free_unlisted s x first f d e h = d.free (free_says first (slot_at s x) (ap is_free (sym e) ∙ h))

pub zero_unlisted : (s : State) (x : ℕ) (first : Bool) (f : Fate) → IsDue s x → f ≡ fate_of first (slot_at s x) → is_zero f ≡ true → times x s.zeros ≡ 0
zero_unlisted s x first f d e h = let z = zero_says first (slot_at s x) (ap is_zero (sym e) ∙ h) in d.zeros z.0 z.1

-- at the end nobody waits
pub ends_settled : (first : Option ℕ) (s t : State) → slice_get (last_set s.sets) 0 ≡ first → slice_get t.work 0 ≡ None → settled_all first t.work (record t { work = [] }) ≡ settled_all first (last_set s.sets) (dropped s) → record t { work = drop 1 t.work } ≡ refurbished_of s
unfolding refurbished_of
ends_settled first s t f e g =
    let n : t.work ≡ [] = nothing_first t.work e in
    ap {A = List ℕ} {B = State} (λ ws. record t { work = drop 1 ws }) n ∙ ap (λ ws. settled_all first ws (record t { work = [] })) (sym n) ∙ g ∙ ap (λ o. settled_all o (last_set s.sets) (dropped s)) (sym f)

-- what a filter has passes the test
kept_passes : (p : ℕ → Bool) (x : ℕ) (xs : List ℕ) → 0 < times x (filter p xs) → p x ≡ true
kept_passes p x [] h = absurd (omega (arith, h, times-nil x))
kept_passes p x (y ∷ ys) h = go (p y) refl h (kept_passes p x ys)
  where
    go : (b : Bool) → p y ≡ b → 0 < times x (cond b (y ∷ filter p ys) (filter p ys)) → (0 < times x (filter p ys) → p x ≡ true) → p x ≡ true
    go false e t i = i t
    go true e t i = elim (eqb_tells x y) [
      | inl q ↦ ap p q.1 ∙ e
      | inr q ↦ let n : one (eqb x y) ≡ 0 = ap one q.0 in i (omega (arith, t, n, times-cons x y (filter p ys)))
    ]

count_kept : (f : Fate) (v : Slot) → (refurbished f v).count ≡ v.count
count_kept Free v = refl
count_kept _ v = refl

released_kept : (f : Fate) (v : Slot) → (refurbished f v).released ≡ v.released
released_kept Free v = refl
released_kept _ v = refl

-- what no fate changes stays
same_field : {A : Type 0} (f : Slot → A) → ((g : Fate) (v : Slot) → f (refurbished g v) ≡ f v) → {s : State} {ms : List ℕ} {first : Option ℕ} {t : State} → Refurbished s ms first t → (x : ℕ) → f (slot_at t x) ≡ f (slot_at s x)
same_field f h {s = s} {ms = ms} {first = first} r x = elim (cases_lt 0 (times x ms)) [
  | inl l ↦ ap f (r.inside x l) ∙ h (fate_at s first x) (slot_at s x)
  | inr l ↦ ap f (r.others x (omega (arith, l)))
]

-- no true count changes, and no slot is released, or stops being so
pub same_count : {s : State} {ms : List ℕ} {first : Option ℕ} {t : State} → Refurbished s ms first t → (x : ℕ) → (slot_at t x).count ≡ (slot_at s x).count
same_count r x = same_field (λ (v : Slot). v.count) count_kept r x

pub same_released : {s : State} {ms : List ℕ} {first : Option ℕ} {t : State} → Refurbished s ms first t → (x : ℕ) → (slot_at t x).released ≡ (slot_at s x).released
same_released r x = same_field (λ (v : Slot). v.released) released_kept r x

-- the free list has released slots alone
pub released_after : (s : State) (ms : List ℕ) (first : Option ℕ) (t : State) → Refurbished s ms first t → AreReleased s → AreReleased t
released_after s ms first t r a x h = same_released r x ∙ elim (cases_lt 0 (times x s.free)) [
  | inl l ↦ a x l
  | inr l ↦ free_says (is_slot x first) (slot_at s x) (kept_passes (λ y. is_free (fate_at s first y)) x ms (omega (arith, h, l, ap (times x) r.free, times-append x s.free (filter (λ y. is_free (fate_at s first y)) ms))))
]

-- the zeros are zeros
pub zeros_after : (s : State) (ms : List ℕ) (first : Option ℕ) (t : State) → Refurbished s ms first t → EachOnce (length t.slots) t.zeros → AreZeros s → AreZeros t
zeros_after s ms first t r o a =
    let p : ℕ → Bool = λ y. is_zero (fate_at s first y) in
    let was : (x : ℕ) → 0 < times x t.zeros → ((slot_at s x).released ≡ false) × ((slot_at s x).count ≡ 0) = λ x h. elim (cases_lt 0 (times x s.zeros)) [
      | inl l ↦ (a.unreleased x l, a.none x l)
      | inr l ↦ zero_says (is_slot x first) (slot_at s x) (kept_passes p x ms (omega (arith, h, l, ap (times x) r.zeros, times-append x s.zeros (filter p ms))))
    ] in
    record {
      once = λ x. omega (arith, o x, one-le (ltb x (length t.slots)));
      none = λ x h. same_count r x ∙ (was x h).1;
      unreleased = λ x h. same_released r x ∙ (was x h).0;
    }

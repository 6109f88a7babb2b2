-- What a release keeps of the counts, move by move.
use Rattle.std.proofs.Common.{◌≡◌, ◌≢◌, ℕ, ◌+◌, ◌<◌, Bool, true, false, eqb, Option, None, Some, IsNone, if◌then◌else◌, lit<, List, [], ◌∷◌, length, refl, arith, sym, ◌∙◌, ap, inl, inr, IfSome, subst}
use Rattle.std.proofs.lemmas.List.{length-set, get_or-set_same, get_or-set_other}
use Rattle.std.proofs.lemmas.Bool.{cases_lt, cond-false, cond-true, false≢true}
use Rattle.std.proofs.lemmas.Bool.Decides.{eqb_tells}
use Rattle.rec_counts.specs.declared.slot.Slot.{Slot}
use Rattle.rec_counts.specs.Colour.{is_green}
use Rattle.rec_counts.specs.Counts.{State, slot_at, with_slot}
use Rattle.rec_counts.specs.Lists.{one, times}
use Rattle.rec_counts.specs.Rest.{AreZeros}
use Rattle.rec_counts.specs.Slot.{absent}
use Rattle.rec_counts.proofs.Keeping.{field_kept, unreleased_within}
use Rattle.rec_counts.proofs.Times.{times-cons, times_push, one-none, one-same, one-some}
use Rattle.rec_release.specs.declared.at.At.{At}
use Rattle.rec_release.specs.Release.{Next, listed_if, emptied, first_of, next_from, without_first, with_next, op_at, next_of, IsReady, IsHeld, IsAtWork}
use Rattle.rec_release.specs.TakenOff.{taken_off}
use Rattle.rec_release.proofs.TakenOff.{off_most, ready_off, KeepsMost}

pub held_off : (lowers : Bool) (s : State) (t : Option ℕ) (a : At) → IsHeld s a → IsHeld (taken_off lowers s t) a
held_off lowers s t a h =
    let k : KeepsMost s (taken_off lowers s t) = off_most lowers s t in
    record {
      in_range = omega (arith, h.in_range, k.slots);
      released = k.released a.slot ∙ h.released;
      unlisted = ap (times a.slot) k.free ∙ h.unlisted;
    }

pub listed_ready : (b : Bool) (s : State) (x : ℕ) → (slot_at s x).released ≡ true → IsReady s → IsReady (listed_if b s x)
listed_ready true s x r k = k
listed_ready false s x r k = record {
  zeros = record { once = k.zeros.once; none = k.zeros.none; unreleased = k.zeros.unreleased };
  free = λ y h. elim (eqb_tells y x) [
    | inl q ↦ ap (λ z. (slot_at s z).released) q.1 ∙ r
    | inr q ↦ let n : one (eqb y x) ≡ 0 = ap one q.0 in k.free y (omega (arith, h, n, times_push y s.free x))
  ];
}

-- a slot is emptied
pub ready_emptied : (s : State) (x : ℕ) → (slot_at s x).released ≡ true → IsReady s → IsReady (emptied s x)
ready_emptied s x r k = listed_ready (slot_at s x).buffered s x r k

-- what is known of the first of the zeros, and of the others
pub record FirstZero (s : State) (z : ℕ) (zs : List ℕ) : Type 0 where
  pub in_range : z < length s.slots
  pub none : (slot_at s z).count ≡ 0
  pub unreleased : (slot_at s z).released ≡ false
  pub unlisted : times z s.free ≡ 0
  pub once : times z zs ≡ 0

pub first_zero : (s : State) (z : ℕ) (zs : List ℕ) → s.zeros ≡ z ∷ zs → IsReady s → FirstZero s z zs
first_zero s z zs e k =
    let n : times z s.zeros ≡ 1 + times z zs = ap (times z) e ∙ times-cons z z zs ∙ ap (λ m. m + times z zs) (one-same z) in
    let u : (slot_at s z).released ≡ false = k.zeros.unreleased z (omega (arith, n)) in
    record {
      in_range = unreleased_within s z u;
      none = k.zeros.none z (omega (arith, n));
      unreleased = u;
      unlisted = elim (cases_lt 0 (times z s.free)) [ inl l ↦ absurd (false≢true (sym u ∙ k.free z l)) | inr l ↦ omega (arith, l) ];
      once = omega (arith, n, k.zeros.once z);
    }

-- whether a slot is released, after the first of the zeros was
pub released_same : (s : State) (z : ℕ) (y : ℕ) → y ≢ z → (slot_at (with_slot s z (record (slot_at s z) { released = true })) y).released ≡ (slot_at s y).released
released_same s z y ne = ap (λ (w : Slot). w.released) (get_or-set_other s.slots z y _ absent ne)

pub released_first : (s : State) (z : ℕ) → z < length s.slots → (slot_at (with_slot s z (record (slot_at s z) { released = true })) z).released ≡ true
released_first s z l = ap (λ (w : Slot). w.released) (get_or-set_same s.slots z _ absent l)

pub first_released : (z : ℕ) (zs : List ℕ) (s : State) → s.zeros ≡ z ∷ zs → AreZeros s → (x : ℕ) → one (slot_at (without_first (z ∷ zs) s) x).released ≡ one (slot_at s x).released + one (eqb x z)
first_released z zs s e k x =
    let u : (slot_at s z).released ≡ false = k.unreleased z (omega (arith, ap (times z) e, times-cons z z zs, one-same z)) in
    elim (eqb_tells x z) [
      | inl q ↦ rw q.1 (omega (arith, one-same z, ap one u, ap one (released_first s z (unreleased_within s z u))))
      | inr q ↦ let n : one (eqb x z) ≡ 0 = ap one q.0 in omega (arith, n, ap one (released_same s z x q.1))
    ]

pub next_work : (fields : ℕ) (lowers : Bool) (s : State) (zs : List ℕ) → s.zeros ≡ zs → 0 < fields → IsReady s → IsAtWork (record { fields = fields; at = first_of zs; lowers = lowers }) (without_first zs s)
next_work fields lowers s [] e f k = record { field = tt; held = tt; ready = k }
next_work fields lowers s (z ∷ zs) e f k =
    let first : FirstZero s z zs = first_zero s z zs e k in
    let n : (y : ℕ) → times y s.zeros ≡ one (eqb y z) + times y zs = λ y. ap (times y) e ∙ times-cons y z zs in
    let new : (y : ℕ) → one (slot_at (without_first (z ∷ zs) s) y).released ≡ one (slot_at s y).released + one (eqb y z) = first_released z zs s e k.zeros in
    record {
      field = f;
      held = record {
        in_range = omega (arith, first.in_range, length-set s.slots z (record (slot_at s z) { released = true }));
        released = released_first s z first.in_range;
        unlisted = first.unlisted;
      };
      ready = record {
        zeros = record {
          once = λ y. omega (arith, n y, k.zeros.once y);
          none = λ y h. field_kept (λ (w : Slot). w.count) s.slots z (record (slot_at s z) { released = true }) refl y ∙ k.zeros.none y (omega (arith, h, n y));
          unreleased = λ y h. one-none _ (omega (arith, h, n y, new y, k.zeros.once y, ap one (k.zeros.unreleased y (omega (arith, h, n y)))));
        };
        free = λ y h. one-some _ (omega (arith, new y, ap one (k.free y h)));
      };
    }

-- nothing but the free list changes where a slot is emptied
listed_is : (b : Bool) (s : State) (x : ℕ) → listed_if b s x ≡ record s { free = (listed_if b s x).free }
listed_is true s x = refl
listed_is false s x = refl

pub emptied_zeros : (s : State) (x : ℕ) → (emptied s x).zeros ≡ s.zeros
emptied_zeros s x = ap (λ (u : State). u.zeros) (listed_is (slot_at s x).buffered s x)

-- the first of the zeros is released, and the others are ready
pub ready_first : (s : State) (z : ℕ) (zs : List ℕ) → s.zeros ≡ z ∷ zs → IsReady s → IsReady (without_first (z ∷ zs) s)
ready_first s z zs e k = (next_work 1 false s (z ∷ zs) e (lit< tt) k).ready

-- where it is emptied, they still are
pub ready_gone : (s : State) (z : ℕ) (zs : List ℕ) → s.zeros ≡ z ∷ zs → IsReady s → IsReady (emptied (without_first (z ∷ zs) s) z)
ready_gone s z zs e k = ready_emptied (without_first (z ∷ zs) s) z (released_first s z (first_zero s z zs e k).in_range) (ready_first s z zs e k)

-- What holds of the counts, and stays over each Green zero that is released and empty at once, holds with the field that comes next.
next_by : (P : Option At → State → Type 0) (z : ℕ) (zs : List ℕ) (s : State) (b : Bool) → (b ≡ true → P (next_from zs (emptied (without_first (z ∷ zs) s) z)).at (next_from zs (emptied (without_first (z ∷ zs) s) z)).counts)
    → (b ≡ false → P (Some (record { slot = z; field = 0 })) (without_first (z ∷ zs) s))
    → (let n : Next = if b then next_from zs (emptied (without_first (z ∷ zs) s) z) else record { at = first_of (z ∷ zs); counts = without_first (z ∷ zs) s } in P n.at n.counts)
next_by P z zs s true green other = green refl
next_by P z zs s false green other = other refl

pub each_next : (P : Option At → State → Type 0)
    → ((s : State) (z : ℕ) (zs : List ℕ) → s.zeros ≡ z ∷ zs → IsReady s → is_green (slot_at s z).colour ≡ true → P None s → P None (emptied (without_first (z ∷ zs) s) z))
    → ((s : State) (z : ℕ) (zs : List ℕ) → s.zeros ≡ z ∷ zs → IsReady s → is_green (slot_at s z).colour ≡ false → P None s → P (Some (record { slot = z; field = 0 })) (without_first (z ∷ zs) s))
    → (zs : List ℕ) (s : State) → s.zeros ≡ zs → IsReady s → P None s → P (next_from zs s).at (next_from zs s).counts
each_next P green other [] s e k p = p
each_next P green other (z ∷ zs) s e k p =
    next_by P z zs s (is_green (slot_at s z).colour)
    (λ t. each_next P green other zs (emptied (without_first (z ∷ zs) s) z) (emptied_zeros (without_first (z ∷ zs) s) z) (ready_gone s z zs e k) (green s z zs e k t p))
    (λ t. other s z zs e k t p)

-- The same of what holds whatever the zeros are.
zero_by : (P : State → Type 0) (z : ℕ) (zs : List ℕ) (s : State) (b : Bool) → P (next_from zs (emptied (without_first (z ∷ zs) s) z)).counts → P (without_first (z ∷ zs) s)
    → (let n : Next = if b then next_from zs (emptied (without_first (z ∷ zs) s) z) else record { at = first_of (z ∷ zs); counts = without_first (z ∷ zs) s } in P n.counts)
zero_by P z zs s true green other = green
zero_by P z zs s false green other = other

pub each_zero : (P : State → Type 0) → ((s : State) (z : ℕ) → P s → P (emptied s z)) → ((s : State) (z : ℕ) (zs : List ℕ) → P s → P (without_first (z ∷ zs) s)) → (zs : List ℕ) (s : State) → P s → P (next_from zs s).counts
each_zero P emptied_on first_on [] s p = p
each_zero P emptied_on first_on (z ∷ zs) s p =
    zero_by P z zs s (is_green (slot_at s z).colour)
    (each_zero P emptied_on first_on zs (emptied (without_first (z ∷ zs) s) z) (emptied_on (without_first (z ∷ zs) s) z (first_on s z zs p)))
    (first_on s z zs p)

-- the next zero is released
pub work_next : (fields : ℕ) (lowers : Bool) (s : State) → 0 < fields → IsReady s → IsAtWork (with_next fields lowers s).machine (with_next fields lowers s).counts
work_next fields lowers s f k =
    each_next (λ at u. IsAtWork (record { fields = fields; at = at; lowers = lowers }) u)
    (λ u z zs e r g h. record { field = tt; held = tt; ready = ready_gone u z zs e r })
    (λ u z zs e r g h. next_work fields lowers u (z ∷ zs) e f r)
    s.zeros s refl k (record { field = tt; held = tt; ready = k })

-- where nothing is due, no zero is left
none_by : (fields z : ℕ) (zs : List ℕ) (s : State) (b : Bool) → (IsNone (op_at fields (next_from zs (emptied (without_first (z ∷ zs) s) z)).at) → (next_from zs (emptied (without_first (z ∷ zs) s) z)).counts.zeros ≡ [])
    → (let n : Next = if b then next_from zs (emptied (without_first (z ∷ zs) s) z) else record { at = first_of (z ∷ zs); counts = without_first (z ∷ zs) s } in IsNone (op_at fields n.at) → n.counts.zeros ≡ [])
none_by fields z zs s true rest n = rest n
none_by fields z zs s false rest n = absurd (false≢true (sym n))

none_in : (fields : ℕ) (zs : List ℕ) (s : State) → s.zeros ≡ zs → IsNone (op_at fields (next_from zs s).at) → (next_from zs s).counts.zeros ≡ []
none_in fields [] s e n = e
none_in fields (z ∷ zs) s e n = none_by fields z zs s (is_green (slot_at s z).colour) (none_in fields zs (emptied (without_first (z ∷ zs) s) z) (emptied_zeros (without_first (z ∷ zs) s) z)) n

pub none_left : (fields : ℕ) (lowers : Bool) (s : State) → IsNone (next_of (with_next fields lowers s).machine) → (with_next fields lowers s).counts.zeros ≡ []
unfolding next_of
none_left fields lowers s n = none_in fields s.zeros s refl n

-- the counts are as the release left them, after each of these
pub work_on : (fields : ℕ) (lowers : Bool) (a : At) (s : State) (t : Option ℕ) → IsAtWork (record { fields = fields; at = Some a; lowers = lowers }) s → a.field + 1 < fields → IsAtWork (record { fields = fields; at = Some (record { slot = a.slot; field = a.field + 1 }); lowers = lowers }) (taken_off lowers s t)
work_on fields lowers a s t k l =
    let h : IsHeld (taken_off lowers s t) a = held_off lowers s t a k.held in
    record { field = l; held = record { in_range = h.in_range; released = h.released; unlisted = h.unlisted }; ready = ready_off lowers s t k.ready }

pub work_last : (fields : ℕ) (lowers : Bool) (a : At) (s : State) (t : Option ℕ) → IsAtWork (record { fields = fields; at = Some a; lowers = lowers }) s → IsAtWork (with_next fields lowers (emptied (taken_off lowers s t) a.slot)).machine (with_next fields lowers (emptied (taken_off lowers s t) a.slot)).counts
work_last fields lowers a s t k =
    let off : State = taken_off lowers s t in
    let h : IsHeld off a = held_off lowers s t a k.held in
    let l : 0 < fields = omega (arith, k.field) in
    work_next fields lowers (emptied off a.slot) l (ready_emptied off a.slot h.released (ready_off lowers s t k.ready))

pub emptied_length : (s : State) (x : ℕ) → length (emptied s x).slots ≡ length s.slots
emptied_length s x = ap (λ (u : State). length u.slots) (listed_is (slot_at s x).buffered s x)

pub emptied_sets : (s : State) (x : ℕ) → (emptied s x).sets ≡ s.sets
emptied_sets s x = ap (λ (u : State). u.sets) (listed_is (slot_at s x).buffered s x)

-- the number of slots stays
pub first_length : (zs : List ℕ) (s : State) → length (without_first zs s).slots ≡ length s.slots
first_length [] s = refl
first_length (z ∷ zs) s = length-set s.slots z (record (slot_at s z) { released = true })

-- and so do the sets
pub next_length : (s : State) → length (next_from s.zeros s).counts.slots ≡ length s.slots
next_length s = each_zero (λ u. length u.slots ≡ length s.slots) (λ u z e. emptied_length u z ∙ e) (λ u z zs e. first_length (z ∷ zs) u ∙ e) s.zeros s refl

pub next_sets : (s : State) → (next_from s.zeros s).counts.sets ≡ s.sets
next_sets s = each_zero (λ u. u.sets ≡ s.sets) (λ u z e. emptied_sets u z ∙ e) (λ u z zs e. e) s.zeros s refl

-- Some Green zeros were released, and what is left of the zeros goes on to the same end.
pub record OnTheWay (before s : State) : Type 0 where
  pub ready : IsReady s
  pub same : next_from s.zeros s ≡ next_from before.zeros before

-- the first of the zeros is released, and comes next if it is not Green
pub record FirstOut (s t : State) (a : At) : Type 0 where
  pub in_range : a.slot < length t.slots
  pub unlisted : times a.slot t.free ≡ 0
  pub ready : IsReady (emptied t a.slot)
  pub zeros : length (emptied t a.slot).zeros < length s.zeros
  pub green : is_green (slot_at t a.slot).colour ≡ true → next_from (emptied t a.slot).zeros (emptied t a.slot) ≡ next_from s.zeros s
  pub other : is_green (slot_at t a.slot).colour ≡ false → record { at = Some a; counts = t } ≡ next_from s.zeros s

from_some : {a b : At} → Some a ≡ Some b → a ≡ b
from_some e = cc

out_by : (s : State) (zs : List ℕ) (a : At) → s.zeros ≡ zs → first_of zs ≡ Some a → IsReady s → FirstOut s (without_first zs s) a
out_by s [] a e f k = cc
out_by s (z ∷ zs) a e f k =
    let first : FirstZero s z zs = first_zero s z zs e k in
    let t : State = without_first (z ∷ zs) s in
    let c : (slot_at t z).colour ≡ (slot_at s z).colour = field_kept (λ (w : Slot). w.colour) s.slots z (record (slot_at s z) { released = true }) refl z in
    let gone : length (emptied t z).zeros ≡ length zs = ap length (emptied_zeros t z) in
    let all : length s.zeros ≡ length (z ∷ zs) = ap length e in
    subst (FirstOut s t) (from_some f) (record {
      in_range = omega (arith, first.in_range, length-set s.slots z (record (slot_at s z) { released = true }));
      unlisted = first.unlisted;
      ready = ready_gone s z zs e k;
      zeros = omega (arith, gone, all);
      green = λ g. rw (emptied_zeros t z) (rw e (sym (cond-true (is_green (slot_at s z).colour) (next_from zs (emptied t z)) (record { at = first_of (z ∷ zs); counts = t }) (sym (ap is_green c) ∙ g))));
      other = λ g. rw e (sym (cond-false (is_green (slot_at s z).colour) (next_from zs (emptied t z)) (record { at = first_of (z ∷ zs); counts = t }) (sym (ap is_green c) ∙ g)));
    })

pub first_out : (s : State) (a : At) → first_of s.zeros ≡ Some a → IsReady s → FirstOut s (without_first s.zeros s) a
first_out s a f k = out_by s s.zeros a refl f k

-- what comes next is the first field of its slot
field_by : (fields z : ℕ) (zs : List ℕ) (s : State) (b : Bool) → 0 < fields → IfSome (next_from zs (emptied (without_first (z ∷ zs) s) z)).at (λ (a : At). a.field < fields)
    → (let n : Next = if b then next_from zs (emptied (without_first (z ∷ zs) s) z) else record { at = first_of (z ∷ zs); counts = without_first (z ∷ zs) s } in IfSome n.at (λ (a : At). a.field < fields))
field_by fields z zs s true l rest = rest
field_by fields z zs s false l rest = l

field_in : (fields : ℕ) (zs : List ℕ) (s : State) → 0 < fields → IfSome (next_from zs s).at (λ (a : At). a.field < fields)
field_in fields [] s l = tt
field_in fields (z ∷ zs) s l = field_by fields z zs s (is_green (slot_at s z).colour) l (field_in fields zs (emptied (without_first (z ∷ zs) s) z) l)

pub next_field : (fields : ℕ) (s : State) (a : Option At) → a ≡ (next_from s.zeros s).at → 0 < fields → IfSome a (λ (b : At). b.field < fields)
next_field fields s a e l = subst (λ r. IfSome r (λ (b : At). b.field < fields)) (sym e) (field_in fields s.zeros s l)

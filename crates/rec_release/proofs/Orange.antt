-- What the moves of a release and of a freeing keep of the orange slots, and of the zeros that are not orange.
use Rattle.std.proofs.Common.{◌≡◌, ℕ, ◌+◌, ◌-◌, ◌<◌, ◌⊎◌, Bool, true, false, eqb, ltb, Option, Some, None, IfSome, List, [], ◌∷◌, ◌++◌, length, map, get_or, refl, arith, sym, ◌∙◌, ap, subst, inl, inr}
use Rattle.std.specs.List.{concat}
use Rattle.std.proofs.lemmas.Bool.{cases_lt, false≢true}
use Rattle.std.proofs.lemmas.List.{length-set}
use Rattle.rec_counts.specs.declared.colour.Colour.{Colour}
use Rattle.rec_counts.specs.declared.colour.Colour.TheVariants.{Orange}
use Rattle.rec_counts.specs.declared.slot.Slot.{Slot}
use Rattle.rec_counts.specs.Counts.{State, IsKept, slot_at, with_slot, decremented}
use Rattle.rec_counts.specs.Groups.{last_set, earlier_sets}
use Rattle.rec_counts.specs.Lists.{one, times}
use Rattle.rec_counts.specs.Rest.{AreZeros, KeepsRest}
use Rattle.rec_counts.specs.Slot.{absent, is_in, lessened, lessened_if, lowered, stays, out_of_set, unbuffered_if}
use Rattle.rec_counts.specs.Colour.{is_orange}
use Rattle.rec_counts.proofs.Decrementing.{stays_released, all_zeros_kept, decremented_less, rest_decremented, zeros_from, ZerosFrom, zero_found, same_slot}
use Rattle.rec_counts.proofs.Keeping.{field_kept, keep_drop, map_at, last_once}
use Rattle.rec_counts.proofs.Times.{times-nil, times-append, times-cons, one-le, one-same, one-none}
use Rattle.rec_word.specs.declared.member.Member.{Member}
use Rattle.rec_word.specs.Walk.{behind}
use Rattle.rec_release.specs.CycleFree.{dead_if, given_up, gone_on, listed_behind, IsFreeable}
use Rattle.rec_release.specs.Release.{emptied, listed_if, next_from, without_first, IsReady}
use Rattle.rec_release.specs.TakenOff.{down_if, is_lowered, taken_off, AllZerosButOrange, IsApart, IsMember, Keeps, KeepsOrange}
use Rattle.rec_release.proofs.Giving.{given_slot}
use Rattle.rec_release.proofs.Keeping.{each_next, first_released, ready_emptied}
use Rattle.rec_release.proofs.TakenOff.{down_most, off_most, ready_off, written, KeepsMost}

keeps_on : {lowers : Bool} {s t u : State} → Keeps lowers s t → Keeps lowers t u → Keeps lowers s u
keeps_on k l = record {
  slots = l.slots ∙ k.slots;
  sets = l.sets ∙ k.sets;
  all_zeros = λ e a. l.all_zeros e (k.all_zeros e a);
  all_but_orange = λ a. l.all_but_orange (k.all_but_orange a);
  apart = λ a. l.apart (k.apart a);
  before = λ x o. k.before x (l.before x o);
  kept = λ e x o. l.kept e x (k.kept e x o);
}

pub keeps_orange : {lowers : Bool} {s t : State} → Keeps lowers s t → lowers ≡ true → KeepsOrange [] s t
keeps_orange k e = record { kept = λ x n o. k.kept e x o; before = λ x o. (times-nil x, k.before x o) }

-- a slot stays a member
member_on : (s t : State) (x : ℕ) → t.sets ≡ s.sets → times x t.zeros ≡ 0 → (slot_at t x).released ≡ (slot_at s x).released → IsMember s x → IsMember t x
member_on s t x e z r m = record { member = subst (λ sets. 0 < times x (concat sets)) (sym e) m.member; no_zero = z; unreleased = r ∙ m.unreleased }

-- other lists for work and for what is free
pub lists_keep : (lowers : Bool) (s : State) (work free : List ℕ) → Keeps lowers s (record s { work = work; free = free })
lists_keep lowers s work free = record {
  slots = refl;
  sets = refl;
  all_zeros = λ e a. a;
  all_but_orange = λ a. a;
  apart = λ a x o. member_on s (record s { work = work; free = free }) x refl (a x o).no_zero refl (a x o);
  before = λ x o. o;
  kept = λ e x o. o;
}

listed_keeps : (b lowers : Bool) (s : State) (x : ℕ) → Keeps lowers s (listed_if b s x)
listed_keeps true lowers s x = lists_keep lowers s s.work s.free
listed_keeps false lowers s x = lists_keep lowers s s.work (s.free ++ x ∷ [])

-- the next zero is released
pub first_keeps : (zs : List ℕ) (lowers : Bool) (s : State) → s.zeros ≡ zs → AreZeros s → Keeps lowers s (without_first zs s)
first_keeps [] lowers s e k = lists_keep lowers s s.work s.free
first_keeps (z ∷ zs) lowers s e k =
    let v : Slot = record (slot_at s z) { released = true } in
    let colour : (x : ℕ) → (slot_at (with_slot s z v) x).colour ≡ (slot_at s x).colour = λ x. field_kept (λ (w : Slot). w.colour) s.slots z v refl x in
    let count : (x : ℕ) → (slot_at (with_slot s z v) x).count ≡ (slot_at s x).count = λ x. field_kept (λ (w : Slot). w.count) s.slots z v refl x in
    let n : (x : ℕ) → times x s.zeros ≡ one (eqb x z) + times x zs = λ x. ap (times x) e ∙ times-cons x z zs in
    let new : (x : ℕ) → one (slot_at (with_slot s z v) x).released ≡ one (slot_at s x).released + one (eqb x z) = first_released z zs s e k in
    let old : (x : ℕ) → (slot_at (with_slot s z v) x).released ≡ false → (slot_at s x).released ≡ false = λ x r. one-none _ (omega (arith, new x, ap one r)) in
    record {
      slots = length-set s.slots z v;
      sets = refl;
      all_zeros = λ _ a x r c. omega (arith, n x, new x, ap one r, a x (old x r) (sym (count x) ∙ c));
      all_but_orange = λ a x r c o. omega (arith, n x, new x, ap one r, a x (old x r) (sym (count x) ∙ c) (λ q. o (colour x ∙ q)));
      apart = λ a x o. let m : IsMember s x = a x (sym (colour x) ∙ o) in
          record { member = m.member; no_zero = omega (arith, n x, m.no_zero); unreleased = one-none _ (omega (arith, new x, ap one m.unreleased, n x, m.no_zero)) };
      before = λ x o. sym (colour x) ∙ o;
      kept = λ _ x o. colour x ∙ o;
    }

pub next_keeps : (lowers : Bool) (s : State) → IsReady s → Keeps lowers s (next_from s.zeros s).counts
next_keeps lowers s k =
    each_next (λ at t. Keeps lowers s t)
    (λ t z zs e r g h. let u : State = without_first (z ∷ zs) t in keeps_on h (keeps_on (first_keeps (z ∷ zs) lowers t e r.zeros) (listed_keeps (slot_at u z).buffered lowers u z)))
    (λ t z zs e r g h. keeps_on h (first_keeps (z ∷ zs) lowers t e r.zeros))
    s.zeros s refl k (lists_keep lowers s s.work s.free)

-- the colour of a target that is lowered
pub orange_from : (c : Colour) → is_orange c ≡ true → c ≡ Orange
orange_from Orange e = refl
orange_from _ e = absurd (false≢true e)

lowered_orange : (lowers : Bool) (c : Colour) → is_lowered lowers c ≡ true → c ≡ Orange
lowered_orange true c e = orange_from c e
lowered_orange false c e = absurd (false≢true e)

-- no decrement makes a slot orange, or leaves it so unless it keeps its colour
lessened_orange : (r l : Bool) (v : Slot) → (lessened_if r l v).colour ≡ Orange → (r ≡ true) × (v.colour ≡ Orange)
lessened_orange true l v e = (refl, e)
lessened_orange false true v e = cc
lessened_orange false false v e = cc

-- a slot after a decrement: it was decremented, or it is as it was
decremented_at : (s : State) (y x : ℕ) → ((x ≡ y) × (slot_at (decremented s y) x ≡ lessened (slot_at s y))) ⊎ (slot_at (decremented s y) x ≡ slot_at s x)
decremented_at s y x =
    let v : Slot = lessened (slot_at s y) in
    let e : slot_at (decremented s y) x ≡ slot_at (with_slot s y v) x = same_slot s y x in
    elim (written s y v x) [ inl q ↦ inl (q.0, e ∙ q.1) | inr q ↦ inr (e ∙ q) ]

-- where it is orange, it does not join the zeros
unjoined : (s : State) (y x : ℕ) → (slot_at s x).released ≡ false → (slot_at (decremented s y) x).colour ≡ Orange → times x (zeros_from s y).more ≡ 0
unjoined s y x r o =
    let f : ZerosFrom s y = zeros_from s y in
    elim (cases_lt 0 (times x f.more)) [
      | inl l ↦ elim (decremented_at s y x) [
        | inl q ↦ absurd (false≢true (sym r ∙ ap (λ z. (slot_at s z).released) q.0 ∙ (let l = lessened_orange (stays (slot_at s y)) (eqb (slot_at s y).count 1) (slot_at s y) (ap (λ (w : Slot). w.colour) (sym q.1) ∙ o) in stays_released (slot_at s y) l.0 l.1)))
        | inr q ↦ absurd (omega (arith, ap (λ (w : Slot). w.count) q, f.last x l, f.count x l))
      ]
      | inr l ↦ omega (arith, l)
    ]

orange_before : (s : State) (y x : ℕ) → (slot_at (decremented s y) x).colour ≡ Orange → (slot_at s x).colour ≡ Orange
orange_before s y x o = elim (decremented_at s y x) [
  | inl q ↦ ap (λ z. (slot_at s z).colour) q.0 ∙ (lessened_orange (stays (slot_at s y)) (eqb (slot_at s y).count 1) (slot_at s y) (ap (λ (w : Slot). w.colour) (sym q.1) ∙ o)).1
  | inr q ↦ ap (λ (w : Slot). w.colour) (sym q) ∙ o
]

-- a reference is taken off, by lowering an orange slot or by a decrement
down_keeps : (b lowers : Bool) (s : State) (y : ℕ) → is_lowered lowers (slot_at s y).colour ≡ b → 0 < (slot_at s y).count → Keeps lowers s (down_if b s y)
down_keeps true lowers s y e h =
    let v : Slot = lowered (slot_at s y) in
    let colour : (x : ℕ) → (slot_at (with_slot s y v) x).colour ≡ (slot_at s x).colour = λ x. field_kept (λ (w : Slot). w.colour) s.slots y v refl x in
    let most : KeepsMost s (with_slot s y v) = down_most true s y in
    record {
      slots = most.slots;
      sets = refl;
      all_zeros = λ f. absurd (false≢true (sym (ap (λ b. is_lowered b (slot_at s y).colour) f) ∙ e));
      all_but_orange = λ a x r c o. elim (written s y v x) [
        | inl q ↦ absurd (o (colour x ∙ ap (λ z. (slot_at s z).colour) q.0 ∙ lowered_orange lowers (slot_at s y).colour e))
        | inr q ↦ a x (sym (most.released x) ∙ r) (ap (λ (w : Slot). w.count) (sym q) ∙ c) (λ p. o (colour x ∙ p))
      ];
      apart = λ a x o. let m : IsMember s x = a x (sym (colour x) ∙ o) in member_on s (with_slot s y v) x refl m.no_zero (most.released x) m;
      before = λ x o. sym (colour x) ∙ o;
      kept = λ _ x o. colour x ∙ o;
    }
down_keeps false lowers s y e h =
    let f : ZerosFrom s y = zeros_from s y in
    let n : (x : ℕ) → times x (decremented s y).zeros ≡ times x s.zeros + times x f.more = λ x. ap (times x) f.zeros ∙ times-append x s.zeros f.more in
    let k : KeepsRest s (decremented s y) = rest_decremented s y in
    record {
      slots = k.slots;
      sets = k.sets;
      all_zeros = λ _. all_zeros_kept s y;
      all_but_orange = λ a x r c o. elim (decremented_at s y x) [
        | inl q ↦ let last : (slot_at s y).count ≡ 1 = omega (arith, h, c, ap (λ z. (slot_at (decremented s y) z).count) q.0, decremented_less s y y, one-same y) in
            subst (λ z. 0 < times z (decremented s y).zeros) (sym q.0) (zero_found s y (ap (λ z. (slot_at s z).released) (sym q.0) ∙ sym (k.released x) ∙ r) last)
        | inr q ↦ let old : 0 < times x s.zeros = a x (ap (λ (w : Slot). w.released) (sym q) ∙ r) (ap (λ (w : Slot). w.count) (sym q) ∙ c) (λ p. o (ap (λ (w : Slot). w.colour) q ∙ p)) in omega (arith, n x, old)
      ];
      apart = λ a x o. let m : IsMember s x = a x (orange_before s y x o) in member_on s (decremented s y) x k.sets (omega (arith, n x, m.no_zero, unjoined s y x m.unreleased o)) (k.released x) m;
      before = orange_before s y;
      kept = λ l x o. elim (decremented_at s y x) [
        | inl q ↦ absurd (false≢true (sym e ∙ ap (λ b. is_lowered b (slot_at s y).colour) l ∙ ap is_orange (ap (λ z. (slot_at s z).colour) (sym q.0) ∙ o)))
        | inr q ↦ ap (λ (w : Slot). w.colour) q ∙ o
      ];
    }

pub off_keeps : (lowers : Bool) (s : State) (t : Option ℕ) → IfSome t (λ x. 0 < (slot_at s x).count) → Keeps lowers s (taken_off lowers s t)
off_keeps lowers s None h = lists_keep lowers s s.work s.free
off_keeps lowers s (Some y) h = down_keeps (is_lowered lowers (slot_at s y).colour) lowers s y refl h

-- the last field of a slot: the slot is emptied, and the next zero is released
pub last_keeps : (lowers : Bool) (s : State) (t : Option ℕ) (x : ℕ) → (slot_at s x).released ≡ true → IsReady s → IfSome t (λ y. 0 < (slot_at s y).count) → (let u : State = emptied (taken_off lowers s t) x in Keeps lowers s (next_from u.zeros u).counts)
last_keeps lowers s t x r ready h =
    let off : State = taken_off lowers s t in
    keeps_on (off_keeps lowers s t h)
    (keeps_on (listed_keeps (slot_at off x).buffered lowers off x) (next_keeps lowers (emptied off x) (ready_emptied off x ((off_most lowers s t).released x ∙ r) (ready_off lowers s t ready))))

-- the last set is given up: its members are Black
given_orange_if : (b : Bool) (v : Slot) → (dead_if b (unbuffered_if b v)).colour ≡ Orange → (b ≡ false) × (v.colour ≡ Orange)
given_orange_if true v o = cc
given_orange_if false v o = (refl, o)

given_same : (s : State) (x : ℕ) → is_in (length s.sets - 1) (slot_at s x).set ≡ false → slot_at (given_up s) x ≡ slot_at s x
given_same s x e = given_slot s x ∙ ap (λ b. dead_if b (unbuffered_if b (slot_at s x))) e

given_before : (s : State) (x : ℕ) → (slot_at (given_up s) x).colour ≡ Orange → (is_in (length s.sets - 1) (slot_at s x).set ≡ false) × ((slot_at s x).colour ≡ Orange)
given_before s x o = given_orange_if (is_in (length s.sets - 1) (slot_at s x).set) (slot_at s x) (ap (λ (v : Slot). v.colour) (sym (given_slot s x)) ∙ o)

pub given_orange : (s : State) → IsKept s → KeepsOrange (last_set s.sets) s (given_up s)
given_orange s k = record {
  kept = λ x n o. ap (λ (v : Slot). v.colour) (given_same s x (one-none (is_in (length s.sets - 1) (slot_at s x).set) (sym (k.numbers (length s.sets - 1) x) ∙ n))) ∙ o;
  before = λ x o. let g = given_before s x o in (k.numbers (length s.sets - 1) x ∙ ap one g.0, g.1);
}

-- other members of sets stay there
other_member : (s : State) (x : ℕ) → IsKept s → IsFreeable s → is_in (length s.sets - 1) (slot_at s x).set ≡ false → times x (concat (earlier_sets s.sets)) ≡ times x (concat s.sets)
other_member s x k f e =
    let k' = keep_drop k f.some (λ y. omega (arith, ap (times y) f.work, times-nil y, last_once s k y, one-le (ltb y (length s.slots)))) in
    let same : get_or (map (out_of_set (length s.sets - 1)) s.slots) x absent ≡ slot_at s x = map_at (out_of_set (length s.sets - 1)) refl s.slots x ∙ ap (λ b. unbuffered_if b (slot_at s x)) e in
    omega (arith, k'.buffers x, k.buffers x, ap (λ (v : Slot). one v.buffered) same)

given_unreleased_if : (b : Bool) (v : Slot) → (dead_if b (unbuffered_if b v)).released ≡ false → b ≡ false
given_unreleased_if true v r = absurd (false≢true (sym r))
given_unreleased_if false v r = refl

pub given_apart : (s : State) → IsKept s → IsFreeable s → IsApart s → IsApart (given_up s)
given_apart s k f a = λ x o.
    let g = given_before s x o in
    let m : IsMember s x = a x g.1 in
    record {
      member = omega (arith, other_member s x k f g.0, m.member);
      no_zero = m.no_zero;
      unreleased = ap (λ (v : Slot). v.released) (given_same s x g.0) ∙ m.unreleased;
    }

pub given_zeros : (s : State) → AllZerosButOrange s → AllZerosButOrange (given_up s)
given_zeros s a = λ x r c o.
    let same : slot_at (given_up s) x ≡ slot_at s x = given_same s x (given_unreleased_if (is_in (length s.sets - 1) (slot_at s x).set) (slot_at s x) (ap (λ (v : Slot). v.released) (sym (given_slot s x)) ∙ r)) in
    a x (ap (λ (v : Slot). v.released) (sym same) ∙ r) (ap (λ (v : Slot). v.count) (sym same) ∙ c) (λ q. o (ap (λ (v : Slot). v.colour) same ∙ q))

-- another field comes next, or all members go to the free list
behind_keeps : (at : Option Member) (s : State) → Keeps true s (listed_behind s at).counts
behind_keeps (Some a) s = lists_keep true s s.work s.free
behind_keeps None s = lists_keep true s [] (s.free ++ s.work)

-- a word of a freeing
pub gone_keeps : (fields : ℕ) (s : State) (t : Option ℕ) (a : Member) → IfSome t (λ x. 0 < (slot_at s x).count) → Keeps true s (gone_on fields (taken_off true s t) a).counts
gone_keeps fields s t a h = keeps_on (off_keeps true s t h) (behind_keeps (behind fields (taken_off true s t).work a) (taken_off true s t))

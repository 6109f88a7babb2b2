-- Between a batch and the next trial, the moves on the counts leave them tidy: nothing is Gray or White, the orange slots are apart,
-- every released slot is somewhere, and what is in the free list or the work list is in no buffer.
use Rattle.std.proofs.Common.{◌≡◌, ℕ, suc, ◌+◌, ◌-◌, ◌<◌, ◌≤◌, eqb, Bool, true, false, cond, Option, List, [], ◌∷◌, filter, length, slice_get, sym, ◌∙◌, ap, subst, arith, inl, inr, None, Some, IfSome, ◌++◌, refl}
use Rattle.std.specs.List.{concat}
use Rattle.std.proofs.lemmas.Bool.{true≢false, cases_Bool, cases_lt, eq-eqb, false≢true}
use Rattle.std.proofs.lemmas.List.{length-set}
use Rattle.std.proofs.lemmas.Bool.Decides.{eqb_tells}
use Rattle.rec_collector.proofs.Common.{Orange, Slot, State, IsKept, slot_at, with_slot, one, times, is_in, unbuffered_if, times-nil, times-cons, times-append, times_push, dead_if, given_up, listed, IsFreeable, emptied, first_of, listed_if, without_first, IsReady, off_most, KeepsMost, fate_at, fate_if, is_root, is_zero, refurbished, LastRefurbished, is_free, IsRefusable, IsTidy}
use Rattle.rec_word.specs.Word.{is_slot}
use Rattle.rec_counts.specs.Groups.{last_set, earlier_sets}
use Rattle.rec_counts.specs.Rest.{AreZeros}
use Rattle.rec_counts.proofs.Keeping.{field_kept}
use Rattle.rec_release.specs.TakenOff.{IsMember, IsApart, taken_off, AllZerosButOrange}
use Rattle.rec_release.specs.declared.at.At.{At}
use Rattle.rec_release.proofs.Giving.{given_many, given_slot}
use Rattle.rec_release.proofs.Keeping.{released_same}
use Rattle.rec_release.proofs.Orange.{given_apart, given_zeros, first_keeps, lists_keep, off_keeps}
use Rattle.rec_sigma.specs.declared.fate.Fate.{Fate}
use Rattle.rec_sigma.specs.declared.fate.Fate.TheVariants.{Free}
use Rattle.rec_sigma.specs.declared.fate.Fate.TheVariants as fates
use Rattle.rec_sigma.proofs.Renewals.{released_after, same_count, same_released}
use Rattle.rec_collector.proofs.Outside.{in_use_orange, untried_moved, first_lowers, given_lowers, off_lowers, outside_on, refurbished_lowers, same_lowers}

-- what the sets have, the earlier ones and the last have
times_last : (x : ℕ) (xss : List (List ℕ)) → times x (concat xss) ≡ times x (concat (earlier_sets xss)) + times x (last_set xss)
times_last x [] = omega (arith, times-nil x)
times_last x (xs ∷ []) = omega (arith, times-append x xs [], times-nil x)
times_last x (xs ∷ ys ∷ yss) =
    let k : length (xs ∷ ys ∷ yss) - 1 ≡ suc (length (ys ∷ yss) - 1) = omega arith in
    rw k (omega (arith, times-append x xs (concat (ys ∷ yss)), times-append x xs (concat (earlier_sets (ys ∷ yss))), times_last x (ys ∷ yss)))

-- what passes a test stands there no more often
times_filter : (p : ℕ → Bool) (x : ℕ) (xs : List ℕ) → times x (filter p xs) ≤ times x xs
times_filter p x [] = omega arith
times_filter p x (y ∷ ys) = elim (p y) as (λ b. times x (cond b (y ∷ filter p ys) (filter p ys)) ≤ times x (y ∷ ys)) [
  | true ↦ omega (arith, times_filter p x ys, times-cons x y (filter p ys), times-cons x y ys)
  | false ↦ omega (arith, times_filter p x ys, times-cons x y ys)
]

-- a refurbished member is Orange only where it was
refurbished_orange : (f : Fate) (v : Slot) → (refurbished f v).colour ≡ Orange → v.colour ≡ Orange
refurbished_orange Free v o = o
refurbished_orange fates.Root v o = cc
refurbished_orange _ v o = absurd (in_use_orange v.colour o)

-- a member that isn't released is Orange no more
fate_uncolours : (released none root : Bool) (v : Slot) → released ≡ false → (refurbished (fate_if released none root) v).colour ≡ Orange → ⊥
fate_uncolours true none root v e o = true≢false e
fate_uncolours false true root v e o = in_use_orange v.colour o
fate_uncolours false false true v e o = cc
fate_uncolours false false false v e o = in_use_orange v.colour o

apart_refurbished : (s t : State) → IsKept s → LastRefurbished s t → IsApart s → IsApart t
apart_refurbished s t k r a = λ x o.
    let n : ℕ = length s.sets - 1 in
    let first : Option ℕ = slice_get (last_set s.sets) 0 in
    let v : Slot = slot_at s x in
    elim (cases_Bool (is_in n v.set)) [
      | inl e ↦ let same : slot_at t x ≡ refurbished (fate_at s first x) v = r.inside x (omega (arith, k.numbers n x, ap one e)) in
          let now : (refurbished (fate_at s first x) v).colour ≡ Orange = ap (λ (w : Slot). w.colour) (sym same) ∙ o in
          let before : IsMember s x = a x (refurbished_orange (fate_at s first x) v now) in
          absurd (fate_uncolours v.released (eqb v.count 0) (is_root (is_slot x first) v.colour) v before.unreleased now)
      | inr e ↦ let none : times x (last_set s.sets) ≡ 0 = k.numbers n x ∙ ap one e in
          let before : IsMember s x = a x (ap (λ (w : Slot). w.colour) (sym (r.others x none)) ∙ o) in
          let there : 0 < times x (concat (earlier_sets s.sets)) = omega (arith, before.member, none, times_last x s.sets) in
          record {
            member = subst (λ xss. 0 < times x (concat xss)) (sym r.sets) there;
            no_zero = omega (
              arith,
              ap (times x) r.zeros,
              times-append x s.zeros (filter (λ y. is_zero (fate_at s first y)) (last_set s.sets)),
              times_filter (λ y. is_zero (fate_at s first y)) x (last_set s.sets),
              none,
              before.no_zero,
            );
            unreleased = ap (λ (w : Slot). w.released) (r.others x none) ∙ before.unreleased;
          }
    ]

-- a reference is taken off, where what the work list has is released
pub tidy_off : {fields : ℕ} → (lowers : Bool) (s : State) (t : Option ℕ) (at : Option At) → IfSome t (λ x. 0 < (slot_at s x).count) → IsReady s → ((x : ℕ) → 0 < times x s.work → (slot_at s x).released ≡ true) → IsTidy fields s at → IsTidy fields (taken_off lowers s t) at
tidy_off lowers s t at h ready released i =
    let n : KeepsMost s (taken_off lowers s t) = off_most lowers s t in
    record {
      untried = untried_moved s (taken_off lowers s t) n.marked (off_lowers lowers s t i.apart h) i.untried;
      apart = (off_keeps lowers s t h).apart i.apart;
      all_zeros = (off_keeps lowers s t h).all_but_orange i.all_zeros;
      outside = outside_on s (taken_off lowers s t) (off_lowers lowers s t i.apart h) i.outside;
      listed = λ x l r b.
          let r' : (slot_at s x).released ≡ true = sym (n.released x) ∙ r in
          omega (arith, i.listed x (omega (arith, l, n.slots)) r' (sym (n.buffered x r') ∙ b), ap (times x) n.free, ap (times x) n.work);
      unbuffered = λ x l.
          let there : 0 < times x s.free = omega (arith, l, ap (times x) n.free) in
          n.buffered x (ready.free x there) ∙ i.unbuffered x there;
      held = λ x l.
          let there : 0 < times x s.work = omega (arith, l, ap (times x) n.work) in
          n.buffered x (released x there) ∙ i.held x there;
    }

-- the slot at work is emptied
tidy_listed_if : {fields : ℕ} → (b : Bool) (s : State) (a : At) → (slot_at s a.slot).buffered ≡ b → IsTidy fields s (Some a) → IsTidy fields (listed_if b s a.slot) None
tidy_listed_if true s a e i = record {
  untried = i.untried;
  apart = i.apart;
  all_zeros = i.all_zeros;
  outside = i.outside;
  listed = λ x l r u. elim (eqb_tells x a.slot) [
    | inl q ↦ absurd (false≢true (sym u ∙ ap (λ y. (slot_at s y).buffered) q.1 ∙ e))
    | inr q ↦ let n : one (eqb x a.slot) ≡ 0 = ap one q.0 in omega (arith, i.listed x l r u, n)
  ];
  unbuffered = i.unbuffered;
  held = i.held;
}
tidy_listed_if false s a e i = record {
  untried = record { marked = i.untried.marked; no_gray = i.untried.no_gray; no_white = i.untried.no_white };
  apart = (lists_keep true s s.work (s.free ++ a.slot ∷ [])).apart i.apart;
  all_zeros = i.all_zeros;
  outside = outside_on s (listed_if false s a.slot) (same_lowers s (listed_if false s a.slot) (λ x. refl)) i.outside;
  listed = λ x l r u. omega (arith, i.listed x l r u, times_push x s.free a.slot);
  unbuffered = λ x h. elim (eqb_tells x a.slot) [
    | inl q ↦ ap (λ y. (slot_at s y).buffered) q.1 ∙ e
    | inr q ↦ let n : one (eqb x a.slot) ≡ 0 = ap one q.0 in i.unbuffered x (omega (arith, h, n, times_push x s.free a.slot))
  ];
  held = i.held;
}

pub tidy_emptied : {fields : ℕ} → (s : State) (a : At) → IsTidy fields s (Some a) → IsTidy fields (emptied s a.slot) None
tidy_emptied s a i = tidy_listed_if (slot_at s a.slot).buffered s a refl i

-- the first of the zeros, if there is one, is released
pub tidy_first : {fields : ℕ} → (zs : List ℕ) (s : State) → s.zeros ≡ zs → AreZeros s → IsTidy fields s None → IsTidy fields (without_first zs s) (first_of zs)
tidy_first [] s e k i = i
tidy_first (z ∷ zs) s e k i =
    let v : Slot = record (slot_at s z) { released = true } in
    let buffered : (x : ℕ) → (slot_at (with_slot s z v) x).buffered ≡ (slot_at s x).buffered = field_kept (λ (w : Slot). w.buffered) s.slots z v refl in
    record {
      untried = untried_moved s (without_first (z ∷ zs) s) refl (first_lowers (z ∷ zs) s) i.untried;
      apart = (first_keeps (z ∷ zs) true s e k).apart i.apart;
      outside = outside_on s (without_first (z ∷ zs) s) (first_lowers (z ∷ zs) s) i.outside;
      all_zeros = (first_keeps (z ∷ zs) true s e k).all_but_orange i.all_zeros;
      listed = λ x l r b. elim (eqb_tells x z) [
        | inl q ↦ let n : one (eqb x z) ≡ 1 = ap one q.0 in omega (arith, n)
        | inr q ↦ omega (arith, i.listed x (omega (arith, l, length-set s.slots z v)) (sym (released_same s z x q.1) ∙ r) (sym (buffered x) ∙ b))
      ];
      unbuffered = λ x l. buffered x ∙ i.unbuffered x l;
      held = λ x l. buffered x ∙ i.held x l;
    }

-- a member that is given up is in no buffer, and any other slot is as it was
dead_unbuffered : (b : Bool) (v : Slot) → v.buffered ≡ false → (dead_if b (unbuffered_if b v)).buffered ≡ false
dead_unbuffered true v e = refl
dead_unbuffered false v e = e

member_unbuffered : (b : Bool) (v : Slot) (n : ℕ) → n ≡ one b → 0 < n → (dead_if b (unbuffered_if b v)).buffered ≡ false
member_unbuffered true v n e h = refl
member_unbuffered false v n e h = absurd (omega (arith, e, h))

no_member : (b : Bool) (v : Slot) (n : ℕ) → n ≡ one b → n ≡ 0 → dead_if b (unbuffered_if b v) ≡ v
no_member true v n e h = absurd (omega (arith, e, h))
no_member false v n e h = refl

-- the last set is given up
pub tidy_given : {fields : ℕ} → (s : State) → IsKept s → IsFreeable s → IsTidy fields s None → IsTidy fields (given_up s) None
tidy_given s k f i =
    let n : ℕ = length s.sets - 1 in
    let ms : List ℕ = last_set s.sets in
    let inside : (x : ℕ) → Bool = λ x. is_in n (slot_at s x).set in
    record {
      untried = untried_moved s (given_up s) refl (given_lowers s) i.untried;
      apart = given_apart s k f i.apart;
      all_zeros = given_zeros s i.all_zeros;
      outside = outside_on s (given_up s) (given_lowers s) i.outside;
      listed = λ x l r b. elim (cases_lt 0 (times x ms)) [
        | inl m ↦ omega (arith, m, times-append x s.work ms)
        | inr m ↦
            let same : slot_at (given_up s) x ≡ slot_at s x = given_slot s x ∙ no_member (inside x) (slot_at s x) (times x ms) (k.numbers n x) (omega (arith, m)) in
            omega (arith, i.listed x (omega (arith, l, given_many s)) (ap (λ (v : Slot). v.released) (sym same) ∙ r) (ap (λ (v : Slot). v.buffered) (sym same) ∙ b), times-append x s.work ms)
      ];
      unbuffered = λ x l. ap (λ (v : Slot). v.buffered) (given_slot s x) ∙ dead_unbuffered (inside x) (slot_at s x) (i.unbuffered x l);
      held = λ x l. ap (λ (v : Slot). v.buffered) (given_slot s x) ∙ elim (cases_lt 0 (times x ms)) [
        | inl m ↦ member_unbuffered (inside x) (slot_at s x) (times x ms) (k.numbers n x) m
        | inr m ↦ dead_unbuffered (inside x) (slot_at s x) (i.held x (omega (arith, l, m, times-append x s.work ms)))
      ];
    }

-- the members of a set that was given up go to the free list
pub tidy_listed : {fields : ℕ} → (s : State) → IsTidy fields s None → IsTidy fields (listed s) None
tidy_listed s i = record {
  untried = record { marked = i.untried.marked; no_gray = i.untried.no_gray; no_white = i.untried.no_white };
  apart = (lists_keep true s [] (s.free ++ s.work)).apart i.apart;
  all_zeros = i.all_zeros;
  outside = outside_on s (listed s) (same_lowers s (listed s) (λ x. refl)) i.outside;
  listed = λ x l r b. omega (arith, i.listed x l r b, times-append x s.free s.work);
  unbuffered = λ x l. elim (cases_lt 0 (times x s.free)) [
    | inl h ↦ i.unbuffered x h
    | inr h ↦ i.held x (omega (arith, l, h, times-append x s.free s.work))
  ];
  held = λ x l. absurd (omega (arith, l, times-nil x));
}

-- what passes a test stands there as often
filter_passed : (p : ℕ → Bool) (x : ℕ) (xs : List ℕ) → p x ≡ true → times x (filter p xs) ≡ times x xs
filter_passed p x [] e = refl
filter_passed p x (y ∷ ys) e = elim (eqb_tells x y) [
  | inl q ↦
      let mine : filter p (y ∷ ys) ≡ y ∷ filter p ys = ap (λ b. cond b (y ∷ filter p ys) (filter p ys)) (ap p (sym q.1) ∙ e) in
      omega (arith, ap (times x) mine, times-cons x y (filter p ys), times-cons x y ys, filter_passed p x ys e)
  | inr q ↦ let n : one (eqb x y) ≡ 0 = ap one q.0 in omega (arith, n, times-cons x y ys, filter_passed p x ys e, other n (p y))
]
  where
    other : one (eqb x y) ≡ 0 → (b : Bool) → times x (cond b (y ∷ filter p ys) (filter p ys)) ≡ times x (filter p ys)
    other n true = omega (arith, n, times-cons x y (filter p ys))
    other n false = refl

-- a released member is free once it is refurbished
freed_member : (s : State) (first : Option ℕ) (x : ℕ) → (slot_at s x).released ≡ true → fate_at s first x ≡ fates.Free
freed_member s first x r = ap (λ b. fate_if b (eqb (slot_at s x).count 0) (is_root (is_slot x first) (slot_at s x).colour)) r

-- a member without a count that isn't released goes to the zeros
zero_member : (s : State) (first : Option ℕ) (x : ℕ) → (slot_at s x).released ≡ false → (slot_at s x).count ≡ 0 → fate_at s first x ≡ fates.Zero
zero_member s first x r n = ap (λ b. fate_if b (eqb (slot_at s x).count 0) (is_root (is_slot x first) (slot_at s x).colour)) r ∙ ap (λ b. fate_if false b (is_root (is_slot x first) (slot_at s x).colour)) (eq-eqb (slot_at s x).count 0 n)

zeros_refurbished : (s t : State) → LastRefurbished s t → AllZerosButOrange s → AllZerosButOrange t
zeros_refurbished s t r a = λ x u n o.
    let ms : List ℕ = last_set s.sets in
    let first : Option ℕ = slice_get ms 0 in
    let p : ℕ → Bool = λ y. is_zero (fate_at s first y) in
    let more : times x t.zeros ≡ times x s.zeros + times x (filter p ms) = ap (times x) r.zeros ∙ times-append x s.zeros (filter p ms) in
    let unreleased : (slot_at s x).released ≡ false = sym (same_released r x) ∙ u in
    let none : (slot_at s x).count ≡ 0 = sym (same_count r x) ∙ n in
    elim (cases_lt 0 (times x ms)) [
      | inl m ↦ omega (arith, m, more, filter_passed p x ms (ap is_zero (zero_member s first x unreleased none)))
      | inr m ↦ omega (arith, more, a x unreleased none (λ q. o (ap (λ (v : Slot). v.colour) (r.others x (omega (arith, m))) ∙ q)))
    ]

-- the last set is refurbished
pub tidy_refurbished : {fields : ℕ} → (s t : State) → IsKept s → IsRefusable s → IsReady s → LastRefurbished s t → IsTidy fields s None → IsTidy fields t None
tidy_refurbished s t k f ready r i =
    let ms : List ℕ = last_set s.sets in
    let first : Option ℕ = slice_get ms 0 in
    let p : ℕ → Bool = λ y. is_free (fate_at s first y) in
    let free : (x : ℕ) → times x t.free ≡ times x s.free + times x (filter p ms) = λ x. ap (times x) r.free ∙ times-append x s.free (filter p ms) in
    record {
      untried = untried_moved s t r.marked (refurbished_lowers s t r) i.untried;
      apart = apart_refurbished s t k r i.apart;
      all_zeros = zeros_refurbished s t r i.all_zeros;
      outside = outside_on s t (refurbished_lowers s t r) i.outside;
      listed = λ x l o b. elim (cases_lt 0 (times x ms)) [
        | inl m ↦ omega (arith, m, free x, filter_passed p x ms (ap is_free (freed_member s first x (sym (same_released r x) ∙ o))))
        | inr m ↦
            let same : slot_at t x ≡ slot_at s x = r.others x (omega (arith, m)) in
            omega (arith, i.listed x (omega (arith, l, r.many)) (ap (λ (v : Slot). v.released) (sym same) ∙ o) (ap (λ (v : Slot). v.buffered) (sym same) ∙ b), free x, ap (times x) r.work)
      ];
      unbuffered = λ x l. elim (cases_lt 0 (times x ms)) [
        | inl m ↦
            let o : (slot_at s x).released ≡ true = sym (same_released r x) ∙ released_after s ms first t r ready.free x l in
            ap (λ (v : Slot). v.buffered) (r.inside x m) ∙ ap (λ g. (refurbished g (slot_at s x)).buffered) (freed_member s first x o)
        | inr m ↦ ap (λ (v : Slot). v.buffered) (r.others x (omega (arith, m))) ∙ i.unbuffered x (omega (arith, l, m, free x, times_filter p x ms))
      ];
      held = λ x l. absurd (omega (arith, l, ap (times x) (r.work ∙ f.work), times-nil x));
    }

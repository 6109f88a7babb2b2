-- What a postponed trial leaves of the counts: all but the released roots, which go to the free list.
use Rattle.std.proofs.Common.{◌≡◌, ℕ, suc, ◌+◌, ◌<◌, ◌≤◌, Bool, true, false, eqb, ltb, List, [], zero, ◌∷◌, ◌++◌, length, slice_get, Some, refl, sym, ap, subst, ◌∙◌, arith, append_assoc, append-nil, inl, inr}
use Rattle.std.specs.List.{concat, filter}
use Rattle.std.proofs.Math.ListN.{set}
use Rattle.std.proofs.lemmas.Bool.{cases_Bool, eqb-true, false≢true}
use Rattle.std.proofs.lemmas.List.{get_or-set_same, length-set, length_push}
use Rattle.std.proofs.lemmas.List.Elements.{filter-append}
use Rattle.rec_trial.proofs.Common.{Colour, State, IsKept, slot_at, with_slot, without_root, one, times, is_green, field_kept, first_root_in_range, keep_pop_root, relisted, roots_once, IsReady, released_among}
use Rattle.rec_trial.specs.Postponed.{AreUnlisted, postponed, returned, returned_if, rotated, rotated_by, rotated_in}
use Rattle.rec_trial.specs.Tried.{members}
use Rattle.rec_trial.proofs.Conditions.{first_is}
use Rattle.rec_trial.proofs.Keeps.{KeepsCounts, same_among}
use Rattle.rec_counts.specs.declared.slot.Slot.{Slot}
use Rattle.rec_counts.specs.Slot.{absent}
use Rattle.rec_counts.specs.Lists as in_counts
use Rattle.rec_counts.proofs.Keeping.{keep_push_root}
use Rattle.rec_counts.proofs.Times.{once_push, one-le, one-none, one-same, times-cons, times-nil, times-append, times_push}

-- a slot, in no buffer
abbrev out : Slot → Slot
out v = record v { buffered = false }

-- What waits, waits: nothing but the root buffer and the free list changes, and which slots are buffered.
pub record Waits (s t : State) : Type 0 where
  pub slot : (x : ℕ) → out (slot_at t x) ≡ out (slot_at s x)
  pub slots : length t.slots ≡ length s.slots
  pub sets : t.sets ≡ s.sets
  pub marked : t.marked ≡ s.marked
  pub work : t.work ≡ s.work
  pub zeros : t.zeros ≡ s.zeros
  pub fewer : length t.roots ≤ length s.roots
  pub free : t.free ++ released_among s t.roots ≡ s.free ++ released_among s s.roots

pub waits_field : {s t : State} → Waits s t → {A : Type 0} (f : Slot → A) → ((v : Slot) → f (out v) ≡ f v) → (x : ℕ) → f (slot_at t x) ≡ f (slot_at s x)
waits_field {s} {t} w f same x = sym (same (slot_at t x)) ∙ ap f (w.slot x) ∙ same (slot_at s x)

-- that is so, and what always holds of the counts does
pub record IsPostponed (s t : State) : Type 0 where
  pub waits : Waits s t
  pub kept : IsKept t
  pub unlisted : AreUnlisted t

then : {s t u : State} → Waits s t → Waits t u → Waits s u
then {s} {t} {u} k l = record {
  slot = λ x. l.slot x ∙ k.slot x;
  slots = l.slots ∙ k.slots;
  sets = l.sets ∙ k.sets;
  marked = l.marked ∙ k.marked;
  work = l.work ∙ k.work;
  zeros = l.zeros ∙ k.zeros;
  fewer = omega (arith, l.fewer, k.fewer);
  free =
      let same : (x : ℕ) → (slot_at t x).released ≡ (slot_at s x).released = waits_field k (λ (v : Slot). v.released) (λ v. refl) in
      ap (λ xs. u.free ++ xs) (sym (same_among s t same u.roots)) ∙ l.free ∙ ap (λ xs. t.free ++ xs) (same_among s t same t.roots) ∙ k.free;
}

-- the first root leaves the root buffer
module _ (s : State) (x : ℕ) (xs : List ℕ) (first : s.roots ≡ x ∷ xs) (k : IsKept s) (none : AreUnlisted s) where
  abbrev t : State
  t = without_root (x ∷ xs) s

  range : x < length s.slots
  range = first_root_in_range k x xs first

  popped : IsKept t
  popped = keep_pop_root k x xs (out (slot_at s x)) first refl refl

  here : slot_at t x ≡ out (slot_at s x)
  here = get_or-set_same s.slots x (out (slot_at s x)) absent range

  there : 0 < in_counts.times x s.roots
  there = rw first (omega (arith, times-cons x x xs, one-same x))

  was : {A : Type 0} (f : Slot → A) → ((v : Slot) → f (out v) ≡ f v) → (y : ℕ) → f (slot_at t y) ≡ f (slot_at s y)
  was f same y = field_kept f s.slots x (out (slot_at s x)) (same (slot_at s x)) y

  released_too : (slot_at t x).released ≡ (slot_at s x).released
  released_too = was (λ (v : Slot). v.released) (λ v. refl) x

  released_root : (slot_at t x).released ≡ true → IsPostponed s (returned_if true t x)
  released_root r =
      let o : (slot_at s x).released ≡ true = sym released_too ∙ r in
      let new : in_counts.times x s.free ≡ 0 = none x there o in
      record {
        waits = record {
          slot = was out (λ v. refl);
          slots = length-set s.slots x (out (slot_at s x));
          sets = refl;
          marked = refl;
          work = refl;
          zeros = refl;
          fewer = omega (arith, ap length first);
          free = append_assoc s.free (x ∷ []) (released_among s xs) ∙ ap (λ ys. s.free ++ ys) (rw o refl) ∙ ap (λ ys. s.free ++ released_among s ys) (sym first);
        };
        kept = relisted popped popped.marked_once popped.work_once popped.zeros_once (once_push _ s.free x popped.free_once new (omega (arith, range, length-set s.slots x (out (slot_at s x)))));
        unlisted = λ y h q.
            let once : in_counts.times y s.roots ≤ one (ltb y (length s.slots)) = roots_once k y in
            let parts : in_counts.times y s.roots ≡ one (eqb y x) + in_counts.times y xs = ap (in_counts.times y) first ∙ times-cons y x xs in
            let not_free : in_counts.times y s.free ≡ 0 = none y (omega (arith, parts, h)) (sym (was (λ (v : Slot). v.released) (λ v. refl) y) ∙ q) in
            omega (arith, h, once, parts, not_free, times_push y s.free x, one-le (ltb y (length s.slots)));
      }

  in_use : (slot_at t x).released ≡ false → IsPostponed s (returned_if false t x)
  in_use r =
      let o : (slot_at s x).released ≡ false = sym released_too ∙ r in
      let v : Slot = record (slot_at t x) { buffered = true } in
      let u : State = returned_if false t x in
      let same : (y : ℕ) → out (slot_at u y) ≡ out (slot_at s y) = λ y. field_kept out t.slots x v refl y ∙ was out (λ w. refl) y in
      record {
        waits = record {
          slot = same;
          slots = length-set t.slots x v ∙ length-set s.slots x (out (slot_at s x));
          sets = refl;
          marked = refl;
          work = refl;
          zeros = refl;
          fewer = omega (arith, ap length first, length_push xs x);
          free = ap (λ ys. s.free ++ ys) (filter-append (λ y. (slot_at s y).released) xs (x ∷ []) ∙ alone o) ∙ ap (λ ys. s.free ++ released_among s ys) (sym first);
        };
        kept = keep_push_root popped x v (omega (arith, range, length-set s.slots x (out (slot_at s x)))) (ap (λ (w : Slot). w.buffered) here) refl refl;
        unlisted = λ y h q.
            let parts : in_counts.times y s.roots ≡ one (eqb y x) + in_counts.times y xs = ap (in_counts.times y) first ∙ times-cons y x xs in
            none y (omega (arith, parts, h, times_push y xs x)) (sym (ap (λ (w : Slot). w.released) (same y)) ∙ q);
      }
    where
      alone : (slot_at s x).released ≡ false → released_among s xs ++ released_among s (x ∷ []) ≡ released_among s (x ∷ xs)
      alone o = rw o (append-nil (released_among s xs))

  turned : IsPostponed s (returned t x)
  turned = elim (cases_Bool (slot_at t x).released) [
    | inl r ↦ subst (λ b. IsPostponed s (returned_if b t x)) (sym r) (released_root r)
    | inr r ↦ subst (λ b. IsPostponed s (returned_if b t x)) (sym r) (in_use r)
  ]

  -- a released slot is another one, where the first root isn't released
  other_than : (z : ℕ) → (slot_at s z).released ≡ true → (slot_at t x).released ≡ false → eqb z x ≡ false
  other_than z is r = elim (cases_Bool (eqb z x)) [
    | inl same ↦ absurd (false≢true (sym r ∙ released_too ∙ ap (λ y. (slot_at s y).released) (sym (eqb-true z x same)) ∙ is))
    | inr differs ↦ differs
  ]

same_waits : (s : State) → Waits s s
same_waits s = record { slot = λ x. refl; slots = refl; sets = refl; marked = refl; work = refl; zeros = refl; fewer = omega arith; free = refl }

turned_by : (rs : List ℕ) (s : State) → s.roots ≡ rs → IsKept s → AreUnlisted s → IsPostponed s (rotated_by rs s)
turned_by [] s e k n = record { waits = same_waits s; kept = k; unlisted = n }
turned_by (x ∷ xs) s e k n = turned s x xs e k n

turned_once : (s : State) → IsKept s → AreUnlisted s → IsPostponed s (rotated s)
turned_once s k n = turned_by s.roots s refl k n

pub turned_on : {s t : State} → IsPostponed s t → IsPostponed s (rotated t)
turned_on {s} {t} p = let q : IsPostponed t (rotated t) = turned_once t p.kept p.unlisted in record { waits = then p.waits q.waits; kept = q.kept; unlisted = q.unlisted }

pub turned_none : (s : State) → IsKept s → AreUnlisted s → IsPostponed s s
turned_none s k n = record { waits = same_waits s; kept = k; unlisted = n }

turned_all : (n : ℕ) {s t : State} → IsPostponed s t → IsPostponed s (rotated_in n t)
turned_all zero p = p
turned_all (suc n) p = turned_all n (turned_on p)

-- what calls for a root find
pub rotated_some : (s : State) (rs : List ℕ) (x : ℕ) → Some x ≡ slice_get rs 0 → returned (without_root rs s) x ≡ rotated_by rs s
rotated_some s [] x h = cc
rotated_some s (y ∷ ys) x h = ap (returned (without_root (y ∷ ys) s)) (first_is x y h)

pub root_out : (s : State) → IsKept s → (rs : List ℕ) → s.roots ≡ rs → (x : ℕ) → Some x ≡ slice_get rs 0 → (slot_at (without_root rs s) x).buffered ≡ false
root_out s k [] e x h = cc
root_out s k (y ∷ ys) e x h = ap (λ z. (slot_at (without_root (y ∷ ys) s) z).buffered) (first_is x y h) ∙ ap (λ (v : Slot). v.buffered) (get_or-set_same s.slots y (out (slot_at s y)) absent (first_root_in_range k y ys e))

-- one root more
rotated_last : (n : ℕ) (s : State) → rotated_in (suc n) s ≡ rotated (rotated_in n s)
rotated_last zero s = refl
rotated_last (suc n) s = rotated_last n (rotated s)

pub rotated_more : (n : ℕ) (s : State) → rotated_in (n + 1) s ≡ rotated (rotated_in n s)
rotated_more n s = let next : n + 1 ≡ suc n = omega arith in ap (λ k. rotated_in k s) next ∙ rotated_last n s

-- each root had its turn
pub postponed_is : (s : State) → IsKept s → IsReady s → IsPostponed s (postponed s)
unfolding postponed
postponed_is s k r = turned_all (length s.roots) (turned_none s k r.unlisted)

-- once so many first roots had, a released slot is a root only where it was behind them
left_in : (xs ys : List ℕ) (s : State) (z : ℕ) → s.roots ≡ xs ++ ys → IsKept s → AreUnlisted s → (slot_at s z).released ≡ true → in_counts.times z (rotated_in (length xs) s).roots ≡ in_counts.times z ys
left_in [] ys s z e k n is = ap (in_counts.times z) e
left_in (x ∷ xs) ys s z e k n is =
    let t : State = rotated s in
    let q : IsPostponed s t = turned_once s k n in
    let u : State = without_root (x ∷ (xs ++ ys)) s in
    let at : t ≡ returned u x = ap (λ rs. rotated_by rs s) e in
    let still : (slot_at t z).released ≡ true = waits_field q.waits (λ (v : Slot). v.released) (λ v. refl) z ∙ is in
    elim (cases_Bool (slot_at u x).released) [
      | inl r ↦ left_in xs ys t z (ap (λ (w : State). w.roots) at ∙ ap (λ b. (returned_if b u x).roots) r) q.kept q.unlisted still
      | inr r ↦
          let differs : eqb z x ≡ false = other_than s x (xs ++ ys) e k n z is r in
          left_in xs (ys ++ x ∷ []) t z (ap (λ (w : State). w.roots) at ∙ ap (λ b. (returned_if b u x).roots) r ∙ append_assoc xs ys (x ∷ [])) q.kept q.unlisted still ∙ omega (arith, times_push z ys x, ap one differs)
    ]

-- no released slot waits any more
pub none_left : (s : State) → IsKept s → IsReady s → (z : ℕ) → (slot_at (postponed s) z).released ≡ true → in_counts.times z (postponed s).roots ≡ 0
unfolding postponed
none_left s k r z is =
    left_in s.roots [] s z (sym (append-nil s.roots)) k r.unlisted (sym (waits_field (postponed_is s k r).waits (λ (v : Slot). v.released) (λ v. refl) z) ∙ is) ∙ times-nil z

-- what a trial leaves of the counts as it was, a postponed one does
pub postponed_keeps : (s : State) → IsKept s → IsReady s → KeepsCounts s (postponed s)
postponed_keeps s k r =
    let w : Waits s (postponed s) = (postponed_is s k r).waits in
    record {
      counts = waits_field w (λ (v : Slot). v.count) (λ v. refl);
      released = waits_field w (λ (v : Slot). v.released) (λ v. refl);
      slots = w.slots;
      zeros = w.zeros;
      free = w.free;
      members = λ x h. absurd (omega (arith, h, ap (λ xss. in_counts.times x (concat xss)) (w.sets ∙ r.sets), times-nil x));
      green = waits_field w (λ (v : Slot). is_green v.colour) (λ v. refl);
    }

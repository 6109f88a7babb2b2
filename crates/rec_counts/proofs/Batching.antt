-- What a batch makes of each slot and of the lists.
use Rattle.std.proofs.Common.{◌≡◌, ℕ, ◌+◌, ◌-◌, ◌<◌, ◌≤◌, ◌||◌, Bool, true, false, eqb, ltb, cond, Option, List, [], ◌++◌, length, refl, sym, ap, subst, ◌∙◌, arith, inl, inr}
use Rattle.std.proofs.lemmas.List.{get_or_past}
use Rattle.std.proofs.lemmas.List.FromFn.{get_or-map-range_with_len, length-map-range_with_len}
use Rattle.std.proofs.lemmas.Bool.{cases_lt, eq-eqb, eqb-true, false≢true, lt-ltb}
use Rattle.rec_counts.specs.declared.slot.Slot.{Slot}
use Rattle.rec_counts.specs.declared.slot.Due.TheVariants.{Nothing}
use Rattle.rec_counts.specs.declared.colour.Colour.{Colour}
use Rattle.rec_counts.specs.declared.colour.Colour.TheVariants.{Green}
use Rattle.rec_counts.specs.declared.touched.Mark.{Mark}
use Rattle.rec_counts.specs.declared.touched.Mark.TheVariants.{Untouched, Added, Taken}
use Rattle.rec_counts.specs.Batched.{batched, batched_at, batched_slots, counted_at, counted_slot, is_root, is_zero, new_roots, new_zeros}
use Rattle.rec_counts.specs.Colour.{in_use, is_green}
use Rattle.rec_counts.specs.Counts.{IsKept, State, slot_at}
use Rattle.rec_counts.specs.Lists.{one, times}
use Rattle.rec_counts.specs.Rest.{AllZeros, AreZeros, KeepsRest}
use Rattle.rec_counts.specs.Slot.{absent, due_if, is_in, settled, settled_due, settled_if, stays}
use Rattle.rec_counts.specs.Touched.{firsts, greened_if, mark_of, settled_at}
use Rattle.rec_counts.proofs.Decrementing.{stays_green}
use Rattle.rec_counts.proofs.Keeping.{relisted, remade}
use Rattle.rec_counts.proofs.ToldSlots.{times-filter, times_firsts}
use Rattle.rec_counts.proofs.Times.{one-le, times-append, times-nil}

-- What no change of a count or a colour changes.
greened_same : {A : Type 0} (f : Slot → A) → ((v : Slot) → f (record v { colour = Green }) ≡ f v) → (b : Bool) (v : Slot) → f (greened_if b v) ≡ f v
greened_same f h true v = h v
greened_same f h false v = refl

settled_same : {A : Type 0} (f : Slot → A) → ((v : Slot) (c : Colour) → f (record v { colour = c }) ≡ f v) → ((v : Slot) (c : Colour) → f (record v { colour = c; buffered = true }) ≡ f v) → (m : Mark) (v : Slot) → f (settled_at m v) ≡ f v
settled_same f h k Untouched v = refl
settled_same f h k Added v = h v (in_use v.colour)
settled_same f h k Taken v = go (stays v) (eqb v.count 0)
  where
    go : (s n : Bool) → f (settled_if s n v) ≡ f v
    go true n = refl
    go false true = h v _
    go false false = k v _

-- how many references a slot has then
pub count_at : (s : State) (born added : ℕ → ℕ) (taken : List ℕ) (x : ℕ) → (batched_at s.slots born added taken x).count ≡ (slot_at s x).count + added x - times x taken
count_at s born added taken x = settled_same (λ v. v.count) (λ v c. refl) (λ v c. refl) (mark_of (ltb 0 (added x)) (ltb 0 (times x taken))) (counted_at s.slots born added taken x)

released_at : (s : State) (born added : ℕ → ℕ) (taken : List ℕ) (x : ℕ) → (batched_at s.slots born added taken x).released ≡ (slot_at s x).released
released_at s born added taken x =
    settled_same (λ v. v.released) (λ v c. refl) (λ v c. refl) (mark_of (ltb 0 (added x)) (ltb 0 (times x taken))) (counted_at s.slots born added taken x)
    ∙ greened_same (λ v. v.released) (λ v. refl) (ltb 0 (born x)) (slot_at s x)

cyclic_at : (s : State) (born added : ℕ → ℕ) (taken : List ℕ) (x : ℕ) → (batched_at s.slots born added taken x).cyclic ≡ (slot_at s x).cyclic
cyclic_at s born added taken x =
    settled_same (λ v. v.cyclic) (λ v c. refl) (λ v c. refl) (mark_of (ltb 0 (added x)) (ltb 0 (times x taken))) (counted_at s.slots born added taken x)
    ∙ greened_same (λ v. v.cyclic) (λ v. refl) (ltb 0 (born x)) (slot_at s x)

set_at : (s : State) (born added : ℕ → ℕ) (taken : List ℕ) (x : ℕ) → (batched_at s.slots born added taken x).set ≡ (slot_at s x).set
set_at s born added taken x =
    settled_same (λ v. v.set) (λ v c. refl) (λ v c. refl) (mark_of (ltb 0 (added x)) (ltb 0 (times x taken))) (counted_at s.slots born added taken x)
    ∙ greened_same (λ v. v.set) (λ v. refl) (ltb 0 (born x)) (slot_at s x)

-- a slot before it is settled
pub counted_released : (s : State) (born added : ℕ → ℕ) (taken : List ℕ) (x : ℕ) → (counted_at s.slots born added taken x).released ≡ (slot_at s x).released
counted_released s born added taken x = greened_same (λ v. v.released) (λ v. refl) (ltb 0 (born x)) (slot_at s x)

counted_buffered : (s : State) (born added : ℕ → ℕ) (taken : List ℕ) (x : ℕ) → (counted_at s.slots born added taken x).buffered ≡ (slot_at s x).buffered
counted_buffered s born added taken x = greened_same (λ v. v.buffered) (λ v. refl) (ltb 0 (born x)) (slot_at s x)

-- a slot that goes to the root buffer is buffered then
rooted : (r g n : Bool) (v : Slot) → one (settled_if (r || g) n v).buffered ≡ one v.buffered + one (is_root (due_if r n (v.buffered || g)))
rooted true g n v = omega arith
rooted false true true v = omega arith
rooted false false true v = omega arith
rooted false true false v = go v.buffered
  where
    go : (b : Bool) → one b ≡ one b + one (is_root (due_if false false (b || true)))
    go true = refl
    go false = refl
rooted false false false v = go v.buffered
  where
    go : (b : Bool) → 1 ≡ one b + one (is_root (due_if false false (b || false)))
    go true = refl
    go false = refl

settled_buffered : (v : Slot) → one (settled v).buffered ≡ one v.buffered + one (is_root (settled_due v))
settled_buffered v = rooted v.released (is_green v.colour) (eqb v.count 0) v

cond_none : (b : Bool) → ◌≡◌ {A = ℕ} (cond b 0 0) 0
cond_none true = refl
cond_none false = refl

-- how often a slot stands among the new roots and zeros
times-roots : (s : State) (born added : ℕ → ℕ) (taken : List ℕ) (x : ℕ) → times x (new_roots s.slots born added taken) ≡ cond (is_root (settled_due (counted_at s.slots born added taken x))) (one (ltb 0 (times x taken))) 0
times-roots s born added taken x =
    times-filter x (λ y. is_root (settled_due (counted_at s.slots born added taken y))) (firsts taken)
    ∙ ap (λ n. cond (is_root (settled_due (counted_at s.slots born added taken x))) n 0) (times_firsts x taken)

times-zeros : (s : State) (born added : ℕ → ℕ) (taken : List ℕ) (x : ℕ) → times x (new_zeros s.slots born added taken) ≡ cond (is_zero (settled_due (counted_at s.slots born added taken x))) (one (ltb 0 (times x taken))) 0
times-zeros s born added taken x =
    times-filter x (λ y. is_zero (settled_due (counted_at s.slots born added taken y))) (firsts taken)
    ∙ ap (λ n. cond (is_zero (settled_due (counted_at s.slots born added taken x))) n 0) (times_firsts x taken)

buffered_at : (s : State) (born added : ℕ → ℕ) (taken : List ℕ) (x : ℕ) → one (batched_at s.slots born added taken x).buffered ≡ one (slot_at s x).buffered + times x (new_roots s.slots born added taken)
buffered_at s born added taken x = go (ltb 0 (added x)) (ltb 0 (times x taken)) refl refl
  where
    v : Slot
    v = counted_at s.slots born added taken x

    go : (a t : Bool) → ltb 0 (added x) ≡ a → ltb 0 (times x taken) ≡ t → one (batched_at s.slots born added taken x).buffered ≡ one (slot_at s x).buffered + times x (new_roots s.slots born added taken)
    go a true e f =
        let is : mark_of (ltb 0 (added x)) (ltb 0 (times x taken)) ≡ Taken = ap (mark_of (ltb 0 (added x))) f ∙ taken_of (ltb 0 (added x)) in
        omega (arith, ap (λ m. one (settled_at m v).buffered) is, settled_buffered v, ap one (counted_buffered s born added taken x), times-roots s born added taken x, some (is_root (settled_due v)), ap (λ b. cond (is_root (settled_due v)) (one b) 0) f)
      where
        taken_of : (b : Bool) → mark_of b true ≡ Taken
        taken_of true = refl
        taken_of false = refl

        some : (b : Bool) → cond b 1 0 ≡ one b
        some true = refl
        some false = refl
    go true false e f = omega (arith, ap (λ m. one (settled_at m v).buffered) (ap (mark_of (ltb 0 (added x))) f ∙ ap (λ b. mark_of b false) e), ap one (counted_buffered s born added taken x), times-roots s born added taken x, cond_none (is_root (settled_due v)), ap (λ b. cond (is_root (settled_due v)) (one b) 0) f)
    go false false e f = omega (arith, ap (λ m. one (settled_at m v).buffered) (ap (mark_of (ltb 0 (added x))) f ∙ ap (λ b. mark_of b false) e), ap one (counted_buffered s born added taken x), times-roots s born added taken x, cond_none (is_root (settled_due v)), ap (λ b. cond (is_root (settled_due v)) (one b) 0) f)

-- a slot past the last one goes nowhere
past_due : (s : State) (born added : ℕ → ℕ) (taken : List ℕ) (x : ℕ) → length s.slots ≤ x → settled_due (counted_at s.slots born added taken x) ≡ Nothing
past_due s born added taken x l =
    let v : Slot = counted_at s.slots born added taken x in
    ap (λ r. due_if r (eqb v.count 0) (v.buffered || is_green v.colour)) (counted_released s born added taken x ∙ ap (λ (w : Slot). w.released) (get_or_past s.slots x absent l))

-- each slot that is there
pub at_below : (s : State) (born added : ℕ → ℕ) (taken : List ℕ) (x : ℕ) → x < length s.slots → slot_at (batched s born added taken) x ≡ batched_at s.slots born added taken x
at_below s born added taken x l = get_or-map-range_with_len (batched_at s.slots born added taken) 0 (length s.slots) x x absent l (omega arith)

pub as_many : (s : State) (born added : ℕ → ℕ) (taken : List ℕ) → length (batched s born added taken).slots ≡ length s.slots
as_many s born added taken = length-map-range_with_len (batched_at s.slots born added taken) 0 (length s.slots)

past : (s : State) (born added : ℕ → ℕ) (taken : List ℕ) (x : ℕ) → length s.slots ≤ x → slot_at (batched s born added taken) x ≡ absent
past s born added taken x l = get_or_past (batched s born added taken).slots x absent (omega (arith, l, as_many s born added taken))

-- a slot that nothing is told of stays
pub unnamed_at : (born added taken : ℕ) (v : Slot) → born ≡ 0 → added ≡ 0 → taken ≡ 0 → settled_at (mark_of (ltb 0 added) (ltb 0 taken)) (counted_slot born added taken v) ≡ v
unnamed_at born added taken v e f g = rw (e, f, g) (ap {A = ℕ} {B = Slot} (λ n. record v { count = n }) (omega arith))

-- each slot, where nothing is told of those past the last one
pub at_each : (s : State) (born added : ℕ → ℕ) (taken : List ℕ) → ((x : ℕ) → length s.slots ≤ x → born x + added x + times x taken ≡ 0) → (x : ℕ) → slot_at (batched s born added taken) x ≡ batched_at s.slots born added taken x
at_each s born added taken none x = elim (cases_lt x (length s.slots)) [
  | inl l ↦ at_below s born added taken x l
  | inr l ↦ past s born added taken x l ∙ sym (get_or_past s.slots x absent l) ∙ sym (unnamed_at (born x) (added x) (times x taken) (slot_at s x) (omega (arith, none x l)) (omega (arith, none x l)) (omega (arith, none x l)))
]

-- what always holds still does
pub batched_kept : (s : State) (born added : ℕ → ℕ) (taken : List ℕ) → s.zeros ≡ [] → IsKept s → IsKept (batched s born added taken)
batched_kept s born added taken z k =
    let slots : List Slot = batched_slots s.slots born added taken in
    let many : length slots ≡ length s.slots = as_many s born added taken in
    let again = remade k slots (s.roots ++ new_roots s.slots born added taken) s.sets many
    (λ x. elim (cases_lt x (length s.slots)) [
      | inl l ↦ omega (arith, times-append x s.roots (new_roots s.slots born added taken), k.buffers x, buffered_at s born added taken x, ap (λ (v : Slot). one v.buffered) (at_below s born added taken x l))
      | inr l ↦ omega (arith, times-append x s.roots (new_roots s.slots born added taken), k.buffers x, ap (λ (v : Slot). one v.buffered) (get_or_past s.slots x absent l), ap (λ (v : Slot). one v.buffered) (past s born added taken x l), times-roots s born added taken x, ap (λ d. cond (is_root d) (one (ltb 0 (times x taken))) 0) (past_due s born added taken x l))
    ])
    (λ i x. k.numbers i x ∙ ap (λ (o : Option ℕ). one (is_in i o)) (elim (cases_lt x (length s.slots)) [
      | inl l ↦ sym (ap (λ (v : Slot). v.set) (at_below s born added taken x l) ∙ set_at s born added taken x)
      | inr l ↦ ap (λ (v : Slot). v.set) (get_or_past s.slots x absent l) ∙ sym (ap (λ (v : Slot). v.set) (past s born added taken x l))
    ]))
    k.few_sets in
    relisted again again.marked_once again.work_once
    (λ x. elim (cases_lt x (length s.slots)) [
      | inl l ↦ omega (arith, times-append x s.zeros (new_zeros s.slots born added taken), ap (times x) z, times-nil x, times-zeros s born added taken x, few (is_zero (settled_due (counted_at s.slots born added taken x))) (ltb 0 (times x taken)), ap one (lt-ltb x (length slots) (omega (arith, l, many))))
      | inr l ↦ omega (arith, times-append x s.zeros (new_zeros s.slots born added taken), ap (times x) z, times-nil x, times-zeros s born added taken x, ap (λ d. cond (is_zero d) (one (ltb 0 (times x taken))) 0) (past_due s born added taken x l))
    ])
    again.free_once
  where
    few : (b c : Bool) → cond b (one c) 0 ≤ 1
    few true c = one-le c
    few false c = omega arith

-- all else stays
pub batched_rest : (s : State) (born added : ℕ → ℕ) (taken : List ℕ) → ((x : ℕ) → length s.slots ≤ x → born x + added x + times x taken ≡ 0) → KeepsRest s (batched s born added taken)
batched_rest s born added taken none = record {
  slots = as_many s born added taken;
  sets = refl;
  marked = refl;
  work = refl;
  free = refl;
  released = λ x. ap (λ (v : Slot). v.released) (at_each s born added taken none x) ∙ released_at s born added taken x;
  cyclic = λ x. ap (λ (v : Slot). v.cyclic) (at_each s born added taken none x) ∙ cyclic_at s born added taken x;
  set = λ x. ap (λ (v : Slot). v.set) (at_each s born added taken none x) ∙ set_at s born added taken x;
}

-- A slot is due at the zeros exactly where it isn't released and has no reference.
zero_due : (v : Slot) → is_zero (settled_due v) ≡ true → (v.released ≡ false) × (v.count ≡ 0)
zero_due v h = go v.released (eqb v.count 0) (v.buffered || is_green v.colour) refl refl h
  where
    go : (r n b : Bool) → v.released ≡ r → eqb v.count 0 ≡ n → is_zero (due_if r n b) ≡ true → (v.released ≡ false) × (v.count ≡ 0)
    go true n b e f i = absurd (false≢true i)
    go false true b e f i = (e, eqb-true v.count 0 f)
    go false false true e f i = absurd (false≢true i)
    go false false false e f i = absurd (false≢true i)

due_zero : (v : Slot) → v.released ≡ false → v.count ≡ 0 → is_zero (settled_due v) ≡ true
due_zero v r n = rw (r, eq-eqb v.count 0 n) refl

zero_some : (b c : Bool) → 0 < cond b (one c) 0 → (b ≡ true) × (c ≡ true)
zero_some true true h = (refl, refl)
zero_some true false h = absurd (omega arith)
zero_some false c h = absurd (omega arith)

-- the zeros are zeros, where there were none
pub batched_zeros : (s : State) (born added : ℕ → ℕ) (taken : List ℕ) → ((x : ℕ) → length s.slots ≤ x → born x + added x + times x taken ≡ 0) → s.zeros ≡ [] → AreZeros (batched s born added taken)
batched_zeros s born added taken none z =
    let zeros : (x : ℕ) → times x (batched s born added taken).zeros ≡ cond (is_zero (settled_due (counted_at s.slots born added taken x))) (one (ltb 0 (times x taken))) 0
    = λ x. omega (arith, times-append x s.zeros (new_zeros s.slots born added taken), ap (times x) z, times-nil x, times-zeros s born added taken x) in
    record {
      once = λ x. omega (arith, zeros x, few (is_zero (settled_due (counted_at s.slots born added taken x))) (ltb 0 (times x taken)));
      none = λ x h. ap (λ (v : Slot). v.count) (at_each s born added taken none x) ∙ count_at s born added taken x ∙ (zero_due (counted_at s.slots born added taken x) (zero_some _ (ltb 0 (times x taken)) (subst (λ n. 0 < n) (zeros x) h)).0).1;
      unreleased = λ x h. ap (λ (v : Slot). v.released) (at_each s born added taken none x) ∙ released_at s born added taken x ∙ sym (counted_released s born added taken x) ∙ (zero_due (counted_at s.slots born added taken x) (zero_some _ (ltb 0 (times x taken)) (subst (λ n. 0 < n) (zeros x) h)).0).0;
    }
  where
    few : (b c : Bool) → cond b (one c) 0 ≤ 1
    few true c = one-le c
    few false c = omega arith

-- and all of them are there
pub batched_all_zeros : (s : State) (born added : ℕ → ℕ) (taken : List ℕ) → ((x : ℕ) → length s.slots ≤ x → born x + added x + times x taken ≡ 0) → s.zeros ≡ [] → AllZeros s → AllZeros (batched s born added taken)
batched_all_zeros s born added taken none z all x r n =
    let here = at_each s born added taken none x in
    let unreleased : (slot_at s x).released ≡ false = sym (released_at s born added taken x) ∙ ap (λ (v : Slot). v.released) (sym here) ∙ r in
    let count : (slot_at s x).count + added x - times x taken ≡ 0 = sym (count_at s born added taken x) ∙ ap (λ (v : Slot). v.count) (sym here) ∙ n in
    let some : 0 < times x taken = elim (cases_lt 0 (slot_at s x).count) [
      | inl l ↦ omega (arith, count, l)
      | inr l ↦ absurd (omega (arith, all x unreleased (omega (arith, l)), ap (times x) z, times-nil x))
    ] in
    let due : is_zero (settled_due (counted_at s.slots born added taken x)) ≡ true = due_zero (counted_at s.slots born added taken x) (counted_released s born added taken x ∙ unreleased) count in
    omega (arith, times-append x s.zeros (new_zeros s.slots born added taken), times-zeros s born added taken x, ap (λ b. cond b (one (ltb 0 (times x taken))) 0) due, ap one (lt-ltb 0 (times x taken) some))

-- a slot is Green afterwards exactly where it was, or is born a leaf
pub settled_green : (m : Mark) (v : Slot) → is_green (settled_at m v).colour ≡ is_green v.colour
settled_green Untouched v = refl
settled_green Added v = used v.colour
  where
    used : (c : Colour) → is_green (in_use c) ≡ is_green c
    used Green = refl
    used _ = refl
settled_green Taken v = go (stays v) (eqb v.count 0) refl
  where
    go : (k n : Bool) → stays v ≡ k → is_green (settled_if k n v).colour ≡ is_green v.colour
    go true n e = refl
    go false true e = sym (stays_green v.released v e)
    go false false e = sym (stays_green v.released v e)

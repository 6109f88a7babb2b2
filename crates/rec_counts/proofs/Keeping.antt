-- What always holds still does after each change.
use Rattle.std.proofs.Common.{◌≡◌, ◌≢◌, ℕ, suc, zero, ◌+◌, ◌-◌, ◌<◌, ◌≤◌, Bool, true, false, eqb, ltb, Option, Some, None, List, [], ◌∷◌, ◌++◌, length, map, take, get_or, refl, arith, sym, ◌∙◌, ap, inl, inr}
use Rattle.std.proofs.Math.ListN.{set}
use Rattle.std.specs.List.{concat}
use Rattle.std.proofs.lemmas.List.{length-set, length-map, length_push, get_or-set_same, get_or-set_other, set_past, get_or_past, get_or-take, take_all, take_more, length-take}
use Rattle.std.proofs.lemmas.List.Folds.{concat-append}
use Rattle.std.proofs.lemmas.Bool.Decides.{eqb_tells}
use Rattle.std.proofs.lemmas.Bool.{cases_lt, lt-ltb, le-ltb, eqb-true, ne_eqb, false≢true}
use Rattle.rec_counts.specs.declared.slot.Slot.{Slot}
use Rattle.rec_counts.specs.Slot.{absent, is_in, unrooted, unrooted_if, unbuffered_if, out_of_set}
use Rattle.rec_counts.specs.Lists.{one, times, EachOnce}
use Rattle.rec_counts.specs.Groups.{with_member, earlier_sets, last_set}
use Rattle.rec_counts.specs.Kept.{Kept}
use Rattle.rec_counts.specs.Counts.{State, slot_at, IsKept, IsLastSetNew, without_last_set}
use Rattle.rec_counts.proofs.Times.{times-nil, times-append, times_at, times_push, times_part, times_parts, times-cons, one-le, one-same, in_range_once, room_once}

-- what a slot has, after a write that keeps it there
pub field_kept : {A : Type 0} (f : Slot → A) (slots : List Slot) (x : ℕ) (v : Slot) → f v ≡ f (get_or slots x absent) → (y : ℕ) → f (get_or (set slots x v) y absent) ≡ f (get_or slots y absent)
field_kept f slots x v e y =
    elim (eqb_tells y x) [
      | inl q ↦ elim (cases_lt x (length slots)) [
        | inl l ↦ rw q.1 (ap f (get_or-set_same slots x v absent l) ∙ e)
        | inr l ↦ rw (set_past slots x v l) refl
      ]
      | inr q ↦ ap f (get_or-set_other slots x y v absent q.1)
    ]

-- what falls by one where a slot is written, and stays elsewhere
pub less_at : (f : Slot → ℕ) (slots : List Slot) (x : ℕ) (v : Slot) → f absent ≡ 0 → f v ≡ f (get_or slots x absent) - 1 → (y : ℕ) → f (get_or (set slots x v) y absent) ≡ f (get_or slots y absent) - one (eqb y x)
less_at f slots x v z e y =
    elim (eqb_tells y x) [
      | inl q ↦ rw q.1 (elim (cases_lt x (length slots)) [
        | inl l ↦ omega (arith, one-same x, ap f (get_or-set_same slots x v absent l), e)
        | inr l ↦ omega (arith, ap (λ ss. f (get_or ss x absent)) (set_past slots x v l), ap f (get_or_past slots x absent l), z)
      ])
      | inr q ↦ let n : one (eqb y x) ≡ 0 = ap one q.0 in omega (arith, n, ap f (get_or-set_other slots x y v absent q.1))
    ]

-- another number of slots with the same buffers
pub remade : {slots : List Slot} {roots : List ℕ} {sets : List (List ℕ)} {marked work zeros free : List ℕ} → Kept slots roots sets marked work zeros free →
    (slots' : List Slot) (roots' : List ℕ) (sets' : List (List ℕ)) → length slots' ≡ length slots →
    ((x : ℕ) → times x roots' + times x (concat sets') ≡ one (get_or slots' x absent).buffered) →
    ((number x : ℕ) → times x (get_or sets' number []) ≡ one (is_in number (get_or slots' x absent).set)) →
    length sets' ≤ length slots → Kept slots' roots' sets' marked work zeros free
remade k slots' roots' sets' e buffers numbers few = record {
  buffers = buffers;
  numbers = numbers;
  few_sets = rw e few;
  marked_once = rw e k.marked_once;
  work_once = rw e k.work_once;
  zeros_once = rw e k.zeros_once;
  free_once = rw e k.free_once;
  few_slots = rw e k.few_slots;
}

-- other lists with the same buffers
pub relisted : {slots : List Slot} {roots : List ℕ} {sets : List (List ℕ)} {marked work zeros free : List ℕ} → Kept slots roots sets marked work zeros free →
    {marked' work' zeros' free' : List ℕ} → EachOnce (length slots) marked' → EachOnce (length slots) work' → EachOnce (length slots) zeros' → EachOnce (length slots) free' →
    Kept slots roots sets marked' work' zeros' free'
relisted k m w z f = record {
  buffers = k.buffers;
  numbers = k.numbers;
  few_sets = k.few_sets;
  marked_once = m;
  work_once = w;
  zeros_once = z;
  free_once = f;
  few_slots = k.few_slots;
}

-- a slot is written that stays in the buffers where it is
pub keep_slot : {slots : List Slot} {roots : List ℕ} {sets : List (List ℕ)} {marked work zeros free : List ℕ} → Kept slots roots sets marked work zeros free →
    (x : ℕ) (v : Slot) → v.buffered ≡ (get_or slots x absent).buffered → v.set ≡ (get_or slots x absent).set →
    Kept (set slots x v) roots sets marked work zeros free
keep_slot {slots = slots} {roots = roots} {sets = sets} k x v b s =
    remade k (set slots x v) roots sets (length-set slots x v)
    (λ y. k.buffers y ∙ ap one (sym (field_kept (λ (w : Slot). w.buffered) slots x v b y)))
    (λ i y. k.numbers i y ∙ ap (λ (o : Option ℕ). one (is_in i o)) (sym (field_kept (λ (w : Slot). w.set) slots x v s y)))
    k.few_sets

-- each root stands in the root buffer once
pub roots_once : {slots : List Slot} {roots : List ℕ} {sets : List (List ℕ)} {marked work zeros free : List ℕ} → Kept slots roots sets marked work zeros free →
    EachOnce (length slots) roots
roots_once {slots = slots} {roots = roots} {sets = sets} k x =
    elim (cases_lt x (length slots)) [
      | inl l ↦ let in_range : one (ltb x (length slots)) ≡ 1 = ap one (lt-ltb x (length slots) l) in omega (arith, k.buffers x, one-le (get_or slots x absent).buffered)
      | inr l ↦ let none : one (get_or slots x absent).buffered ≡ 0 = ap (λ (w : Slot). one w.buffered) (get_or_past slots x absent l) in omega (arith, k.buffers x)
    ]

-- each member stands in the sets once
pub members_once : {slots : List Slot} {roots : List ℕ} {sets : List (List ℕ)} {marked work zeros free : List ℕ} → Kept slots roots sets marked work zeros free →
    EachOnce (length slots) (concat sets)
members_once {slots = slots} {roots = roots} {sets = sets} k x =
    elim (cases_lt x (length slots)) [
      | inl l ↦ let in_range : one (ltb x (length slots)) ≡ 1 = ap one (lt-ltb x (length slots) l) in omega (arith, k.buffers x, one-le (get_or slots x absent).buffered)
      | inr l ↦ let none : one (get_or slots x absent).buffered ≡ 0 = ap (λ (w : Slot). one w.buffered) (get_or_past slots x absent l) in omega (arith, k.buffers x)
    ]

-- what is unbuffered stands in neither buffer
in_neither : {slots : List Slot} {roots : List ℕ} {sets : List (List ℕ)} {marked work zeros free : List ℕ} → Kept slots roots sets marked work zeros free →
    (x : ℕ) → (get_or slots x absent).buffered ≡ false → (times x roots ≡ 0) × (times x (concat sets) ≡ 0)
in_neither {slots = slots} k x b = let none : one (get_or slots x absent).buffered ≡ 0 = ap one b in (omega (arith, k.buffers x), omega (arith, k.buffers x))

-- there is room for a root more
pub root_room : {slots : List Slot} {roots : List ℕ} {sets : List (List ℕ)} {marked work zeros free : List ℕ} → Kept slots roots sets marked work zeros free →
    (x : ℕ) → x < length slots → (get_or slots x absent).buffered ≡ false → length roots < length slots
root_room {slots = slots} {roots = roots} k x l b = room_once (length slots) roots x (roots_once k) (in_neither k x b).0 l

-- there is room for a member more
pub member_room : {slots : List Slot} {roots : List ℕ} {sets : List (List ℕ)} {marked work zeros free : List ℕ} → Kept slots roots sets marked work zeros free →
    (x : ℕ) → x < length slots → (get_or slots x absent).buffered ≡ false → length (concat sets) < length slots
member_room {slots = slots} {sets = sets} k x l b = room_once (length slots) (concat sets) x (members_once k) (in_neither k x b).1 l

-- a slot becomes a root
pub keep_push_root : {slots : List Slot} {roots : List ℕ} {sets : List (List ℕ)} {marked work zeros free : List ℕ} → Kept slots roots sets marked work zeros free →
    (x : ℕ) (v : Slot) → x < length slots → (get_or slots x absent).buffered ≡ false → v.buffered ≡ true → v.set ≡ (get_or slots x absent).set →
    Kept (set slots x v) (roots ++ x ∷ []) sets marked work zeros free
keep_push_root {slots = slots} {roots = roots} {sets = sets} k x v l b b' s =
    remade k (set slots x v) (roots ++ x ∷ []) sets (length-set slots x v)
    (λ y. elim (eqb_tells y x) [
      | inl q ↦ let n : one (get_or (set slots x v) y absent).buffered ≡ 1 = rw q.1 (ap (λ (w : Slot). one w.buffered) (get_or-set_same slots x v absent l) ∙ ap one b') in
          let z : one (get_or slots y absent).buffered ≡ 0 = rw q.1 (ap one b) in
          let t : one (eqb y x) ≡ 1 = ap one q.0 in
          omega (arith, times_push y roots x, k.buffers y)
      | inr q ↦ let n : one (get_or (set slots x v) y absent).buffered ≡ one (get_or slots y absent).buffered = ap (λ (w : Slot). one w.buffered) (get_or-set_other slots x y v absent q.1) in
          let t : one (eqb y x) ≡ 0 = ap one q.0 in
          omega (arith, times_push y roots x, k.buffers y)
    ])
    (λ i y. k.numbers i y ∙ ap (λ (o : Option ℕ). one (is_in i o)) (sym (field_kept (λ (w : Slot). w.set) slots x v s y)))
    k.few_sets

-- each root is in range
root_in_range : {slots : List Slot} {roots : List ℕ} {sets : List (List ℕ)} {marked work zeros free : List ℕ} → Kept slots roots sets marked work zeros free →
    (x : ℕ) → 0 < times x roots → x < length slots
root_in_range {slots = slots} k x h = in_range_once (length slots) _ x (roots_once k) h

-- the first root is in range
pub first_root_in_range : {slots : List Slot} {roots : List ℕ} {sets : List (List ℕ)} {marked work zeros free : List ℕ} → Kept slots roots sets marked work zeros free →
    (x : ℕ) (rest : List ℕ) → roots ≡ x ∷ rest → x < length slots
first_root_in_range k x rest e =
    let t : times x (x ∷ rest) ≡ 1 + times x rest = times-cons x x rest ∙ ap (λ n. n + times x rest) (one-same x) in
    root_in_range k x (omega (arith, ap (times x) e))

-- the first root leaves
pub keep_pop_root : {slots : List Slot} {roots : List ℕ} {sets : List (List ℕ)} {marked work zeros free : List ℕ} → Kept slots roots sets marked work zeros free →
    (x : ℕ) (rest : List ℕ) (v : Slot) → roots ≡ x ∷ rest → v.buffered ≡ false → v.set ≡ (get_or slots x absent).set → Kept (set slots x v) rest sets marked work zeros free
keep_pop_root {slots = slots} {roots = roots} {sets = sets} k x rest v r b s =
    let l : x < length slots = first_root_in_range k x rest r in
    remade k (set slots x v) rest sets (length-set slots x v)
    (λ y. elim (eqb_tells y x) [
      | inl q ↦ let n : one (get_or (set slots x v) y absent).buffered ≡ 0 = rw q.1 (ap (λ (w : Slot). one w.buffered) (get_or-set_same slots x v absent l) ∙ ap one b) in
          let t : one (eqb y x) ≡ 1 = ap one q.0 in
          omega (arith, k.buffers y, one-le (get_or slots y absent).buffered, times-cons y x rest, ap (times y) r)
      | inr q ↦ let t : one (eqb y x) ≡ 0 = ap one q.0 in
          rw (get_or-set_other slots x y v absent q.1) (omega (arith, k.buffers y, times-cons y x rest, ap (times y) r))
    ])
    (λ i y. k.numbers i y ∙ ap (λ (o : Option ℕ). one (is_in i o)) (sym (field_kept (λ (w : Slot). w.set) slots x v s y)))
    k.few_sets

-- a map of the slots, at one of them
pub map_at : (f : Slot → Slot) → f absent ≡ absent → (slots : List Slot) (y : ℕ) → get_or (map f slots) y absent ≡ f (get_or slots y absent)
map_at f e [] y = sym e
map_at f e (s ∷ slots) zero = refl
map_at f e (s ∷ slots) (suc y) = map_at f e slots y

-- a slot in no set stands in none of them
pub no_set : {slots : List Slot} {roots : List ℕ} {sets : List (List ℕ)} {marked work zeros free : List ℕ} → Kept slots roots sets marked work zeros free →
    (x : ℕ) → (get_or slots x absent).set ≡ None → times x (concat sets) ≡ 0
no_set {sets = sets} k x e = times_parts x sets (λ i. k.numbers i x ∙ ap (λ (o : Option ℕ). one (is_in i o)) e)

-- a slot in a set stands in the sets, and so not in the root buffer
pub some_set : {slots : List Slot} {roots : List ℕ} {sets : List (List ℕ)} {marked work zeros free : List ℕ} → Kept slots roots sets marked work zeros free →
    (x j : ℕ) → (get_or slots x absent).set ≡ Some j → 0 < times x (concat sets)
some_set {sets = sets} k x j e =
    let n : times x (get_or sets j []) ≡ 1 = k.numbers j x ∙ ap (λ (o : Option ℕ). one (is_in j o)) e ∙ one-same j in
    omega (arith, times_part x sets j)

-- all roots leave
pub keep_clear_roots : {slots : List Slot} {roots : List ℕ} {sets : List (List ℕ)} {marked work zeros free : List ℕ} → Kept slots roots sets marked work zeros free →
    Kept (map unrooted slots) [] sets marked work zeros free
keep_clear_roots {slots = slots} {roots = roots} {sets = sets} k =
    remade k (map unrooted slots) [] sets (length-map slots unrooted)
    (λ y. rw (map_at unrooted refl slots y, times-nil y) (buffers y (get_or slots y absent).set refl))
    (λ i y. rw (map_at unrooted refl slots y) (numbers i y (get_or slots y absent).set refl))
    k.few_sets
  where
    buffers : (y : ℕ) (o : Option ℕ) → (get_or slots y absent).set ≡ o → 0 + times y (concat sets) ≡ one (unrooted_if o (get_or slots y absent)).buffered
    buffers y None e = omega (arith, no_set k y e)
    buffers y (Some j) e = omega (arith, some_set k y j e, k.buffers y, one-le (get_or slots y absent).buffered)

    numbers : (i y : ℕ) (o : Option ℕ) → (get_or slots y absent).set ≡ o → times y (get_or sets i []) ≡ one (is_in i (unrooted_if o (get_or slots y absent)).set)
    numbers i y None e = k.numbers i y
    numbers i y (Some j) e = k.numbers i y

push_nil : (xss : List (List ℕ)) (i : ℕ) → get_or (xss ++ [] ∷ []) i [] ≡ get_or xss i []
push_nil [] zero = refl
push_nil [] (suc i) = refl
push_nil (xs ∷ xss) zero = refl
push_nil (xs ∷ xss) (suc i) = push_nil xss i

-- a set begins
pub keep_begin : {slots : List Slot} {roots : List ℕ} {sets : List (List ℕ)} {marked work zeros free : List ℕ} → Kept slots roots sets marked work zeros free →
    length sets < length slots → Kept slots roots (sets ++ [] ∷ []) marked work zeros free
keep_begin {slots = slots} {roots = roots} {sets = sets} k l =
    remade k slots roots (sets ++ [] ∷ []) refl
    (λ y. omega (arith, k.buffers y, ap (times y) (concat-append sets ([] ∷ [])), times-append y (concat sets) [], times-nil y))
    (λ i y. rw (push_nil sets i) (k.numbers i y))
    (omega (arith, length_push sets []))

-- one member more
times_member : (y x : ℕ) (xss : List (List ℕ)) (j : ℕ) → j < length xss → times y (concat (set xss j (get_or xss j [] ++ x ∷ []))) ≡ times y (concat xss) + one (eqb y x)
times_member y x [] j l = absurd (omega arith)
times_member y x (xs ∷ xss) zero l = omega (arith, times-append y (xs ++ x ∷ []) (concat xss), times_push y xs x, times-append y xs (concat xss))
times_member y x (xs ∷ xss) (suc j) l = omega (arith, times-append y xs (concat (set xss j (get_or xss j [] ++ x ∷ []))), times-append y xs (concat xss), times_member y x xss j (omega arith))

-- a slot joins the last set
pub keep_join : {slots : List Slot} {roots : List ℕ} {sets : List (List ℕ)} {marked work zeros free : List ℕ} → Kept slots roots sets marked work zeros free →
    (x : ℕ) (v : Slot) → 0 < length sets → x < length slots → (get_or slots x absent).buffered ≡ false → v.buffered ≡ true → v.set ≡ Some (length sets - 1) →
    Kept (set slots x v) roots (with_member sets x) marked work zeros free
keep_join {slots = slots} {roots = roots} {sets = sets} k x v some l b b' s =
    remade k (set slots x v) roots (with_member sets x) (length-set slots x v)
    (λ y. elim (eqb_tells y x) [
      | inl q ↦ let t : one (eqb y x) ≡ 1 = ap one q.0 in
          let z : one (get_or slots y absent).buffered ≡ 0 = rw q.1 (ap one b) in
          let n : one (get_or (set slots x v) y absent).buffered ≡ 1 = rw q.1 (ap (λ (w : Slot). one w.buffered) (get_or-set_same slots x v absent l) ∙ ap one b') in
          omega (arith, k.buffers y, times_member y x sets (length sets - 1) (omega arith))
      | inr q ↦ let t : one (eqb y x) ≡ 0 = ap one q.0 in
          rw (get_or-set_other slots x y v absent q.1) (omega (arith, k.buffers y, times_member y x sets (length sets - 1) (omega arith)))
    ])
    (λ i y. elim (eqb_tells y x) [
      | inl q ↦ rw (q.1, get_or-set_same slots x v absent l, s) (joined i)
      | inr q ↦ rw (get_or-set_other slots x y v absent q.1) (other i y q.0 ∙ k.numbers i y)
    ])
    (rw (length-set sets (length sets - 1) (get_or sets (length sets - 1) [] ++ x ∷ [])) k.few_sets)
  where
    absent_from : (i : ℕ) → times x (get_or sets i []) ≡ 0
    absent_from i = omega (arith, (in_neither k x b).1, times_part x sets i)

    joined : (i : ℕ) → times x (get_or (with_member sets x) i []) ≡ one (eqb (length sets - 1) i)
    joined i =
        elim (eqb_tells (length sets - 1) i) [
          | inl q ↦ let t : times x (get_or (with_member sets x) (length sets - 1) []) ≡ 1 =
              rw (get_or-set_same sets (length sets - 1) (get_or sets (length sets - 1) [] ++ x ∷ []) [] (omega arith)) (omega (arith, times_push x (get_or sets (length sets - 1) []) x, one-same x, absent_from (length sets - 1))) in
              let h : times x (get_or (with_member sets x) i []) ≡ 1 = ap (λ j. times x (get_or (with_member sets x) j [])) (sym q.1) ∙ t in
              h ∙ sym (ap one q.0)
          | inr q ↦ let h : times x (get_or (with_member sets x) i []) ≡ 0 = rw (get_or-set_other sets (length sets - 1) i (get_or sets (length sets - 1) [] ++ x ∷ []) [] (λ e. q.1 (sym e))) (absent_from i) in
              h ∙ sym (ap one q.0)
        ]

    other : (i y : ℕ) → eqb y x ≡ false → times y (get_or (with_member sets x) i []) ≡ times y (get_or sets i [])
    other i y e =
        elim (eqb_tells i (length sets - 1)) [
          | inl q ↦ let t : one (eqb y x) ≡ 0 = ap one e in
              rw (q.1, get_or-set_same sets (length sets - 1) (get_or sets (length sets - 1) [] ++ x ∷ []) [] (omega arith)) (omega (arith, times_push y (get_or sets (length sets - 1) []) x))
          | inr q ↦ ap (times y) (get_or-set_other sets (length sets - 1) i (get_or sets (length sets - 1) [] ++ x ∷ []) [] q.1)
        ]

-- what the sets have, the earlier ones and the last have
times_last : (y : ℕ) (xss : List (List ℕ)) → 0 < length xss → times y (concat xss) ≡ times y (concat (earlier_sets xss)) + times y (last_set xss)
times_last y xss l =
    let whole : take (length xss - 1 + 1) xss ≡ xss = take_all (length xss - 1 + 1) xss (omega arith) in
    let parts : xss ≡ earlier_sets xss ++ last_set xss ∷ [] = sym whole ∙ take_more xss (length xss - 1) [] (omega arith) in
    let e : times y (concat xss) ≡ times y (concat (earlier_sets xss ++ last_set xss ∷ [])) = ap (λ z. times y (concat z)) parts in
    omega (arith, e, ap (times y) (concat-append (earlier_sets xss) (last_set xss ∷ [])), times-append y (concat (earlier_sets xss)) (last_set xss ++ []), times-append y (last_set xss) [], times-nil y)

is_in-other : (i k : ℕ) (o : Option ℕ) → is_in k o ≡ true → i ≢ k → is_in i o ≡ false
is_in-other i k None h n = cc
is_in-other i k (Some j) h n = ne_eqb j i (λ e. n (sym e ∙ eqb-true j k h))

beyond : (i n : ℕ) → n - 1 ≤ i → i ≢ n - 1 → n ≤ i
beyond i n l q = omega arith

past_end : (x n : ℕ) → n ≤ x → one (ltb x n) ≡ 0
past_end x n l = ap one (le-ltb x n l)

-- the last set leaves, and its members stand in the work list
pub keep_drop : {slots : List Slot} {roots : List ℕ} {sets : List (List ℕ)} {marked work zeros free : List ℕ} → Kept slots roots sets marked work zeros free →
    0 < length sets → ((x : ℕ) → times x work + times x (last_set sets) ≤ 1) →
    Kept (map (out_of_set (length sets - 1)) slots) roots (earlier_sets sets) marked (work ++ last_set sets) zeros free
keep_drop {slots = slots} {roots = roots} {sets = sets} {work = work} k some new =
    let k' = remade k (map (out_of_set (length sets - 1)) slots) roots (earlier_sets sets) (length-map slots (out_of_set (length sets - 1)))
    (λ y. rw (map_at (out_of_set (length sets - 1)) refl slots y) (buffers y (is_in (length sets - 1) (get_or slots y absent).set) refl))
    (λ i y. rw (map_at (out_of_set (length sets - 1)) refl slots y) (numbers i y (is_in (length sets - 1) (get_or slots y absent).set) refl))
    (omega (arith, k.few_sets, length-take (length sets - 1) sets)) in
    relisted k' k'.marked_once (rw (length-map slots (out_of_set (length sets - 1))) once) k'.zeros_once k'.free_once
  where
    buffers : (y : ℕ) (b : Bool) → is_in (length sets - 1) (get_or slots y absent).set ≡ b → times y roots + times y (concat (earlier_sets sets)) ≡ one (unbuffered_if b (get_or slots y absent)).buffered
    buffers y true e = let t : times y (last_set sets) ≡ 1 = k.numbers (length sets - 1) y ∙ ap one e in omega (arith, k.buffers y, one-le (get_or slots y absent).buffered, times_last y sets some)
    buffers y false e = let t : times y (last_set sets) ≡ 0 = k.numbers (length sets - 1) y ∙ ap one e in omega (arith, k.buffers y, times_last y sets some)

    early : (i y : ℕ) → i < length sets - 1 → times y (get_or (earlier_sets sets) i []) ≡ one (is_in i (get_or slots y absent).set)
    early i y l = ap (times y) (get_or-take (length sets - 1) sets i [] l) ∙ k.numbers i y

    late : (i y : ℕ) → length sets - 1 ≤ i → times y (get_or (earlier_sets sets) i []) ≡ 0
    late i y l = ap (times y) (get_or_past (earlier_sets sets) i [] (omega (arith, length-take (length sets - 1) sets))) ∙ times-nil y

    past : (i y : ℕ) → length sets ≤ i → 0 ≡ one (is_in i (get_or slots y absent).set)
    past i y l = sym (ap (times y) (get_or_past sets i [] l) ∙ times-nil y) ∙ k.numbers i y

    numbers : (i y : ℕ) (b : Bool) → is_in (length sets - 1) (get_or slots y absent).set ≡ b → times y (get_or (earlier_sets sets) i []) ≡ one (is_in i (unbuffered_if b (get_or slots y absent)).set)
    numbers i y true e =
        elim (cases_lt i (length sets - 1)) [
          | inl l ↦ early i y l ∙ ap one (is_in-other i (length sets - 1) (get_or slots y absent).set e (λ q. absurd (omega arith)))
          | inr l ↦ late i y l
        ]
    numbers i y false e =
        elim (cases_lt i (length sets - 1)) [
          | inl l ↦ early i y l
          | inr l ↦ late i y l ∙ elim (eqb_tells i (length sets - 1)) [
            | inl q ↦ sym (rw q.1 (ap one e))
            | inr q ↦ past i y (beyond i (length sets) l q.1)
          ]
        ]

    once : EachOnce (length slots) (work ++ last_set sets)
    once x =
        elim (cases_lt x (length slots)) [
          | inl l ↦ let t : one (ltb x (length slots)) ≡ 1 = ap one (lt-ltb x (length slots) l) in omega (arith, times-append x work (last_set sets), new x)
          | inr l ↦ omega (arith, times-append x work (last_set sets), k.work_once x, members_once k x, times_part x sets (length sets - 1), past_end x (length slots) l)
        ]

-- a slot that is not released is in range
pub unreleased_within : (s : State) (x : ℕ) → (slot_at s x).released ≡ false → x < length s.slots
unreleased_within s x e = elim (cases_lt x (length s.slots)) [
  | inl l ↦ l
  | inr l ↦ absurd (false≢true (sym e ∙ ap (λ (v : Slot). v.released) (get_or_past s.slots x absent l)))
]

-- a member's set is there
pub set_there : (s : State) (number x : ℕ) → IsKept s → (slot_at s x).set ≡ Some number → number < length s.sets
set_there s number x k e = elim (cases_lt number (length s.sets)) [
  | inl l ↦ l
  | inr past ↦
      let in_it : one (is_in number (slot_at s x).set) ≡ 1 = ap (λ o. one (is_in number o)) e ∙ one-same number in
      let none : times x (get_or s.sets number []) ≡ 0 = ap (times x) (get_or_past s.sets number [] past) ∙ times-nil x in
      absurd (omega (arith, k.numbers number x, in_it, none))
]

-- other slots that stay in the buffers where they are
pub slots_kept : {slots : List Slot} {roots : List ℕ} {sets : List (List ℕ)} {marked work zeros free : List ℕ} → Kept slots roots sets marked work zeros free →
    (now : List Slot) → length now ≡ length slots → ((x : ℕ) → (get_or now x absent).buffered ≡ (get_or slots x absent).buffered) → ((x : ℕ) → (get_or now x absent).set ≡ (get_or slots x absent).set) →
    Kept now roots sets marked work zeros free
slots_kept k now e b s = record {
  buffers = λ x. k.buffers x ∙ ap one (sym (b x));
  numbers = λ number x. k.numbers number x ∙ ap (λ o. one (is_in number o)) (sym (s x));
  few_sets = rw e k.few_sets;
  marked_once = rw e k.marked_once;
  work_once = rw e k.work_once;
  zeros_once = rw e k.zeros_once;
  free_once = rw e k.free_once;
  few_slots = rw e k.few_slots;
}

-- each set has each slot at most once
pub each_once : (s : State) (number : ℕ) → IsKept s → EachOnce (length s.slots) (get_or s.sets number [])
each_once s number k x = omega (arith, members_once k x, times_part x s.sets number)

-- a member is a slot
pub member_in_range : (s : State) (number i : ℕ) → IsKept s → i < length (get_or s.sets number []) → get_or (get_or s.sets number []) i 0 < length s.slots
member_in_range s number i k l = in_range_once _ _ _ (each_once s number k) (times_at (get_or s.sets number []) i l)

-- so has the last set
pub last_once : (s : State) → IsKept s → EachOnce (length s.slots) (last_set s.sets)
last_once s k = each_once s (length s.sets - 1) k

-- where nothing stands in the work list, no slot of the last set does
pub last_new : (s : State) → s.work ≡ [] → IsKept s → IsLastSetNew s
last_new s work k y = omega (arith, ap (times y) work, times-nil y, last_once s k y, one-le (ltb y (length s.slots)))

-- so the last set can be dropped
pub dropped_kept : (s : State) → 0 < length s.sets → s.work ≡ [] → IsKept s → IsKept (without_last_set s)
dropped_kept s some work k = keep_drop k some (last_new s work k)

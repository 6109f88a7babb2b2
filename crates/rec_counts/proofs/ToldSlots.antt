-- What a batch tells, one thing after another.
use Rattle.std.proofs.Common.{◌≡◌, ◌≢◌, ℕ, ◌+◌, ◌-◌, ◌%◌, ◌^◌, ◌<◌, ◌≤◌, Bool, true, false, not, eqb, ltb, cond, List, [], ◌∷◌, ◌++◌, length, get_or, refl, sym, ap, subst, ◌∙◌, arith, inl, inr}
use Rattle.std.proofs.Math.ListN.{set}
use Rattle.std.specs.List.{filter}
use Rattle.std.proofs.lemmas.List.{append-nil, get_or-set_same, get_or-set_other, length-set, length-replicate, ext_get_or}
use Rattle.std.proofs.lemmas.List.Elements.{filter-append}
use Rattle.std.proofs.lemmas.List.FromFn.{get_or-map-range_with_len, length-map-range_with_len}
use Rattle.std.proofs.lemmas.Bool.{eq-eqb, eqb-true, false≢true, le-ltb, lt-ltb, ltb-true, ltb-false, ne_eqb}
use Rattle.std.proofs.lemmas.Bool.Decides.{eqb_tells}
use Rattle.rec_counts.specs.declared.slot.Slot.{Slot}
use Rattle.rec_counts.specs.declared.touched.Mark.TheVariants.{Untouched, Taken}
use Rattle.rec_counts.specs.Batched.{batched_at, batched_slots, counted_at}
use Rattle.rec_counts.specs.Lists.{one, times}
use Rattle.rec_counts.specs.Slot.{absent}
use Rattle.rec_counts.specs.Touched.{Told, Touching, counted_less, firsts, greened_if, is_taken, mark_at, mark_of, settled_at, untouched, with_taken}
use Rattle.rec_counts.proofs.Times.{times-cons, times-nil, times_push}
use Rattle.rec_counts.proofs.Marking.{unmarked_at}

-- Counts that wrap.
wrap_less : (c t o a : ℕ) → (c + t) % 2 ^ 64 ≡ (o + a) % 2 ^ 64 → ((c + (2 ^ 64 - 1)) % 2 ^ 64 + (t + 1)) % 2 ^ 64 ≡ (o + a) % 2 ^ 64
wrap_less c t o a h = omega arith

wrap_both : (c t o a : ℕ) → (c + t) % 2 ^ 64 ≡ (o + a) % 2 ^ 64 → (c + (t + 1)) % 2 ^ 64 ≡ (o + (a + 1)) % 2 ^ 64
wrap_both c t o a h = omega arith

wrap_end : (c t o a : ℕ) → (c + t) % 2 ^ 64 ≡ (o + a) % 2 ^ 64 → c < 2 ^ 64 → o + a < 2 ^ 64 → t ≤ o + a → c ≡ o + a - t
wrap_end c t o a h b f l = omega arith

-- Each number once, in the order of its first place.
pub times-filter : (x : ℕ) (p : ℕ → Bool) (xs : List ℕ) → times x (filter p xs) ≡ cond (p x) (times x xs) 0
times-filter x p [] = go (p x)
  where
    go : (b : Bool) → times x [] ≡ cond b (times x []) 0
    go true = refl
    go false = times-nil x
times-filter x p (y ∷ ys) = go (p y) (p x) refl refl (times-filter x p ys)
  where
    other : (c b : Bool) → p y ≡ c → p x ≡ b → (c ≡ b → ⊥) → one (eqb x y) ≡ 0
    other c b e f n = elim (eqb_tells x y) [ inl q ↦ absurd (n (sym e ∙ sym (ap p q.1) ∙ f)) | inr q ↦ ap one q.0 ]

    go : (c b : Bool) → p y ≡ c → p x ≡ b → times x (filter p ys) ≡ cond (p x) (times x ys) 0 → times x (cond (p y) (y ∷ filter p ys) (filter p ys)) ≡ cond (p x) (times x (y ∷ ys)) 0
    go true true e f h = rw (e, f) (omega (arith, times-cons x y (filter p ys), times-cons x y ys, h ∙ ap (λ b. cond b (times x ys) 0) f))
    go true false e f h = rw (e, f) (omega (arith, times-cons x y (filter p ys), h ∙ ap (λ b. cond b (times x ys) 0) f, other true false e f (λ q. false≢true (sym q))))
    go false true e f h = rw (e, f) (omega (arith, times-cons x y ys, h ∙ ap (λ b. cond b (times x ys) 0) f, other false true e f (λ q. false≢true q)))
    go false false e f h = rw (e, f) (h ∙ ap (λ b. cond b (times x ys) 0) f)

pub times_firsts : (x : ℕ) (xs : List ℕ) → times x (firsts xs) ≡ one (ltb 0 (times x xs))
times_firsts x [] = rw (times-nil x) refl
times_firsts x (y ∷ ys) =
    let rest : times x (filter (λ z. not (eqb y z)) (firsts ys)) ≡ cond (not (eqb y x)) (times x (firsts ys)) 0 = times-filter x (λ z. not (eqb y z)) (firsts ys) in
    elim (eqb_tells x y) [
      | inl q ↦ let none : times x (filter (λ z. not (eqb y z)) (firsts ys)) ≡ 0 = rest ∙ ap (λ b. cond (not b) (times x (firsts ys)) 0) (eq-eqb y x (sym q.1)) in
          let some : ltb 0 (times x (y ∷ ys)) ≡ true = lt-ltb 0 (times x (y ∷ ys)) (omega (arith, times-cons x y ys, ap one q.0)) in
          omega (arith, times-cons x y (filter (λ z. not (eqb y z)) (firsts ys)), none, ap one q.0, ap one some)
      | inr q ↦ let kept : times x (filter (λ z. not (eqb y z)) (firsts ys)) ≡ times x (firsts ys) = rest ∙ ap (λ b. cond (not b) (times x (firsts ys)) 0) (ne_eqb y x (λ e. q.1 (sym e))) in
          let same : times x (y ∷ ys) ≡ times x ys = omega (arith, times-cons x y ys, ap one q.0) in
          omega (arith, times-cons x y (filter (λ z. not (eqb y z)) (firsts ys)), kept, ap one q.0, times_firsts x ys, ap (λ n. one (ltb 0 n)) same)
    ]

firsts_push : (xs : List ℕ) (y : ℕ) → firsts (xs ++ y ∷ []) ≡ cond (ltb 0 (times y xs)) (firsts xs) (firsts xs ++ y ∷ [])
firsts_push [] y = rw (times-nil y) refl
firsts_push (x ∷ xs) y = ap (λ ys. x ∷ filter q ys) (firsts_push xs y) ∙ go (ltb 0 (times y xs)) (eqb y x) refl refl
  where
    q : ℕ → Bool
    q = λ z. not (eqb x z)

    go : (b c : Bool) → ltb 0 (times y xs) ≡ b → eqb y x ≡ c → x ∷ filter q (cond (ltb 0 (times y xs)) (firsts xs) (firsts xs ++ y ∷ [])) ≡ cond (ltb 0 (times y (x ∷ xs))) (x ∷ filter q (firsts xs)) (x ∷ filter q (firsts xs) ++ y ∷ [])
    go true c e f = rw (e, lt-ltb 0 (times y (x ∷ xs)) (omega (arith, times-cons y x xs, ltb-true 0 (times y xs) e))) refl
    go false true e f =
        let here : ltb 0 (times y (x ∷ xs)) ≡ true = lt-ltb 0 (times y (x ∷ xs)) (omega (arith, times-cons y x xs, ap one f)) in
        let none : q y ≡ false = ap not (eq-eqb x y (sym (eqb-true y x f))) in
        rw (e, here) (ap (λ ys. x ∷ ys) (filter-append q (firsts xs) (y ∷ []) ∙ ap (λ b. filter q (firsts xs) ++ cond b (y ∷ []) []) none ∙ append-nil (filter q (firsts xs))))
    go false false e f =
        let here : ltb 0 (times y (x ∷ xs)) ≡ false = le-ltb 0 (times y (x ∷ xs)) (omega (arith, times-cons y x xs, ap one f, ltb-false 0 (times y xs) e)) in
        let some : q y ≡ true = ap not (ne_eqb x y (λ h. false≢true (sym f ∙ eq-eqb y x (sym h)))) in
        rw (e, here) (ap (λ ys. x ∷ ys) (filter-append q (firsts xs) (y ∷ []) ∙ ap (λ b. filter q (firsts xs) ++ cond b (y ∷ []) []) some))

-- What is known of a slot once its count is another one.
recounted : (before slots : List Slot) (born : ℕ → ℕ) (x n : ℕ) → x < length slots →
    ((y : ℕ) → get_or slots y absent ≡ record (greened_if (ltb 0 (born y)) (get_or before y absent)) { count = (get_or slots y absent).count }) →
    (y : ℕ) → get_or (set slots x (record (get_or slots x absent) { count = n })) y absent ≡ record (greened_if (ltb 0 (born y)) (get_or before y absent)) { count = (get_or (set slots x (record (get_or slots x absent) { count = n })) y absent).count }
recounted before slots born x n l h y =
    let v : Slot = record (get_or slots x absent) { count = n } in
    elim (eqb_tells y x) [
      | inl q ↦ let e : get_or (set slots x v) y absent ≡ v = ap (λ z. get_or (set slots x v) z absent) q.1 ∙ get_or-set_same slots x v absent l in
          let f : v ≡ record (greened_if (ltb 0 (born y)) (get_or before y absent)) { count = n } = ap (λ z. record (get_or slots z absent) { count = n }) (sym q.1) ∙ ap (λ (w : Slot). record w { count = n }) (h y) in
          e ∙ f ∙ ap {A = ℕ} {B = Slot} (λ m. record (greened_if (ltb 0 (born y)) (get_or before y absent)) { count = m }) (sym (ap (λ (w : Slot). w.count) e))
      | inr q ↦ let e : get_or (set slots x v) y absent ≡ get_or slots y absent = get_or-set_other slots x y v absent q.1 in
          e ∙ h y ∙ ap {A = ℕ} {B = Slot} (λ m. record (greened_if (ltb 0 (born y)) (get_or before y absent)) { count = m }) (sym (ap (λ (w : Slot). w.count) e))
    ]

-- a slot's count, once it is another one
count_here : (slots : List Slot) (x y n : ℕ) → x < length slots → y ≡ x → (get_or (set slots x (record (get_or slots x absent) { count = n })) y absent).count ≡ n
count_here slots x y n l e = ap (λ z. (get_or (set slots x (record (get_or slots x absent) { count = n })) z absent).count) e ∙ ap (λ (w : Slot). w.count) (get_or-set_same slots x (record (get_or slots x absent) { count = n }) absent l)

count_there : (slots : List Slot) (x y n : ℕ) → y ≢ x → (get_or (set slots x (record (get_or slots x absent) { count = n })) y absent).count ≡ (get_or slots y absent).count
count_there slots x y n e = ap (λ (w : Slot). w.count) (get_or-set_other slots x y (record (get_or slots x absent) { count = n }) absent e)

taken_of : (added taken : Bool) → is_taken (mark_of added taken) ≡ taken
taken_of true true = refl
taken_of false true = refl
taken_of true false = refl
taken_of false false = refl

pub mark_taken_of : (added : Bool) → mark_of added true ≡ Taken
mark_taken_of true = refl
mark_taken_of false = refl

some_more : (n m : ℕ) → m ≡ 1 → ltb 0 (n + m) ≡ true
some_more n m e = lt-ltb 0 (n + m) (omega arith)

none_more : (n m : ℕ) → m ≡ 0 → n + m ≡ n
none_more n m e = omega arith

-- what is known where nothing was told yet
pub told_open : (before : List Slot) (touched : Touching) → touched ≡ untouched (length before) → ((x : ℕ) → (get_or before x absent).count < 2 ^ 64) → Told before (λ x. 0) (λ x. 0) [] before touched
told_open before touched e f = subst (λ (t : Touching). Told before (λ x. 0) (λ x. 0) [] before t) (sym e) (record {
  many = refl;
  marked = length-replicate (length before) Untouched;
  slot = λ x. refl;
  fits = f;
  count = λ x. ap (λ n. ((get_or before x absent).count + n) % 2 ^ 64) (times-nil x);
  marks = λ x. rw (times-nil x) (unmarked_at (length before) x);
  taken_first = refl;
})

-- the marks and the list once something was taken off
taken_marks : {before slots : List Slot} {born added : ℕ → ℕ} {taken : List ℕ} {touched : Touching} → Told before born added taken slots touched → (x : ℕ) → x < length slots → (more : ℕ → ℕ) → ((y : ℕ) → y ≢ x → more y ≡ added y) →
    (y : ℕ) → mark_at (set touched.marks x Taken) y ≡ mark_of (ltb 0 (more y)) (ltb 0 (times y (taken ++ x ∷ [])))
taken_marks {before = before} {slots = slots} {born = born} {added = added} {taken = taken} {touched = touched} k x l more other y = elim (eqb_tells y x) [
  | inl q ↦ ap (mark_at (set touched.marks x Taken)) q.1 ∙ get_or-set_same touched.marks x Taken Untouched (omega (arith, l, k.many, k.marked)) ∙ sym (mark_taken_of (ltb 0 (more y)))
      ∙ ap (mark_of (ltb 0 (more y))) (sym (ap (ltb 0) (times_push y taken x) ∙ some_more (times y taken) (one (eqb y x)) (ap one q.0)))
  | inr q ↦ get_or-set_other touched.marks x y Taken Untouched q.1 ∙ k.marks y ∙ ap (λ j. mark_of (ltb 0 j) (ltb 0 (times y taken))) (sym (other y q.1))
      ∙ ap (λ j. mark_of (ltb 0 (more y)) (ltb 0 j)) (sym (times_push y taken x ∙ none_more (times y taken) (one (eqb y x)) (ap one q.0)))
]

taken_list : {before slots : List Slot} {born added : ℕ → ℕ} {taken : List ℕ} {touched : Touching} → Told before born added taken slots touched → (x : ℕ) → (with_taken touched x).taken ≡ firsts (taken ++ x ∷ [])
taken_list {before = before} {slots = slots} {born = born} {added = added} {taken = taken} {touched = touched} k x =
    ap (λ b. cond b touched.taken (touched.taken ++ x ∷ [])) (ap is_taken (k.marks x) ∙ taken_of (ltb 0 (added x)) (ltb 0 (times x taken)))
    ∙ ap (λ xs. cond (ltb 0 (times x taken)) xs (xs ++ x ∷ [])) k.taken_first ∙ sym (firsts_push taken x)

-- there is one less
pub told_taken : {before slots : List Slot} {born added : ℕ → ℕ} {taken : List ℕ} {touched : Touching} → Told before born added taken slots touched → (x : ℕ) → x < length slots →
    Told before born added (taken ++ x ∷ []) (counted_less slots x) (with_taken touched x)
told_taken {before = before} {slots = slots} {born = born} {added = added} {taken = taken} {touched = touched} k x l = record {
  many = length-set slots x _ ∙ k.many;
  marked = length-set touched.marks x _ ∙ k.marked;
  slot = recounted before slots born x n l k.slot;
  fits = λ y. elim (eqb_tells y x) [
    | inl q ↦ omega (arith, count_here slots x y n l q.1)
    | inr q ↦ omega (arith, count_there slots x y n q.1, k.fits y)
  ];
  count = λ y. elim (eqb_tells y x) [
    | inl q ↦ ap (λ m. (m + times y (taken ++ x ∷ [])) % 2 ^ 64) (count_here slots x y n l q.1) ∙ ap (λ z. (((get_or slots z absent).count + (2 ^ 64 - 1)) % 2 ^ 64 + times y (taken ++ x ∷ [])) % 2 ^ 64) (sym q.1)
        ∙ ap (λ m. (((get_or slots y absent).count + (2 ^ 64 - 1)) % 2 ^ 64 + m) % 2 ^ 64) (times_push y taken x ∙ ap (λ m. times y taken + m) (ap one q.0))
        ∙ wrap_less _ _ _ _ (k.count y)
    | inr q ↦ ap (λ m. (m + times y (taken ++ x ∷ [])) % 2 ^ 64) (count_there slots x y n q.1) ∙ ap (λ m. ((get_or slots y absent).count + m) % 2 ^ 64) (times_push y taken x ∙ none_more (times y taken) (one (eqb y x)) (ap one q.0)) ∙ k.count y
  ];
  marks = taken_marks k x l added (λ y e. refl);
  taken_first = taken_list k x;
}
  where
    n : ℕ
    n = ((get_or slots x absent).count + (2 ^ 64 - 1)) % 2 ^ 64

-- there is one less and one more
pub told_kept : {before slots : List Slot} {born added : ℕ → ℕ} {taken : List ℕ} {touched : Touching} → Told before born added taken slots touched → (x : ℕ) → x < length slots →
    Told before born (λ y. added y + one (eqb y x)) (taken ++ x ∷ []) slots (with_taken touched x)
told_kept {before = before} {slots = slots} {born = born} {added = added} {taken = taken} {touched = touched} k x l = record {
  many = k.many;
  marked = length-set touched.marks x _ ∙ k.marked;
  slot = k.slot;
  fits = k.fits;
  count = λ y. ap (λ m. ((get_or slots y absent).count + m) % 2 ^ 64) (times_push y taken x) ∙ elim (eqb_tells y x) [
    | inl q ↦ ap (λ m. ((get_or slots y absent).count + (times y taken + m)) % 2 ^ 64) (ap one q.0) ∙ wrap_both _ (times y taken) _ (added y) (k.count y) ∙ ap (λ m. ((get_or before y absent).count + (added y + m)) % 2 ^ 64) (sym (ap one q.0))
    | inr q ↦ ap (λ m. ((get_or slots y absent).count + m) % 2 ^ 64) (none_more (times y taken) (one (eqb y x)) (ap one q.0)) ∙ k.count y ∙ ap (λ m. ((get_or before y absent).count + m) % 2 ^ 64) (sym (none_more (added y) (one (eqb y x)) (ap one q.0)))
  ];
  marks = taken_marks k x l (λ y. added y + one (eqb y x)) (λ y e. none_more (added y) (one (eqb y x)) (ap one (ne_eqb y x e)));
  taken_first = taken_list k x;
}

-- what is told as often is the same
pub told_same : {before slots : List Slot} {born added : ℕ → ℕ} {taken : List ℕ} {touched : Touching} → (born' added' : ℕ → ℕ) (taken' : List ℕ) → ((y : ℕ) → born' y ≡ born y) → ((y : ℕ) → added' y ≡ added y) → taken' ≡ taken →
    Told before born added taken slots touched → Told before born' added' taken' slots touched
told_same {before = before} {slots = slots} {born = born} {added = added} {taken = taken} {touched = touched} born' added' taken' e f g k = subst (λ ts. Told before born' added' ts slots touched) (sym g) (record {
  many = k.many;
  marked = k.marked;
  slot = λ y. k.slot y ∙ ap (λ n. record (greened_if (ltb 0 n) (get_or before y absent)) { count = (get_or slots y absent).count }) (sym (e y));
  fits = k.fits;
  count = λ y. k.count y ∙ ap (λ n. ((get_or before y absent).count + n) % 2 ^ 64) (sym (f y));
  marks = λ y. k.marks y ∙ ap (λ n. mark_of (ltb 0 n) (ltb 0 (times y taken))) (sym (f y));
  taken_first = k.taken_first;
})

-- All is told: each slot has its count.
told_slot : {before slots : List Slot} {born added : ℕ → ℕ} {taken : List ℕ} {touched : Touching} → Told before born added taken slots touched →
    ((x : ℕ) → (get_or before x absent).count + added x < 2 ^ 64) → ((x : ℕ) → times x taken ≤ (get_or before x absent).count + added x) →
    (x : ℕ) → get_or slots x absent ≡ counted_at before born added taken x
told_slot {before = before} {slots = slots} {born = born} {added = added} {taken = taken} {touched = touched} k fits covered x =
    k.slot x ∙ ap {A = ℕ} {B = Slot} (λ n. record (greened_if (ltb 0 (born x)) (get_or before x absent)) { count = n }) (wrap_end _ _ _ _ (k.count x) (k.fits x) (fits x) (covered x))

pub told_slots : {before slots : List Slot} {born added : ℕ → ℕ} {taken : List ℕ} {touched : Touching} → Told before born added taken slots touched →
    ((x : ℕ) → (get_or before x absent).count + added x < 2 ^ 64) → ((x : ℕ) → times x taken ≤ (get_or before x absent).count + added x) →
    (after : List Slot) → length after ≡ length slots → ((x : ℕ) → get_or after x absent ≡ settled_at (mark_at touched.marks x) (get_or slots x absent)) → after ≡ batched_slots before born added taken
told_slots {before = before} {slots = slots} {born = born} {added = added} {taken = taken} {touched = touched} k fits covered after e h =
    ext_get_or absent after (batched_slots before born added taken) (e ∙ k.many ∙ sym (length-map-range_with_len (batched_at before born added taken) 0 (length before)))
    (λ i l. h i ∙ ap (λ m. settled_at m (get_or slots i absent)) (k.marks i) ∙ ap (settled_at (mark_of (ltb 0 (added i)) (ltb 0 (times i taken)))) (told_slot k fits covered i)
    ∙ sym (get_or-map-range_with_len (batched_at before born added taken) 0 (length before) i i absent (omega (arith, l, e, k.many)) (omega arith)))

pub filter_same : (p q : ℕ → Bool) → ((x : ℕ) → p x ≡ q x) → (xs : List ℕ) → filter p xs ≡ filter q xs
filter_same p q h [] = refl
filter_same p q h (x ∷ xs) = ap (λ b. cond b (x ∷ filter p xs) (filter p xs)) (h x) ∙ ap (λ ys. cond (q x) (x ∷ ys) ys) (filter_same p q h xs)

pub told_list : {before slots : List Slot} {born added : ℕ → ℕ} {taken : List ℕ} {touched : Touching} → Told before born added taken slots touched →
    ((x : ℕ) → (get_or before x absent).count + added x < 2 ^ 64) → ((x : ℕ) → times x taken ≤ (get_or before x absent).count + added x) → (p : Slot → Bool) →
    filter (λ x. p (get_or slots x absent)) touched.taken ≡ filter (λ x. p (counted_at before born added taken x)) (firsts taken)
told_list {before = before} {slots = slots} {born = born} {added = added} {taken = taken} {touched = touched} k fits covered p =
    ap (filter (λ x. p (get_or slots x absent))) k.taken_first ∙ filter_same (λ x. p (get_or slots x absent)) (λ x. p (counted_at before born added taken x)) (λ x. ap p (told_slot k fits covered x)) (firsts taken)

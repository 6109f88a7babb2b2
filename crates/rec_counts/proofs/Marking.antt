-- The marks of the slots that a batch touched, and the lists that know them.
use Rattle.std.proofs.Common.{◌≡◌, ◌≢◌, ℕ, ◌+◌, ◌<◌, ◌≤◌, Bool, true, false, eqb, ltb, cond, List, [], ◌∷◌, ◌++◌, length, take, get_or, replicate, arith, sym, ◌∙◌, ap, inl, inr}
use Rattle.std.proofs.Math.ListN.{set}
use Rattle.std.specs.List.{filter}
use Rattle.std.proofs.lemmas.List.{get_or-set_same, get_or-set_other, get_or_past, get_or-replicate, length-replicate, length-set}
use Rattle.std.proofs.lemmas.List.Sums.{sum_by-take-le, length-filter, count_by-le-length}
use Rattle.std.proofs.lemmas.Bool.{cases_lt, lt-ltb}
use Rattle.std.proofs.lemmas.Bool.Decides.{eqb_tells}
use Rattle.rec_counts.specs.declared.touched.Mark.{Mark}
use Rattle.rec_counts.specs.declared.touched.Mark.TheVariants.{Untouched, Added, Taken}
use Rattle.rec_counts.specs.Lists.{one, times, EachOnce}
use Rattle.rec_counts.specs.Touched.{AreListed, is_added, is_taken, is_untouched, mark_at}
use Rattle.rec_counts.proofs.Times.{one-le, one-same, times-nil, times_push, times_more, room_once}

-- the marks of slots that were not touched
pub unmarked_at : (n x : ℕ) → mark_at (replicate n Untouched) x ≡ Untouched
unmarked_at n x = elim (cases_lt x n) [
  | inl l ↦ get_or-replicate n x Untouched Untouched l
  | inr l ↦ get_or_past (replicate n Untouched) x Untouched (omega (arith, l, length-replicate n Untouched))
]

pub listed_open : (n added_room taken_room : ℕ) → added_room ≡ n → taken_room ≡ n → AreListed (replicate n Untouched) [] added_room [] taken_room
listed_open n added_room taken_room e f =
    let none : (x : ℕ) → mark_at (replicate n Untouched) x ≡ Untouched = unmarked_at n in
    record {
      taken_once = λ x. omega (arith, times-nil x, ap (λ (k : Mark). one (is_taken k)) (none x));
      added_once = λ x. omega (arith, times-nil x, one-le (is_untouched (mark_at (replicate n Untouched) x)));
      added_all = λ x. omega (arith, ap (λ (k : Mark). one (is_added k)) (none x));
      added_rooms = omega (arith, e, length-replicate n Untouched);
      taken_rooms = omega (arith, f, length-replicate n Untouched);
    }

-- with rooms for as many slots
pub listed_at : {marks : List Mark} {added taken : List ℕ} {added_room taken_room n : ℕ} → AreListed marks added added_room taken taken_room → length marks ≡ n → AreListed marks added n taken n
listed_at k e = record { taken_once = k.taken_once; added_once = k.added_once; added_all = k.added_all; added_rooms = sym e; taken_rooms = sym e }

-- both lists have each slot at most once, and none past the last one
pub added_each : {marks : List Mark} {added taken : List ℕ} {added_room taken_room : ℕ} → AreListed marks added added_room taken taken_room → EachOnce (length marks) added
added_each {marks = marks} {added = added} k x = elim (cases_lt x (length marks)) [
  | inl l ↦ omega (arith, k.added_once x, ap one (lt-ltb x (length marks) l))
  | inr l ↦ omega (arith, k.added_once x, ap (λ (m : Mark). one (is_untouched m)) (get_or_past marks x Untouched l))
]

pub taken_each : {marks : List Mark} {added taken : List ℕ} {added_room taken_room : ℕ} → AreListed marks added added_room taken taken_room → EachOnce (length marks) taken
taken_each {marks = marks} {taken = taken} k x = elim (cases_lt x (length marks)) [
  | inl l ↦ omega (arith, k.taken_once x, one-le (is_taken (mark_at marks x)), ap one (lt-ltb x (length marks) l))
  | inr l ↦ omega (arith, k.taken_once x, ap (λ (m : Mark). one (is_taken m)) (get_or_past marks x Untouched l))
]

-- there is room for a slot that no list has yet
pub added_room_more : {marks : List Mark} {added taken : List ℕ} {added_room taken_room : ℕ} → AreListed marks added added_room taken taken_room → (x : ℕ) → x < length marks → mark_at marks x ≡ Untouched → length added < added_room
added_room_more {marks = marks} {added = added} k x l u = omega (arith, room_once (length marks) added x (added_each k) (omega (arith, k.added_once x, ap (λ (m : Mark). one (is_untouched m)) u)) l, k.added_rooms)

pub taken_room_more : {marks : List Mark} {added taken : List ℕ} {added_room taken_room : ℕ} → AreListed marks added added_room taken taken_room → (x : ℕ) → x < length marks → is_taken (mark_at marks x) ≡ false → length taken < taken_room
taken_room_more {marks = marks} {taken = taken} k x l u = omega (arith, room_once (length marks) taken x (taken_each k) (omega (arith, k.taken_once x, ap one u)) l, k.taken_rooms)

-- a slot is added to for the first time
pub listed_added : {marks : List Mark} {added taken : List ℕ} {added_room taken_room : ℕ} → AreListed marks added added_room taken taken_room → (x : ℕ) → x < length marks → mark_at marks x ≡ Untouched → AreListed (set marks x Added) (added ++ x ∷ []) added_room taken taken_room
listed_added {marks = marks} {added = added} {taken = taken} k x l u = record {
  taken_once = λ y. elim (eqb_tells y x) [
    | inl q ↦ omega (arith, k.taken_once y, ap (λ m. one (is_taken m)) (here y q.1), ap (λ m. one (is_taken m)) (before y q.1))
    | inr q ↦ omega (arith, k.taken_once y, ap (λ m. one (is_taken m)) (there y q.1))
  ];
  added_once = λ y. elim (eqb_tells y x) [
    | inl q ↦ omega (arith, k.added_once y, times_push y added x, ap one q.0, ap (λ m. one (is_untouched m)) (here y q.1), ap (λ m. one (is_untouched m)) (before y q.1))
    | inr q ↦ omega (arith, k.added_once y, times_push y added x, ap one q.0, ap (λ m. one (is_untouched m)) (there y q.1))
  ];
  added_all = λ y. elim (eqb_tells y x) [
    | inl q ↦ omega (arith, times_push y added x, ap one q.0, one-le (is_added (mark_at (set marks x Added) y)))
    | inr q ↦ omega (arith, k.added_all y, times_push y added x, ap one q.0, ap (λ m. one (is_added m)) (there y q.1))
  ];
  added_rooms = k.added_rooms ∙ sym (length-set marks x Added);
  taken_rooms = k.taken_rooms ∙ sym (length-set marks x Added);
}
  where
    here : (y : ℕ) → y ≡ x → mark_at (set marks x Added) y ≡ Added
    here y e = ap (mark_at (set marks x Added)) e ∙ get_or-set_same marks x Added Untouched l

    before : (y : ℕ) → y ≡ x → mark_at marks y ≡ Untouched
    before y e = ap (mark_at marks) e ∙ u

    there : (y : ℕ) → y ≢ x → mark_at (set marks x Added) y ≡ mark_at marks y
    there y e = get_or-set_other marks x y Added Untouched e

-- something is taken off a slot for the first time
pub listed_taken : {marks : List Mark} {added taken : List ℕ} {added_room taken_room : ℕ} → AreListed marks added added_room taken taken_room → (x : ℕ) → x < length marks → is_taken (mark_at marks x) ≡ false → AreListed (set marks x Taken) added added_room (taken ++ x ∷ []) taken_room
listed_taken {marks = marks} {added = added} {taken = taken} k x l u = record {
  taken_once = λ y. elim (eqb_tells y x) [
    | inl q ↦ omega (arith, k.taken_once y, times_push y taken x, ap one q.0, ap (λ m. one (is_taken m)) (here y q.1), ap one (before y q.1))
    | inr q ↦ omega (arith, k.taken_once y, times_push y taken x, ap one q.0, ap (λ m. one (is_taken m)) (there y q.1))
  ];
  added_once = λ y. elim (eqb_tells y x) [
    | inl q ↦ omega (arith, k.added_once y, ap (λ m. one (is_untouched m)) (here y q.1))
    | inr q ↦ omega (arith, k.added_once y, ap (λ m. one (is_untouched m)) (there y q.1))
  ];
  added_all = λ y. elim (eqb_tells y x) [
    | inl q ↦ omega (arith, ap (λ m. one (is_added m)) (here y q.1))
    | inr q ↦ omega (arith, k.added_all y, ap (λ m. one (is_added m)) (there y q.1))
  ];
  added_rooms = k.added_rooms ∙ sym (length-set marks x Taken);
  taken_rooms = k.taken_rooms ∙ sym (length-set marks x Taken);
}
  where
    here : (y : ℕ) → y ≡ x → mark_at (set marks x Taken) y ≡ Taken
    here y e = ap (mark_at (set marks x Taken)) e ∙ get_or-set_same marks x Taken Untouched l

    before : (y : ℕ) → y ≡ x → is_taken (mark_at marks y) ≡ false
    before y e = ap (λ z. is_taken (mark_at marks z)) e ∙ u

    there : (y : ℕ) → y ≢ x → mark_at (set marks x Taken) y ≡ mark_at marks y
    there y e = get_or-set_other marks x y Taken Untouched e

-- a list that has each number at most once doesn't have one before its place
times-take-le : (x : ℕ) (xs : List ℕ) (i : ℕ) → times x (take i xs) ≤ times x xs
unfolding times
times-take-le x xs i = sum_by-take-le (λ z. cond (eqb x z) 1 0) xs i

pub once_before : (n : ℕ) (xs : List ℕ) (i : ℕ) → EachOnce n xs → i < length xs → times (get_or xs i 0) (take i xs) ≡ 0
once_before n xs i h l =
    let x : ℕ = get_or xs i 0 in
    omega (arith, h x, one-le (ltb x n), times-take-le x xs (i + 1), times_more x xs i l, one-same x)

-- one slot more has no mark any more
pub cleared_more : (marks old : List Mark) (members : List ℕ) (i : ℕ) → i < length members → get_or members i 0 < length marks →
    ((x : ℕ) → mark_at marks x ≡ cond (ltb 0 (times x (take i members))) Untouched (mark_at old x)) →
    (x : ℕ) → mark_at (set marks (get_or members i 0) Untouched) x ≡ cond (ltb 0 (times x (take (i + 1) members))) Untouched (mark_at old x)
cleared_more marks old members i l r h x =
    let m : ℕ = get_or members i 0 in
    elim (eqb_tells x m) [
      | inl q ↦ let n : ltb 0 (times x (take (i + 1) members)) ≡ true = lt-ltb 0 _ (omega (arith, ap one q.0, times_more x members i l)) in
          ap (mark_at (set marks m Untouched)) q.1 ∙ get_or-set_same marks m Untouched Untouched r ∙ sym (ap (λ b. cond b Untouched (mark_at old x)) n)
      | inr q ↦ let n : times x (take (i + 1) members) ≡ times x (take i members) = omega (arith, ap one q.0, times_more x members i l) in
          get_or-set_other marks m x Untouched Untouched q.1 ∙ h x ∙ ap (λ k. cond (ltb 0 k) Untouched (mark_at old x)) (sym n)
    ]

-- no more pass a test than there are
pub length-filter-le : (p : ℕ → Bool) (xs : List ℕ) → length (filter p xs) ≤ length xs
length-filter-le p xs = omega (arith, length-filter p xs, count_by-le-length p xs)

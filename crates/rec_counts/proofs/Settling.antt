-- Slots that a batch touched are settled, one after another.
use Rattle.std.proofs.Common.{◌≡◌, ℕ, ◌+◌, ◌<◌, ◌≤◌, ◌&&◌, ◌||◌, Bool, true, false, eqb, ltb, cond, List, [], ◌∷◌, ◌++◌, length, take, get_or, replicate, refl, arith, sym, ◌∙◌, ap, inl, inr, append_assoc}
use Rattle.std.proofs.Math.ListN.{set}
use Rattle.std.specs.List.{filter}
use Rattle.std.proofs.lemmas.List.{append-nil, get_or-set_same, get_or-set_other, ext_get_or, length-replicate, take_all}
use Rattle.std.proofs.lemmas.List.Elements.{filter_more}
use Rattle.std.proofs.lemmas.Bool.{lt-ltb}
use Rattle.std.proofs.lemmas.Bool.Decides.{eqb_tells}
use Rattle.rec_counts.specs.declared.slot.Slot.{Slot}
use Rattle.rec_counts.specs.declared.touched.Mark.{Mark}
use Rattle.rec_counts.specs.declared.touched.Mark.TheVariants.{Untouched, Added, Taken}
use Rattle.rec_counts.specs.declared.colour.Colour.TheVariants.{Black, Purple}
use Rattle.rec_counts.specs.Colour.{is_green}
use Rattle.rec_counts.specs.Lists.{one, times}
use Rattle.rec_counts.specs.Shelf.{Shelf}
use Rattle.rec_counts.specs.Slot.{absent, settled, settled_if, stays}
use Rattle.rec_counts.specs.Touched.{AreListed, is_added, is_taken, mark_at, settled_at, settled_where, used_where}
use Rattle.rec_counts.proofs.Times.{times_more, test_of}
use Rattle.rec_counts.proofs.Marking.{unmarked_at}

-- a slot that does not keep its colour is not released
stays_unreleased : (r g : Bool) → (r || g) ≡ false → r ≡ false
stays_unreleased true g e = e
stays_unreleased false g e = refl

settled_again : (k n : Bool) (v : Slot) → stays v ≡ k → eqb v.count 0 ≡ n → settled (settled_if k n v) ≡ settled_if k n v
settled_again true n v e f = ap (λ b. settled_if b (eqb v.count 0) v) e
settled_again false true v e f =
    let r : v.released ≡ false = stays_unreleased v.released (is_green v.colour) e in
    let w : Slot = record v { colour = Black } in
    ap (λ b. settled_if (b || false) (eqb v.count 0) w) r ∙ ap (λ b. settled_if false b w) f
settled_again false false v e f =
    let r : v.released ≡ false = stays_unreleased v.released (is_green v.colour) e in
    let w : Slot = record v { colour = Purple; buffered = true } in
    ap (λ b. settled_if (b || false) (eqb v.count 0) w) r ∙ ap (λ b. settled_if false b w) f

-- a slot that is settled twice is as if it was once
pub settled_twice : (b : Bool) (v : Slot) → settled (settled_where b v) ≡ settled v
settled_twice true v = settled_again (stays v) (eqb v.count 0) v refl refl
settled_twice false v = refl

-- one more of the list passes a test, or doesn't
listed_more : (p : ℕ → Bool) (before xs : List ℕ) (i : ℕ) (b : Bool) → i < length xs → p (get_or xs i 0) ≡ b →
    (before ++ filter p (take i xs)) ++ cond b (get_or xs i 0 ∷ []) [] ≡ before ++ filter p (take (i + 1) xs)
listed_more p before xs i b l e =
    rw append_assoc (ap (λ ys. before ++ ys) (ap (λ c. filter p (take i xs) ++ cond c (get_or xs i 0 ∷ []) []) (sym e) ∙ sym (filter_more p xs i 0 l)))

pub listed_none : (before : Shelf) → before ≡ record before { list = before.list ++ [] }
listed_none before = ap (λ ys. record before { list = ys }) (sym (append-nil before.list))

pub listed_next : (p : ℕ → Bool) (before now : Shelf) (xs : List ℕ) (i : ℕ) (b : Bool) → i < length xs → p (get_or xs i 0) ≡ b → now ≡ record before { list = before.list ++ filter p (take i xs) } →
    ◌≡◌ {A = Shelf} (record now { list = now.list ++ cond b (get_or xs i 0 ∷ []) [] }) (record before { list = before.list ++ filter p (take (i + 1) xs) })
listed_next p before now xs i b l h e =
    ap (λ (q : Shelf). record q { list = q.list ++ cond b (get_or xs i 0 ∷ []) [] }) e ∙ ap {A = List ℕ} {B = Shelf} (λ ys. record before { list = ys }) (listed_more p before.list xs i b l h)

pub listed_all : (p : ℕ → Bool) (before now : Shelf) (xs : List ℕ) (i : ℕ) → length xs ≤ i → now ≡ record before { list = before.list ++ filter p (take i xs) } → now ≡ record before { list = before.list ++ filter p xs }
listed_all p before now xs i l e = e ∙ ap {A = List ℕ} {B = Shelf} (λ ys. record before { list = before.list ++ filter p ys }) (take_all i xs l)

-- A slot that is only added to is in use, and has no mark: the mark of one that comes up, as it was, or not any more.
mark_then : (seen : Bool) (mark : Mark) → cond (is_added (cond (seen && is_added mark) Untouched mark)) Untouched (cond (seen && is_added mark) Untouched mark) ≡ cond (true && is_added mark) Untouched mark
mark_then true Added = refl
mark_then true Untouched = refl
mark_then true Taken = refl
mark_then false Added = refl
mark_then false Untouched = refl
mark_then false Taken = refl

used_then : (seen : Bool) (mark : Mark) (v : Slot) → used_where (is_added (cond (seen && is_added mark) Untouched mark)) (used_where (seen && is_added mark) v) ≡ used_where (true && is_added mark) v
used_then true Added v = refl
used_then true Untouched v = refl
used_then true Taken v = refl
used_then false Added v = refl
used_then false Untouched v = refl
used_then false Taken v = refl

pub marks_used : (marks old : List Mark) (members : List ℕ) (i : ℕ) → i < length members → get_or members i 0 < length marks →
    ((x : ℕ) → mark_at marks x ≡ cond (ltb 0 (times x (take i members)) && is_added (mark_at old x)) Untouched (mark_at old x)) →
    (x : ℕ) → mark_at (set marks (get_or members i 0) (cond (is_added (mark_at marks (get_or members i 0))) Untouched (mark_at marks (get_or members i 0)))) x
    ≡ cond (ltb 0 (times x (take (i + 1) members)) && is_added (mark_at old x)) Untouched (mark_at old x)
marks_used marks old members i l r h x =
    let m : ℕ = get_or members i 0 in
    let k : Mark = cond (is_added (mark_at marks m)) Untouched (mark_at marks m) in
    elim (eqb_tells x m) [
      | inl q ↦ let n : ltb 0 (times x (take (i + 1) members)) ≡ true = lt-ltb 0 _ (omega (arith, ap one q.0, times_more x members i l)) in
          ap (mark_at (set marks m k)) q.1 ∙ get_or-set_same marks m k Untouched r
          ∙ ap (λ z. cond (is_added (mark_at marks z)) Untouched (mark_at marks z)) (sym q.1)
          ∙ ap (λ z. cond (is_added z) Untouched z) (h x)
          ∙ mark_then (ltb 0 (times x (take i members))) (mark_at old x)
          ∙ ap (λ b. cond (b && is_added (mark_at old x)) Untouched (mark_at old x)) (sym n)
      | inr q ↦ let n : times x (take (i + 1) members) ≡ times x (take i members) = omega (arith, ap one q.0, times_more x members i l) in
          get_or-set_other marks m x k Untouched q.1 ∙ h x ∙ ap (λ j. cond (ltb 0 j && is_added (mark_at old x)) Untouched (mark_at old x)) (sym n)
    ]

pub slots_used : (marks old : List Mark) (slots before : List Slot) (members : List ℕ) (i : ℕ) → i < length members → get_or members i 0 < length slots →
    ((x : ℕ) → mark_at marks x ≡ cond (ltb 0 (times x (take i members)) && is_added (mark_at old x)) Untouched (mark_at old x)) →
    ((x : ℕ) → get_or slots x absent ≡ used_where (ltb 0 (times x (take i members)) && is_added (mark_at old x)) (get_or before x absent)) →
    (x : ℕ) → get_or (set slots (get_or members i 0) (used_where (is_added (mark_at marks (get_or members i 0))) (get_or slots (get_or members i 0) absent))) x absent
    ≡ used_where (ltb 0 (times x (take (i + 1) members)) && is_added (mark_at old x)) (get_or before x absent)
slots_used marks old slots before members i l r g h x =
    let m : ℕ = get_or members i 0 in
    let v : Slot = used_where (is_added (mark_at marks m)) (get_or slots m absent) in
    elim (eqb_tells x m) [
      | inl q ↦ let n : ltb 0 (times x (take (i + 1) members)) ≡ true = lt-ltb 0 _ (omega (arith, ap one q.0, times_more x members i l)) in
          ap (λ z. get_or (set slots m v) z absent) q.1 ∙ get_or-set_same slots m v absent r
          ∙ ap (λ z. used_where (is_added (mark_at marks z)) (get_or slots z absent)) (sym q.1)
          ∙ ap (λ z. used_where (is_added z) (get_or slots x absent)) (g x)
          ∙ ap (used_where _) (h x)
          ∙ used_then (ltb 0 (times x (take i members))) (mark_at old x) (get_or before x absent)
          ∙ ap (λ b. used_where (b && is_added (mark_at old x)) (get_or before x absent)) (sym n)
      | inr q ↦ let n : times x (take (i + 1) members) ≡ times x (take i members) = omega (arith, ap one q.0, times_more x members i l) in
          get_or-set_other slots m x v absent q.1 ∙ h x ∙ ap (λ j. used_where (ltb 0 j && is_added (mark_at old x)) (get_or before x absent)) (sym n)
    ]

-- After both lists no slot has a mark, and each is settled by its mark.
cleared_then : (mark : Mark) (taken added : Bool) → taken ≡ is_taken mark → (is_added mark ≡ true → added ≡ true) → cond (added && is_added (cond taken Untouched mark)) Untouched (cond taken Untouched mark) ≡ Untouched
cleared_then Taken taken added e f = rw e (go added)
  where
    go : (b : Bool) → cond (b && false) Untouched Untouched ≡ Untouched
    go true = refl
    go false = refl
cleared_then Added taken added e f = rw (e, f refl) refl
cleared_then Untouched taken added e f = rw e (go added)
  where
    go : (b : Bool) → cond (b && false) Untouched Untouched ≡ Untouched
    go true = refl
    go false = refl

settled_then : (mark : Mark) (taken added : Bool) (v : Slot) → taken ≡ is_taken mark → (is_added mark ≡ true → added ≡ true) → used_where (added && is_added (cond taken Untouched mark)) (settled_where taken v) ≡ settled_at mark v
settled_then Taken taken added v e f = rw e (go added)
  where
    go : (b : Bool) → used_where (b && false) (settled v) ≡ settled v
    go true = refl
    go false = refl
settled_then Added taken added v e f = rw (e, f refl) refl
settled_then Untouched taken added v e f = rw e (go added)
  where
    go : (b : Bool) → used_where (b && false) v ≡ v
    go true = refl
    go false = refl

-- which list has the slot
taken_is : {marks : List Mark} {added taken : List ℕ} {added_room taken_room : ℕ} → AreListed marks added added_room taken taken_room → (x : ℕ) → ltb 0 (times x taken) ≡ is_taken (mark_at marks x)
taken_is {marks = marks} {taken = taken} k x = test_of (times x taken) (is_taken (mark_at marks x)) (k.taken_once x)

added_is : {marks : List Mark} {added taken : List ℕ} {added_room taken_room : ℕ} → AreListed marks added added_room taken taken_room → (x : ℕ) → is_added (mark_at marks x) ≡ true → ltb 0 (times x added) ≡ true
added_is {marks = marks} {added = added} k x e = lt-ltb 0 (times x added) (omega (arith, k.added_all x, ap one e))

pub all_cleared : {marks : List Mark} {added taken : List ℕ} {added_room taken_room : ℕ} → AreListed marks added added_room taken taken_room → (n : ℕ) (first then : List Mark) → length then ≡ n →
    ((x : ℕ) → mark_at first x ≡ cond (ltb 0 (times x taken)) Untouched (mark_at marks x)) →
    ((x : ℕ) → mark_at then x ≡ cond (ltb 0 (times x added) && is_added (mark_at first x)) Untouched (mark_at first x)) → then ≡ replicate n Untouched
all_cleared {marks = marks} {added = added} {taken = taken} k n first then e f g =
    ext_get_or Untouched then (replicate n Untouched) (e ∙ sym (length-replicate n Untouched))
    (λ x l. g x ∙ ap (λ m. cond (ltb 0 (times x added) && is_added m) Untouched m) (f x) ∙ cleared_then (mark_at marks x) (ltb 0 (times x taken)) (ltb 0 (times x added)) (taken_is k x) (added_is k x) ∙ sym (unmarked_at n x))

pub all_settled : {marks : List Mark} {added taken : List ℕ} {added_room taken_room : ℕ} → AreListed marks added added_room taken taken_room → (first : List Mark) (slots between after : List Slot) →
    ((x : ℕ) → mark_at first x ≡ cond (ltb 0 (times x taken)) Untouched (mark_at marks x)) →
    ((x : ℕ) → get_or between x absent ≡ settled_where (ltb 0 (times x taken)) (get_or slots x absent)) →
    ((x : ℕ) → get_or after x absent ≡ used_where (ltb 0 (times x added) && is_added (mark_at first x)) (get_or between x absent)) →
    (x : ℕ) → get_or after x absent ≡ settled_at (mark_at marks x) (get_or slots x absent)
all_settled {marks = marks} {added = added} {taken = taken} k first slots between after f g h x =
    h x ∙ ap (λ m. used_where (ltb 0 (times x added) && is_added m) (get_or between x absent)) (f x) ∙ ap (used_where _) (g x)
    ∙ settled_then (mark_at marks x) (ltb 0 (times x taken)) (ltb 0 (times x added)) (get_or slots x absent) (taken_is k x) (added_is k x)

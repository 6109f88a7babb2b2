-- Every slot is offered to a trial, one after another: what that leaves of the counts, and that a trial may begin.
use Rattle.std.proofs.Common.{◌||◌, ◌≡◌, ◌≢◌, ℕ, zero, suc, ◌+◌, ◌<◌, ◌≤◌, Bool, true, false, eqb, cond, List, [], ◌∷◌, length, filter, refl, arith, sym, ◌∙◌, ap, subst, inl, inr, ◌-◌, ◌++◌, map, take, drop, set, get_or}
use Rattle.std.specs.List.{concat, range_with_len}
use Rattle.std.proofs.lemmas.Bool.{cases_Bool, cases_eq, cases_lt, eq-eqb, ne_eqb}
use Rattle.std.proofs.lemmas.List.FromFn.{filter_of_map_range_with_len_more}
use Rattle.std.proofs.lemmas.List.{map-id, get_or_past, length-map, append-nil, append_assoc, drop_all, get_or-append_right, get_or-drop, get_or-set_same, get_or_default, length-append, length-drop, length-take, set-set, take_all}
use Rattle.std.proofs.lemmas.List.Edits.{map_over_more}
use Rattle.rec_collector.proofs.Common.{Purple, Orange, Slot, State, IsKept, slot_at, with_slot, one, times, absent, is_in, times-append, times-cons, times-nil, with_offers, IsListed, Parts}
use Rattle.rec_counts.specs.declared.colour.Colour.{Colour}
use Rattle.rec_counts.specs.Slot.{stays as keeps_colour}
use Rattle.rec_counts.specs.Colour.{is_gray, is_white, is_green}
use Rattle.rec_counts.proofs.Decrementing.{rest_same, stays_green}
use Rattle.rec_counts.proofs.Keeping.{map_at}
use Rattle.rec_trial.specs.Rules.{IsReady}
use Rattle.rec_collector.specs.Offered.{offered, offered_if, offered_slot, offered_where, is_missing, is_missing_if, missing, AreOffered, KeepsOffered, offered_one, rooted_if}

-- a slot that is offered
offered_at : (s : State) (x : ℕ) → slot_at (offered s) x ≡ offered_slot (slot_at s x)
unfolding offered
offered_at s x = map_at offered_slot refl s.slots x

-- a released slot keeps its colour
released_keeps : (v : Slot) → v.released ≡ true → keeps_colour v ≡ true
released_keeps v r = ap (λ b. b || is_green v.colour) r

offered_true : (v : Slot) → keeps_colour v ≡ true → offered_slot v ≡ v
offered_true v r = ap (λ b. offered_if b v) r

offered_false : (v : Slot) → keeps_colour v ≡ false → offered_slot v ≡ record v { colour = Purple; buffered = true }
offered_false v r = ap (λ b. offered_if b v) r

-- it has a new colour and a new place at most
stays : {A : Type 0} (f : Slot → A) → ((v : Slot) → f (record v { colour = Purple; buffered = true }) ≡ f v) → (s : State) (x : ℕ) → f (slot_at (offered s) x) ≡ f (slot_at s x)
stays f h s x = ap f (offered_at s x) ∙ elim (keeps_colour (slot_at s x)) as (λ b. f (offered_if b (slot_at s x)) ≡ f (slot_at s x)) [ true ↦ refl | false ↦ h (slot_at s x) ]

offered_keeps : (s : State) → KeepsOffered s (offered s)
unfolding offered
offered_keeps s = record {
  rest = record {
    slots = length-map s.slots offered_slot;
    sets = refl;
    marked = refl;
    work = refl;
    free = refl;
    released = stays (λ (v : Slot). v.released) (λ v. refl) s;
    cyclic = stays (λ (v : Slot). v.cyclic) (λ v. refl) s;
    set = stays (λ (v : Slot). v.set) (λ v. refl) s;
  };
  counts = stays (λ (v : Slot). v.count) (λ v. refl) s;
  zeros = refl;
}

pub where_keeps : (offers : Bool) (s : State) → KeepsOffered s (offered_where offers s)
where_keeps true s = offered_keeps s
where_keeps false s = record { rest = rest_same s; counts = λ x. refl; zeros = refl }

-- the next number of a range, where it passes
filter_more : (p : ℕ → Bool) (n : ℕ) → filter p (range_with_len 0 (n + 1)) ≡ filter p (range_with_len 0 n) ++ cond (p n) (n ∷ []) []
filter_more p n = simp map-id at (filter_of_map_range_with_len_more p (λ x. x) 0 n n (omega arith))

-- so each number stands once among those below a bound that pass, where it is below and passes
passed_below : (p : ℕ → Bool) (x n : ℕ) → (x < n → times x (filter p (range_with_len 0 n)) ≡ one (p x)) × (n ≤ x → times x (filter p (range_with_len 0 n)) ≡ 0)
passed_below p x zero = (λ l. absurd (omega (arith, l)), λ l. times-nil x)
passed_below p x (suc n) =
    let i = passed_below p x n in
    let next : n + 1 ≡ suc n = omega arith in
    let more : times x (filter p (range_with_len 0 (suc n))) ≡ times x (filter p (range_with_len 0 n)) + times x (cond (p n) (n ∷ []) []) =
    ap (λ m. times x (filter p (range_with_len 0 m))) (sym next) ∙ ap (times x) (filter_more p n) ∙ times-append x (filter p (range_with_len 0 n)) (cond (p n) (n ∷ []) []) in (
      λ l. elim (cases_eq x n) [
        | inl e ↦ omega (arith, more, i.1 (omega (arith, e)), here (p n) (ap one (eq-eqb x n e)), ap (λ y. one (p y)) e)
        | inr e ↦ omega (arith, more, i.0 (omega (arith, l, e)), there (p n) (ap one (ne_eqb x n e)))
      ],
      λ l. omega (arith, more, i.1 (omega (arith, l)), there (p n) (ap one (ne_eqb x n (λ e. omega (arith, e, l))))),
    )
  where
    here : (b : Bool) → one (eqb x n) ≡ 1 → times x (cond b (n ∷ []) []) ≡ one b
    here true e = omega (arith, e, times-cons x n [], times-nil x)
    here false e = times-nil x

    there : (b : Bool) → one (eqb x n) ≡ 0 → times x (cond b (n ∷ []) []) ≡ 0
    there true e = omega (arith, e, times-cons x n [], times-nil x)
    there false e = times-nil x

-- each slot that is missing from the buffers is added to the roots once
missing_once : (s : State) (x : ℕ) → times x (missing s) ≡ one (is_missing (slot_at s x))
missing_once s x = let i = passed_below (λ y. is_missing (slot_at s y)) x (length s.slots) in elim (cases_lt x (length s.slots)) [
  | inl l ↦ i.0 l
  | inr l ↦ i.1 l ∙ sym (ap (λ (v : Slot). one (is_missing v)) (get_or_past s.slots x absent l))
]

offered_roots : (s : State) (x : ℕ) → times x (offered s).roots ≡ times x s.roots + one (is_missing (slot_at s x))
unfolding offered
offered_roots s x = omega (arith, times-append x s.roots (missing s), missing_once s x)

buffered_now : (v : Slot) → one v.buffered + one (is_missing v) ≡ one (offered_slot v).buffered
buffered_now v = go (keeps_colour v) v.buffered refl
  where
    go : (r b : Bool) → v.buffered ≡ b → one b + one (is_missing_if r b) ≡ one (offered_if r v).buffered
    go true b e = omega (arith, ap one e)
    go false true e = refl
    go false false e = refl

-- what always holds of the counts
offered_kept : (s : State) → IsKept s → IsKept (offered s)
unfolding offered
offered_kept s k =
    let keeps : KeepsOffered s (offered s) = offered_keeps s in
    let many : length (offered s).slots ≡ length s.slots = keeps.rest.slots in
    record {
      buffers = λ x. omega (arith, k.buffers x, offered_roots s x, buffered_now (slot_at s x), ap (λ (v : Slot). one v.buffered) (offered_at s x));
      numbers = λ i x. k.numbers i x ∙ ap (λ o. one (is_in i o)) (sym (keeps.rest.set x));
      few_sets = omega (arith, k.few_sets, many);
      marked_once = rw many k.marked_once;
      work_once = rw many k.work_once;
      zeros_once = rw many k.zeros_once;
      free_once = rw many k.free_once;
      few_slots = omega (arith, k.few_slots, many);
    }

-- a colour that a slot that isn't offered lacks, and which isn't Purple
no_colour : (f : Colour → Bool) → f Purple ≡ false → (s : State) → ((x : ℕ) → f (slot_at s x).colour ≡ false) → (x : ℕ) → f (slot_at (offered s) x).colour ≡ false
no_colour f p s h x = ap (λ (v : Slot). f v.colour) (offered_at s x) ∙ elim (keeps_colour (slot_at s x)) as (λ b. f (offered_if b (slot_at s x)).colour ≡ false) [ true ↦ h x | false ↦ p ]

-- a released slot is in the root buffer only where it was
same_roots : (s : State) (x : ℕ) → (slot_at s x).released ≡ true → times x (offered s).roots ≡ times x s.roots
same_roots s x r = let none : one (is_missing (slot_at s x)) ≡ 0 = ap (λ b. one (is_missing_if b (slot_at s x).buffered)) (released_keeps (slot_at s x) r) in omega (arith, none, offered_roots s x)

-- a trial may begin
offered_ready : (s : State) → IsReady s → IsReady (offered s)
offered_ready s r =
    let keeps : KeepsOffered s (offered s) = offered_keeps s in
    record {
      sets = keeps.rest.sets ∙ r.sets;
      marked = keeps.rest.marked ∙ r.marked;
      work = keeps.rest.work ∙ r.work;
      no_gray = no_colour is_gray refl s r.no_gray;
      no_white = no_colour is_white refl s r.no_white;
      unlisted = λ x h t.
          let q : (slot_at s x).released ≡ true = sym (keeps.rest.released x) ∙ t in
          ap (times x) keeps.rest.free ∙ r.unlisted x (omega (arith, h, same_roots s x q)) q;
    }

pub where_ready : (offers : Bool) (s : State) → IsReady s → IsReady (offered_where offers s)
where_ready true s r = offered_ready s r
where_ready false s r = r

pub where_kept : (offers : Bool) (s : State) → IsKept s → IsKept (offered_where offers s)
where_kept true s k = offered_kept s k
where_kept false s k = k

-- the released slots are where they were
offered_listed : (s : State) → IsListed s → IsListed (offered s)
offered_listed s l =
    let keeps : KeepsOffered s (offered s) = offered_keeps s in
    record {
      listed = λ x i t.
          let q : (slot_at s x).released ≡ true = sym (keeps.rest.released x) ∙ t in
          omega (arith, l.listed x (omega (arith, i, keeps.rest.slots)) q, same_roots s x q, ap (times x) keeps.rest.free);
      only = λ x h. keeps.rest.released x ∙ l.only x (omega (arith, h, ap (times x) keeps.rest.free));
      unbuffered = λ x h.
          let there : 0 < times x s.free = omega (arith, h, ap (times x) keeps.rest.free) in
          ap (λ (v : Slot). v.buffered) (offered_at s x ∙ offered_true (slot_at s x) (released_keeps (slot_at s x) (l.only x there))) ∙ l.unbuffered x there;
    }

pub where_listed : (offers : Bool) (s : State) → IsListed s → IsListed (offered_where offers s)
where_listed true s l = offered_listed s l
where_listed false s l = l

-- no slot is Orange where none was
pub where_uncoloured : (offers : Bool) (s : State) → ((x : ℕ) → (slot_at s x).colour ≢ Orange) → (x : ℕ) → (slot_at (offered_where offers s) x).colour ≢ Orange
where_uncoloured false s h = h
where_uncoloured true s h = λ x e. elim (cases_Bool (keeps_colour (slot_at s x))) [
  | inl r ↦ h x (sym (ap (λ (v : Slot). v.colour) (offered_at s x ∙ offered_true (slot_at s x) r)) ∙ e)
  | inr r ↦ let q : Purple ≡ Orange = sym (ap (λ (v : Slot). v.colour) (offered_at s x ∙ offered_false (slot_at s x) r)) ∙ e in cc
]

-- no slot becomes Green, and each that is stays so
green_by : (b : Bool) (v : Slot) → (b ≡ false → is_green v.colour ≡ false) → is_green (offered_if b v).colour ≡ is_green v.colour
green_by true v h = refl
green_by false v h = sym (h refl)

offered_green : (s : State) (x : ℕ) → is_green (slot_at (offered s) x).colour ≡ is_green (slot_at s x).colour
offered_green s x = ap (λ (v : Slot). is_green v.colour) (offered_at s x) ∙ green_by (keeps_colour (slot_at s x)) (slot_at s x) (stays_green (slot_at s x).released (slot_at s x))

pub where_green : (offers : Bool) (s : State) (x : ℕ) → is_green (slot_at (offered_where offers s) x).colour ≡ is_green (slot_at s x).colour
where_green true s x = offered_green s x
where_green false s x = refl

-- where no set is left, each slot that is neither released nor Green is a candidate root
all_offered : (s : State) → IsKept s → s.sets ≡ [] → AreOffered s (offered s)
all_offered s k none = record {
  seeds = λ x r g.
      let open_slot : keeps_colour (slot_at s x) ≡ false = ap (λ b. b || is_green (slot_at s x).colour) r ∙ g in
      let whole : slot_at (offered s) x ≡ record (slot_at s x) { colour = Purple; buffered = true } = offered_at s x ∙ offered_false (slot_at s x) open_slot in
      let now : one (offered_slot (slot_at s x)).buffered ≡ 1 = ap (λ (v : Slot). one v.buffered) (offered_false (slot_at s x) open_slot) in
      record {
        root = omega (arith, offered_roots s x, k.buffers x, ap (λ sets. times x (concat sets)) none, times-nil x, buffered_now (slot_at s x), now);
        purple = ap (λ (v : Slot). v.colour) whole;
        unreleased = ap (λ (v : Slot). v.released) whole ∙ r;
      };
  green = offered_green s;
  keeps = offered_keeps s;
}

-- where that was asked for they are offered, and once
pub offers_whole : (w : Parts) → w.offers ≡ true → IsKept w.counts → w.counts.sets ≡ [] → AreOffered w.counts (with_offers w).counts × ((with_offers w).offers ≡ false)
offers_whole w e k none = (subst (AreOffered w.counts) (ap (λ b. offered_where b w.counts) (sym e)) (all_offered w.counts k none), refl)

-- a Purple slot is in no buffer, and is pushed to the root buffer
pub pushed_one : (s t : State) (x : ℕ) → x < length s.slots → keeps_colour (slot_at s x) ≡ false → t ≡ with_slot s x (record (slot_at s x) { colour = Purple }) → (slot_at t x).buffered ≡ false
    → record (with_slot t x (record (slot_at t x) { buffered = true })) { roots = t.roots ++ x ∷ [] } ≡ offered_one s x
pushed_one s t x l r e u =
    let v : Slot = record (slot_at s x) { colour = Purple } in
    let a : slot_at (with_slot s x v) x ≡ v = get_or-set_same s.slots x v absent l in
    let b : set (set s.slots x v) x (record (slot_at (with_slot s x v) x) { buffered = true }) ≡ set s.slots x (record (slot_at s x) { colour = Purple; buffered = true }) =
    ap (λ (w : Slot). set (set s.slots x v) x (record w { buffered = true })) a ∙ set-set s.slots x v (record v { buffered = true }) in
    let out : (slot_at s x).buffered ≡ false = sym (ap (λ (q : State). (slot_at q x).buffered) e ∙ ap (λ (w : Slot). w.buffered) a) ∙ u in
    ap (λ (u : State). record (with_slot u x (record (slot_at u x) { buffered = true })) { roots = u.roots ++ x ∷ [] }) e
    ∙ ap {A = List Slot} {B = State} (λ slots. record s { slots = slots; roots = s.roots ++ x ∷ [] }) b
    ∙ sym (ap (λ released. rooted_if (is_missing_if released (slot_at s x).buffered) (with_slot s x (offered_if released (slot_at s x))) x) r
    ∙ ap (λ buffered. rooted_if (is_missing_if false buffered) (with_slot s x (offered_if false (slot_at s x))) x) out)

-- the slots before this one are offered, in rising order
abbrev pub offered_to : ℕ → State → State
offered_to i s = record s { slots = map offered_slot (take i s.slots) ++ drop i s.slots; roots = s.roots ++ filter (λ x. is_missing (slot_at s x)) (range_with_len 0 i) }

pub none_offered : (s : State) → s ≡ offered_to 0 s
none_offered s = ap (λ xs. record s { roots = xs }) (sym (append-nil s.roots))

pub to_all : (i : ℕ) (s : State) → length s.slots ≡ i → offered_to i s ≡ offered s
unfolding offered
to_all i s e = ap (λ n. offered_to n s) (sym e) ∙ ap (λ xs. record s { slots = xs; roots = s.roots ++ filter (λ x. is_missing (slot_at s x)) (range_with_len 0 (length s.slots)) }) whole
  where
    whole : map offered_slot (take (length s.slots) s.slots) ++ drop (length s.slots) s.slots ≡ map offered_slot s.slots
    whole = rw (take_all (length s.slots) s.slots (omega arith), drop_all (length s.slots) s.slots (omega arith)) (append-nil (map offered_slot s.slots))

-- the next slot is as it was
next_same : (i : ℕ) (s : State) → i < length s.slots → slot_at (offered_to i s) i ≡ slot_at s i
next_same i s l =
    let many : length (map offered_slot (take i s.slots)) ≡ i = length-map (take i s.slots) offered_slot ∙ omega (arith, l, length-take i s.slots) in
    let none : i + (i - i) ≡ i = omega arith in
    get_or-append_right (map offered_slot (take i s.slots)) (drop i s.slots) i i absent many (omega arith)
    ∙ get_or-drop i s.slots (i - i) absent ∙ ap (λ n. get_or s.slots n absent) none

pub to_range : (i : ℕ) (s : State) → length (offered_to i s).slots ≡ length s.slots
to_range i s = omega (arith, length-append (map offered_slot (take i s.slots)) (drop i s.slots), length-map (take i s.slots) offered_slot, length-take i s.slots, length-drop i s.slots)

-- one slot more
pub to_next : (i : ℕ) (s t : State) → i < length s.slots → t ≡ offered_one (offered_to i s) i → t ≡ offered_to (i + 1) s
to_next i s t l e =
    let now : State = offered_to i s in
    let v : Slot = slot_at now i in
    let there : i < length now.slots = omega (arith, l, to_range i s) in
    let here : v ≡ get_or now.slots i v = get_or_default now.slots i absent v there in
    let slots : set now.slots i (offered_slot v) ≡ map offered_slot (take (i + 1) s.slots) ++ drop (i + 1) s.slots = map_over_more offered_slot s.slots now.slots i v l refl here in
    let roots : filter (λ x. is_missing (slot_at s x)) (range_with_len 0 (i + 1)) ≡ filter (λ x. is_missing (slot_at s x)) (range_with_len 0 i) ++ cond (is_missing (slot_at s i)) (i ∷ []) [] = filter_more (λ x. is_missing (slot_at s x)) i in
    e ∙ pushed (is_missing v) (with_slot now i (offered_slot v))
    ∙ ap (λ (xs : List Slot). record s { slots = xs; roots = now.roots ++ cond (is_missing v) (i ∷ []) [] }) slots
    ∙ ap (λ (w : Slot). record s { slots = map offered_slot (take (i + 1) s.slots) ++ drop (i + 1) s.slots; roots = now.roots ++ cond (is_missing w) (i ∷ []) [] }) (next_same i s l)
    ∙ ap (λ xs. record s { slots = map offered_slot (take (i + 1) s.slots) ++ drop (i + 1) s.slots; roots = xs }) (append_assoc s.roots (filter (λ x. is_missing (slot_at s x)) (range_with_len 0 i)) (cond (is_missing (slot_at s i)) (i ∷ []) []) ∙ ap (λ xs. s.roots ++ xs) (sym roots))
  where
    pushed : (b : Bool) (u : State) → rooted_if b u i ≡ record u { roots = u.roots ++ cond b (i ∷ []) [] }
    pushed true u = refl
    pushed false u = ap (λ xs. record u { roots = xs }) (sym (append-nil u.roots))

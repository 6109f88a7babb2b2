-- Once preparation is done, the sets wait for the next batch.
use Rattle.std.proofs.Common.{◌≡◌, ◌≢◌, inl, inr, ℕ, zero, suc, ◌+◌, ◌-◌, ◌*◌, ◌/◌, ◌<◌, ◌≤◌, ◌&&◌, Bool, true, false, eqb, ltb, leb, cond, None, Some, List, [], ◌∷◌, ◌++◌, length, map, sum_by, refl, sym, ap, subst, ◌∙◌, arith}
use Rattle.std.specs.List.{concat, range_with_len}
use Rattle.std.proofs.lemmas.Bool.Decides.{nat_tests, eqb_tells}
use Rattle.std.proofs.lemmas.Bool.{cases_lt, eq-eqb, lt-ltb}
use Rattle.std.proofs.lemmas.List.Elements.{All-nil, All-cons, All-head, All-tail, All-append}
use Rattle.std.proofs.lemmas.List.Sums.{sum_by-cons}
use Rattle.std.proofs.lemmas.Nat.{div-mul-add}
use Rattle.rec_core.proofs.Common.{target_of, is_slot, places_from, places_of, only_if, one_if_same, sum_at, node_of, home, Pending, seen_in, sum_at_none, sum_at_same, sum_at_split, none_if_differs, only_if-le, Slot, State, slot_at, one, times, EachOnce, is_in, members_once, set_there, times-nil, times-cons, times-append, one-same, one-le, in_range_once, Load, place_loaded, PreparedTo, loaded_at, seen, AreFields, is_member_of, word_seen, SetsStand, SetsWait}
use Rattle.rec_model.proofs.Ledgers.{node_of_null}
use Rattle.rec_model.proofs.Places.{sum_at_only}
use Rattle.rec_counts.specs.Counts.{IsKept}
use Rattle.rec_sigma.specs.declared.at.At.{At}
use Rattle.rec_core.proofs.Places.{in_row, within_row}

pub fields_begun : (fields : ℕ) → AreFields fields []
fields_begun fields = All-nil (λ (l : Load). l.field < fields)

pub fields_more : (fields : ℕ) (loads : List Load) (a : At) (word : ℕ) → a.member.field < fields → AreFields fields loads → AreFields fields (loads ++ loaded_at (Some a) word)
fields_more fields loads a word below h =
    let l : Load = record { slot = a.member.slot; field = a.member.field; word = word } in
    let field : Load → Type 0 = λ m. m.field < fields in
    All-append field loads (l ∷ []) h (All-cons field l [] below (All-nil field))

-- the places of one slot's fields are each there once, one behind another
times_row : (base p field n : ℕ) → times p (map (λ f. base + f) (range_with_len field n)) ≤ one (leb (base + field) p && ltb p (base + field + n))
times_row base p field zero = omega (arith, times-nil p)
times_row base p field (suc n) =
    more base p field n (times p (map (λ f. base + f) (range_with_len (field + 1) n))) (times p (map (λ f. base + f) (range_with_len field (suc n)))) (times-cons p (base + field) (map (λ f. base + f) (range_with_len (field + 1) n))) (times_row base p (field + 1) n)
  where
    more : (base p field n rest all : ℕ) → all ≡ one (eqb p (base + field)) + rest → rest ≤ one (leb (base + (field + 1)) p && ltb p (base + (field + 1) + n)) → all ≤ one (leb (base + field) p && ltb p (base + field + suc n))
    more base p field n rest all e h = grind (arith, nat_tests)

times_slot : (slot fields p : ℕ) → times p (places_from fields slot 0) ≤ one (eqb (p / fields) slot)
times_slot slot fields p = go (leb (slot * fields + 0) p && ltb p (slot * fields + 0 + (fields - 0))) refl (times_row (slot * fields) p 0 (fields - 0))
  where
    among : leb (slot * fields + 0) p && ltb p (slot * fields + 0 + (fields - 0)) ≡ true → (slot * fields ≤ p) × (p < slot * fields + fields)
    among e = (grind (arith, nat_tests), grind (arith, nat_tests))

    go : (b : Bool) → leb (slot * fields + 0) p && ltb p (slot * fields + 0 + (fields - 0)) ≡ b → times p (places_from fields slot 0) ≤ one b → times p (places_from fields slot 0) ≤ one (eqb (p / fields) slot)
    go true e h =
        let here = among e in
        let same : one (eqb (p / fields) slot) ≡ 1 = ap one (eq-eqb (p / fields) slot (in_row slot fields p here.0 here.1)) in
        omega (arith, h, same)
    go false e h = omega (arith, h)

-- a place is there no more often than its slot
times_places : (fields p : ℕ) (slots : List ℕ) → times p (places_of fields slots) ≤ times (p / fields) slots
times_places fields p [] = omega (arith, times-nil p)
times_places fields p (x ∷ xs) = omega (arith, times-append p (places_from fields x 0) (places_of fields xs), times-cons (p / fields) x xs, times_slot x fields p, times_places fields p xs)

-- without fields there are no places
no_places : (slots : List ℕ) (p : ℕ) → times p (places_of 0 slots) ≡ 0
no_places [] p = times-nil p
no_places (x ∷ xs) p = no_places xs p

-- each place is there once, and is one of the heap
places_once : (fields n : ℕ) (slots : List ℕ) → EachOnce n slots → EachOnce (n * fields) (places_of fields slots)
places_once zero n slots h p = omega (arith, no_places slots p)
places_once (suc k) n slots h p = elim (cases_lt (p / suc k) n) [
  | inl below ↦
      let inside : one (ltb p (n * suc k)) ≡ 1 = ap one (lt-ltb p (n * suc k) (within_row (suc k) n p (omega arith) below)) in
      omega (arith, inside, h (p / suc k), one-le (ltb (p / suc k) n), times_places (suc k) p slots)
  | inr past ↦ omega (arith, none past, h (p / suc k), times_places (suc k) p slots)
]
  where
    none : n ≤ p / suc k → one (ltb (p / suc k) n) ≡ 0
    none past = grind (arith, nat_tests)

-- so each place was loaded once
loads_once : (fields n : ℕ) (slots left : List ℕ) (loads : List Load) → map (place_loaded fields) loads ++ left ≡ places_of fields slots → EachOnce n slots → EachOnce (n * fields) (map (place_loaded fields) loads)
loads_once fields n slots left loads e h p = omega (arith, places_once fields n slots h p, ap (times p) e, times-append p (map (place_loaded fields) loads) left)

-- where nothing was loaded, nothing was seen
unloaded : (fields : ℕ) (loads : List Load) (p : ℕ) → times p (map (place_loaded fields) loads) ≡ 0 → word_seen fields loads p ≡ 0
unloaded fields [] p none = refl
unloaded fields (l ∷ loads) p none = go (eqb p (place_loaded fields l)) refl (unloaded fields loads p)
  where
    both : one (eqb p (place_loaded fields l)) + times p (map (place_loaded fields) loads) ≡ 0
    both = sym (times-cons p (place_loaded fields l) (map (place_loaded fields) loads)) ∙ none

    go : (b : Bool) → eqb p (place_loaded fields l) ≡ b → (times p (map (place_loaded fields) loads) ≡ 0 → word_seen fields loads p ≡ 0) → cond b l.word (word_seen fields loads p) ≡ 0
    go true e behind = let some : one (eqb p (place_loaded fields l)) ≡ 1 = ap one e in absurd (omega (arith, both, some))
    go false e behind = behind (omega (arith, both))

-- a word leads to a slot just where it names its node
leads_names : (word x : ℕ) → one (is_slot x (target_of word)) ≡ one_if_same (x + 1) (node_of word)
unfolding node_of
leads_names word x = grind (arith, nat_tests)

-- counted where the load was of a field of one of these slots and its word leads to this one
abbrev leading : (x : ℕ) (chosen : ℕ → Bool) → Load → ℕ
leading x chosen l = one (is_slot x (target_of l.word) && chosen l.slot)

-- counted where the field is of one of these slots, and the word that was seen there leads to this one
abbrev seen_at : (fields x : ℕ) (chosen : ℕ → Bool) (loads : List Load) → ℕ → ℕ
seen_at fields x chosen loads p = only_if (chosen (home fields p - 1)) (one_if_same (x + 1) (node_of (word_seen fields loads p)))

-- counted where the field is of one of these slots, and this word leads to this one
abbrev gained : (x : ℕ) (chosen : ℕ → Bool) (word fields p : ℕ) → ℕ
gained x chosen word fields p = only_if (chosen (home fields p - 1)) (one_if_same (x + 1) (node_of word))

-- the slot of a field that was loaded
slot_of_load : (fields : ℕ) (l : Load) → l.field < fields → home fields (place_loaded fields l) - 1 ≡ l.slot
slot_of_load fields l below = omega (arith, div-mul-add l.slot fields l.field below)

module _ (fields x : ℕ) (chosen : ℕ → Bool) (l : Load) (loads : List Load) (words : List ℕ) (below : l.field < fields) (inside : place_loaded fields l < length words) (new : times (place_loaded fields l) (map (place_loaded fields) loads) ≡ 0) where
  -- what the load adds, at its place
  gained_there : leading x chosen l ≡ gained x chosen l.word fields (place_loaded fields l)
  gained_there =
      let e : chosen (home fields (place_loaded fields l) - 1) ≡ chosen l.slot = ap chosen (slot_of_load fields l below) in
      rw e (both (is_slot x (target_of l.word)) (chosen l.slot) (leads_names l.word x))
    where
      both : (a b : Bool) → one a ≡ one_if_same (x + 1) (node_of l.word) → one (a && b) ≡ only_if b (one_if_same (x + 1) (node_of l.word))
      both true true e = e
      both true false e = refl
      both false true e = e
      both false false e = refl

  seen_there : one_if_same (x + 1) (node_of (word_seen fields loads (place_loaded fields l))) ≡ 0
  seen_there = ap (λ word. one_if_same (x + 1) (node_of word)) (unloaded fields loads (place_loaded fields l) new) ∙ none_if_differs (x + 1) (node_of 0) (omega (arith, node_of_null))

  more_at : (p : ℕ) → seen_at fields x chosen loads p + only_if (eqb (place_loaded fields l) p) (gained x chosen l.word fields p) ≡ seen_at fields x chosen (l ∷ loads) p
  more_at p = elim (eqb_tells p (place_loaded fields l)) [
    | inl q ↦
        let other : eqb (place_loaded fields l) p ≡ true = eq-eqb (place_loaded fields l) p (sym q.1) in
        let none : one_if_same (x + 1) (node_of (word_seen fields loads p)) ≡ 0 = ap (λ k. one_if_same (x + 1) (node_of (word_seen fields loads k))) q.1 ∙ seen_there in
        rw (other, q.0) (omega (arith, none, only_if-le (chosen (home fields p - 1)) (one_if_same (x + 1) (node_of (word_seen fields loads p)))))
    | inr q ↦
        let other : only_if (eqb (place_loaded fields l) p) (gained x chosen l.word fields p) ≡ 0 = apart (place_loaded fields l) p (gained x chosen l.word fields p) (λ e. q.1 (sym e)) in
        rw q.0 (omega (arith, other))
  ]
    where
      apart : (a b n : ℕ) → a ≢ b → only_if (eqb a b) n ≡ 0
      apart a b n d = grind (arith, nat_tests)

  one_more : sum_at (λ p (word : ℕ). seen_at fields x chosen loads p) words + leading x chosen l ≡ sum_at (λ p (word : ℕ). seen_at fields x chosen (l ∷ loads) p) words
  one_more =
      let old : ℕ → ℕ → ℕ = λ p word. seen_at fields x chosen loads p in
      let gain : ℕ → ℕ → ℕ = λ p word. only_if (eqb (place_loaded fields l) p) (gained x chosen l.word fields p) in
      omega (
        arith,
        gained_there,
        sum_at_only (λ p (word : ℕ). gained x chosen l.word fields p) words (place_loaded fields l) 0 inside,
        sum_at_split (λ p word. old p word + gain p word) old gain words (λ p word. refl),
        sum_at_same (λ p word. old p word + gain p word) (λ p word. seen_at fields x chosen (l ∷ loads) p) words (λ p word. more_at p),
      )

-- Where each place was loaded once, the loads of these slots' fields that lead to one are as many as the places of these slots' fields
-- where such a word was seen.
loads_seen : (fields x : ℕ) (chosen : ℕ → Bool) (loads : List Load) (words : List ℕ) → AreFields fields loads → EachOnce (length words) (map (place_loaded fields) loads)
    → sum_by (leading x chosen) loads ≡ sum_at (λ p (word : ℕ). seen_at fields x chosen loads p) words
loads_seen fields x chosen [] words h once = sym (sum_at_none (λ p (word : ℕ). seen_at fields x chosen [] p) words (λ p word. none p))
  where
    none : (p : ℕ) → seen_at fields x chosen [] p ≡ 0
    none p = omega (arith, none_if_differs (x + 1) (node_of 0) (omega (arith, node_of_null)), only_if-le (chosen (home fields p - 1)) (one_if_same (x + 1) (node_of 0)))
loads_seen fields x chosen (l ∷ loads) words h once =
    let field : Load → Type 0 = λ m. m.field < fields in
    let p : ℕ = place_loaded fields l in
    let rest : List ℕ = map (place_loaded fields) loads in
    let new : times p rest ≡ 0 = omega (arith, once p, times-cons p p rest, one-same p, one-le (ltb p (length words))) in
    let inside : p < length words = in_range_once (length words) (p ∷ rest) p once (omega (arith, times-cons p p rest, one-same p)) in
    let later : EachOnce (length words) rest = λ q. omega (arith, once q, times-cons q p rest) in
    omega (
      arith,
      sum_by-cons (leading x chosen) l loads,
      loads_seen fields x chosen loads words (All-tail field l loads h) later,
      one_more fields x chosen l loads words (All-head field l loads h) inside new,
    )

-- what was seen, as a sum over loads
seen_loads : (s : State) (number : ℕ) (loads : List Load) (x : ℕ) → seen s number loads x ≡ sum_by (leading x (λ slot. is_in number (slot_at s slot).set)) loads
unfolding seen
seen_loads s number loads x = refl

-- once all sets are prepared, they wait
pub sets_wait_prepared : (w : Pending) (before s : State) (loads : List Load) → IsKept before → length w.words ≡ length before.slots * w.fields → AreFields w.fields loads → PreparedTo w.fields before None s loads → SetsStand w s loads → SetsWait w s
sets_wait_prepared w before s loads k long h p stand = record {
  marking = stand.marking;
  marked = stand.marked;
  loads = loads;
  loaded = stand.loaded;
  counted = λ number x is.
      let was : (slot_at before x).set ≡ Some number = sym (set_kept x) ∙ is in
      let count : (slot_at s x).count ≡ (slot_at before x).count = ap (λ (v : Slot). v.count) (p.others.slots x) in
      omega (arith, count, p.members number x (set_there before number x k was) was, seen_loads before number loads x, loads_seen w.fields x (λ slot. is_in number (slot_at before slot).set) loads w.words h once, same_sum number x);
}
  where
    set_kept : (x : ℕ) → (slot_at s x).set ≡ (slot_at before x).set
    set_kept x = ap (λ (v : Slot). v.set) (p.others.slots x)

    once : EachOnce (length w.words) (map (place_loaded w.fields) loads)
    once = subst (λ n. EachOnce n (map (place_loaded w.fields) loads)) (sym long) (loads_once w.fields (length before.slots) (concat before.sets) [] loads p.places (members_once k))

    same_sum : (number x : ℕ) → sum_at (seen_in w.fields (is_member_of s number) (word_seen w.fields loads) (x + 1)) w.words ≡ sum_at (λ q (word : ℕ). seen_at w.fields x (λ slot. is_in number (slot_at before slot).set) loads q) w.words
    same_sum number x = sum_at_same (seen_in w.fields (is_member_of s number) (word_seen w.fields loads) (x + 1)) (λ q word. seen_at w.fields x (λ slot. is_in number (slot_at before slot).set) loads q) w.words
        (λ q word. ap (λ o. only_if (is_in number o) (one_if_same (x + 1) (node_of (word_seen w.fields loads q)))) (set_kept (home w.fields q - 1)))

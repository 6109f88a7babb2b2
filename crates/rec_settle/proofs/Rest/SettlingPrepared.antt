-- The outside counts after a preparation at rest.
use Rattle.std.proofs.Common.{◌≡◌, ℕ, ◌+◌, ◌*◌, ◌/◌, ◌<◌, ◌&&◌, Bool, true, false, not, Some, None, List, [], ◌∷◌, ◌++◌, length, map, get_or, refl, sym, ap, ◌∙◌, arith, sum_by}
use Rattle.std.specs.List.{concat}
use Rattle.std.proofs.lemmas.List.{append-nil}
use Rattle.std.proofs.lemmas.List.Elements.{All-nil, All-cons, All-append, All-head, All-tail}
use Rattle.std.proofs.lemmas.List.Sums.{sum_by-cons}
use Rattle.std.proofs.lemmas.Nat.{div-mul-add}
use Rattle.rec_core.proofs.Common.{place_of, target_of, is_slot, only_if, sum_at, sum_at_split, State, slot_at, one, times, is_in, members_once, set_there, in_range_once, one-le, times_part, Load, place_loaded, PreparedTo, loaded_at, seen}
use Rattle.rec_settle.specs.Settling.{leading, heap_sum, leading_outside, outside_sum, IsLoadOf, AreLoadsOf}
use Rattle.rec_counts.specs.Counts.{IsKept}
use Rattle.rec_sigma.specs.declared.at.At.{At}
use Rattle.rec_settle.proofs.Rest.SettlingSums.{sum_at_same-from_get_or, sum_of_slots}

-- the loads of a preparation, one after another
pub loads_begun : (fields : ℕ) (words : List ℕ) → AreLoadsOf fields words []
loads_begun fields words = All-nil (IsLoadOf fields words)

pub loads_more : (fields : ℕ) (words : List ℕ) (loads : List Load) (a : At) (word : ℕ) → a.member.field < fields → word ≡ get_or words (place_of a.member.slot a.member.field fields) 0 → AreLoadsOf fields words loads → AreLoadsOf fields words (loads ++ loaded_at (Some a) word)
loads_more fields words loads a word below e h =
    let l : Load = record { slot = a.member.slot; field = a.member.field; word = word } in
    let here : IsLoadOf fields words l = record { field = below; word = e } in
    All-append (IsLoadOf fields words) loads (l ∷ []) h (All-cons (IsLoadOf fields words) l [] here (All-nil (IsLoadOf fields words)))

-- counted where the word leads to the slot, and the slot that has the field is in the set of this number
abbrev leading_inside : (fields : ℕ) → State → (number x place word : ℕ) → ℕ
leading_inside fields s number x place word = only_if (is_in number (slot_at s (place / fields)).set) (leading x word)

-- a field is in the set or outside of it
in_or_out : (fields : ℕ) (words : List ℕ) (s : State) (number x : ℕ) → heap_sum words x ≡ sum_at (leading_inside fields s number x) words + outside_sum words fields s number x
in_or_out fields words s number x =
    sum_at_split (λ p word. leading x word) (leading_inside fields s number x) (leading_outside fields s number x) words (λ p word. go (is_in number (slot_at s (p / fields)).set) (leading x word))
  where
    go : (b : Bool) (n : ℕ) → n ≡ only_if b n + only_if (not b) n
    go true n = omega arith
    go false n = omega arith

-- what a preparation saw, place by place
seen_at_places : (fields : ℕ) (words : List ℕ) (s : State) (number x : ℕ) (loads : List Load) → AreLoadsOf fields words loads → seen s number loads x ≡ sum_by (λ p. leading_inside fields s number x p (get_or words p 0)) (map (place_loaded fields) loads)
unfolding seen
seen_at_places fields words s number x [] h = refl
seen_at_places fields words s number x (l ∷ loads) h =
    let f : ℕ → ℕ = λ p. leading_inside fields s number x p (get_or words p 0) in
    let r : seen s number loads x ≡ sum_by f (map (place_loaded fields) loads) = seen_at_places fields words s number x loads (All-tail (IsLoadOf fields words) l loads h) in
    let e : one (is_slot x (target_of l.word) && is_in number (slot_at s l.slot).set) ≡ f (place_loaded fields l) = here (All-head (IsLoadOf fields words) l loads h) in
    sum_by-cons (λ (m : Load). one (is_slot x (target_of m.word) && is_in number (slot_at s m.slot).set)) l loads
    ∙ omega (arith, e, r)
    ∙ sym (sum_by-cons f (place_loaded fields l) (map (place_loaded fields) loads))
  where
    both : (a b : Bool) → one (a && b) ≡ only_if b (one a)
    both true true = refl
    both true false = refl
    both false true = refl
    both false false = refl

    here : IsLoadOf fields words l → one (is_slot x (target_of l.word) && is_in number (slot_at s l.slot).set) ≡ leading_inside fields s number x (place_loaded fields l) (get_or words (place_loaded fields l) 0)
    here i =
        both (is_slot x (target_of l.word)) (is_in number (slot_at s l.slot).set)
        ∙ ap (λ w. only_if (is_in number (slot_at s l.slot).set) (leading x w)) i.word
        ∙ ap (λ n. only_if (is_in number (slot_at s n).set) (leading x (get_or words (place_loaded fields l) 0))) (sym (div-mul-add l.slot fields l.field i.field))

-- a slot in a set stands in the sets once
times_members : (s : State) (number n : ℕ) → IsKept s → is_in number (slot_at s n).set ≡ true → times n (concat s.sets) ≡ 1
times_members s number n k e =
    let here : times n (get_or s.sets number []) ≡ 1 = k.numbers number n ∙ ap one e in
    omega (arith, here, times_part n s.sets number, k.buffers n, one-le (slot_at s n).buffered)

-- what a whole preparation saw is the number of fields in the set that lead there
all_seen : (fields : ℕ) (words : List ℕ) (before after : State) (loads : List Load) (number x : ℕ) → 0 < fields → IsKept before → length words ≡ length before.slots * fields → AreLoadsOf fields words loads → PreparedTo fields before None after loads → seen before number loads x ≡ sum_at (leading_inside fields before number x) words
all_seen fields words before after loads number x some k long still p =
    let f : ℕ → ℕ = λ q. leading_inside fields before number x q (get_or words q 0) in
    let ns : List ℕ = concat before.sets in
    seen_at_places fields words before number x loads still
    ∙ ap (sum_by f) (sym (append-nil (map (place_loaded fields) loads)) ∙ p.places)
    ∙ sum_of_slots f fields ns words (length before.slots) some long (λ n h. in_range_once (length before.slots) ns n (members_once k) h)
    ∙ sum_at_same-from_get_or (λ q (word : ℕ). times (q / fields) ns * f q) (leading_inside fields before number x) words 0 (λ q l. once q (is_in number (slot_at before (q / fields)).set) refl)
  where
    once : (q : ℕ) (b : Bool) → is_in number (slot_at before (q / fields)).set ≡ b → times (q / fields) (concat before.sets) * leading_inside fields before number x q (get_or words q 0) ≡ leading_inside fields before number x q (get_or words q 0)
    once q true e = rw (times_members before number (q / fields) k e) (omega arith)
    once q false e = rw e (omega arith)

-- After a preparation at rest the cyclic count of a member is the number of fields outside its set that lead to it, where its true
-- count is the number of all fields that do.
pub prepared_at_rest : (fields : ℕ) (words : List ℕ) (before after : State) (loads : List Load) → 0 < fields → IsKept before → length words ≡ length before.slots * fields → AreLoadsOf fields words loads → PreparedTo fields before None after loads →
    (number x : ℕ) → (slot_at before x).set ≡ Some number → (slot_at before x).count ≡ heap_sum words x → (slot_at after x).cyclic ≡ outside_sum words fields before number x
prepared_at_rest fields words before after loads some k long still p number x is counted =
    omega (arith, p.members number x (set_there before number x k is) is, all_seen fields words before after loads number x some k long still p, in_or_out fields words before number x, counted)

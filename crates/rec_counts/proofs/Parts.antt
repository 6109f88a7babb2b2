-- The parts of a list that begin at rising places.
use Rattle.std.proofs.Common.{◌≡◌, ℕ, suc, zero, ◌+◌, ◌-◌, ◌<◌, ◌≤◌, List, [], ◌∷◌, ◌++◌, length, take, drop, get_or, refl, arith, sym, ◌∙◌, ap}
use Rattle.std.proofs.lemmas.List.{drop-take, take-take, take_rest, length-drop, length-take-le, drop-append-le, take-append-le, take-append-drop, drop-drop, drop_all}
use Rattle.std.specs.List.{concat}
use Rattle.rec_counts.specs.Groups.{parts_at, IsRising, with_member, earlier_sets}

pub length-parts : (ss ms : List ℕ) → length (parts_at ss ms) ≡ length ss
length-parts [] ms = refl
length-parts (s ∷ ss) ms = omega (arith, length-parts ss ms)

-- the first place lies within the list
rising_first : (ss : List ℕ) (n : ℕ) → IsRising ss n → get_or ss 0 n ≤ n
rising_first [] n h = omega arith
rising_first (s ∷ ss) n h = omega (arith, h.0, rising_first ss n h.1)

-- so does each
pub rising_at : (ss : List ℕ) (n i : ℕ) → IsRising ss n → (get_or ss i n ≤ get_or ss (suc i) n) × (get_or ss (suc i) n ≤ n)
rising_at [] n i h = (omega arith, omega arith)
rising_at (s ∷ ss) n zero h = (h.0, rising_first ss n h.1)
rising_at (s ∷ ss) n (suc i) h = rising_at ss n i h.1

-- which part it is
pub parts-at : (ss ms : List ℕ) (i : ℕ) → i < length ss → get_or (parts_at ss ms) i [] ≡ take (get_or ss (suc i) (length ms) - get_or ss i (length ms)) (drop (get_or ss i (length ms)) ms)
parts-at [] ms i h = absurd (omega arith)
parts-at (s ∷ ss) ms zero h = refl
parts-at (s ∷ ss) ms (suc i) h = parts-at ss ms i (omega arith)

first_push : (ss : List ℕ) (n : ℕ) → get_or (ss ++ n ∷ []) 0 n ≡ get_or ss 0 n
first_push [] n = refl
first_push (s ∷ ss) n = refl

-- one part more, with nothing in it yet
pub parts_begin : (ss ms : List ℕ) → parts_at (ss ++ length ms ∷ []) ms ≡ parts_at ss ms ++ [] ∷ []
parts_begin [] ms = let e : length ms - length ms ≡ 0 = omega arith in rw e refl
parts_begin (s ∷ ss) ms = rw (first_push ss (length ms), parts_begin ss ms) refl

pub rising_begin : (ss : List ℕ) (n : ℕ) → IsRising ss n → IsRising (ss ++ n ∷ []) n
rising_begin [] n h = (omega arith, tt)
rising_begin (s ∷ ss) n h = (omega (arith, h.0, first_push ss n), rising_begin ss n h.1)

pub first_begin : (ss : List ℕ) (n : ℕ) → get_or ss 0 n ≡ 0 → get_or (ss ++ n ∷ []) 0 n ≡ 0
first_begin ss n h = first_push ss n ∙ h

-- a longer list has the same places
pub rising_longer : (ss : List ℕ) (n m : ℕ) → n ≤ m → IsRising ss n → IsRising ss m
rising_longer [] n m l h = tt
rising_longer (s ∷ []) n m l h = (omega (arith, h.0), tt)
rising_longer (s ∷ t ∷ ss) n m l h = (h.0, rising_longer (t ∷ ss) n m l h.1)

pub first_longer : (ss : List ℕ) (n m : ℕ) → 0 < length ss → get_or ss 0 n ≡ 0 → get_or ss 0 m ≡ 0
first_longer [] n m l h = absurd (omega arith)
first_longer (s ∷ ss) n m l h = h

with_member_more : (p q : List ℕ) (ps : List (List ℕ)) (x : ℕ) → with_member (p ∷ q ∷ ps) x ≡ p ∷ with_member (q ∷ ps) x
with_member_more p q ps x =
    let e : length (p ∷ q ∷ ps) - 1 ≡ suc (length (q ∷ ps) - 1) = omega arith in
    rw e refl

inner_longer : (ms : List ℕ) (s t x : ℕ) → s ≤ t → t ≤ length ms → take (t - s) (drop s (ms ++ x ∷ [])) ≡ take (t - s) (drop s ms)
inner_longer ms s t x l r =
    let n : t - s ≤ length (drop s ms) = omega (arith, length-drop s ms) in
    rw (drop-append-le s ms (x ∷ []) (omega arith)) (take-append-le (t - s) (drop s ms) (x ∷ []) n)

-- one more at the end stands in the last part
pub parts_join : (ss ms : List ℕ) (x : ℕ) → 0 < length ss → IsRising ss (length ms) → parts_at ss (ms ++ x ∷ []) ≡ with_member (parts_at ss ms) x
parts_join [] ms x l h = absurd (omega arith)
parts_join (s ∷ []) ms x l h =
    let e : take (length (ms ++ x ∷ []) - s) (drop s (ms ++ x ∷ [])) ≡ take (length ms - s) (drop s ms) ++ x ∷ [] =
    take_rest (ms ++ x ∷ []) s ∙ drop-append-le s ms (x ∷ []) h.0 ∙ ap (λ p. p ++ x ∷ []) (sym (take_rest ms s)) in
    ap (λ p. p ∷ []) e
parts_join (s ∷ t ∷ ss) ms x l h =
    let i : parts_at (t ∷ ss) (ms ++ x ∷ []) ≡ with_member (parts_at (t ∷ ss) ms) x = parts_join (t ∷ ss) ms x (omega arith) h.1 in
    let e : take (t - s) (drop s (ms ++ x ∷ [])) ≡ take (t - s) (drop s ms) = inner_longer ms s t x h.0 (rising_first (t ∷ ss) (length ms) h.1) in
    ap (λ p. p ∷ parts_at (t ∷ ss) (ms ++ x ∷ [])) e ∙ ap (λ q. take (t - s) (drop s ms) ∷ q) i ∙ sym (with_member_more (take (t - s) (drop s ms)) _ (parts_at ss ms) x)

-- the last part begins within the list
pub last_within : (ss : List ℕ) (n : ℕ) → 0 < length ss → IsRising ss n → get_or ss (length ss - 1) 0 ≤ n
last_within [] n l h = absurd (omega arith)
last_within (s ∷ []) n l h = h.0
last_within (s ∷ t ∷ ss) n l h =
    let e : length (s ∷ t ∷ ss) - 1 ≡ suc (length (t ∷ ss) - 1) = omega arith in
    rw e (last_within (t ∷ ss) n (omega arith) h.1)

first_front : (t : ℕ) (ss : List ℕ) → get_or (take (length (t ∷ ss) - 1) (t ∷ ss)) 0 (get_or (t ∷ ss) (length (t ∷ ss) - 1) 0) ≡ t
first_front t [] = refl
first_front t (s ∷ ss) =
    let e : length (t ∷ s ∷ ss) - 1 ≡ suc (length (s ∷ ss) - 1) = omega arith in
    rw e refl

first_below_last : (t : ℕ) (ss : List ℕ) (n : ℕ) → IsRising (t ∷ ss) n → t ≤ get_or (t ∷ ss) (length (t ∷ ss) - 1) 0
first_below_last t [] n h = omega arith
first_below_last t (s ∷ ss) n h =
    let e : length (t ∷ s ∷ ss) - 1 ≡ suc (length (s ∷ ss) - 1) = omega arith in
    rw e (omega (arith, h.0, first_below_last s ss n h.1))

-- the places before the last rise to it
pub rising_front : (ss : List ℕ) (n : ℕ) → 0 < length ss → IsRising ss n → IsRising (take (length ss - 1) ss) (get_or ss (length ss - 1) 0)
rising_front [] n l h = absurd (omega arith)
rising_front (s ∷ []) n l h = tt
rising_front (s ∷ t ∷ ss) n l h =
    let e : length (s ∷ t ∷ ss) - 1 ≡ suc (length (t ∷ ss) - 1) = omega arith in
    rw e (omega (arith, h.0, first_front t ss), rising_front (t ∷ ss) n (omega arith) h.1)

pub first_of_front : (ss : List ℕ) (n : ℕ) → 0 < length ss → get_or ss 0 n ≡ 0 → get_or (take (length ss - 1) ss) 0 (get_or ss (length ss - 1) 0) ≡ 0
first_of_front [] n l h = absurd (omega arith)
first_of_front (s ∷ ss) n l h = first_front s ss ∙ h

inner_shorter : (ms : List ℕ) (s t e : ℕ) → s ≤ t → t ≤ e → take (t - s) (drop s (take e ms)) ≡ take (t - s) (drop s ms)
inner_shorter ms s t e l r =
    let q : e ≡ s + (e - s) = omega arith in
    let d : drop s (take e ms) ≡ take (e - s) (drop s ms) = ap (λ k. drop s (take k ms)) q ∙ drop-take s (e - s) ms in
    rw d (take-take (t - s) (e - s) (drop s ms) (omega arith))

-- without the last part, and what stands in it
pub parts_drop : (ss ms : List ℕ) → 0 < length ss → IsRising ss (length ms) → parts_at (take (length ss - 1) ss) (take (get_or ss (length ss - 1) 0) ms) ≡ earlier_sets (parts_at ss ms)
parts_drop [] ms l h = absurd (omega arith)
parts_drop (s ∷ []) ms l h = refl
parts_drop (s ∷ t ∷ ss) ms l h =
    let k : length (s ∷ t ∷ ss) - 1 ≡ suc (length (t ∷ ss) - 1) = omega arith in
    let k' : length (parts_at (s ∷ t ∷ ss) ms) - 1 ≡ suc (length (parts_at (t ∷ ss) ms) - 1) = omega arith in
    let e : ℕ = get_or (t ∷ ss) (length (t ∷ ss) - 1) 0 in
    let i : parts_at (take (length (t ∷ ss) - 1) (t ∷ ss)) (take e ms) ≡ earlier_sets (parts_at (t ∷ ss) ms) = parts_drop (t ∷ ss) ms (omega arith) h.1 in
    let within : e ≤ length ms = last_within (t ∷ ss) (length ms) (omega arith) h.1 in
    let long : length (take e ms) ≡ e = length-take-le e ms within in
    let first : get_or (take (length (t ∷ ss) - 1) (t ∷ ss)) 0 (length (take e ms)) ≡ t = rw long (first_front t ss) in
    let inner : take (t - s) (drop s (take e ms)) ≡ take (t - s) (drop s ms) = inner_shorter ms s t e h.0 (first_below_last t ss (length ms) h.1) in
    rw (k, k', first, inner, i) refl

-- all parts together
pub concat-parts : (ss ms : List ℕ) → IsRising ss (length ms) → concat (parts_at ss ms) ≡ drop (get_or ss 0 (length ms)) ms
concat-parts [] ms h = sym (drop_all (length ms) ms (omega arith))
concat-parts (s ∷ ss) ms h =
    let t : ℕ = get_or ss 0 (length ms) in
    let d : drop t ms ≡ drop (t - s) (drop s ms) = sym (drop-drop (t - s) s ms ∙ ap (λ k. drop k ms) (omega (arith, h.0))) in
    rw (concat-parts ss ms h.1, d) (take-append-drop (t - s) (drop s ms))

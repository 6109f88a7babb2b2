-- How often a trial loads each field, and the lists that it works off, as functions, in any phase.
use Rattle.std.proofs.Common.{◌≡◌, ℕ, zero, suc, ◌+◌, ◌*◌, ◌<◌, ◌≤◌, Bool, true, false, eqb, ltb, List, [], ◌∷◌, length, take, get_or, refl, sym, ◌∙◌, ap, arith, cond, inl, inr}
use Rattle.std.proofs.lemmas.List.{length-take-le}
use Rattle.std.proofs.Math.Nat.{mul-le-mul_left}
use Rattle.std.proofs.lemmas.Bool.{cases_lt, lt-ltb}
use Rattle.std.proofs.lemmas.Bool.Decides.{nat_tests}
use Rattle.rec_trial.proofs.Common.{one, Colour, is_black, is_gray, is_green, is_orange, is_white, Phase, Idle, Marking, Scanning, Collecting}
use native.Mathlib.Decide.{dec_lt}
use Rattle.rec_counts.proofs.Times.{length-once}
use Rattle.rec_trial.proofs.Totals.{total, total_of_first, total_below, same, times, occurs, first_more, first_whole, first_le}
use Rattle.rec_trial.proofs.Deletion.{Seen, Deletion, Loads}
use Rattle.rec_trial.proofs.Holding.{Placed, loaded, SameOf, WhileCollecting, Finished, inv_at}
use Rattle.rec_trial.proofs.Places.{placed_begin}

below_guarded : (b : Bool) (g k : ℕ) → total_below (λ j. cond b (same g j) 0) k ≡ cond b (one (ltb g k)) 0
below_guarded b g zero = grind (arith, nat_tests)
below_guarded b g (suc k) = last b g k (total_below (λ j. cond b (same g j) 0) k) (below_guarded b g k)
  where
    last : (b : Bool) (g k u : ℕ) → u ≡ cond b (one (ltb g k)) 0 → u + cond b (same g k) 0 ≡ cond b (one (ltb g (suc k))) 0
    last b g k u r = grind (arith, nat_tests)

all_guarded : (n g fields : ℕ) (xs : List ℕ) → total (λ m. total_below (λ j. cond (eqb n m) (same g j) 0) fields) xs ≡ cond (ltb g fields) (times n xs) 0
all_guarded n g fields [] = grind arith
all_guarded n g fields (x ∷ xs) = add (times n xs) (eqb n x) (ltb g fields) (all_guarded n g fields xs) (below_guarded (eqb n x) g fields)
  where
    add : {a b : ℕ} (m : ℕ) (c d : Bool) → a ≡ cond d m 0 → b ≡ cond c (one d) 0 → b + a ≡ cond d (one c + m) 0
    add m c d p q = grind arith

module _ {fields : ℕ} {xs : List ℕ} {at field : ℕ} {ls : List Seen} (p : Placed fields xs at field ls) (n g : ℕ) where
  loads_of : loaded n g ls ≡ cond (ltb g fields) (total_of_first (same n) at xs) 0 + cond (eqb n (get_or xs at 0)) (one (ltb g field)) 0
  loads_of = omega (arith, p.swept (λ a b. cond (eqb n a) (same g b) 0), all_guarded n g fields (take at xs), below_guarded (eqb n (get_or xs at 0)) g field)

  pub once_of : times n xs ≤ 1 → loaded n g ls ≤ 1
  once_of h = elim (dec_lt at (length xs)) [
    | yes l ↦ small (total_of_first (same n) at xs) (ltb g fields) (eqb n (get_or xs at 0)) (ltb g field) loads_of (first_more (same n) at xs l) (first_le (same n) (suc at) xs) h
    | no l ↦ past (total_of_first (same n) at xs) (ltb g fields) (eqb n (get_or xs at 0)) loads_of (p.rests (omega (arith, p.inside))) (first_le (same n) at xs) h
  ]
    where
      small : {u v most : ℕ} (m : ℕ) (a b c : Bool) → v ≡ cond a m 0 + cond b (one c) 0 → u ≡ m + one b → u ≤ most → most ≤ 1 → v ≤ 1
      small m a b c h k l q = grind arith

      past : {v most : ℕ} (m : ℕ) (a b : Bool) → v ≡ cond a m 0 + cond b (one (ltb g field)) 0 → field ≡ 0 → m ≤ most → most ≤ 1 → v ≤ 1
      past m a b h z l q = grind (arith, nat_tests)

  -- a loaded place is within
  pub within_of : 0 < loaded n g ls → g < fields
  within_of h = fit (total_of_first (same n) at xs) (eqb n (get_or xs at 0)) loads_of p.below
    where
      fit : (m : ℕ) (b : Bool) → loaded n g ls ≡ cond (ltb g fields) m 0 + cond b (one (ltb g field)) 0 → field < fields → g < fields
      fit m b e l = grind (arith, nat_tests)

pub all_of : {fields : ℕ} {xs : List ℕ} {ls : List Seen} → Placed fields xs (length xs) 0 ls → (n g : ℕ) → g < fields → loaded n g ls ≡ times n xs
all_of {fields} {xs} {ls} p n g h = fit (total_of_first (same n) (length xs) xs) (eqb n (get_or xs (length xs) 0)) (loads_of p n g) ∙ first_whole (same n) xs
  where
    fit : (m : ℕ) (b : Bool) → loaded n g ls ≡ cond (ltb g fields) m 0 + cond b (one (ltb g 0)) 0 → loaded n g ls ≡ m
    fit m b e = grind (arith, nat_tests)

-- no white node is left
pub no_white_left : {o s : Deletion} {ls : Loads} → Finished o s ls → (x : ℕ) → 0 < times x s.marked → is_white (s.colour x) ≡ false
no_white_left {s = s} f x h = let all : 0 < total_of_first (same x) s.tried s.marked = rw f.all_tried (omega (arith, first_whole (same x) s.marked)) in f.tested x all

-- a list that is worked off up to some place
pub record Swept (fields : ℕ) (xs : List ℕ) (ls : List Seen) : Type 0 where
  pub at : ℕ
  pub field : ℕ
  pub place : Placed fields xs at field ls

-- in any phase: what was marked and became Black, and how far the lists are worked off
pub record Walked (o : Deletion) (fields : ℕ) (count : ℕ → ℕ) (released : ℕ → Bool) (members : List ℕ) (ls : Loads) : Type 0 where
  pub kept : SameOf o fields count released
  pub marked : List ℕ
  pub work : List ℕ
  pub once : (x : ℕ) → times x marked ≤ 1
  pub alive : (x : ℕ) → released x ≡ true → times x marked ≡ 0
  pub worked : (x : ℕ) → times x work ≤ times x marked
  pub joined : (x : ℕ) → times x members ≤ times x marked
  pub marks : Swept fields marked ls.marks
  pub blacks : Swept fields work ls.blacks
  pub finds : Swept fields members ls.finds

collected_walked : {o s : Deletion} {ls : Loads} → WhileCollecting o s ls → Walked o s.fields s.count s.released s.members ls
collected_walked {s = s} i = record {
  kept = i.kept;
  marked = s.marked;
  work = s.work;
  once = i.once;
  alive = i.alive;
  worked = λ x. omega (arith, i.parts x);
  joined = λ x. omega (arith, i.parts x);
  marks = record { at = _; field = _; place = i.marks_all };
  blacks = record { at = _; field = _; place = i.blacks_all };
  finds = record { at = _; field = _; place = i.place };
}

pub walked_at : (p : Phase) (o s : Deletion) (ls : Loads) → inv_at p o s ls → Walked o s.fields s.count s.released s.members ls
walked_at Idle o s ls i = collected_walked i.end.now
walked_at Marking o s ls i = record {
  kept = i.kept;
  marked = s.marked;
  work = [];
  once = i.once;
  alive = i.alive;
  worked = λ x. omega arith;
  joined = λ x. rw i.uncollected.nodes (omega arith);
  marks = record { at = _; field = _; place = i.place };
  blacks = record { at = _; field = _; place = placed_begin (record { nodes = refl; loads = i.unscanned.loads }) (omega (arith, i.place.below)) };
  finds = record { at = _; field = _; place = placed_begin i.uncollected (omega (arith, i.place.below)) };
}
walked_at Scanning o s ls i = record {
  kept = i.kept;
  marked = s.marked;
  work = s.work;
  once = i.once;
  alive = i.alive;
  worked = λ x. omega (arith, i.parts x);
  joined = λ x. rw i.uncollected.nodes (omega arith);
  marks = record { at = _; field = _; place = i.marks_all };
  blacks = record { at = _; field = _; place = i.place };
  finds = record { at = _; field = _; place = placed_begin i.uncollected (omega (arith, i.place.below)) };
}
walked_at Collecting o s ls i = collected_walked i

-- a list is loaded from at most as often as there are fields
count_all : (ls : List Seen) → total (λ (l : Seen). 1) ls ≡ length ls
count_all [] = refl
count_all (l ∷ ls) = omega (arith, count_all ls)

below_one : (k : ℕ) → total_below (λ g. 1) k ≡ k
below_one zero = refl
below_one (suc k) = omega (arith, below_one k)

all_ones : (fields : ℕ) (xs : List ℕ) → total (λ n. total_below (λ g. 1) fields) xs ≡ fields * length xs
all_ones fields [] = omega arith
all_ones fields (x ∷ xs) = omega (arith, below_one fields, all_ones fields xs)

loads_within : {fields : ℕ} {xs : List ℕ} {at field : ℕ} {ls : List Seen} → Placed fields xs at field ls → length ls ≤ fields * length xs
loads_within {fields} {xs} {at} {field} {ls} p =
    let many : length ls ≡ fields * at + field = omega (arith, p.swept (λ n g. 1), count_all ls, all_ones fields (take at xs), ap (λ n. fields * n) (length-take-le at xs p.inside), below_one field) in
    elim (dec_lt at (length xs)) [
      | yes l ↦ let k : suc at ≤ length xs = l in omega (arith, many, p.below, mul-le-mul_left fields k)
      | no l ↦ let e : at ≡ length xs = omega (arith, p.inside) in let z : length ls ≡ fields * length xs + field = rw e at many in omega (arith, z, p.rests e)
    ]

pub few_loads : {fields : ℕ} {xs : List ℕ} {ls : List Seen} → Swept fields xs ls → (slots : ℕ) → ((x : ℕ) → times x xs ≤ 1) → ((x : ℕ) → slots ≤ x → times x xs ≡ 0) → length ls ≤ slots * fields
few_loads {fields} {xs} k slots once below =
    let few : length xs ≤ slots = length-once slots xs (λ x. elim (cases_lt x slots) [
      | inl l ↦ let t : one (ltb x slots) ≡ 1 = ap one (lt-ltb x slots l) in omega (arith, occurs x xs, once x)
      | inr l ↦ omega (arith, occurs x xs, below x l)
    ]) in
    omega (arith, loads_within k.place, mul-le-mul_left fields few)

-- no slot becomes Green, and each that is stays so: a marked one was not, and an unmarked one keeps its colour
green_by : (m : ℕ) (old now : Colour) → (m ≡ 0 → now ≡ old) → (0 < m → (is_green old ≡ false) × (is_green now ≡ false)) → is_green now ≡ is_green old
green_by zero old now unmarked marked = ap is_green (unmarked refl)
green_by (suc m) old now unmarked marked = let b : (is_green old ≡ false) × (is_green now ≡ false) = marked (omega arith) in b.1 ∙ sym b.0

gray_or_black : (c : Colour) → 0 < one (is_gray c) + one (is_white c) + one (is_black c) + one (is_orange c) → is_green c ≡ false
gray_or_black c h = grind arith

greens_collected : {o s : Deletion} {ls : Loads} → WhileCollecting o s ls → (x : ℕ) → is_green (s.colour x) ≡ is_green (o.colour x)
greens_collected {o} {s} i x =
    green_by (times x s.marked) (o.colour x) (s.colour x) (i.colours_old x)
    (λ h. (i.no_green x h, gray_or_black (s.colour x) (omega (arith, h, i.parts x, i.worked x, i.oranges x))))

pub greens_at : (p : Phase) (o s : Deletion) (ls : Loads) → inv_at p o s ls → (x : ℕ) → is_green (s.colour x) ≡ is_green (o.colour x)
greens_at Idle o s ls i x = greens_collected i.end.now x
greens_at Marking o s ls i x =
    green_by (times x s.marked) (o.colour x) (s.colour x) (i.colours_old x) (λ h. (i.no_green x h, gray_or_black (s.colour x) (omega (arith, h, i.grays x))))
greens_at Scanning o s ls i x =
    green_by (times x s.marked) (o.colour x) (s.colour x) (i.colours_old x) (λ h. (i.no_green x h, gray_or_black (s.colour x) (omega (arith, h, i.parts x, i.worked x))))
greens_at Collecting o s ls i x = greens_collected i x

-- The words of references from before all epochs.
use Rattle.std.proofs.Common.{◌≡◌, ℕ, zero, suc, ◌+◌, ◌^◌, ◌<◌, ◌≤◌, if◌then◌else◌, Bool, true, false, Option, None, Some, List, [], ◌∷◌, ◌++◌, All, count_by, length, map, take, drop, replicate, refl, sym, ap, ◌∙◌, arith, lit<}
use Rattle.std.specs.Option.{option_map}
use Rattle.std.proofs.lemmas.List.Elements.{All-head, All-tail}
use Rattle.std.proofs.lemmas.List.Folds.{sum_by-replicate}
use Rattle.std.proofs.lemmas.List.Sums.{sum_by-cons}
use Rattle.std.proofs.Math.Nat.{div-eq_of_lt}
use Rattle.rec_word.proofs.Bare.{packed_small}
use Rattle.rec_word.proofs.Packing.{target_of-packed}
use Rattle.rec_word.specs.Word.{packed, IsStamp}
use Rattle.rec_model.specs.Accounted.{late}
use Rattle.rec_model.specs.Heap.{Field}
use Rattle.rec_model.proofs.Ledgers.{epoch_of_null, node_of_null}
use Rattle.rec_core.proofs.Common.{IsTarget, epoch_of, field_of, is_slot, names, node_of, none_if_differs, none_if_not_lt, one, sum_at, sum_at-replicate_none, target_of}
use Rattle.rec_core.proofs.Batches.{same_word}
use Rattle.rec_core.specs.Objects.{early_fields, early_stamp, early_word, early_words}

-- its parts are within their ranges
pub early_is : (p : ℕ) → p < 2 ^ 42 → IsStamp (early_stamp p)
early_is p small = record { writer = lit< tt; epoch = omega (arith, small); index = omega arith }

-- such a word leads where it is to lead,
early_target : (p : ℕ) (x : Option ℕ) → p < 2 ^ 42 → IsTarget x → target_of (early_word p x) ≡ x
early_target p None small is = refl
early_target p (Some slot) small is = target_of-packed (Some slot) (early_stamp p) is (early_is p small)

-- and was put before all epochs
pub early_epoch : (p : ℕ) (x : Option ℕ) → p < 2 ^ 42 → IsTarget x → epoch_of (early_word p x) ≡ 0
unfolding epoch_of
early_epoch p None small is = refl
early_epoch p (Some slot) small is = let few : packed (Some slot) (early_stamp p) < 2 ^ 64 = packed_small (Some slot) (early_stamp p) is (early_is p small) in div-eq_of_lt few

-- as many as there are
pub length-early : (p : ℕ) (xs : List (Option ℕ)) → length (early_words p xs) ≡ length xs
length-early p [] = refl
length-early p (x ∷ xs) = ap suc (length-early (p + 1) xs)

-- where they lead
pub early_targets : (p : ℕ) (xs : List (Option ℕ)) → p + length xs ≤ 2 ^ 42 → All IsTarget xs → map target_of (early_words p xs) ≡ xs
early_targets p [] few all = refl
early_targets p (x ∷ xs) few all =
    let first : target_of (early_word p x) ≡ x = early_target p x (omega arith) (All-head IsTarget x xs all) in
    let rest : map target_of (early_words (p + 1) xs) ≡ xs = early_targets (p + 1) xs (omega arith) (All-tail IsTarget x xs all) in
    (λ i. first i ∷ rest i)

-- their parts
pub drop-early : (n p : ℕ) (xs : List (Option ℕ)) → drop n (early_words p xs) ≡ early_words (p + n) (drop n xs)
drop-early zero p xs = let same : p ≡ p + 0 = omega arith in ap (λ q. early_words q xs) same
drop-early (suc n) p [] = refl
drop-early (suc n) p (x ∷ xs) = let same : p + 1 + n ≡ p + suc n = omega arith in drop-early n (p + 1) xs ∙ ap (λ q. early_words q (drop n xs)) same

pub take-early : (n p : ℕ) (xs : List (Option ℕ)) → take n (early_words p xs) ≡ early_words p (take n xs)
take-early zero p xs = refl
take-early (suc n) p [] = refl
take-early (suc n) p (x ∷ xs) = ap (λ ws. early_word p x ∷ ws) (take-early n (p + 1) xs)

-- null ones
pub early-nulls : (p n : ℕ) → early_words p (replicate n None) ≡ replicate n 0
early-nulls p zero = refl
early-nulls p (suc n) = ap (λ (ws : List ℕ). 0 ∷ ws) (early-nulls (p + 1) n)

-- the fields that they make
option_same : (x : Option ℕ) → option_map (λ n. n) x ≡ x
option_same None = refl
option_same (Some n) = refl

pub early_are : (p : ℕ) (xs : List (Option ℕ)) → p + length xs ≤ 2 ^ 42 → All IsTarget xs → early_fields p xs ≡ map (field_of (λ n. n)) (early_words p xs)
early_are p [] few all = refl
early_are p (x ∷ xs) few all =
    let leads : x ≡ option_map (λ n. n) (target_of (early_word p x)) = sym (ap (option_map (λ n. n)) (early_target p x (omega arith) (All-head IsTarget x xs all)) ∙ option_same x) in
    let field : Option ℕ → Field = λ t. record { target = t; word = early_word p x } in
    let first : field x ≡ field (option_map (λ n. n) (target_of (early_word p x))) = ap field leads in
    let rest : early_fields (p + 1) xs ≡ map (field_of (λ n. n)) (early_words (p + 1) xs) = early_are (p + 1) xs (omega arith) (All-tail IsTarget x xs all) in
    (λ i. first i ∷ rest i)

-- None was put late.
pub early_none_late : (epoch : ℕ) (weight : ℕ → ℕ → ℕ) (p : ℕ) (xs : List (Option ℕ)) (m : ℕ) → p + length xs ≤ 2 ^ 42 → All IsTarget xs → sum_at (late epoch weight) (early_words p xs ++ replicate m 0) ≡ 0
early_none_late epoch weight p [] m few all = sum_at-replicate_none (late epoch weight) m 0 (λ i. none_if_not_lt epoch (epoch_of 0) (weight i 0) (omega (arith, epoch_of_null)))
early_none_late epoch weight p (x ∷ xs) m few all =
    let was : epoch_of (early_word p x) ≡ 0 = early_epoch p x (omega arith) (All-head IsTarget x xs all) in
    let first : late epoch weight 0 (early_word p x) ≡ 0 = none_if_not_lt epoch (epoch_of (early_word p x)) (weight 0 (early_word p x)) (omega (arith, was)) in
    let rest : sum_at (λ i. late epoch weight (suc i)) (early_words (p + 1) xs ++ replicate m 0) ≡ 0 = early_none_late epoch (λ i. weight (suc i)) (p + 1) xs m (omega arith) (All-tail IsTarget x xs all) in
    omega (arith, first, rest)

-- How often they name a node: as often as what they were made of leads to its slot.
pub one_is : (b : Bool) → one b ≡ (if b then 1 else 0)
one_is true = refl
one_is false = refl

-- 1 where it leads to the slot
abbrev pub one_if_slot : (x : ℕ) → Option ℕ → ℕ
one_if_slot x t = if is_slot x t then 1 else 0

pub early_names : (x p : ℕ) (xs : List (Option ℕ)) (m : ℕ) → p + length xs ≤ 2 ^ 42 → All IsTarget xs → sum_at (names (x + 1)) (early_words p xs ++ replicate m 0) ≡ count_by (is_slot x) xs
early_names x p [] m few all = sum_at-replicate_none (names (x + 1)) m 0 (λ i. none_if_differs (x + 1) (node_of 0) (λ e. omega (arith, e, node_of_null)))
early_names x p (y ∷ ys) m few all =
    let leads : target_of (early_word p y) ≡ y = early_target p y (omega arith) (All-head IsTarget y ys all) in
    let first : names (x + 1) 0 (early_word p y) ≡ one_if_slot x y = same_word x (early_word p y) ∙ ap (λ t. one (is_slot x t)) leads ∙ one_is (is_slot x y) in
    let rest : sum_at (names (x + 1)) (early_words (p + 1) ys ++ replicate m 0) ≡ count_by (is_slot x) ys = early_names x (p + 1) ys m (omega arith) (All-tail IsTarget y ys all) in
    omega (arith, first, rest, sum_by-cons (one_if_slot x) y ys)

pub early_holding : (x p : ℕ) (xs : List (Option ℕ)) (m : ℕ) → p + length xs ≤ 2 ^ 42 → All IsTarget xs → count_by (λ word. is_slot x (target_of word)) (early_words p xs ++ replicate m 0) ≡ count_by (is_slot x) xs
early_holding x p [] m few all = sum_by-replicate (λ word. one_if_slot x (target_of word)) m 0 ∙ omega arith
early_holding x p (y ∷ ys) m few all =
    let leads : target_of (early_word p y) ≡ y = early_target p y (omega arith) (All-head IsTarget y ys all) in
    let first : one_if_slot x (target_of (early_word p y)) ≡ one_if_slot x y = ap (one_if_slot x) leads in
    omega (
      arith,
      first,
      early_holding x (p + 1) ys m (omega arith) (All-tail IsTarget y ys all),
      sum_by-cons (λ word. one_if_slot x (target_of word)) (early_word p y) (early_words (p + 1) ys ++ replicate m 0),
      sum_by-cons (one_if_slot x) y ys,
    )

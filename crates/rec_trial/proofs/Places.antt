-- A list worked off place by place.
use Rattle.std.proofs.Common.{◌≡◌, ℕ, suc, ◌+◌, ◌<◌, ◌≤◌, Bool, true, false, ltb, List, ◌∷◌, ◌++◌, length, get_or, refl, arith, length-append}
use Rattle.std.proofs.Math.ListN.{get_or-append}
use Rattle.std.proofs.lemmas.Bool.Decides.{nat_tests}
use native.Mathlib.Decide.{dec_lt}
use Rattle.rec_trial.proofs.Deletion.{Seen, next_at, next_field}
use Rattle.rec_trial.proofs.Holding.{Placed, NotBegun}
use Rattle.rec_trial.proofs.Totals.{total_below, first_grown, first_more}

pub ltb_yes : (a b : ℕ) → ltb a b ≡ true → a < b
ltb_yes a b h = grind (arith, nat_tests)

pub ltb_no : (a b : ℕ) → ltb a b ≡ false → b ≤ a
ltb_no a b h = grind (arith, nat_tests)

pub placed_step : {fields : ℕ} {xs : List ℕ} {at field : ℕ} {ls : List Seen} → Placed fields xs at field ls → at < length xs → (w : ℕ) (b : Bool) → ltb (suc field) fields ≡ b → Placed fields xs (next_at b at) (next_field b field) (record { node = get_or xs at 0; field = field; word = w } ∷ ls)
placed_step {fields} {xs} {at} {field} {ls} p h w true e = record {
  swept = λ φ. omega (arith, p.swept φ);
  inside = p.inside;
  below = ltb_yes (suc field) fields e;
  rests = λ q. absurd (omega arith);
}
placed_step {fields} {xs} {at} {field} {ls} p h w false e = record {
  swept = λ φ. let full : fields ≡ suc field = omega (arith, p.below, ltb_no (suc field) fields e) in omega (arith, p.swept φ, first_more (λ n. total_below (φ n) fields) at xs h, last φ full);
  inside = h;
  below = omega (arith, p.below);
  rests = λ q. refl;
}
  where
    last : (φ : ℕ → ℕ → ℕ) → fields ≡ suc field → total_below (φ (get_or xs at 0)) fields ≡ total_below (φ (get_or xs at 0)) field + φ (get_or xs at 0) field
    last φ full = rw full refl

pub placed_grow : {fields : ℕ} {xs : List ℕ} {at field : ℕ} {ls : List Seen} → Placed fields xs at field ls → (ys : List ℕ) → Placed fields (xs ++ ys) at field ls
placed_grow {fields} {xs} {at} {field} {ls} p ys = record {
  swept = λ φ. omega (arith, p.swept φ, first_grown (λ n. total_below (φ n) fields) at xs ys p.inside, current φ);
  inside = omega (arith, p.inside, length-append xs ys);
  below = p.below;
  rests = λ q. p.rests (omega (arith, p.inside, length-append xs ys));
}
  where
    current : (φ : ℕ → ℕ → ℕ) → total_below (φ (get_or (xs ++ ys) at 0)) field ≡ total_below (φ (get_or xs at 0)) field
    current φ = elim (dec_lt at (length xs)) [ yes h ↦ rw (get_or-append xs ys 0 at h) refl | no h ↦ let z : field ≡ 0 = p.rests (omega (arith, p.inside)) in rw z refl ]

-- worked off to its end
pub placed_all : {fields : ℕ} {xs : List ℕ} {at field : ℕ} {ls : List Seen} → Placed fields xs at field ls → length xs ≤ at → Placed fields xs (length xs) 0 ls
placed_all {fields} {xs} {at} {field} p l =
    let a : at ≡ length xs = omega (arith, p.inside, l) in
    let f : field ≡ 0 = p.rests a in
    rw a at (rw f at p)

-- not worked off yet
pub placed_begin : {fields : ℕ} {xs : List ℕ} {ls : List Seen} → NotBegun xs ls → 0 < fields → Placed fields xs 0 0 ls
placed_begin n h = rw n.loads (record { swept = λ φ. refl; inside = omega arith; below = h; rests = λ q. refl })

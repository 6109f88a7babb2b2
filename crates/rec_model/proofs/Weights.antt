-- A weight behind a test on numbers.
use Rattle.std.proofs.Common.{◌≡◌, ℕ, ◌+◌, ◌<◌, ◌≤◌, ◌≢◌, ◌⊎◌, Bool, true, false, eqb, ltb, leb, refl, arith}
use Rattle.std.proofs.lemmas.Bool.Decides.{nat_tests}
use Rattle.rec_model.proofs.Common.{only_if, one_if_same, with_answer}

pub only_if-le : (b : Bool) (n : ℕ) → only_if b n ≤ n
only_if-le b n = grind arith

pub only_if_lt : (a m n : ℕ) → a < m → only_if (ltb a m) n ≡ n
only_if_lt a m n h = grind (arith, nat_tests)

pub only_if_le : (a m n : ℕ) → a ≤ m → only_if (leb a m) n ≡ n
only_if_le a m n h = grind (arith, nat_tests)

pub only_if_self : (a n : ℕ) → only_if (eqb a a) n ≡ n
only_if_self a n = grind (arith, nat_tests)

pub none_if_not_lt : (a m n : ℕ) → m ≤ a → only_if (ltb a m) n ≡ 0
none_if_not_lt a m n h = grind (arith, nat_tests)

pub none_if_other : (a m n : ℕ) → a ≢ m → only_if (eqb a m) n ≡ 0
none_if_other a m n h = grind (arith, nat_tests)

pub lt_from_only_if : (a m n : ℕ) → 0 < only_if (ltb a m) n → a < m
lt_from_only_if a m n h = grind (arith, nat_tests)

pub not_lt_from_none : (a m : ℕ) → only_if (ltb a m) 1 ≡ 0 → m ≤ a
not_lt_from_none a m h = grind (arith, nat_tests)

pub one_if_self : (x : ℕ) → one_if_same x x ≡ 1
one_if_self x = grind (arith, nat_tests)

pub none_if_differs : (x y : ℕ) → x ≢ y → one_if_same x y ≡ 0
none_if_differs x y h = grind (arith, nat_tests)

-- which of three is meant
pub one_of_three : (x a b c : ℕ) → 0 < one_if_same x a + one_if_same x b + one_if_same x c → (x ≡ a) ⊎ ((x ≡ b) ⊎ (x ≡ c))
one_of_three x a b c h = grind (arith, nat_tests)

-- a test after its answer for one number changed
pub answered_no : (test : ℕ → Bool) (x y : ℕ) → test x ≡ true → only_if (with_answer test x false y) 1 + one_if_same y x ≡ only_if (test y) 1
answered_no test x y h = grind (arith, nat_tests)

pub answered_yes : (test : ℕ → Bool) (x y : ℕ) → test x ≡ false → only_if (with_answer test x true y) 1 ≡ only_if (test y) 1 + one_if_same y x
answered_yes test x y h = grind (arith, nat_tests)

pub no_from_none : (b : Bool) → only_if b 1 ≡ 0 → b ≡ false
no_from_none true h = absurd (omega (arith, h))
no_from_none false h = refl

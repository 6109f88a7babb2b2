-- The words that `decimal` writes are those that are read as numerals, and a text has one numeral at its front at most.
use Rattle.std.proofs.Common.{◌≡◌, ℕ, zero, suc, ◌+◌, ◌-◌, ◌*◌, ◌^◌, ◌<◌, ◌≤◌, true, false, List, [], ◌∷◌, ◌++◌, length, get_or, take, drop, refl, sym, ap, subst, ◌∙◌, arith, ⊎_elim, length-append, length-drop}
use Rattle.std.specs.Fmt.{decimal}
use Rattle.std.specs.Int.{IsInRange}
use Rattle.std.specs.Char.{is_ascii_digit}
use Rattle.std.proofs.lemmas.Bool.{cases_lt}
use Rattle.std.proofs.lemmas.Bool.Decides.{nat_tests}
use Rattle.std.specs.Str.Parse.{digits_value}
use Rattle.std.proofs.lemmas.Str.{digit_value_digit}
use Rattle.std.proofs.lemmas.Str.Parse.{IsNumeralModel, numerals_by_value, tells_by_index, digits_value-take-le}
use Rattle.std.proofs.lemmas.Int.Digits.{digits_value_more}
use Rattle.std.proofs.lemmas.Fmt.{decimal_digit, decimal_nonempty, first_decimal, digits_decimal, digits_value-decimal, decimal-digits_value, decimal_injective}
use Rattle.std.proofs.lemmas.List.{get_or-take, get_or_past, length-take-le, take_all, take_at, take-append-drop, take-append-le, drop_at, drop_more, get_or_append_left, get_or-append-add}
use Rattle.rec_io.specs.Text.{EndsNumeral}

-- ---- digits

-- each byte is a digit
abbrev pub AreDigits : List ℕ → Type 0
AreDigits ds = (i : ℕ) → i < length ds → IsInRange 48 57 (get_or ds i 0)

own : IsNumeralModel AreDigits (digits_value 10)
own = numerals_by_value AreDigits tells_by_index

-- the bytes of a numeral
pub digits_of : (n : ℕ) → n < 2 ^ 64 → AreDigits (decimal n)
digits_of n fits = digits_decimal own n fits

pub digit_range : (c : ℕ) → is_ascii_digit c ≡ true → IsInRange 48 57 c
digit_range c h = (low c h, high c h)
  where
    low : (c : ℕ) → is_ascii_digit c ≡ true → 48 ≤ c
    low c h = grind (arith, nat_tests)

    high : (c : ℕ) → is_ascii_digit c ≡ true → c ≤ 57
    high c h = grind (arith, nat_tests)

digit_test : (c : ℕ) → 48 ≤ c → c ≤ 57 → is_ascii_digit c ≡ true
digit_test c low high = grind (arith, nat_tests)

no_digit : (c : ℕ) → is_ascii_digit c ≡ false → IsInRange 48 57 c → ⊥
no_digit c other digit = let is : is_ascii_digit c ≡ true = digit_test c digit.0 digit.1 in cc

-- a byte below the digits ends a numeral
pub byte_ends : (b : ℕ) (t : List ℕ) → b < 48 → EndsNumeral (b ∷ t)
byte_ends b t small = grind (arith, nat_tests)

-- the number of the digits so far, and of one more
pub one_more : (bytes : List ℕ) (i value byte : ℕ) → i < length bytes → value ≡ digits_value 10 (take i bytes) → byte ≡ get_or bytes i 0
    → IsInRange 48 57 byte → 10 * value + (byte - 48) ≡ digits_value 10 (take (i + 1) bytes)
one_more bytes i value byte within is at digit =
    let range : IsInRange 48 57 (get_or bytes i 0) = subst (IsInRange 48 57) at digit in
    omega (arith, digits_value_more 10 bytes i within, digit_value_digit (get_or bytes i 0) range, range.0)

-- ---- a numeral at the front

-- digits don't reach past a numeral
beyond : (bytes : List ℕ) (n : ℕ) (t : List ℕ) (i : ℕ) → EndsNumeral t → bytes ≡ decimal n ++ t
    → ((k : ℕ) → k < i → IsInRange 48 57 (get_or bytes k 0)) → i ≤ length (decimal n)
beyond bytes n t i ends e digits =
    ⊎_elim (λ lt. absurd (no_digit (get_or t 0 0) ends (subst (IsInRange 48 57) (at lt) (digits (length (decimal n)) lt))))
    (λ past. past) (cases_lt (length (decimal n)) i)
  where
    at : length (decimal n) < i → get_or bytes (length (decimal n)) 0 ≡ get_or t 0 0
    at lt = ap (λ (bs : List ℕ). get_or bs (length (decimal n)) 0) e
        ∙ ap (λ (k : ℕ). get_or (decimal n ++ t) k 0) (let z : length (decimal n) ≡ length (decimal n) + 0 = omega arith in z)
        ∙ get_or-append-add (decimal n) t 0 0

-- nor does their number
prefix_value : (bytes : List ℕ) (n : ℕ) (t : List ℕ) (i : ℕ) → n < 2 ^ 64 → EndsNumeral t → bytes ≡ decimal n ++ t
    → ((k : ℕ) → k < i → IsInRange 48 57 (get_or bytes k 0)) → digits_value 10 (take i bytes) ≤ n
prefix_value bytes n t i fits ends e digits =
    let short : i ≤ length (decimal n) = beyond bytes n t i ends e digits in
    let same : digits_value 10 (take i bytes) ≡ digits_value 10 (take i (decimal n)) = ap (digits_value 10)
    (ap (take i) e ∙ take-append-le i (decimal n) t short) in
    omega (arith, same, digits_value-take-le 10 (decimal n) i (omega arith), digits_value-decimal own n fits)

front_digit : (bytes : List ℕ) (n : ℕ) (t : List ℕ) → n < 2 ^ 64 → bytes ≡ decimal n ++ t → get_or bytes 0 0 ≡ get_or (decimal n) 0 0
front_digit bytes n t fits e = ap (λ (bs : List ℕ). get_or bs 0 0) e ∙ get_or_append_left (decimal n) t 0 0 (decimal_nonempty n fits)

-- what is behind the first k bytes
pub tail : (bytes : List ℕ) (k : ℕ) → take (length bytes - k) (drop k bytes) ≡ drop k bytes
tail bytes k = take_all (length bytes - k) (drop k bytes) (omega (arith, length-drop k bytes))

-- digits without a leading zero are the numeral of their number
pub found_numeral : (bytes : List ℕ) (i value : ℕ) → 0 < i → i ≤ length bytes → (get_or bytes 0 0 ≡ 48 → ⊥)
    → ((k : ℕ) → k < i → IsInRange 48 57 (get_or bytes k 0)) → value ≡ digits_value 10 (take i bytes) → value < 2 ^ 64
    → bytes ≡ decimal value ++ take (length bytes - i) (drop i bytes)
found_numeral bytes i value some within front digits is small =
    let first : get_or (take i bytes) 0 0 ≡ get_or bytes 0 0 = get_or-take i bytes 0 0 some in
    let size : length (take i bytes) ≡ i = length-take-le i bytes within in
    let range : AreDigits (take i bytes) = λ k lt. subst (IsInRange 48 57) (sym (get_or-take i bytes k 0 (omega arith)))
    (digits k (omega arith)) in
    let word : decimal value ≡ take i bytes = ap decimal is ∙ decimal-digits_value own (take i bytes) range (omega arith)
    (λ e. absurd (front (sym first ∙ e))) (omega (arith, is)) in
    sym (take-append-drop i bytes) ∙ ap (λ (xs : List ℕ). xs ++ drop i bytes) (sym word)
    ∙ ap (λ (xs : List ℕ). decimal value ++ xs) (sym (tail bytes i))

-- a numeral has a digit, and begins with one
pub no_bytes : (bytes : List ℕ) → length bytes ≤ 0 → (n : ℕ) (t : List ℕ) → n < 2 ^ 64 → bytes ≡ decimal n ++ t → ⊥
no_bytes bytes none n t fits e = omega (arith, ap (length {A = ℕ}) e, length-append (decimal n) t, decimal_nonempty n fits)

pub no_first_digit : (bytes : List ℕ) → is_ascii_digit (get_or bytes 0 0) ≡ false → (n : ℕ) (t : List ℕ) → n < 2 ^ 64
    → bytes ≡ decimal n ++ t → ⊥
no_first_digit bytes other n t fits e =
    no_digit (get_or bytes 0 0) other (subst (IsInRange 48 57) (sym (front_digit bytes n t fits e)) (digits_of n fits 0 (decimal_nonempty n fits)))

-- the number of the digits at the front is the numeral's at most
pub too_large : (bytes : List ℕ) (i value byte most : ℕ) → i < length bytes → ((k : ℕ) → k < i + 1 → IsInRange 48 57 (get_or bytes k 0))
    → value ≡ digits_value 10 (take i bytes) → byte ≡ get_or bytes i 0 → most < 10 * value + (byte - 48)
    → most < 2 ^ 64 → (n : ℕ) (t : List ℕ) → n ≤ most → EndsNumeral t → bytes ≡ decimal n ++ t → ⊥
too_large bytes i value byte most within digits is at large limit n t small ends e =
    omega (
      arith,
      one_more bytes i value byte within is at (subst (IsInRange 48 57) (sym at) (digits i (omega arith))),
      prefix_value bytes n t (i + 1) (omega arith) ends e digits,
    )

pub second_byte : (bytes : List ℕ) → get_or (take (length bytes - 1) (drop 1 bytes)) 0 0 ≡ get_or bytes 1 0
second_byte bytes = ap (λ (xs : List ℕ). get_or xs 0 0) (tail bytes 1) ∙ at bytes
  where
    at : (bytes : List ℕ) → get_or (drop 1 bytes) 0 0 ≡ get_or bytes 1 0
    at [] = refl
    at (c ∷ cs) = refl

-- 0 has one digit
pub found_nought : (bytes : List ℕ) → 0 < length bytes → get_or bytes 0 0 ≡ 48 → bytes ≡ decimal 0 ++ take (length bytes - 1) (drop 1 bytes)
found_nought [] some front = absurd (omega arith)
found_nought (c ∷ cs) some front = ap (λ (b : ℕ). b ∷ cs) front ∙ ap (λ (ds : List ℕ). ds ++ cs) (sym (decimal_digit 0 (omega arith)))
    ∙ ap (λ (xs : List ℕ). decimal 0 ++ xs) (sym (tail (c ∷ cs) 1))

-- no numeral has a leading zero
no_leading_zero : (word : List ℕ) → get_or word 0 0 ≡ 48 → 1 < length word → (n : ℕ) → n < 2 ^ 64 → word ≡ decimal n → ⊥
no_leading_zero word front long zero fits is = omega (arith, ap (length {A = ℕ}) (is ∙ decimal_digit 0 (omega arith)))
no_leading_zero word front long (suc n) fits is =
    omega (arith, first_decimal (suc n) (omega arith) fits, ap (λ (t : List ℕ). get_or t 0 0) is)

pub no_nought : (bytes : List ℕ) → get_or bytes 0 0 ≡ 48 → is_ascii_digit (get_or bytes 1 0) ≡ true → (n : ℕ) (t : List ℕ) → n < 2 ^ 64
    → EndsNumeral t → bytes ≡ decimal n ++ t → ⊥
no_nought bytes front digit n t fits ends e =
    let two : 2 ≤ length (decimal n) = beyond bytes n t 2 ends e both in
    no_leading_zero (decimal n) (sym (front_digit bytes n t fits e) ∙ front) (omega arith) n fits refl
  where
    both : (k : ℕ) → k < 2 → IsInRange 48 57 (get_or bytes k 0)
    both zero lt = (omega (arith, front), omega (arith, front))
    both (suc zero) lt = digit_range (get_or bytes 1 0) digit
    both (suc (suc k)) lt = absurd (omega arith)

-- ---- a text has one

-- digits before another byte are told
digits_front : (ds es s t : List ℕ) → AreDigits ds → AreDigits es → EndsNumeral s → EndsNumeral t → ds ++ s ≡ es ++ t → (ds ≡ es) × (s ≡ t)
digits_front [] [] s t a b p q e = (refl, e)
digits_front [] (x ∷ es) s t a b p q e = absurd (no_digit (get_or s 0 0) p
    (subst (IsInRange 48 57) (sym (ap (λ (bs : List ℕ). get_or bs 0 0) e)) (b 0 (omega arith))))
digits_front (x ∷ ds) [] s t a b p q e = absurd (no_digit (get_or t 0 0) q
    (subst (IsInRange 48 57) (ap (λ (bs : List ℕ). get_or bs 0 0) e) (a 0 (omega arith))))
digits_front (x ∷ ds) (y ∷ es) s t a b p q e =
    let first : x ≡ y = cc in
    let rest : ds ++ s ≡ es ++ t = cc in
    let found : (ds ≡ es) × (s ≡ t) = digits_front ds es s t (λ i lt. a (suc i) (omega arith)) (λ i lt. b (suc i) (omega arith)) p q rest in
    (cc (first, found.0), found.1)

pub same_numeral : (m n : ℕ) (r s : List ℕ) → m < 2 ^ 64 → n < 2 ^ 64 → EndsNumeral r → EndsNumeral s → decimal m ++ r ≡ decimal n ++ s
    → (m ≡ n) × (r ≡ s)
same_numeral m n r s left right apart other e =
    let both = digits_front (decimal m) (decimal n) r s (digits_of m left) (digits_of n right) apart other e in
    (decimal_injective m n left right both.0, both.1)

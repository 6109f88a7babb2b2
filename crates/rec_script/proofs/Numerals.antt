-- A word is a numeral of one number at most.
use Rattle.std.proofs.Common.{◌≡◌, ℕ, ◌≤◌, List, [], ◌++◌, refl, sym, ◌∙◌, arith, append-nil}
use Rattle.std.specs.Fmt.{decimal}
use Rattle.std.proofs.lemmas.Fmt.{decimal_injective}
use Rattle.rec_io.specs.Text.{EndsNumeral}
use Rattle.rec_io.proofs.Numerals.{same_numeral}
use Rattle.rec_script.specs.Script.{IsNumeralOf}

pub same_number : (word : List ℕ) (m n : ℕ) → IsNumeralOf word m → IsNumeralOf word n → m ≡ n
same_number word m n a b = decimal_injective m n (omega (arith, a.0)) (omega (arith, b.0)) (sym a.1 ∙ b.1)

pub no_word : (word : List ℕ) → ((n : ℕ) (t : List ℕ) → n ≤ 4294967295 → EndsNumeral t → word ≡ decimal n ++ t → ⊥) → (n : ℕ)
    → IsNumeralOf word n → ⊥
no_word word none n is = none n [] (omega (arith, is.0)) refl (is.1 ∙ sym (append-nil (decimal n)))

-- the word goes on behind it
pub longer_word : (word rest : List ℕ) (m : ℕ) → word ≡ decimal m ++ rest → m ≤ 4294967295 → EndsNumeral rest → (rest ≡ [] → ⊥)
    → (n : ℕ) → IsNumeralOf word n → ⊥
longer_word word rest m front small ends more n is =
    let both = same_numeral m n rest [] (omega arith) (omega (arith, is.0)) ends refl (sym front ∙ is.1 ∙ sym (append-nil (decimal n))) in
    more both.1

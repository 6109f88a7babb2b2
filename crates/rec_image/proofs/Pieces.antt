-- Reading a piece at the front: where it is found, and where none is.
use Rattle.std.proofs.Common.{◌≡◌, ℕ, ◌+◌, ◌-◌, ◌^◌, ◌<◌, ◌≤◌, true, false, List, ◌∷◌, ◌++◌, Option, None, Some, eqb, length, get_or, take, drop, sym, ap, ◌∙◌, arith}
use Rattle.std.specs.Prelude.{MatchOption}
use Rattle.std.specs.Fmt.{decimal}
use Rattle.std.specs.Cmp.Lexicographic.{pointwise, same_text, other_text}
use Rattle.std.proofs.lemmas.List.{take-append-drop}
use Rattle.std.proofs.Math.Seq.{take-append_seam}
use Rattle.rec_io.specs.Text.{EndsNumeral}
use Rattle.rec_io.proofs.Numerals.{byte_ends}
use Rattle.rec_image.specs.Image.{IsOneOf, word}
use Rattle.rec_image.proofs.Prefixes.{numeral_front}

-- what follows from what a clause says of both variants
pub match_then : {X : Type 0} (r : Option X) {P S : Type 0} {Q T : X → Type 0} → MatchOption r P Q → (P → S) → ((x : X) → Q x → T x) → MatchOption r S T
match_then None h f g = f h
match_then (Some x) h f g = g x h

-- ---- a stated piece

pub found_piece : (piece bytes : List ℕ) → pointwise eqb (take (length piece) bytes) piece ≡ true → bytes ≡ piece ++ drop (length piece) bytes
found_piece piece bytes h =
    sym (take-append-drop (length piece) bytes) ∙ ap (λ (xs : List ℕ). xs ++ drop (length piece) bytes) (same_text (take (length piece) bytes) piece (sym h))

pub no_piece : (piece bytes : List ℕ) → pointwise eqb (take (length piece) bytes) piece ≡ false → (t : List ℕ) → bytes ≡ piece ++ t → ⊥
no_piece piece bytes h t e = other_text (take (length piece) bytes) piece (sym h) (ap (take (length piece)) e ∙ take-append_seam piece t)

-- ---- numbers within limits

-- the number that was found is the only one
pub only_size : (bytes rest behind : List ℕ) (most end found : ℕ) → most < 2 ^ 32 → end < 48 → (bytes ≡ decimal found ++ rest) × (found < 2 ^ 32) × EndsNumeral rest → rest ≡ end ∷ behind → (n : ℕ) (t : List ℕ) → 1 ≤ n → n ≤ most → bytes ≡ decimal n ++ end ∷ t → (n ≡ found) × (t ≡ behind)
only_size bytes rest behind most end found limit small is next n t low high e =
    let same : (n ≡ found) × (end ∷ t ≡ rest) = numeral_front n found (end ∷ t) rest (omega arith) is.1 (byte_ends end t small) is.2 (sym e ∙ is.0) in
    (same.0, let more : end ∷ t ≡ end ∷ behind = same.1 ∙ next in let last : t ≡ behind = cc in last)

pub no_size : (bytes rest : List ℕ) (most end found : ℕ) → most < 2 ^ 32 → end < 48 → (bytes ≡ decimal found ++ rest) × (found < 2 ^ 32) × EndsNumeral rest → ((t : List ℕ) → rest ≡ end ∷ t → ⊥) → (n : ℕ) (t : List ℕ) → 1 ≤ n → n ≤ most → bytes ≡ decimal n ++ end ∷ t → ⊥
no_size bytes rest most end found limit small is none n t low high e =
    let same : (n ≡ found) × (end ∷ t ≡ rest) = numeral_front n found (end ∷ t) rest (omega arith) is.1 (byte_ends end t small) is.2 (sym e ∙ is.0) in
    none t (sym same.1)

-- ---- what a field leads to

-- the number that was found, behind ` #`
pub only_number : (slots : ℕ) (bytes rest : List ℕ) (found : ℕ) → slots ≤ 65535 → (bytes ≡ decimal found ++ rest) × (found < 2 ^ 32) × EndsNumeral rest → (found ≡ 0 → ⊥) → (x : Option ℕ) (t : List ℕ) → IsOneOf slots x → EndsNumeral t → 32 ∷ 35 ∷ bytes ≡ word x ++ t → (x ≡ Some (found - 1)) × (t ≡ rest)
only_number slots bytes rest found small is some None t place ends e = absurd (let clash : 35 ≡ 45 = ap (λ (bs : List ℕ). get_or bs 1 0) e in omega arith)
only_number slots bytes rest found small is some (Some n) t place ends e =
    let behind : bytes ≡ decimal (n + 1) ++ t = cc in
    let same : (n + 1 ≡ found) × (t ≡ rest) = numeral_front (n + 1) found t rest (omega arith) is.1 ends is.2 (sym behind ∙ is.0) in
    let number : n ≡ found - 1 = omega (arith, same.0) in
    (ap Some number, same.1)

pub other_number : (slots : ℕ) (bytes rest : List ℕ) (found : ℕ) → slots ≤ 65535 → (bytes ≡ decimal found ++ rest) × (found < 2 ^ 32) × EndsNumeral rest → ((n : ℕ) → n < slots → n + 1 ≡ found → ⊥) → (n : ℕ) (t : List ℕ) → n < slots → EndsNumeral t → bytes ≡ decimal (n + 1) ++ t → ⊥
other_number slots bytes rest found small is none n t place ends e =
    none n place (numeral_front (n + 1) found t rest (omega arith) is.1 ends is.2 (sym e ∙ is.0)).0

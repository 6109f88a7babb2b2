-- A text that is cut into lines: one line more, and all lines joined.
use Rattle.std.proofs.Common.{◌≡◌, ◌∙◌, ◌+◌, ◌≤◌, ◌++◌, ◌∷◌, [], ℕ, List, refl, ap, arith, take, drop, length}
use Rattle.std.specs.List.{flat_map, sum}
use Rattle.std.proofs.lemmas.List.{take_all, take-append-drop, take-append-le, drop-append-le, length-drop}
use Rattle.std.proofs.lemmas.List.Sums.{sum_by-cons}
use Rattle.rec_report.specs.Pieces.{pieces}

-- the first piece is within the numbers, and the others have as many as are behind it
within : (n : ℕ) (ns numbers : List ℕ) → sum (n ∷ ns) ≡ length numbers → (n ≤ length numbers) × (sum ns ≡ length (drop n numbers))
within n ns numbers fits =
    let first : sum (n ∷ ns) ≡ n + sum ns = sum_by-cons (λ x. x) n ns in
    (omega arith, rw length-drop (omega arith))

-- one piece more stands behind the others
pub pieces_append : (ns numbers piece : List ℕ) → sum ns ≡ length numbers → pieces (ns ++ length piece ∷ []) (numbers ++ piece) ≡ pieces ns numbers ++ piece ∷ []
pieces_append [] [] piece fits = ap (λ p. p ∷ []) (take_all (length piece) piece (omega arith))
pieces_append [] (x ∷ xs) piece fits = absurd (omega arith)
pieces_append (n ∷ ns) numbers piece fits =
    let a : (n ≤ length numbers) × (sum ns ≡ length (drop n numbers)) = within n ns numbers fits in
    let front : take n (numbers ++ piece) ≡ take n numbers = take-append-le n numbers piece a.0 in
    let rest : drop n (numbers ++ piece) ≡ drop n numbers ++ piece = drop-append-le n numbers piece a.0 in
    rw (front, rest) (ap (λ ps. take n numbers ∷ ps) (pieces_append ns (drop n numbers) piece a.1))

-- the pieces of all numbers are those numbers
pub pieces_joined : (ns numbers : List ℕ) → sum ns ≡ length numbers → flat_map (λ piece. piece) (pieces ns numbers) ≡ numbers
pieces_joined [] [] fits = refl
pieces_joined [] (x ∷ xs) fits = absurd (omega arith)
pieces_joined (n ∷ ns) numbers fits =
    let a : (n ≤ length numbers) × (sum ns ≡ length (drop n numbers)) = within n ns numbers fits in
    ap (λ xs. take n numbers ++ xs) (pieces_joined ns (drop n numbers) a.1) ∙ take-append-drop n numbers

-- What is reached from some numbers by steps from a number to those that it names.
use Rattle.std.specs.Prelude.{◌≡◌, ℕ, Bool, true, ◌==◌, List, [], ◌∷◌, Option, None, Some}
use Rattle.std.specs.List.{list_any}

-- what a list of registers or fields names, in order
abbrev pub named : List (Option ℕ) → List ℕ
named [] = []
named (None ∷ xs) = named xs
named (Some n ∷ xs) = n ∷ named xs

-- whether the number is in the list
abbrev pub is_in : ℕ → List ℕ → Bool
is_in n = list_any (λ m. m == n)

-- a root, or a child of what is reached
pub data IsReached (roots : List ℕ) (children : ℕ → List ℕ) : ℕ → Type 0 where
  root : (n : ℕ) → is_in n roots ≡ true → IsReached roots children n
  child : (m n : ℕ) → IsReached roots children m → is_in n (children m) ≡ true → IsReached roots children n

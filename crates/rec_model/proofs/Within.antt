-- What is reached stays within what was reached.
use Rattle.std.proofs.Common.{◌≡◌, ℕ, List, true}
use Rattle.rec_model.proofs.Common.{is_in, IsReached}
use Rattle.rec_model.specs.Reach.IsReached.{root, child}

-- whatever holds of the roots, and of the children of what it holds of, holds of all that is reached
pub all_reached : (P : ℕ → Type 0) (roots : List ℕ) (children : ℕ → List ℕ)
    → ((n : ℕ) → is_in n roots ≡ true → P n)
    → ((m n : ℕ) → IsReached roots children m → P m → is_in n (children m) ≡ true → P n)
    → (n : ℕ) → IsReached roots children n → P n
all_reached P roots children first next _ (root n there) = first n there
all_reached P roots children first next _ (child m n from there) = next m n from (all_reached P roots children first next m from) there

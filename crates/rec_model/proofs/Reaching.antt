-- The reach of an epoch, by sums of weights.
use Rattle.std.proofs.Common.{◌≡◌, ℕ, zero, suc, ◌<◌, true, arith}
use Rattle.rec_model.proofs.Common.{is_in, Pending, roots_at, targets_at, IsInReach}
use Rattle.rec_model.specs.Reach.IsReached.{root, child}
use Rattle.rec_model.proofs.Counted.{is_in-times, is_in-from_times, edge_sum, root_sum, targets_times, roots_times, null_no_root, null_no_target}
use Rattle.rec_model.proofs.Within.{all_reached}

-- a root is in reach
pub root_in_reach : (w : Pending) (epoch x : ℕ) → 0 < x → 0 < root_sum w epoch x → IsInReach w epoch x
root_in_reach w epoch x pos h = root x (is_in-from_times x (roots_at w epoch) (omega (arith, h, roots_times w epoch x pos)))

-- what a reference from a node in reach leads to is in reach
pub target_in_reach : (w : Pending) (epoch s x : ℕ) → 0 < x → IsInReach w epoch s → 0 < edge_sum w epoch s x → IsInReach w epoch x
target_in_reach w epoch s x pos from h = child s x from (is_in-from_times x (targets_at w epoch s) (omega (arith, h, targets_times w epoch s x pos)))

-- whatever holds of the roots, and of the targets of references from nodes in reach of which it holds, holds of all that is in reach
pub all_in_reach : (w : Pending) (epoch : ℕ) (P : ℕ → Type 0)
    → ((x : ℕ) → 0 < x → 0 < root_sum w epoch x → P x)
    → ((s x : ℕ) → 0 < s → 0 < x → IsInReach w epoch s → P s → 0 < edge_sum w epoch s x → P x)
    → (x : ℕ) → IsInReach w epoch x → P x
all_in_reach w epoch P first next x reached = (all_reached (λ y. (0 < y) × P y) (roots_at w epoch) (targets_at w epoch) at_root at_target x reached).1
  where
    at_root : (y : ℕ) → is_in y (roots_at w epoch) ≡ true → (0 < y) × P y
    at_root zero there = absurd (omega (arith, null_no_root w epoch, is_in-times 0 (roots_at w epoch) there))
    at_root (suc y) there =
        let pos : 0 < suc y = omega arith in
        (pos, first (suc y) pos (omega (arith, roots_times w epoch (suc y) pos, is_in-times (suc y) (roots_at w epoch) there)))

    at_target : (s y : ℕ) → IsInReach w epoch s → (0 < s) × P s → is_in y (targets_at w epoch s) ≡ true → (0 < y) × P y
    at_target s zero from p there = absurd (omega (arith, null_no_target w epoch s, is_in-times 0 (targets_at w epoch s) there))
    at_target s (suc y) from p there =
        let pos : 0 < suc y = omega arith in
        (pos, next s (suc y) p.0 pos from p.1 (omega (arith, targets_times w epoch s (suc y) pos, is_in-times (suc y) (targets_at w epoch s) there)))

-- where no root and no reference from a node in reach goes, all that was in reach stays so
pub reach_stays : (w v : Pending) (epoch : ℕ)
    → ((x : ℕ) → 0 < x → 0 < root_sum w epoch x → 0 < root_sum v epoch x)
    → ((s x : ℕ) → 0 < s → 0 < x → IsInReach w epoch s → 0 < edge_sum w epoch s x → 0 < edge_sum v epoch s x)
    → (x : ℕ) → IsInReach w epoch x → IsInReach v epoch x
reach_stays w v epoch roots edges = all_in_reach w epoch (IsInReach v epoch) (λ x pos h. root_in_reach v epoch x pos (roots x pos h)) (λ s x above pos from there h. target_in_reach v epoch s x pos there (edges s x above pos from h))

-- What holds after a word, after a root left, and after one more node is marked, blackened or collected, as functions.
use Rattle.std.proofs.Common.{◌≡◌, ℕ, suc, ◌+◌, ◌-◌, ◌<◌, Bool, false, List, [], ◌∷◌, ◌++◌, refl, arith, ◌⊎◌, inl, inr, true, ◌≤◌, cond, eqb}
use Rattle.std.proofs.lemmas.Bool.Decides.{nat_tests}
use Rattle.rec_trial.proofs.Common.{Colour, Black, Gray, Orange, is_gray, is_green, is_white}
use Rattle.rec_trial.proofs.Totals.{same, times, changed, total_append}
use Rattle.rec_trial.proofs.Deletion.{Seen, Deletion}
use Rattle.rec_trial.proofs.Holding.{BaseOf, GraysOf, SeedsOf, ScannedOf, CollectedOf, Hot, warm, edges, Seed, Reached, seed, along}

-- one more at the end
pub times_push : (y x : ℕ) (xs : List ℕ) → times y (xs ++ x ∷ []) ≡ times y xs + same y x
times_push y x xs = omega (arith, total_append (same y) xs (x ∷ []))

pick : (y x m : ℕ) → 0 < m + same y x → (y ≡ x) ⊎ (0 < m)
pick y x m h = grind (arith, nat_tests)

-- what holds of one more and of all others holds of all
pub push_kept : (P : ℕ → Type 0) (x : ℕ) (xs : List ℕ) → P x → ((y : ℕ) → 0 < times y xs → P y) → (y : ℕ) → 0 < times y (xs ++ x ∷ []) → P y
push_kept P x xs here old y h = elim (pick y x (times y xs) (omega (arith, times_push y x xs))) [
  | inl q ↦ rw q here
  | inr k ↦ old y k
]

pub reached_grow : {o : Deletion} {marks : List Seen} {x : ℕ} (l : Seen) → Reached o marks x → Reached o (l ∷ marks) x
reached_grow l (seed k) = seed k
reached_grow l (along r e) = along (reached_grow l r) (omega arith)

pub edge_here : (n g x : ℕ) (ls : List Seen) → 0 < edges n x (record { node = n; field = g; word = suc x } ∷ ls)
edge_here n g x ls = grind (arith, nat_tests)

-- an edge is that of the last word, or of an earlier one
pub edge_split : (n x : ℕ) (l : Seen) (ls : List Seen) → 0 < edges n x (l ∷ ls) → ((n ≡ l.node) × (suc x ≡ l.word)) ⊎ (0 < edges n x ls)
edge_split n x l ls = fit n l.node x l.word (edges n x ls)
  where
    fit : (n a x w m : ℕ) → 0 < cond (eqb n a) (same (suc x) w) 0 + m → ((n ≡ a) × (suc x ≡ w)) ⊎ (0 < m)
    fit n a x w m h = grind (arith, nat_tests)

module _ {o : Deletion} {fields : ℕ} {released : ℕ → Bool} {cyclic count : ℕ → ℕ} {marked : List ℕ} {marks : List Seen} (b : BaseOf o fields released cyclic count marked marks) where
  -- a word takes one off the rest of the node that it names, which is marked
  pub base_load : (l : Seen) (less : ℕ → ℕ) → ((y : ℕ) → less y ≡ cyclic y - same (suc y) l.word) → ((y : ℕ) → times y marked ≡ 0 → same (suc y) l.word ≡ 0) → BaseOf o fields released less count marked (l ∷ marks)
  base_load l less e none = record {
    kept = b.kept;
    once = b.once;
    alive = b.alive;
    no_green = b.no_green;
    rest = λ y h. omega (arith, e y, b.rest y h);
    fresh = λ y h. omega (arith, none y h, b.fresh y h);
  }

  -- a node more is marked
  pub base_push : (x : ℕ) → times x marked ≡ 0 → released x ≡ false → is_green (o.colour x) ≡ false → BaseOf o fields released (changed cyclic x (count x)) count (marked ++ x ∷ []) marks
  base_push x new live green = record {
    kept = b.kept;
    once = λ y. grind (arith, nat_tests, times_push y x marked, b.once y, new);
    alive = λ y r. grind (arith, nat_tests, times_push y x marked, b.alive y);
    no_green = push_kept (λ y. is_green (o.colour y) ≡ false) x marked green b.no_green;
    rest = λ y h. grind (arith, nat_tests, times_push y x marked, b.rest y, b.fresh x new);
    fresh = λ y h. grind (arith, nat_tests, times_push y x marked, b.fresh y);
  }

module _ {o : Deletion} {marked : List ℕ} {colour : ℕ → Colour} (g : GraysOf o marked colour) (x : ℕ) where
  pub unmarked : is_gray (colour x) ≡ false → times x marked ≡ 0
  unmarked e = grind (arith, g.grays x)

  pub grays_push : times x marked ≡ 0 → GraysOf o (marked ++ x ∷ []) (changed colour x Gray)
  grays_push new = record {
    grays = λ y. grind (arith, nat_tests, times_push y x marked, g.grays y, new);
    no_white = λ y. grind (arith, nat_tests, g.no_white y);
    colours_old = λ y h. grind (arith, nat_tests, times_push y x marked, g.colours_old y);
  }

module _ {o : Deletion} {marked roots : List ℕ} (q : SeedsOf o marked roots) (x : ℕ) where
  pub seeds_push : SeedsOf o (marked ++ x ∷ []) roots
  seeds_push = record { roots_old = q.roots_old; seeds = λ y k. omega (arith, times_push y x marked, q.seeds y k) }

  -- a root leaves that is no seed, or marked
  pub seeds_drop : (xs : List ℕ) → roots ≡ x ∷ xs → (Seed o x → 0 < times x marked) → SeedsOf o marked xs
  seeds_drop xs here none = record {
    roots_old = λ y h. q.roots_old y (omega (arith, roots_are y));
    seeds = λ y k. elim (pick y x (times y xs + times y marked) (omega (arith, q.seeds y k, roots_are y))) [
      | inl e ↦ let h : 0 < times x marked = none (rw e at k) in rw e (omega (arith, h))
      | inr h ↦ h
    ];
  }
    where
      roots_are : (y : ℕ) → times y roots ≡ same y x + times y xs
      roots_are y = rw here refl

pub hot_grow : {marked : List ℕ} {cyclic : ℕ → ℕ} {blacks : List Seen} {x : ℕ} (l : Seen) → Hot marked cyclic blacks x → Hot marked cyclic (l ∷ blacks) x
hot_grow l (warm h p) = warm h p
hot_grow l (along r e) = along (hot_grow l r) (omega arith)

-- a gray node is blackened
pub scanned_push : {o : Deletion} {marked work : List ℕ} {colour : ℕ → Colour} → ScannedOf o marked work colour → (x : ℕ) → is_gray (colour x) ≡ true → times x marked ≤ 1 → ScannedOf o marked (work ++ x ∷ []) (changed colour x Black)
scanned_push {o} {marked} {work} c x e once = record {
  parts = λ y. grind (arith, nat_tests, times_push y x work, c.parts y, c.parts x);
  worked = λ y. grind (arith, nat_tests, times_push y x work, c.worked y, c.parts x);
  no_white = λ y. grind (arith, nat_tests, c.no_white y);
  colours_old = λ y h. grind (arith, nat_tests, c.colours_old y h, c.parts x);
}

-- a white node joins
pub collected_push : {o : Deletion} {count : ℕ → ℕ} {marked work members : List ℕ} {colour : ℕ → Colour} {marks blacks : List Seen} → CollectedOf o count marked work members colour marks blacks → (x : ℕ) → is_white (colour x) ≡ true → times x marked ≤ 1 → CollectedOf o count marked work (members ++ x ∷ []) (changed colour x Orange) marks blacks
collected_push {members = members} c x e once = record {
  parts = λ y. grind (arith, nat_tests, times_push y x members, c.parts y, c.parts x);
  worked = λ y. grind (arith, nat_tests, c.worked y, c.worked x);
  oranges = λ y. grind (arith, nat_tests, times_push y x members, c.oranges y, c.parts x);
  unnamed = λ y a. grind (arith, nat_tests, times_push y x members, c.unnamed y a);
  enough = λ y a. grind (arith, nat_tests, times_push y x members, c.enough y, c.enough x);
  colours_old = λ y h. grind (arith, nat_tests, c.colours_old y h, c.parts x);
}

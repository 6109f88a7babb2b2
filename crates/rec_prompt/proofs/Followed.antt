-- A trial at work, followed from load to load: what marking loaded from a field still stands there, or what stands there now is known to
-- the collector by what is pending; and so of what blackening loaded.
use Rattle.std.proofs.Common.{◌≡◌, ◌⊎◌, inl, inr, ℕ, zero, suc, ◌+◌, ◌*◌, ◌/◌, ◌%◌, ◌<◌, ◌≤◌, ◌==◌, cond, eqb, true, false, Bool, Some, List, [], ◌∷◌, refl, sym, ap, ◌∙◌, arith}
use Rattle.std.proofs.Math.Nat.{div-add-mod, mul_comm}
use Rattle.std.proofs.lemmas.Bool.{cases_eq, cases_lt, eq-eqb, eqb-true, ne_eqb}
use Rattle.rec_core.proofs.Common.{target_of, is_green, State, slot_at, only_if, sum_at, sum_at_none, sum_at_same, sum_at_split, Sight, word_at, Machine}
use Rattle.rec_model.proofs.Sums.{sum_at-le-sum_at}
use Rattle.rec_trial.specs.Trial.{is_due, list_of}
use Rattle.rec_trial.proofs.Course.{Course}
use Rattle.rec_trial.proofs.Deletion.{Loads, Seen}
use Rattle.rec_trial.proofs.Holding.{edges, loaded, named}
use Rattle.rec_trial.proofs.Totals.{same, total}
use Rattle.std.specs.Prelude.{slice_index_or}
use Rattle.rec_prompt.proofs.Hanging.{Trails}

-- how often the field was loaded with a word that leads to the slot
abbrev pub hits : (n g x : ℕ) → List Seen → ℕ
hits n g x ls = total (λ l. cond (eqb n l.node) (cond (eqb g l.field) (same (suc x) l.word) 0) 0) ls

-- What stands in a field that marking loaded was loaded there, or leads to a Green slot, or to one that is on a path from what is pending.
abbrev pub AreMarked : (w : Sight) (pending : ℕ → Type 0) (s : State) → List Seen → Type 0
AreMarked w pending s ls = (n g x : ℕ) → g < w.fields → 0 < loaded n g ls → target_of (word_at w n g) ≡ Some x → (0 < hits n g x ls) ⊎ ((is_green (slot_at s x).colour ≡ true) ⊎ Trails w pending x)

-- What blackening loaded from a field stands there, or its target is pending.
abbrev pub AreBlackened : (w : Sight) (pending : ℕ → Type 0) → List Seen → Type 0
AreBlackened w pending ls = (n g x : ℕ) → g < w.fields → 0 < hits n g x ls → (target_of (word_at w n g) ≡ Some x) ⊎ pending x

-- a trial with this machine is at work on these counts
pub record IsFollowed (w : Sight) (pending : ℕ → Type 0) (s : State) (m : Machine) : Type 0 where
  pub before : State
  pub ls : Loads
  pub course : Course w.fields before (record { machine = m; counts = s }) ls
  pub due : is_due (record { machine = m; counts = s }) ≡ true
  pub node : m.slot ≡ slice_index_or (list_of m.phase s) m.done 0
  pub marks : AreMarked w pending s ls.marks
  pub blacks : AreBlackened w pending ls.blacks

-- ---- sums over fields

-- a weight of one place is no more than itself
single : (q k : ℕ) (ws : List ℕ) → sum_at (λ p (w : ℕ). only_if (p == q) k) ws ≤ k
single q k [] = omega arith
single zero k (w ∷ ws) = omega (arith, sum_at_none (λ p (v : ℕ). only_if (suc p == 0) k) ws (λ p v. ap (λ b. only_if b k) (ne_eqb (suc p) 0 (λ e. omega (arith, e)))))
single (suc q) k (w ∷ ws) = omega (arith, ap (λ b. only_if b k) (ne_eqb 0 (suc q) (λ e. omega (arith, e))), sum_at_same (λ p (v : ℕ). only_if (suc p == suc q) k) (λ p (v : ℕ). only_if (p == q) k) ws (λ p v. ap (λ b. only_if b k) (both p)), single q k ws)
  where
    both : (p : ℕ) → (suc p == suc q) ≡ (p == q)
    both p = elim (cases_eq p q) [
      | inl is ↦ eq-eqb (suc p) (suc q) (ap suc is) ∙ sym (eq-eqb p q is)
      | inr other ↦ ne_eqb (suc p) (suc q) (λ e. other (omega (arith, e))) ∙ sym (ne_eqb p q other)
    ]

-- where one sum is more than another, so is a weight
pub more_somewhere : (f g : ℕ → ℕ → ℕ) (ws : List ℕ) → sum_at g ws < sum_at f ws → (p : ℕ) × (g p (slice_index_or ws p 0) < f p (slice_index_or ws p 0))
more_somewhere f g [] more = absurd (omega (arith, more))
more_somewhere f g (w ∷ ws) more = elim (cases_lt (g 0 w) (f 0 w)) [
  | inl here ↦ (0, here)
  | inr none ↦ let rest = more_somewhere (λ p. f (suc p)) (λ p. g (suc p)) ws (omega (arith, more, none)) in (suc rest.0, rest.1)
]

-- all fields together were loaded with such words no more often than there are such words
pub hits_few : (fields x : ℕ) (ls : List Seen) (ws : List ℕ) → sum_at (λ p (w : ℕ). hits (p / fields) (p % fields) x ls) ws ≤ named x ls
hits_few fields x [] ws = omega (arith, sum_at_none (λ p (w : ℕ). hits (p / fields) (p % fields) x []) ws (λ p w. refl))
hits_few fields x (l ∷ ls) ws = omega (
  arith,
  sum_at_split (λ p (w : ℕ). hits (p / fields) (p % fields) x (l ∷ ls)) here (λ p (w : ℕ). hits (p / fields) (p % fields) x ls) ws (λ p w. refl),
  sum_at-le-sum_at here (λ p (w : ℕ). only_if (p == l.node * fields + l.field) (same (suc x) l.word)) ws (λ p w. at p (eqb (p / fields) l.node) (eqb (p % fields) l.field) refl refl),
  single (l.node * fields + l.field) (same (suc x) l.word) ws,
  hits_few fields x ls ws,
)
  where
    here : ℕ → ℕ → ℕ
    here p w = cond (eqb (p / fields) l.node) (cond (eqb (p % fields) l.field) (same (suc x) l.word) 0) 0

    at : (p : ℕ) (a b : Bool) → eqb (p / fields) l.node ≡ a → eqb (p % fields) l.field ≡ b → cond a (cond b (same (suc x) l.word) 0) 0 ≤ only_if (p == l.node * fields + l.field) (same (suc x) l.word)
    at p true true e f =
        let place : p ≡ l.node * fields + l.field = sym (div-add-mod p fields) ∙ ap (λ k. k + p % fields) (mul_comm fields (p / fields)) ∙ ap (λ k. k * fields + p % fields) (eqb-true (p / fields) l.node e) ∙ ap (λ k. l.node * fields + k) (eqb-true (p % fields) l.field f) in
        omega (arith, ap (λ (b : Bool). only_if b (same (suc x) l.word)) (eq-eqb p (l.node * fields + l.field) place))
    at p true false e f = omega arith
    at p false b e f = omega arith

-- a loaded word of a slot is one of a field
pub edge_hits : (n x : ℕ) (ls : List Seen) → 0 < edges n x ls → (g : ℕ) × (0 < hits n g x ls)
edge_hits n x [] some = absurd (omega (arith, some))
edge_hits n x (l ∷ ls) some = elim (cases_lt 0 (cond (eqb n l.node) (same (suc x) l.word) 0)) [
  | inl here ↦ (l.field, omega (arith, own (eqb n l.node) here))
  | inr none ↦ let rest = edge_hits n x ls (omega (arith, some, none)) in (rest.0, omega (arith, rest.1))
]
  where
    own : (a : Bool) → 0 < cond a (same (suc x) l.word) 0 → 0 < cond a (cond (eqb l.field l.field) (same (suc x) l.word) 0) 0
    own true h = omega (arith, h, ap (λ (b : Bool). cond b (same (suc x) l.word) 0) (eq-eqb l.field l.field refl))
    own false h = h

pub hits_named : (n g x : ℕ) (ls : List Seen) → hits n g x ls ≤ named x ls
hits_named n g x [] = omega arith
hits_named n g x (l ∷ ls) = omega (arith, own (eqb n l.node) (eqb g l.field), hits_named n g x ls)
  where
    own : (a b : Bool) → cond a (cond b (same (suc x) l.word) 0) 0 ≤ same (suc x) l.word
    own true true = omega arith
    own true false = omega arith
    own false b = omega arith

pub hits_loaded : (n g x : ℕ) (ls : List Seen) → hits n g x ls ≤ loaded n g ls
hits_loaded n g x [] = omega arith
hits_loaded n g x (l ∷ ls) = omega (arith, own (eqb n l.node) (eqb g l.field) (eqb (suc x) l.word) refl, hits_loaded n g x ls)
  where
    own : (a b c : Bool) → eqb g l.field ≡ b → cond a (cond b (cond c 1 0) 0) 0 ≤ cond a (cond b 1 0) 0
    own true true true e = omega arith
    own true true false e = omega arith
    own true false c e = omega arith
    own false b c e = omega arith

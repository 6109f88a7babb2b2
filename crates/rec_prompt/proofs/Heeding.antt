-- What the collector has in its lists stays there, over what it does with its counts: no slot gets out of sight that isn't Green.
use Rattle.std.proofs.Common.{◌≡◌, ◌⊎◌, inl, inr, ℕ, zero, suc, ◌≤◌, if◌then◌else◌, true, false, Bool, List, [], ◌∷◌, length, refl, sym, ap, ◌∙◌, arith, ◌<◌}
use Rattle.std.specs.List.{concat}
use Rattle.std.proofs.lemmas.Bool.{cases_eq, cases_lt, ne_eqb, false≢true}
use Rattle.std.proofs.lemmas.List.{get_or-set_same, get_or_past, length-set}
use Rattle.rec_core.proofs.Common.{is_green, State, slot_at, one, times, absent, Slot, times-cons, emptied, listed_if, next_from, without_first, IsTaken, Sight, KeepsOthers}
use Rattle.rec_counts.specs.Colour.{is_purple}
use Rattle.rec_counts.specs.Counts.{without_root}
use Rattle.rec_counts.proofs.Times.{times_push}
use Rattle.rec_release.specs.Release as releases
use Rattle.rec_release.proofs.Keeping.{emptied_zeros}
use Rattle.rec_release.proofs.TakenOff.{written}
use Rattle.rec_trial.specs.Postponed.{returned_if, rotated, rotated_by, rotated_in, postponed}
use Rattle.rec_prompt.specs.Cover.{Covers, IsListed}
use Rattle.rec_prompt.specs.Cover.Hangs.{later, listed}
use Rattle.rec_prompt.proofs.Hanging.{all_on_trails, Trails, carried, LeadersCount}

-- the slot is in a list, or it is Green
abbrev pub IsSeen : State → (slot : ℕ) → Type 0
IsSeen s slot = IsListed s slot ⊎ (is_green (slot_at s slot).colour ≡ true)

-- the slot is released, or a member of a set
abbrev pub IsOwned : State → (slot : ℕ) → Type 0
IsOwned s slot = ((slot_at s slot).released ≡ true) ⊎ (0 < times slot (concat s.sets))

-- No slot becomes Green or is Green no more, and each that was in a list is in one then. What was released or a member is so then.
pub record Heeds (s t : State) : Type 0 where
  pub greens : (x : ℕ) → is_green (slot_at t x).colour ≡ is_green (slot_at s x).colour
  pub lists : (x : ℕ) → IsListed s x → IsSeen t x
  pub gone : (x : ℕ) → (slot_at s x).released ≡ true → (slot_at t x).released ≡ true
  pub kept : (x : ℕ) → 0 < times x (concat s.sets) → IsOwned t x

pub heeds_owned : {s t : State} → Heeds s t → (x : ℕ) → IsOwned s x → IsOwned t x
heeds_owned h x (inl gone) = inl (h.gone x gone)
heeds_owned h x (inr member) = h.kept x member

-- Each slot is released, a member of a set, or on a path of fields from what is pending or released, unless it is Green.
abbrev pub FoundIn : Sight → (pending : ℕ → Type 0) → State → Type 0
FoundIn w pending s = (slot : ℕ) → IsTaken w slot → is_green (slot_at s slot).colour ≡ false → IsOwned s slot ⊎ Trails w (λ y. pending y ⊎ ((slot_at s y).released ≡ true)) slot

pub heeds_found : (w : Sight) (pending : ℕ → Type 0) (s t : State) → Heeds s t → FoundIn w pending s → FoundIn w pending t
heeds_found w pending s t h f slot taken plain = elim (f slot taken (sym (h.greens slot) ∙ plain)) [
  | inl own ↦ inl (heeds_owned h slot own)
  | inr trail ↦ inr (all_on_trails w (λ y. pending y ⊎ ((slot_at s y).released ≡ true)) (Trails w (λ y. pending y ⊎ ((slot_at t y).released ≡ true))) (λ y is. Trails.first (elim is [ inl p ↦ inl p | inr gone ↦ inr (h.gone y gone) ])) (λ m n path leads. Trails.along path leads) slot trail)
]

pub heeds_same : (s : State) → Heeds s s
heeds_same s = record { greens = λ x. refl; lists = λ x is. inl is; gone = λ x is. is; kept = λ x is. inr is }

pub heeds_on : {s t u : State} → Heeds s t → Heeds t u → Heeds s u
heeds_on a b = record {
  greens = λ x. b.greens x ∙ a.greens x;
  lists = λ x is. elim (a.lists x is) [ inl there ↦ b.lists x there | inr green ↦ inr (b.greens x ∙ green) ];
  gone = λ x is. b.gone x (a.gone x is);
  kept = λ x is. heeds_owned b x (a.kept x is);
}

-- so what hangs on something does so then
pub heeds_covers : (w : Sight) (pending : ℕ → Type 0) (s t : State) → LeadersCount w t → Heeds s t → Covers w pending s → Covers w pending t
heeds_covers w pending s t alive h c slot taken plain = carried w w pending pending s t alive
    (λ x is taken_ plain_. later is)
    (λ x is taken_ plain_. elim (h.lists x is) [ inl there ↦ listed there | inr green ↦ absurd (false≢true (sym plain_ ∙ green)) ])
    (λ m n leads. inl leads)
    slot (c slot taken (sym (h.greens slot) ∙ plain)) taken plain

-- the same slots, and as many of each in each list, or more
pub heeds_alike : (s t : State) → ((x : ℕ) → (slot_at t x).colour ≡ (slot_at s x).colour) → ((x : ℕ) → (slot_at s x).released ≡ true → (slot_at t x).released ≡ true)
    → ((x : ℕ) → times x s.zeros ≤ times x t.zeros) → ((x : ℕ) → times x s.roots ≤ times x t.roots) → ((x : ℕ) → times x (concat s.sets) ≤ times x (concat t.sets)) → ((x : ℕ) → times x s.marked ≤ times x t.marked) → Heeds s t
heeds_alike s t colours released zeros roots members marked = record { greens = λ x. ap is_green (colours x); lists = lists; gone = released; kept = λ x some. inr (omega (arith, some, members x)) }
  where
    lists : (x : ℕ) → IsListed s x → IsSeen t x
    lists x (IsListed.released is) = inl (IsListed.released (released x is))
    lists x (IsListed.zero some) = inl (IsListed.zero (omega (arith, some, zeros x)))
    lists x (IsListed.root some purple) = inl (IsListed.root (omega (arith, some, roots x)) (ap is_purple (colours x) ∙ purple))
    lists x (IsListed.member some) = inl (IsListed.member (omega (arith, some, members x)))
    lists x (IsListed.marked some) = inl (IsListed.marked (omega (arith, some, marked x)))

-- a preparation changes cyclic counts alone
pub heeds_others : (s t : State) → KeepsOthers s t → Heeds s t
heeds_others s t k = heeds_alike s t (λ x. ap (λ (v : Slot). v.colour) (k.slots x)) (λ x is. ap (λ (v : Slot). v.released) (k.slots x) ∙ is)
    (λ x. omega (arith, ap (times x) k.zeros)) (λ x. omega (arith, ap (times x) k.roots)) (λ x. omega (arith, ap (λ (xss : List (List ℕ)). times x (concat xss)) k.sets)) (λ x. omega (arith, ap (times x) k.marked))

-- ---- releases

-- an emptied slot goes to the free list, or waits
pub heeds_emptied : (s : State) (z : ℕ) → Heeds s (emptied s z)
heeds_emptied s z = go (slot_at s z).buffered
  where
    go : (b : Bool) → Heeds s (listed_if b s z)
    go true = heeds_same s
    go false = heeds_alike s (listed_if false s z) (λ x. refl) (λ x is. is) (λ x. omega arith) (λ x. omega arith) (λ x. omega arith) (λ x. omega arith)

-- the first of the zeros is released
pub heeds_first : (s : State) (z : ℕ) (zs : List ℕ) → s.zeros ≡ z ∷ zs → Heeds s (without_first (z ∷ zs) s)
heeds_first s z zs is = record { greens = λ x. ap is_green (colour x); lists = lists; gone = released; kept = λ x some. inr some }
  where
    t : State
    t = without_first (z ∷ zs) s

    colour : (x : ℕ) → (slot_at t x).colour ≡ (slot_at s x).colour
    colour x = elim (written s z (record (slot_at s z) { released = true }) x) [ inl own ↦ ap (λ (v : Slot). v.colour) own.1 ∙ ap (λ n. (slot_at s n).colour) (sym own.0) | inr other ↦ ap (λ (v : Slot). v.colour) other ]

    gone : (slot_at t z).released ≡ true
    gone = elim (cases_lt z (length s.slots)) [
      | inl inside ↦ ap (λ (v : Slot). v.released) (get_or-set_same s.slots z (record (slot_at s z) { released = true }) absent inside)
      | inr past ↦ ap (λ (v : Slot). v.released) (get_or_past t.slots z absent (omega (arith, past, length-set s.slots z (record (slot_at s z) { released = true }))))
    ]

    released : (x : ℕ) → (slot_at s x).released ≡ true → (slot_at t x).released ≡ true
    released x was = elim (written s z (record (slot_at s z) { released = true }) x) [ inl own ↦ ap (λ (v : Slot). v.released) own.1 | inr other ↦ ap (λ (v : Slot). v.released) other ∙ was ]

    lists : (x : ℕ) → IsListed s x → IsSeen t x
    lists x (IsListed.released was) = inl (IsListed.released (released x was))
    lists x (IsListed.zero some) = elim (cases_eq x z) [
      | inl same ↦ inl (IsListed.released (ap (λ n. (slot_at t n).released) same ∙ gone))
      | inr other ↦ inl (IsListed.zero (omega (arith, some, ap (times x) is, times-cons x z zs, ap one (ne_eqb x z other))))
    ]
    lists x (IsListed.root some purple) = inl (IsListed.root some (ap is_purple (colour x) ∙ purple))
    lists x (IsListed.member some) = inl (IsListed.member some)
    lists x (IsListed.marked some) = inl (IsListed.marked some)

-- so the next of the zeros is
pub heeds_next : (zs : List ℕ) (s : State) → s.zeros ≡ zs → Heeds s (next_from zs s).counts
heeds_next [] s is = heeds_same s
heeds_next (z ∷ zs) s is = go (is_green (slot_at s z).colour) (heeds_next zs (emptied (without_first (z ∷ zs) s) z) (emptied_zeros (without_first (z ∷ zs) s) z))
  where
    first : Heeds s (without_first (z ∷ zs) s)
    first = heeds_first s z zs is

    go : (b : Bool) → Heeds (emptied (without_first (z ∷ zs) s) z) (next_from zs (emptied (without_first (z ∷ zs) s) z)).counts → (let n : releases.Next = if b then next_from zs (emptied (without_first (z ∷ zs) s) z) else record { at = releases.first_of (z ∷ zs); counts = without_first (z ∷ zs) s } in Heeds s n.counts)
    go true rest = heeds_on first (heeds_on (heeds_emptied (without_first (z ∷ zs) s) z) rest)
    go false rest = first

-- ---- a trial that is postponed

heeds_returned : (s : State) (x : ℕ) (xs : List ℕ) → s.roots ≡ x ∷ xs → Heeds s (rotated_by (x ∷ xs) s)
heeds_returned s x xs is = go (slot_at u x).released refl
  where
    u : State
    u = without_root (x ∷ xs) s

    out : (y : ℕ) → ((slot_at u y).colour ≡ (slot_at s y).colour) × ((slot_at u y).released ≡ (slot_at s y).released)
    out y = elim (written s x (record (slot_at s x) { buffered = false }) y) [
      | inl own ↦ (ap (λ (v : Slot). v.colour) own.1 ∙ ap (λ n. (slot_at s n).colour) (sym own.0), ap (λ (v : Slot). v.released) own.1 ∙ ap (λ n. (slot_at s n).released) (sym own.0))
      | inr other ↦ (ap (λ (v : Slot). v.colour) other, ap (λ (v : Slot). v.released) other)
    ]

    go : (b : Bool) → (slot_at u x).released ≡ b → Heeds s (returned_if b u x)
    go true gone = record { greens = λ y. ap is_green (out y).0; lists = lists; gone = λ y was. (out y).1 ∙ was; kept = λ y some. inr some }
      where
        t : State
        t = returned_if true u x

        lists : (y : ℕ) → IsListed s y → IsSeen t y
        lists y (IsListed.released was) = inl (IsListed.released ((out y).1 ∙ was))
        lists y (IsListed.zero some) = inl (IsListed.zero some)
        lists y (IsListed.root some purple) = elim (cases_eq y x) [
          | inl same ↦ inl (IsListed.released (ap (λ n. (slot_at u n).released) same ∙ gone))
          | inr other ↦ inl (IsListed.root (omega (arith, some, ap (times y) is, times-cons y x xs, ap one (ne_eqb y x other))) (ap is_purple (out y).0 ∙ purple))
        ]
        lists y (IsListed.member some) = inl (IsListed.member some)
        lists y (IsListed.marked some) = inl (IsListed.marked some)
    go false there = heeds_alike s t (λ y. (back y).0 ∙ (out y).0) (λ y was. (back y).1 ∙ (out y).1 ∙ was) (λ y. omega arith) (λ y. omega (arith, ap (times y) is, times-cons y x xs, times_push y xs x)) (λ y. omega arith) (λ y. omega arith)
      where
        t : State
        t = returned_if false u x

        back : (y : ℕ) → ((slot_at t y).colour ≡ (slot_at u y).colour) × ((slot_at t y).released ≡ (slot_at u y).released)
        back y = elim (written u x (record (slot_at u x) { buffered = true }) y) [
          | inl own ↦ (ap (λ (v : Slot). v.colour) own.1 ∙ ap (λ n. (slot_at u n).colour) (sym own.0), ap (λ (v : Slot). v.released) own.1 ∙ ap (λ n. (slot_at u n).released) (sym own.0))
          | inr other ↦ (ap (λ (v : Slot). v.colour) other, ap (λ (v : Slot). v.released) other)
        ]

heeds_rotated : (s : State) → Heeds s (rotated s)
heeds_rotated s = go s.roots refl
  where
    go : (rs : List ℕ) → s.roots ≡ rs → Heeds s (rotated_by rs s)
    go [] is = heeds_same s
    go (x ∷ xs) is = heeds_returned s x xs is

heeds_rotations : (n : ℕ) (s : State) → Heeds s (rotated_in n s)
heeds_rotations zero s = heeds_same s
heeds_rotations (suc n) s = heeds_on (heeds_rotated s) (heeds_rotations n (rotated s))

pub heeds_postponed : (s : State) → Heeds s (postponed s)
unfolding postponed
heeds_postponed s = heeds_rotations (length s.roots) s

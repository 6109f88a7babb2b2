-- From a batch up to the next trial no slot becomes Orange, and sets only go.
use Rattle.std.proofs.Common.{◌≡◌, ◌⊎◌, inl, inr, ℕ, zero, suc, ◌-◌, ◌==◌, if◌then◌else◌, true, false, Bool, Option, None, Some, IsSome, List, [], ◌∷◌, length, slice_index_or, refl, sym, ap, subst, ◌∙◌, arith}
use Rattle.std.proofs.lemmas.Bool.{cases_lt}
use Rattle.std.proofs.lemmas.List.{get_or_past, get_or-take, length-take}
use Rattle.rec_core.proofs.Common.{is_green, State, slot_at, with_slot, times, absent, Slot, decremented, lessened, lessened_if, stays, lowered, taken_off, down_if, is_lowered, given_up, dead_if, emptied, is_in, listed_if, next_from, Parts, unbuffered_if, without_first, zeros_released, KeepsOthers, with_freeing, new_freeing, Begun, freed_by, freed_listed, IsTested, released_by, target_of, with_freed, with_released}
use Rattle.rec_counts.specs.declared.colour.Colour.{Colour}
use Rattle.rec_counts.specs.declared.colour.Colour.TheVariants.{Black, Purple, Orange, Green, Gray, White}
use Rattle.rec_counts.specs.Colour.{in_use}
use Rattle.rec_counts.specs.Counts.{without_root}
use Rattle.rec_trial.specs.Postponed.{postponed, returned_if, rotated, rotated_by, rotated_in}
use Rattle.rec_counts.specs.Groups.{earlier_sets}
use Rattle.rec_counts.proofs.Decrementing.{rest_decremented, same_slot}
use Rattle.rec_release.specs.CycleFree as frees
use Rattle.rec_release.specs.Release as releases
use Rattle.rec_release.proofs.Giving.{given_slot}
use Rattle.rec_release.proofs.TakenOff.{written}
use Rattle.rec_sigma.specs.Prepare.{members_of}
use Rattle.rec_sigma.specs.Refurbish.{fate_at, LastRefurbished, refurbished}
use Rattle.rec_sigma.specs.declared.fate.Fate.{Fate}
use Rattle.rec_sigma.specs.declared.fate.Fate.TheVariants as fates
use Rattle.std.specs.Prelude.{slice_get}
use Rattle.rec_counts.specs.Groups.{last_set}

-- what is Orange was so, and a set of any number is the same, or gone
pub record Fades (s t : State) : Type 0 where
  pub sets : (k : ℕ) → (members_of t k ≡ members_of s k) ⊎ (members_of t k ≡ [])
  pub oranges : (x : ℕ) → (slot_at t x).colour ≡ Orange → (slot_at s x).colour ≡ Orange

pub fades_on : {s t u : State} → Fades s t → Fades t u → Fades s u
fades_on a b = record {
  sets = λ k. elim (b.sets k) [ inr none ↦ inr none | inl same ↦ elim (a.sets k) [ inl first ↦ inl (same ∙ first) | inr none ↦ inr (same ∙ none) ] ];
  oranges = λ x is. a.oranges x (b.oranges x is);
}

-- the same sets and colours
pub fades_alike : (s t : State) → t.sets ≡ s.sets → ((x : ℕ) → (slot_at t x).colour ≡ (slot_at s x).colour) → Fades s t
fades_alike s t sets colours = record { sets = λ k. inl (ap (λ (xss : List (List ℕ)). slice_index_or xss k []) sets); oranges = λ x is. sym (colours x) ∙ is }

pub fades_same : (s : State) → Fades s s
fades_same s = fades_alike s s refl (λ x. refl)

-- one slot is written, which is Orange only if it was
pub fades_written : (s t : State) (x : ℕ) (v : Slot) → t.sets ≡ s.sets → t.slots ≡ (with_slot s x v).slots → (v.colour ≡ Orange → (slot_at s x).colour ≡ Orange) → Fades s t
fades_written s t x v sets slots was = record {
  sets = λ k. inl (ap (λ (xss : List (List ℕ)). slice_index_or xss k []) sets);
  oranges = λ y is. elim (written s x v y) [
    | inl own ↦ ap (λ n. (slot_at s n).colour) own.0 ∙ was (sym (ap (λ (u : Slot). u.colour) (ap (λ (ss : List Slot). slice_index_or ss y absent) slots ∙ own.1)) ∙ is)
    | inr other ↦ sym (ap (λ (u : Slot). u.colour) (ap (λ (ss : List Slot). slice_index_or ss y absent) slots ∙ other)) ∙ is
  ];
}

-- the sets before the last
earlier_or : (sets : List (List ℕ)) (k : ℕ) → (slice_index_or (earlier_sets sets) k [] ≡ slice_index_or sets k []) ⊎ (slice_index_or (earlier_sets sets) k [] ≡ [])
earlier_or sets k = elim (cases_lt k (length sets - 1)) [
  | inl inside ↦ inl (get_or-take (length sets - 1) sets k [] inside)
  | inr past ↦ inr (get_or_past (earlier_sets sets) k [] (omega (arith, past, length-take (length sets - 1) sets)))
]

-- ---- releases

fades_emptied : (s : State) (z : ℕ) → Fades s (emptied s z)
fades_emptied s z = go (slot_at s z).buffered
  where
    go : (b : Bool) → Fades s (listed_if b s z)
    go true = fades_same s
    go false = fades_alike s (listed_if false s z) refl (λ x. refl)

fades_first : (s : State) (z : ℕ) (zs : List ℕ) → Fades s (without_first (z ∷ zs) s)
fades_first s z zs = fades_written s (without_first (z ∷ zs) s) z (record (slot_at s z) { released = true }) refl refl (λ is. is)

fades_next : (zs : List ℕ) (s : State) → Fades s (next_from zs s).counts
fades_next [] s = fades_same s
fades_next (z ∷ zs) s = go (is_green (slot_at s z).colour) (fades_next zs (emptied (without_first (z ∷ zs) s) z))
  where
    go : (b : Bool) → Fades (emptied (without_first (z ∷ zs) s) z) (next_from zs (emptied (without_first (z ∷ zs) s) z)).counts → (let n : releases.Next = if b then next_from zs (emptied (without_first (z ∷ zs) s) z) else record { at = releases.first_of (z ∷ zs); counts = without_first (z ∷ zs) s } in Fades s n.counts)
    go true rest = fades_on (fades_first s z zs) (fades_on (fades_emptied (without_first (z ∷ zs) s) z) rest)
    go false rest = fades_first s z zs

pub fades_zeros : (lowers : Bool) (v : Parts) → Fades v.counts (zeros_released lowers v).parts.counts
unfolding releases.started_of
fades_zeros lowers v = fades_next v.counts.zeros v.counts

-- one reference less
less_orange : (v : Slot) → (lessened v).colour ≡ Orange → v.colour ≡ Orange
less_orange v = go (stays v) (v.count == 1)
  where
    go : (keeps last : Bool) → (lessened_if keeps last v).colour ≡ Orange → v.colour ≡ Orange
    go true last is = is
    go false true is = absurd (cc)
    go false false is = absurd (cc)

fades_taken_off : (lowers : Bool) (s : State) (target : Option ℕ) → Fades s (taken_off lowers s target)
fades_taken_off lowers s None = fades_same s
fades_taken_off lowers s (Some y) = go (is_lowered lowers (slot_at s y).colour)
  where
    less : Fades s (with_slot s y (lessened (slot_at s y)))
    less = fades_written s (with_slot s y (lessened (slot_at s y))) y (lessened (slot_at s y)) refl refl (less_orange (slot_at s y))

    go : (b : Bool) → Fades s (down_if b s y)
    go true = fades_written s (down_if true s y) y (lowered (slot_at s y)) refl refl (λ is. is)
    go false = fades_on less (fades_alike (with_slot s y (lessened (slot_at s y))) (decremented s y) (rest_decremented s y).sets (λ x. ap (λ (u : Slot). u.colour) (same_slot s y x)))

-- ---- sets

fades_given_up : (s : State) → Fades s (given_up s)
fades_given_up s = record { sets = earlier_or s.sets; oranges = λ x is. go (is_in (length s.sets - 1) (slot_at s x).set) (slot_at s x) (sym (ap (λ (u : Slot). u.colour) (given_slot s x)) ∙ is) }
  where
    go : (b : Bool) (v : Slot) → (dead_if b (unbuffered_if b v)).colour ≡ Orange → v.colour ≡ Orange
    go true v is = absurd (cc)
    go false v is = is

fades_freeing : (v : Parts) → Fades v.counts (with_freeing v (frees.started_of (new_freeing v.fields) v.counts)).parts.counts
unfolding frees.started_of
fades_freeing v = fades_given_up v.counts

-- a set is refused
fades_refurbished : (s t : State) → LastRefurbished s t → Fades s t
fades_refurbished s t r = record {
  sets = λ k. elim (earlier_or s.sets k) [
    | inl same ↦ inl (ap (λ (xss : List (List ℕ)). slice_index_or xss k []) r.sets ∙ same)
    | inr none ↦ inr (ap (λ (xss : List (List ℕ)). slice_index_or xss k []) r.sets ∙ none)
  ];
  oranges = λ x is. elim (cases_lt 0 (times x (last_set s.sets))) [
    | inl member ↦ go (fate_at s (slice_get (last_set s.sets) 0) x) (slot_at s x) (sym (ap (λ (u : Slot). u.colour) (r.inside x member)) ∙ is)
    | inr none ↦ sym (ap (λ (u : Slot). u.colour) (r.others x (omega (arith, none)))) ∙ is
  ];
}
  where
    used : (c : Colour) → in_use c ≡ Orange → c ≡ Orange
    used Green is = absurd (cc)
    used Black is = absurd (cc)
    used Purple is = absurd (cc)
    used Gray is = absurd (cc)
    used White is = absurd (cc)
    used Orange is = refl

    go : (fate : Fate) (v : Slot) → (refurbished fate v).colour ≡ Orange → v.colour ≡ Orange
    go fates.Free v is = is
    go fates.Zero v is = used v.colour is
    go fates.Root v is = absurd (cc)
    go fates.Plain v is = used v.colour is

-- a preparation
pub fades_others : (s t : State) → KeepsOthers s t → Fades s t
fades_others s t k = fades_alike s t k.sets (λ x. ap (λ (v : Slot). v.colour) (k.slots x))

-- ---- a trial that is postponed

fades_rotated : (s : State) (rs : List ℕ) → Fades s (rotated_by rs s)
fades_rotated s [] = fades_same s
fades_rotated s (x ∷ xs) = fades_on (fades_written s u x (record (slot_at s x) { buffered = false }) refl refl (λ is. is)) (go (slot_at u x).released)
  where
    u : State
    u = without_root (x ∷ xs) s

    go : (b : Bool) → Fades u (returned_if b u x)
    go true = fades_alike u (returned_if true u x) refl (λ y. refl)
    go false = fades_written u (returned_if false u x) x (record (slot_at u x) { buffered = true }) refl refl (λ is. is)

fades_rotations : (n : ℕ) (s : State) → Fades s (rotated_in n s)
fades_rotations zero s = fades_same s
fades_rotations (suc n) s = fades_on (fades_rotated s s.roots) (fades_rotations n (rotated s))

pub fades_postponed : (s : State) → Fades s (postponed s)
unfolding postponed
fades_postponed s = fades_rotations (length s.roots) s

-- ---- from one state of a collection to the next

-- the test of a set
pub fades_tested : (v : Parts) (c : Begun) → IsTested v c → Fades v.counts c.parts.counts
fades_tested v c (IsTested.passes orange none is) = subst (λ (b : Begun). Fades v.counts b.parts.counts) (sym is) (fades_freeing v)
fades_tested v c (IsTested.fails_delta s touched last is) = subst (λ (b : Begun). Fades v.counts b.parts.counts) (sym is) (fades_on (fades_refurbished v.counts s last) (fades_zeros true (record v { counts = s })))
fades_tested v c (IsTested.fails_sigma s orange held last is) = subst (λ (b : Begun). Fades v.counts b.parts.counts) (sym is) (fades_on (fades_refurbished v.counts s last) (fades_zeros true (record v { counts = s })))

-- a release, or the freeing of a set, with a word that came out
pub fades_released : (m : releases.Machine) (v : Parts) (word : ℕ) → IsSome m.at → Fades v.counts (with_released m v word).parts.counts
fades_released m v word busy = released_by (λ b. Fades v.counts b.parts.counts) m v word busy
    (λ a at more. fades_taken_off m.lowers v.counts (target_of word))
    (λ a at last. let s : State = emptied (taken_off m.lowers v.counts (target_of word)) a.slot in fades_on (fades_taken_off m.lowers v.counts (target_of word)) (fades_on (fades_emptied (taken_off m.lowers v.counts (target_of word)) a.slot) (fades_next s.zeros s)))

pub fades_freed : (m : frees.Machine) (v : Parts) (word : ℕ) → IsSome m.at → Fades v.counts (with_freed m v word).parts.counts
fades_freed m v word busy = freed_by (λ b. Fades v.counts b.parts.counts) m v word busy
    (λ a at more. fades_taken_off true v.counts (target_of word))
    (λ a at last more. fades_taken_off true v.counts (target_of word))
    (λ a at last none.
    let s : State = taken_off true v.counts (target_of word) in
    fades_on (fades_taken_off true v.counts (target_of word)) (fades_on (fades_alike s (frees.listed s) refl (λ x. refl)) (fades_zeros true (freed_listed v word))))

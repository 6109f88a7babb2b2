-- Where a word comes out of a field, its target is in a list then, or Green; and a set that is given up is released.
use Rattle.std.proofs.Common.{◌≡◌, ◌≢◌, inl, inr, ℕ, ◌-◌, ◌<◌, ◌≤◌, ◌==◌, ◌||◌, true, false, Bool, Option, None, Some, List, [], ◌∷◌, ◌++◌, length, refl, sym, ap, subst, ◌∙◌, arith}
use Rattle.std.specs.List.{concat}
use Rattle.std.proofs.lemmas.Bool.{cases_eq, cases_lt, false≢true}
use Rattle.std.proofs.lemmas.List.{get_or-set_same, get_or-set_other}
use Rattle.std.proofs.lemmas.Option.{same_Some}
use Rattle.rec_core.proofs.Common.{is_green, State, slot_at, with_slot, sent, one, times, absent, Slot, times-append, decremented, due_of, lessened, lessened_if, stays, lowered, taken_off, down_if, is_lowered, is_orange, IsApart, given_up, dead_if, IsFreeable, is_in, unbuffered_if}
use Rattle.rec_counts.specs.declared.colour.Colour.{Colour}
use Rattle.rec_counts.specs.declared.colour.Colour.TheVariants.{Black, Purple, Orange}
use Rattle.rec_counts.specs.declared.slot.Due.{Due}
use Rattle.rec_counts.specs.declared.slot.Due.TheVariants.{Nothing, Zero, Root}
use Rattle.rec_counts.specs.Colour.{is_purple}
use Rattle.rec_counts.specs.Counts.{IsKept as IsKeptCounts}
use Rattle.rec_counts.specs.Groups.{earlier_sets, last_set}
use Rattle.rec_counts.specs.Slot.{due_if}
use Rattle.rec_counts.proofs.Decrementing.{rest_decremented, same_slot}
use Rattle.rec_counts.proofs.Keeping.{unreleased_within}
use Rattle.rec_counts.proofs.Times.{one-none, one-same, one-some, times_push}
use Rattle.rec_release.proofs.Giving.{given_released, given_slot}
use Rattle.rec_release.proofs.TakenOff.{written}
use Rattle.rec_trial.proofs.Views.{concat_last}
use Rattle.rec_prompt.specs.Cover.{IsListed}
use Rattle.rec_prompt.proofs.Heeding.{Heeds, heeds_alike, heeds_same, IsOwned, IsSeen}

-- one reference less leaves a Green slot Green and a released one released
less_green : (v : Slot) → is_green (lessened v).colour ≡ is_green v.colour
less_green v = go v.released (is_green v.colour) (v.count == 1) refl
  where
    go : (r g last : Bool) → is_green v.colour ≡ g → is_green (lessened_if (r || g) last v).colour ≡ is_green v.colour
    go true g last is = refl
    go false true last is = refl
    go false false true is = sym is
    go false false false is = sym is

less_released : (v : Slot) → (lessened v).released ≡ v.released
less_released v = go (stays v) (v.count == 1)
  where
    go : (r last : Bool) → (lessened_if r last v).released ≡ v.released
    go true last = refl
    go false true = refl
    go false false = refl

-- where a slot goes that has one reference less: it is released or Green, a zero, a root, or Purple and in a buffer already
data Goes (v : Slot) (due : Due) : Type 0 where
  gone : v.released ≡ true → Goes v due
  green : is_green v.colour ≡ true → Goes v due
  to_zeros : due ≡ Zero → Goes v due
  to_roots : due ≡ Root → v.released ≡ false → (lessened v).colour ≡ Purple → Goes v due
  waits : v.buffered ≡ true → v.released ≡ false → (lessened v).colour ≡ Purple → Goes v due

goes : (v : Slot) → Goes v (due_of v)
goes v = go v.released (is_green v.colour) (v.count == 1) v.buffered refl refl refl (λ e. e)
  where
    go : (r g last b : Bool) → v.released ≡ r → is_green v.colour ≡ g → v.buffered ≡ b → (let w : Slot = lessened_if (r || g) last v in ((w.colour ≡ Purple → (lessened v).colour ≡ Purple) → Goes v (due_if r last (b || g))))
    go true g last b is plain own same = Goes.gone is
    go false true last b is plain own same = Goes.green plain
    go false false true b is plain own same = Goes.to_zeros refl
    go false false false true is plain own same = Goes.waits own is (same refl)
    go false false false false is plain own same = Goes.to_roots refl is (same refl)

-- One reference to the slot less.
module _ (s : State) (x : ℕ) where
  abbrev v : Slot
  v = slot_at s x

  abbrev w : State
  w = with_slot s x (lessened v)

  own_released : (y : ℕ) → (slot_at (decremented s x) y).released ≡ (slot_at s y).released
  own_released y = ap (λ (u : Slot). u.released) (same_slot s x y) ∙ elim (written s x (lessened v) y) [
    | inl own ↦ ap (λ (u : Slot). u.released) own.1 ∙ less_released v ∙ ap (λ n. (slot_at s n).released) (sym own.0)
    | inr other ↦ ap (λ (u : Slot). u.released) other
  ]

  own_green : (y : ℕ) → is_green (slot_at (decremented s x) y).colour ≡ is_green (slot_at s y).colour
  own_green y = ap (λ (u : Slot). is_green u.colour) (same_slot s x y) ∙ elim (written s x (lessened v) y) [
    | inl own ↦ ap (λ (u : Slot). is_green u.colour) own.1 ∙ less_green v ∙ ap (λ n. is_green (slot_at s n).colour) (sym own.0)
    | inr other ↦ ap (λ (u : Slot). is_green u.colour) other
  ]

  -- the zeros and the roots only grow
  more_zeros : (y : ℕ) → times y s.zeros ≤ times y (decremented s x).zeros
  more_zeros y = go (due_of v)
    where
      go : (d : Due) → times y s.zeros ≤ times y (sent d w x).zeros
      go Nothing = omega arith
      go Zero = omega (arith, times_push y s.zeros x)
      go Root = omega arith

  more_roots : (y : ℕ) → times y s.roots ≤ times y (decremented s x).roots
  more_roots y = go (due_of v)
    where
      go : (d : Due) → times y s.roots ≤ times y (sent d w x).roots
      go Nothing = omega arith
      go Zero = omega arith
      go Root = omega (arith, times_push y s.roots x)

  -- it is Purple then, where that is so
  is_purple_then : v.released ≡ false → (lessened v).colour ≡ Purple → is_purple (slot_at (decremented s x) x).colour ≡ true
  is_purple_then there purple =
      ap (λ (u : Slot). is_purple u.colour) (same_slot s x x ∙ get_or-set_same s.slots x (lessened v) absent (unreleased_within s x there)) ∙ ap is_purple purple

  -- it is in a list then, or Green
  pub seen_lessened : IsKeptCounts s → IsSeen (decremented s x) x
  seen_lessened kept = go (goes v)
    where
      go : Goes v (due_of v) → IsSeen (decremented s x) x
      go (Goes.gone is) = inl (IsListed.released (own_released x ∙ is))
      go (Goes.green is) = inr (own_green x ∙ is)
      go (Goes.to_zeros is) = inl (IsListed.zero (let at : times x (decremented s x).zeros ≡ times x (s.zeros ++ x ∷ []) = ap (λ d. times x (sent d w x).zeros) is in omega (arith, at, times_push x s.zeros x, one-same x)))
      go (Goes.to_roots is there purple) = inl (IsListed.root (let at : times x (decremented s x).roots ≡ times x (s.roots ++ x ∷ []) = ap (λ d. times x (sent d w x).roots) is in omega (arith, at, times_push x s.roots x, one-same x)) (is_purple_then there purple))
      go (Goes.waits is there purple) = elim (cases_lt 0 (times x (concat s.sets))) [
        | inl member ↦ inl (IsListed.member (omega (arith, member, ap (λ (xss : List (List ℕ)). times x (concat xss)) (rest_decremented s x).sets)))
        | inr none ↦ inl (IsListed.root (omega (arith, none, kept.buffers x, ap one is, more_roots x)) (is_purple_then there purple))
      ]

  pub heeds_lessened : IsKeptCounts s → Heeds s (decremented s x)
  heeds_lessened kept = record { greens = own_green; lists = λ y is. elim (cases_eq y x) [ inl same ↦ subst (IsSeen (decremented s x)) (sym same) (seen_lessened kept) | inr other ↦ others y other is ]; gone = λ y is. own_released y ∙ is; kept = λ y some. inr (omega (arith, some, ap (λ (xss : List (List ℕ)). times y (concat xss)) (rest_decremented s x).sets)) }
    where
      others : (y : ℕ) → y ≢ x → IsListed s y → IsSeen (decremented s x) y
      others y other (IsListed.released is) = inl (IsListed.released (own_released y ∙ is))
      others y other (IsListed.zero some) = inl (IsListed.zero (omega (arith, some, more_zeros y)))
      others y other (IsListed.root some purple) = inl (IsListed.root (omega (arith, some, more_roots y))
          (ap (λ (u : Slot). is_purple u.colour) (same_slot s x y ∙ get_or-set_other s.slots x y (lessened v) absent other) ∙ purple))
      others y other (IsListed.member some) = inl (IsListed.member (omega (arith, some, ap (λ (xss : List (List ℕ)). times y (concat xss)) (rest_decremented s x).sets)))
      others y other (IsListed.marked some) = inl (IsListed.marked (omega (arith, some, ap (times y) (rest_decremented s x).marked)))

-- one reference less of an Orange slot, in both its counts
lowered_alike : (s : State) (x : ℕ) → Heeds s (with_slot s x (lowered (slot_at s x)))
lowered_alike s x = heeds_alike s (with_slot s x (lowered (slot_at s x)))
    (λ y. elim (written s x (lowered (slot_at s x)) y) [ inl own ↦ ap (λ (u : Slot). u.colour) own.1 ∙ ap (λ n. (slot_at s n).colour) (sym own.0) | inr other ↦ ap (λ (u : Slot). u.colour) other ])
    (λ y is. elim (written s x (lowered (slot_at s x)) y) [ inl own ↦ ap (λ (u : Slot). u.released) own.1 ∙ ap (λ n. (slot_at s n).released) (sym own.0) ∙ is | inr other ↦ ap (λ (u : Slot). u.released) other ∙ is ])
    (λ y. omega arith) (λ y. omega arith) (λ y. omega arith) (λ y. omega arith)

-- The reference that a word was is taken off: what was in a list is in one then, and so is the target.
pub heeds_taken_off : (lowers : Bool) (s : State) (target : Option ℕ) → IsKeptCounts s → IsApart s → Heeds s (taken_off lowers s target) × ((x : ℕ) → target ≡ Some x → IsSeen (taken_off lowers s target) x)
heeds_taken_off lowers s None kept apart = (heeds_same s, λ x is. absurd (cc))
heeds_taken_off lowers s (Some y) kept apart = (both.0, λ x is. subst (IsSeen (taken_off lowers s (Some y))) (same_Some y x is) both.1)
  where
    orange : (c : Colour) → is_orange c ≡ true → c ≡ Orange
    orange Orange is = refl
    orange _ is = absurd (false≢true is)

    go : (b : Bool) → (b ≡ true → (slot_at s y).colour ≡ Orange) → Heeds s (down_if b s y) × IsSeen (down_if b s y) y
    go true is = (lowered_alike s y, inl (IsListed.member (apart y (is refl)).member))
    go false is = (heeds_lessened s y kept, seen_lessened s y kept)

    lowered_orange : (l : Bool) (c : Colour) → is_lowered l c ≡ true → c ≡ Orange
    lowered_orange true c is = orange c is
    lowered_orange false c is = absurd (false≢true is)

    both : Heeds s (taken_off lowers s (Some y)) × IsSeen (taken_off lowers s (Some y)) y
    both = go (is_lowered lowers (slot_at s y).colour) (lowered_orange lowers (slot_at s y).colour)

-- The last set is given up: its members are released, and all else is as it was.
pub heeds_given_up : (s : State) → IsKeptCounts s → IsFreeable s → Heeds s (given_up s)
heeds_given_up s kept f = record { greens = λ x. elim (cases_lt 0 (times x (last_set s.sets))) [ inl member ↦ ap is_green (black x member) ∙ sym (ap is_green (f.orange x member)) | inr none ↦ ap is_green (other x (omega (arith, none))) ]; lists = lists; gone = stays_gone; kept = member_kept }
  where
    number : ℕ
    number = length s.sets - 1

    gone : (x : ℕ) → 0 < times x (last_set s.sets) → (slot_at (given_up s) x).released ≡ true
    gone x member = one-some (slot_at (given_up s) x).released (omega (arith, member, given_released s x kept f))

    black : (x : ℕ) → 0 < times x (last_set s.sets) → (slot_at (given_up s) x).colour ≡ Black
    black x member =
        let inside : is_in number (slot_at s x).set ≡ true = one-some (is_in number (slot_at s x).set) (omega (arith, member, kept.numbers number x)) in
        ap (λ (u : Slot). u.colour) (given_slot s x) ∙ ap (λ b. (dead_if b (unbuffered_if b (slot_at s x))).colour) inside

    other : (x : ℕ) → times x (last_set s.sets) ≡ 0 → (slot_at (given_up s) x).colour ≡ (slot_at s x).colour
    other x none =
        let outside : is_in number (slot_at s x).set ≡ false = one-none (is_in number (slot_at s x).set) (omega (arith, none, kept.numbers number x)) in
        ap (λ (u : Slot). u.colour) (given_slot s x) ∙ ap (λ b. (dead_if b (unbuffered_if b (slot_at s x))).colour) outside

    stays_gone : (x : ℕ) → (slot_at s x).released ≡ true → (slot_at (given_up s) x).released ≡ true
    stays_gone x is = one-some (slot_at (given_up s) x).released (omega (arith, ap one is, given_released s x kept f))

    member_kept : (x : ℕ) → 0 < times x (concat s.sets) → IsOwned (given_up s) x
    member_kept x some = elim (cases_lt 0 (times x (last_set s.sets))) [
      | inl member ↦ inl (gone x member)
      | inr none ↦ inr (omega (arith, some, none, ap (times x) (concat_last s.sets), times-append x (concat (earlier_sets s.sets)) (last_set s.sets)))
    ]

    lists : (x : ℕ) → IsListed s x → IsSeen (given_up s) x
    lists x (IsListed.released is) = inl (IsListed.released (one-some (slot_at (given_up s) x).released (omega (arith, ap one is, given_released s x kept f))))
    lists x (IsListed.zero some) = inl (IsListed.zero some)
    lists x (IsListed.root some purple) = elim (cases_lt 0 (times x (last_set s.sets))) [
      | inl member ↦ inl (IsListed.released (gone x member))
      | inr none ↦ inl (IsListed.root some (ap is_purple (other x (omega (arith, none))) ∙ purple))
    ]
    lists x (IsListed.member some) = elim (cases_lt 0 (times x (last_set s.sets))) [
      | inl member ↦ inl (IsListed.released (gone x member))
      | inr none ↦ inl (IsListed.member (omega (arith, some, none, ap (times x) (concat_last s.sets), times-append x (concat (earlier_sets s.sets)) (last_set s.sets))))
    ]
    lists x (IsListed.marked some) = inl (IsListed.marked some)

-- Where nothing but the collector changes words, every set passes its tests, the last first.
use Rattle.std.proofs.Common.{◌≡◌, ◌≢◌, inl, inr, ℕ, ◌+◌, ◌-◌, ◌*◌, ◌/◌, ◌<◌, Bool, true, false, not, eqb, Option, Some, None, List, [], ◌∷◌, length, get_or, set, refl, sym, ap, ◌∙◌, arith}
use Rattle.std.proofs.lemmas.Bool.Decides.{eqb_tells}
use Rattle.std.proofs.lemmas.Bool.{cases_lt, false≢true, ne_eqb}
use Rattle.std.proofs.lemmas.List.{get_or-set_same, get_or-set_other, get_or_past, length-set}
use Rattle.rec_core.proofs.Common.{target_of, is_slot, only_if, sum_at_same, sum_at-set, Slot, State, slot_at, with_slot, decremented, one, absent, is_in, lessened, lowered, is_orange, field_kept, times-cons, down_if, taken_off, Load, PreparedTo}
use Rattle.rec_settle.specs.Settling.{leading, heap_sum, leading_outside, outside_sum, AreLoadsOf, LeadBack, AreUnheld}
use Rattle.rec_counts.specs.declared.colour.Colour.{Colour}
use Rattle.rec_counts.specs.declared.colour.Colour.TheVariants.{Black, Orange}
use Rattle.rec_counts.specs.Counts.{IsKept}
use Rattle.rec_counts.specs.Rest.{KeepsRest}
use Rattle.rec_counts.proofs.Decrementing.{rest_decremented, same_slot}
use Rattle.rec_release.proofs.Orange.{orange_from}
use Rattle.rec_sigma.proofs.Cyclics.{in_set}
use Rattle.rec_settle.proofs.Rest.SettlingPrepared.{prepared_at_rest}

-- the same sum, where the same slots are in the set
pub outside_same : (words : List ℕ) (fields : ℕ) (s t : State) (number x : ℕ) → ((n : ℕ) → is_in number (slot_at t n).set ≡ is_in number (slot_at s n).set) → outside_sum words fields t number x ≡ outside_sum words fields s number x
outside_same words fields s t number x h =
    sum_at_same (leading_outside fields t number x) (leading_outside fields s number x) words (λ p word. ap (λ b. only_if (not b) (leading x word)) (h (p / fields)))

-- Counts that differ in nothing that matters here: which slots are in which sets, which are released, and the members' colours and
-- cyclic counts.
pub record AreAlike (s t : State) : Type 0 where
  pub set : (x : ℕ) → (slot_at t x).set ≡ (slot_at s x).set
  pub released : (x : ℕ) → (slot_at t x).released ≡ (slot_at s x).released
  pub colour : (x i : ℕ) → (slot_at s x).set ≡ Some i → (slot_at s x).colour ≡ Orange → (slot_at t x).colour ≡ Orange

back_alike : (fields : ℕ) (words left : List ℕ) (s t : State) → AreAlike s t → LeadBack fields words left s → LeadBack fields words left t
back_alike fields words left s t a b = record {
  orange = λ x i e. a.colour x i (sym (a.set x) ∙ e) (b.orange x i (sym (a.set x) ∙ e));
  unreleased = λ x i e. a.released x ∙ b.unreleased x i (sym (a.set x) ∙ e);
  emptied = λ p l e z. b.emptied p l (sym (a.released (p / fields)) ∙ e) z;
  earlier = λ p x i j l e f h. b.earlier p x i j l (sym (a.set (p / fields)) ∙ e) (sym (a.set x) ∙ f) h;
  members = λ p x j l u e f h. b.members p x j l (sym (a.released (p / fields)) ∙ u) (sym (a.set (p / fields)) ∙ e) (sym (a.set x) ∙ f) h;
}

-- what such a change leaves
pub unheld_alike : (fields : ℕ) (words left : List ℕ) (s t : State) → AreAlike s t → ((x i : ℕ) → (slot_at s x).set ≡ Some i → (slot_at t x).cyclic ≡ (slot_at s x).cyclic) → AreUnheld fields words left s → AreUnheld fields words left t
unheld_alike fields words left s t a c u = record {
  back = back_alike fields words left s t a u.back;
  cyclic = λ x i e.
      let was : (slot_at s x).set ≡ Some i = sym (a.set x) ∙ e in
      c x i was ∙ u.cyclic x i was ∙ sym (outside_same words fields s t i x (λ n. ap (is_in i) (a.set n)));
}

-- After a preparation at rest no set is held.
pub unheld_prepared : (fields : ℕ) (words : List ℕ) (before after : State) (loads : List Load) → 0 < fields → IsKept before → length words ≡ length before.slots * fields → AreLoadsOf fields words loads → PreparedTo fields before None after loads →
    ((x i : ℕ) → (slot_at before x).set ≡ Some i → (slot_at before x).count ≡ heap_sum words x) → LeadBack fields words [] before → AreUnheld fields words [] after
unheld_prepared fields words before after loads some k long still p counted b = record {
  back = back_alike fields words [] before after alike b;
  cyclic = λ x i e.
      let was : (slot_at before x).set ≡ Some i = sym (alike.set x) ∙ e in
      prepared_at_rest fields words before after loads some k long still p i x was (counted x i was) ∙ sym (outside_same words fields before after i x (λ n. ap (is_in i) (alike.set n)));
}
  where
    alike : AreAlike before after
    alike = record {
      set = λ x. ap (λ (v : Slot). v.set) (p.others.slots x);
      released = λ x. ap (λ (v : Slot). v.released) (p.others.slots x);
      colour = λ x i e o. ap (λ (v : Slot). v.colour) (p.others.slots x) ∙ o;
    }

-- what comes of the counts of a member, where a reference is taken off its target
record IsOff (s t : State) (target : Option ℕ) : Type 0 where
  alike : AreAlike s t
  cyclic : (x i : ℕ) → (slot_at s x).set ≡ Some i → (slot_at s x).colour ≡ Orange → (slot_at t x).cyclic ≡ (slot_at s x).cyclic - one (is_slot x target)

-- an orange target is lowered
off_lowered : (s : State) (y : ℕ) → (slot_at s y).colour ≡ Orange → IsOff s (with_slot s y (lowered (slot_at s y))) (Some y)
off_lowered s y o = record {
  alike = record {
    set = λ x. field_kept (λ (v : Slot). v.set) s.slots y (lowered (slot_at s y)) refl x;
    released = λ x. field_kept (λ (v : Slot). v.released) s.slots y (lowered (slot_at s y)) refl x;
    colour = λ x i e h. field_kept (λ (v : Slot). v.colour) s.slots y (lowered (slot_at s y)) refl x ∙ h;
  };
  cyclic = λ x i e h. elim (eqb_tells x y) [
    | inl q ↦
        let n : one (eqb x y) ≡ 1 = ap one q.0 in
        let c : (slot_at (with_slot s y (lowered (slot_at s y))) x).cyclic ≡ (slot_at s x).cyclic - 1 =
        ap (λ z. (slot_at (with_slot s y (lowered (slot_at s y))) z).cyclic) q.1 ∙ ap (λ (v : Slot). v.cyclic) (get_or-set_same s.slots y (lowered (slot_at s y)) absent within) ∙ ap (λ z. (slot_at s z).cyclic - 1) (sym q.1) in
        omega (arith, n, c)
    | inr q ↦
        let n : one (eqb x y) ≡ 0 = ap one q.0 in
        let c : (slot_at (with_slot s y (lowered (slot_at s y))) x).cyclic ≡ (slot_at s x).cyclic = ap (λ (v : Slot). v.cyclic) (get_or-set_other s.slots y x (lowered (slot_at s y)) absent q.1) in
        omega (arith, n, c)
  ];
}
  where
    within : y < length s.slots
    within = elim (cases_lt y (length s.slots)) [
      | inl l ↦ l
      | inr l ↦ let black : Black ≡ Orange = ap (λ (v : Slot). v.colour) (sym (get_or_past s.slots y absent l)) ∙ o in cc
    ]

-- another slot keeps all
decremented_other : (s : State) (y x : ℕ) → x ≢ y → slot_at (decremented s y) x ≡ slot_at s x
decremented_other s y x d = same_slot s y x ∙ get_or-set_other s.slots y x (lessened (slot_at s y)) absent d

-- a target that is not orange is decremented
off_decremented : (s : State) (y : ℕ) → ((slot_at s y).colour ≡ Orange → ⊥) → IsOff s (decremented s y) (Some y)
off_decremented s y d =
    let k : KeepsRest s (decremented s y) = rest_decremented s y in
    record {
      alike = record {
        set = k.set;
        released = k.released;
        colour = λ x i e h. ap (λ (v : Slot). v.colour) (decremented_other s y x (apart x h)) ∙ h;
      };
      cyclic = λ x i e h. let n : one (eqb x y) ≡ 0 = ap one (ne_eqb x y (apart x h)) in omega (arith, k.cyclic x, n);
    }
  where
    apart : (x : ℕ) → (slot_at s x).colour ≡ Orange → x ≢ y
    apart x h e = d (ap (λ z. (slot_at s z).colour) (sym e) ∙ h)

orange_not : (c : Colour) → is_orange c ≡ false → c ≡ Orange → ⊥
orange_not Orange e h = cc
orange_not _ e h = cc

off : (s : State) (target : Option ℕ) → IsOff s (taken_off true s target) target
off s None = record { alike = record { set = λ x. refl; released = λ x. refl; colour = λ x i e h. h }; cyclic = λ x i e h. omega arith }
off s (Some y) = go (is_orange (slot_at s y).colour) refl
  where
    go : (b : Bool) → is_orange (slot_at s y).colour ≡ b → IsOff s (down_if b s y) (Some y)
    go true e = off_lowered s y (orange_from (slot_at s y).colour e)
    go false e = off_decremented s y (orange_not (slot_at s y).colour e)

-- a slot that is released is in no set
released_in_none : (fields : ℕ) (words left : List ℕ) (s : State) (n number : ℕ) → LeadBack fields words left s → (slot_at s n).released ≡ true → is_in number (slot_at s n).set ≡ false
released_in_none fields words left s n number b r = go (is_in number (slot_at s n).set) refl
  where
    go : (c : Bool) → is_in number (slot_at s n).set ≡ c → c ≡ false
    go true e = absurd (false≢true (sym (b.unreleased n number (in_set number (slot_at s n).set e)) ∙ r))
    go false e = refl

module _ (fields : ℕ) (words left : List ℕ) (s : State) (place : ℕ) (inside : place < length words) (gone : (slot_at s (place / fields)).released ≡ true) where
  -- a word elsewhere stays
  cleared_word : (p : ℕ) → p ≢ place → get_or (set words place 0) p 0 ≡ get_or words p 0
  cleared_word p d = get_or-set_other words place p 0 0 d

  -- what leads somewhere led there before
  led : (p x : ℕ) → target_of (get_or (set words place 0) p 0) ≡ Some x → target_of (get_or words p 0) ≡ Some x
  led p x h = elim (eqb_tells p place) [
    | inl q ↦
        let null : get_or (set words place 0) p 0 ≡ 0 = ap (λ k. get_or (set words place 0) k 0) q.1 ∙ get_or-set_same words place 0 0 inside in
        let none : None ≡ Some x = ap target_of (sym null) ∙ h in
        cc
    | inr q ↦ ap target_of (sym (cleared_word p q.1)) ∙ h
  ]

  still_inside : (p : ℕ) → p < length (set words place 0) → p < length words
  still_inside p l = omega (arith, l, length-set words place 0)

  cleared_back : LeadBack fields words (place ∷ left) s → LeadBack fields (set words place 0) left s
  cleared_back b = record {
    orange = b.orange;
    unreleased = b.unreleased;
    emptied = λ p l e z. elim (eqb_tells p place) [
      | inl q ↦ ap target_of (ap (λ k. get_or (set words place 0) k 0) q.1 ∙ get_or-set_same words place 0 0 inside)
      | inr q ↦ let n : one (eqb p place) ≡ 0 = ap one q.0 in ap target_of (cleared_word p q.1) ∙ b.emptied p (still_inside p l) e (omega (arith, times-cons p place left, n, z))
    ];
    earlier = λ p x i j l e f h. b.earlier p x i j (still_inside p l) e f (led p x h);
    members = λ p x j l u e f h. b.members p x j (still_inside p l) u e f (led p x h);
  }

  -- one field less leads to the target of what came out
  cleared_sum : LeadBack fields words (place ∷ left) s → (number x : ℕ) → outside_sum (set words place 0) fields s number x + leading x (get_or words place 0) ≡ outside_sum words fields s number x
  cleared_sum b number x =
      let out : is_in number (slot_at s (place / fields)).set ≡ false = released_in_none fields words (place ∷ left) s (place / fields) number b gone in
      let counts : leading_outside fields s number x place (get_or words place 0) ≡ leading x (get_or words place 0) = ap (λ c. only_if (not c) (leading x (get_or words place 0))) out in
      let null : leading_outside fields s number x place 0 ≡ 0 = ap (λ c. only_if (not c) (leading x 0)) out in
      omega (arith, sum_at-set (leading_outside fields s number x) words place 0 0 inside, counts, null)

  -- A field of a released slot is exchanged, and its target is lowered or decremented.
  pub unheld_cleared : AreUnheld fields words (place ∷ left) s → AreUnheld fields (set words place 0) left (taken_off true s (target_of (get_or words place 0)))
  unheld_cleared u =
      let t : State = taken_off true s (target_of (get_or words place 0)) in
      let o : IsOff s t (target_of (get_or words place 0)) = off s (target_of (get_or words place 0)) in
      record {
        back = back_alike fields (set words place 0) left s t o.alike (cleared_back u.back);
        cyclic = λ x i e.
            let was : (slot_at s x).set ≡ Some i = sym (o.alike.set x) ∙ e in
            omega (
              arith,
              o.cyclic x i was (u.back.orange x i was),
              u.cyclic x i was,
              cleared_sum u.back i x,
              outside_same (set words place 0) fields s t i x (λ n. ap (is_in i) (o.alike.set n)),
            );
      }

-- The last set passes its tests where nothing holds it, and is given up.
use Rattle.std.proofs.Common.{◌≡◌, ◌≢◌, inl, inr, ℕ, ◌-◌, ◌/◌, ◌<◌, Bool, true, false, not, Option, Some, None, List, [], ◌∷◌, length, get_or, refl, sym, ap, ◌∙◌, arith, sum_by}
use Rattle.std.proofs.lemmas.Bool.Decides.{eqb_tells}
use Rattle.std.proofs.lemmas.Bool.{false≢true}
use Rattle.std.proofs.lemmas.List.Sums.{sum_by-cons}
use Rattle.rec_core.proofs.Common.{target_of, is_slot, places_of, only_if, sum_at_same, Slot, State, slot_at, one, times, is_in, unbuffered_if, one-same, times-nil, times-cons, one-some, set_there, dead_if, given_up, members_of}
use Rattle.rec_core.proofs.SetTests.{last_number}
use Rattle.rec_settle.specs.Settling.{leading, leading_outside, outside_sum, AreUnheld}
use Rattle.rec_model.proofs.Places.{sum_at_none-from_get_or}
use Rattle.rec_counts.specs.Counts.{IsKept}
use Rattle.rec_counts.specs.Groups.{last_set}
use Rattle.rec_release.proofs.Giving.{given_slot}
use Rattle.rec_sigma.specs.Judged.{AreOrange, cyclic_sum}
use Rattle.rec_sigma.proofs.Cyclics.{in_set, other_set, own_set}
use Rattle.rec_settle.proofs.Rest.SettlingSums.{times_places}

-- a slot that was given up is released, and in no set; any other stays
pub record IsGivenUp (b : Bool) (v w : Slot) : Type 0 where
  pub members : b ≡ true → (w.released ≡ true) × (w.set ≡ None)
  pub others : b ≡ false → w ≡ v

given_if : (b : Bool) (v : Slot) → IsGivenUp b v (dead_if b (unbuffered_if b v))
given_if true v = record { members = λ e. (refl, refl); others = λ e. cc }
given_if false v = record { members = λ e. cc; others = λ e. refl }

-- so is each slot, as the last set is given up
pub given : (s : State) (x : ℕ) → IsGivenUp (is_in (length s.sets - 1) (slot_at s x).set) (slot_at s x) (slot_at (given_up s) x)
given s x = rw (given_slot s x) (given_if (is_in (length s.sets - 1) (slot_at s x).set) (slot_at s x))

-- what is in a set then was in no other before
pub record StillIn (s : State) (x i : ℕ) : Type 0 where
  pub same : slot_at (given_up s) x ≡ slot_at s x
  pub was : (slot_at s x).set ≡ Some i
  pub other : i ≢ length s.sets - 1

-- what is in a set then was in it before
pub still_in : (s : State) (x i : ℕ) → (slot_at (given_up s) x).set ≡ Some i → StillIn s x i
still_in s x i e = go (is_in (length s.sets - 1) (slot_at s x).set) refl (given s x)
  where
    go : (b : Bool) → is_in (length s.sets - 1) (slot_at s x).set ≡ b → IsGivenUp b (slot_at s x) (slot_at (given_up s) x) → StillIn s x i
    go true q g = let none : None ≡ Some i = sym (g.members refl).1 ∙ e in cc
    go false q g =
        let same : slot_at (given_up s) x ≡ slot_at s x = g.others refl in
        let was : (slot_at s x).set ≡ Some i = sym (ap (λ (v : Slot). v.set) same) ∙ e in
        record {
          same = same;
          was = was;
          other = λ h. false≢true (sym q ∙ ap (is_in (length s.sets - 1)) was ∙ eq_is h);
        }
      where
        eq_is : i ≡ length s.sets - 1 → is_in (length s.sets - 1) (Some i) ≡ true
        eq_is h = ap (λ k. is_in (length s.sets - 1) (Some k)) h ∙ own_set (length s.sets - 1)

-- so the other sets have the slots that they had
same_others : (s : State) (i n : ℕ) → i ≢ length s.sets - 1 → is_in i (slot_at (given_up s) n).set ≡ is_in i (slot_at s n).set
same_others s i n d = go (is_in (length s.sets - 1) (slot_at s n).set) refl (given s n)
  where
    go : (b : Bool) → is_in (length s.sets - 1) (slot_at s n).set ≡ b → IsGivenUp b (slot_at s n) (slot_at (given_up s) n) → is_in i (slot_at (given_up s) n).set ≡ is_in i (slot_at s n).set
    go true q g = ap (is_in i) (g.members refl).1 ∙ sym (ap (is_in i) (in_set (length s.sets - 1) (slot_at s n).set q) ∙ other_set i (length s.sets - 1) d)
    go false q g = ap (λ (v : Slot). is_in i v.set) (g.others refl)

-- The last set is given up: its fields are still to be exchanged.
pub unheld_given_up : (fields : ℕ) (words : List ℕ) (s : State) → 0 < fields → IsKept s → AreUnheld fields words [] s → AreUnheld fields words (places_of fields (last_set s.sets)) (given_up s)
unheld_given_up fields words s some k u = record {
  back = record {
    orange = λ x i e. let q = still_in s x i e in ap (λ (v : Slot). v.colour) q.same ∙ u.back.orange x i q.was;
    unreleased = λ x i e. let q = still_in s x i e in ap (λ (v : Slot). v.released) q.same ∙ u.back.unreleased x i q.was;
    emptied = λ p l e z. emptied p l e z (is_in (length s.sets - 1) (slot_at s (p / fields)).set) refl (given s (p / fields));
    earlier = λ p x i j l e f h. u.back.earlier p x i j l (still_in s (p / fields) i e).was (still_in s x j f).was h;
    members = λ p x j l n e f h. members p x j l n e f h (is_in (length s.sets - 1) (slot_at s (p / fields)).set) refl (given s (p / fields));
  };
  cyclic = λ x i e.
      let q = still_in s x i e in
      ap (λ (v : Slot). v.cyclic) q.same
      ∙ u.cyclic x i q.was
      ∙ sym (sum_at_same (leading_outside fields (given_up s) i x) (leading_outside fields s i x) words (λ p word. ap (λ b. only_if (not b) (leading x word)) (same_others s i (p / fields) q.other)));
}
  where
    emptied : (p : ℕ) → p < length words → (slot_at (given_up s) (p / fields)).released ≡ true → times p (places_of fields (last_set s.sets)) ≡ 0 → (b : Bool) → is_in (length s.sets - 1) (slot_at s (p / fields)).set ≡ b → IsGivenUp b (slot_at s (p / fields)) (slot_at (given_up s) (p / fields)) → target_of (get_or words p 0) ≡ None
    emptied p l e z true q g =
        let there : times (p / fields) (last_set s.sets) ≡ 1 = k.numbers (length s.sets - 1) (p / fields) ∙ ap one q in
        absurd (omega (arith, there, z, times_places fields p (last_set s.sets) some))
    emptied p l e z false q g = u.back.emptied p l (sym (ap (λ (v : Slot). v.released) (g.others refl)) ∙ e) (times-nil p)

    members : (p x j : ℕ) → p < length words → (slot_at (given_up s) (p / fields)).released ≡ false → (slot_at (given_up s) (p / fields)).set ≡ None → (slot_at (given_up s) x).set ≡ Some j → target_of (get_or words p 0) ≡ Some x →
        (b : Bool) → is_in (length s.sets - 1) (slot_at s (p / fields)).set ≡ b → IsGivenUp b (slot_at s (p / fields)) (slot_at (given_up s) (p / fields)) → ⊥
    members p x j l n e f h true q g = false≢true (sym n ∙ (g.members refl).0)
    members p x j l n e f h false q g =
        u.back.members p x j l (sym (ap (λ (v : Slot). v.released) (g.others refl)) ∙ n) (sym (ap (λ (v : Slot). v.set) (g.others refl)) ∙ e) (still_in s x j f).was h

-- a sum of what is nothing for each member
sum_of_none : (f : ℕ → ℕ) (xs : List ℕ) → ((x : ℕ) → 0 < times x xs → f x ≡ 0) → sum_by f xs ≡ 0
sum_of_none f [] h = refl
sum_of_none f (x ∷ xs) h =
    omega (arith, sum_by-cons f x xs, h x (omega (arith, times-cons x x xs, one-same x)), sum_of_none f xs (λ y m. h y (omega (arith, times-cons y x xs, m))))

module _ (fields : ℕ) (words : List ℕ) (s : State) (k : IsKept s) (u : AreUnheld fields words [] s) where
  abbrev number : ℕ
  number = last_number s

  in_last : (x : ℕ) → 0 < times x (members_of s number) → (slot_at s x).set ≡ Some number
  in_last x m = in_set number (slot_at s x).set (one-some (is_in number (slot_at s x).set) (omega (arith, k.numbers number x, m)))

  leads_some : (x : ℕ) (t : Option ℕ) → is_slot x t ≡ true → t ≡ Some x
  leads_some x None e = cc
  leads_some x (Some y) e = elim (eqb_tells x y) [
    | inl q ↦ ap Some (sym q.1)
    | inr q ↦ absurd (false≢true (sym q.0 ∙ e))
  ]

  -- no field outside the last set leads to one of its members
  none_outside : (x : ℕ) → (slot_at s x).set ≡ Some number → outside_sum words fields s number x ≡ 0
  none_outside x e = sum_at_none-from_get_or (leading_outside fields s number x) words 0 (λ p l. at p l (is_slot x (target_of (get_or words p 0))) refl)
    where
      nothing : (b : Bool) → only_if b 0 ≡ 0
      nothing true = refl
      nothing false = refl

      from : (p : ℕ) → p < length words → target_of (get_or words p 0) ≡ Some x → (o : Option ℕ) → (slot_at s (p / fields)).set ≡ o → (r : Bool) → (slot_at s (p / fields)).released ≡ r → is_in number (slot_at s (p / fields)).set ≡ true
      from p l h None q true r = let none : None ≡ Some x = sym (u.back.emptied p l r (times-nil p)) ∙ h in cc
      from p l h None q false r = absurd (u.back.members p x number l r q e h)
      from p l h (Some i) q b r =
          let last : i ≡ number = omega (arith, u.back.earlier p x i number l q e h, set_there s i (p / fields) k q) in
          ap (is_in number) q ∙ ap (λ j. is_in number (Some j)) last ∙ own_set number

      at : (p : ℕ) → p < length words → (b : Bool) → is_slot x (target_of (get_or words p 0)) ≡ b → leading_outside fields s number x p (get_or words p 0) ≡ 0
      at p l false h = ap (λ b. only_if (not (is_in number (slot_at s (p / fields)).set)) (one b)) h ∙ nothing (not (is_in number (slot_at s (p / fields)).set))
      at p l true h = ap (λ b. only_if (not b) (leading x (get_or words p 0))) (from p l (leads_some x (target_of (get_or words p 0)) h) (slot_at s (p / fields)).set refl (slot_at s (p / fields)).released refl)

  -- The last set passes both tests.
  pub unheld_passes : AreOrange s (length s.sets - 1) × (cyclic_sum s (length s.sets - 1) ≡ 0)
  unheld_passes = (
    λ x m. u.back.orange x number (in_last x m),
    sum_of_none (λ x. (slot_at s x).cyclic) (members_of s number) (λ x m. u.cyclic x number (in_last x m) ∙ none_outside x (in_last x m)),
  )

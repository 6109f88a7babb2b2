-- From one state of the counts to another: where less is left to be tested of the sets.
use Rattle.std.proofs.Common.{◌≡◌, ℕ, suc, zero, ◌-◌, ◌<◌, ◌≤◌, Bool, true, false, eqb, Option, None, Some, List, [], ◌∷◌, length, take, get_or, refl, sym, ◌∙◌, ap, subst, arith, inl, inr, slice_get, ◌||◌}
use Rattle.std.specs.List.{concat}
use Rattle.std.proofs.lemmas.List.{get_or-set_same, get_or-set_other, set_past}
use Rattle.std.proofs.lemmas.Bool.{cases_lt, eq-eqb, ne_eqb, false≢true, cases_Bool}
use Rattle.std.proofs.lemmas.Bool.Decides.{eqb_tells}
use Rattle.rec_core.proofs.Common.{Slot, State, slot_at, with_slot, sent, decremented, one, times, absent, is_in, lessened, lessened_if, lowered, due_of, stays, field_kept, map_at, times-nil, times-append, given_up, given_up_slot, down_if, is_lowered, taken_off, without_first, is_green}
use Rattle.rec_counts.specs.declared.colour.Colour.TheVariants.{Orange}
use Rattle.rec_counts.specs.declared.slot.Due.{Due}
use Rattle.rec_counts.specs.declared.slot.Due.TheVariants.{Nothing, Zero, Root}
use Rattle.rec_counts.specs.Counts.{IsKept}
use Rattle.rec_counts.specs.Groups.{last_set}
use Rattle.rec_sigma.specs.declared.fate.Fate.{Fate}
use Rattle.rec_sigma.specs.declared.fate.Fate.TheVariants as fates
use Rattle.rec_sigma.specs.Refurbish.{refurbished, fate_at, LastRefurbished}
use Rattle.rec_sigma.proofs.Cyclics.{in_set, own_set}
use Rattle.rec_collector.proofs.Outside.{in_use_orange}

-- it was not released, and if its cyclic count was its true count less so many, so it is still
abbrev StaysExact : (u v : Slot) → Type 0
StaysExact u v = (u.released ≡ false) × ((k : ℕ) → u.cyclic ≡ u.count - k → v.cyclic ≡ v.count - k)

-- No slot joins a set, and a set loses no member but with all others. No slot becomes Orange, and of one that is Orange and not
-- released, the cyclic count stays what it was of the true count.
pub record TestsLess (s t : State) : Type 0 where
  pub among : (x : ℕ) → 0 < times x (concat t.sets) → 0 < times x (concat s.sets)
  pub members : (number x y : ℕ) → (slot_at t x).set ≡ Some number → is_in number (slot_at t y).set ≡ is_in number (slot_at s y).set
  pub orange : (x : ℕ) → (slot_at t x).colour ≡ Orange → (slot_at s x).colour ≡ Orange
  pub exact : (x : ℕ) → (slot_at t x).colour ≡ Orange → (slot_at t x).released ≡ false → StaysExact (slot_at s x) (slot_at t x)

-- a member was a member of the same set
pub member_before : {s t : State} → TestsLess s t → (number x : ℕ) → (slot_at t x).set ≡ Some number → (slot_at s x).set ≡ Some number
member_before {s} {t} l number x e = in_set number (slot_at s x).set (sym (l.members number x x e) ∙ ap (is_in number) e ∙ own_set number)

less_same : (s : State) → TestsLess s s
less_same s = record { among = λ x h. h; members = λ number x y e. refl; orange = λ x o. o; exact = λ x o r. (r, λ k e. e) }

less_on : {s t u : State} → TestsLess s t → TestsLess t u → TestsLess s u
less_on {s} {t} {u} a b = record {
  among = λ x h. a.among x (b.among x h);
  members = λ number x y e. b.members number x y e ∙ a.members number x y (member_before b number x e);
  orange = λ x o. a.orange x (b.orange x o);
  exact = λ x o r. let p = b.exact x o r in let q = a.exact x (b.orange x o) p.0 in (q.0, λ k e. p.1 k (q.1 k e));
}

-- where the slots and the sets stay
pub less_listed : (s t : State) → t.slots ≡ s.slots → t.sets ≡ s.sets → TestsLess s t
less_listed s t slots sets = record {
  among = λ x h. subst (λ xss. 0 < times x (concat xss)) sets h;
  members = λ number x y e. ap (λ ss. is_in number (get_or ss y absent).set) slots;
  orange = λ x o. subst (λ ss. (get_or ss x absent).colour ≡ Orange) slots o;
  exact = λ x o r. (ap (λ ss. (get_or ss x absent).released) (sym slots) ∙ r, λ k e. subst (λ ss. (get_or ss x absent).cyclic ≡ (get_or ss x absent).count - k) (sym slots) e);
}

-- what holds of what is written, and of what was there, holds of each slot afterwards
each_slot : (P : ℕ → Slot → Type 0) (s : State) (x : ℕ) (v : Slot) → P x v → ((y : ℕ) → P y (slot_at s y)) → (y : ℕ) → P y (slot_at (with_slot s x v) y)
each_slot P s x v here there y =
    elim (eqb_tells y x) [
      | inl q ↦ elim (cases_lt x (length s.slots)) [
        | inl l ↦ subst (λ z. P z (slot_at (with_slot s x v) z)) (sym q.1) (subst (P x) (sym (get_or-set_same s.slots x v absent l)) here)
        | inr l ↦ subst (λ ss. P y (get_or ss y absent)) (sym (set_past s.slots x v l)) (there y)
      ]
      | inr q ↦ subst (P y) (sym (get_or-set_other s.slots x y v absent q.1)) (there y)
    ]

-- what is written in place of a slot stays in its set, isn't Orange anew, and where it is Orange and not released, its cyclic count stays exact
record EasesSlot (u v : Slot) : Type 0 where
  set : v.set ≡ u.set
  orange : v.colour ≡ Orange → u.colour ≡ Orange
  exact : v.colour ≡ Orange → v.released ≡ false → StaysExact u v

less_slot : (s : State) (x : ℕ) (v : Slot) → EasesSlot (slot_at s x) v → TestsLess s (with_slot s x v)
less_slot s x v e = record {
  among = λ y h. h;
  members = λ number z y _. ap (is_in number) (field_kept (λ (w : Slot). w.set) s.slots x v e.set y);
  orange = each_slot (λ y w. w.colour ≡ Orange → (slot_at s y).colour ≡ Orange) s x v e.orange (λ y o. o);
  exact = each_slot (λ y w. w.colour ≡ Orange → w.released ≡ false → StaysExact (slot_at s y) w) s x v e.exact (λ y o r. (r, λ k q. q));
}

-- a slot is flagged released
less_released : (s : State) (x : ℕ) → TestsLess s (with_slot s x (record (slot_at s x) { released = true }))
less_released s x = less_slot s x (record (slot_at s x) { released = true }) (record { set = refl; orange = λ o. o; exact = λ o r. absurd (false≢true (sym r)) })

-- a count is lowered together with the outside count
less_lowered : (s : State) (x : ℕ) → TestsLess s (with_slot s x (lowered (slot_at s x)))
less_lowered s x = less_slot s x (lowered (slot_at s x)) (record { set = refl; orange = λ o. o; exact = λ o r. (r, λ k e. omega (arith, e)) })

-- what keeps its colour as it is lessened is released or Green
stays_eases : (v : Slot) → stays v ≡ true → v.colour ≡ Orange → v.released ≡ false → ⊥
stays_eases v e o r = false≢true (sym (ap (λ b. b || is_green v.colour) r ∙ ap is_green o) ∙ e)

lessened_eases : (r l : Bool) (v : Slot) → stays v ≡ r → EasesSlot v (lessened_if r l v)
lessened_eases true l v e = record { set = refl; orange = λ o. o; exact = λ o r. absurd (stays_eases v e o r) }
lessened_eases false true v e = record { set = refl; orange = λ o. cc; exact = λ o r. cc }
lessened_eases false false v e = record { set = refl; orange = λ o. cc; exact = λ o r. cc }

less_sent : (d : Due) (s t : State) (x : ℕ) → TestsLess s t → TestsLess s (sent d t x)
less_sent Nothing s t x l = l
less_sent Zero s t x l = record { among = l.among; members = l.members; orange = l.orange; exact = l.exact }
less_sent Root s t x l = record { among = l.among; members = l.members; orange = l.orange; exact = l.exact }

-- a slot is decremented
less_decremented : (s : State) (x : ℕ) → TestsLess s (decremented s x)
less_decremented s x =
    let v : Slot = slot_at s x in
    less_sent (due_of v) s (with_slot s x (lessened v)) x (less_slot s x (lessened v) (lessened_eases (stays v) (eqb v.count 1) v refl))

-- what the earlier sets have, all of them have
times_taken : (x n : ℕ) (xss : List (List ℕ)) → times x (concat (take n xss)) ≤ times x (concat xss)
times_taken x zero xss = omega (arith, times-nil x)
times_taken x (suc n) [] = omega arith
times_taken x (suc n) (xs ∷ xss) = omega (arith, times-append x xs (concat (take n xss)), times-append x xs (concat xss), times_taken x n xss)

-- all members of the set of a number leave it, and no other slot leaves its set
members_left : (s t : State) (n : ℕ) → ((x : ℕ) → is_in n (slot_at s x).set ≡ true → (slot_at t x).set ≡ None) → ((x : ℕ) → is_in n (slot_at s x).set ≡ false → (slot_at t x).set ≡ (slot_at s x).set) →
    (number x y : ℕ) → (slot_at t x).set ≡ Some number → is_in number (slot_at t y).set ≡ is_in number (slot_at s y).set
members_left s t n gone stay number x y e = go (is_in n (slot_at s x).set) (is_in n (slot_at s y).set) refl refl
  where
    go : (b c : Bool) → is_in n (slot_at s x).set ≡ b → is_in n (slot_at s y).set ≡ c → is_in number (slot_at t y).set ≡ is_in number (slot_at s y).set
    go true c f g = let h : None ≡ Some number = sym (gone x f) ∙ e in cc
    go false false f g = ap (is_in number) (stay y g)
    go false true f g =
        let other : eqb number n ≡ false = ap (is_in n) (sym e ∙ stay x f) ∙ f in
        let last : (slot_at s y).set ≡ Some n = in_set n (slot_at s y).set g in
        ap (is_in number) (gone y g) ∙ sym (ap (is_in number) last ∙ ne_eqb n number (λ q. false≢true (sym other ∙ eq-eqb number n (sym q))))

-- what is given up is in no set and not Orange, and what isn't stays
given_eases : (n : ℕ) (v : Slot) (b : Bool) → is_in n v.set ≡ b → ((given_up_slot n v).colour ≡ Orange → v.colour ≡ Orange) × ((given_up_slot n v).colour ≡ Orange → (given_up_slot n v).released ≡ false → StaysExact v (given_up_slot n v))
given_eases n v true e = rw e ((λ o. cc), (λ o r. cc))
given_eases n v false e = rw e ((λ o. o), (λ o r. (r, λ k q. q)))

given_leaves : (n : ℕ) (v : Slot) → is_in n v.set ≡ true → (given_up_slot n v).set ≡ None
given_leaves n v e = rw e refl

given_stays : (n : ℕ) (v : Slot) → is_in n v.set ≡ false → (given_up_slot n v).set ≡ v.set
given_stays n v e = rw e refl

-- the members of the last set are given up
pub less_given_up : (s : State) → TestsLess s (given_up s)
less_given_up s =
    let n : ℕ = length s.sets - 1 in
    let at : (y : ℕ) → slot_at (given_up s) y ≡ given_up_slot n (slot_at s y) = map_at (given_up_slot n) refl s.slots in
    record {
      among = λ x h. omega (arith, h, times_taken x n s.sets);
      members = members_left s (given_up s) n (λ x e. ap (λ (v : Slot). v.set) (at x) ∙ given_leaves n (slot_at s x) e) (λ x e. ap (λ (v : Slot). v.set) (at x) ∙ given_stays n (slot_at s x) e);
      orange = λ x o. (given_eases n (slot_at s x) _ refl).0 (ap (λ (v : Slot). v.colour) (sym (at x)) ∙ o);
      exact = λ x o r. subst (λ (v : Slot). StaysExact (slot_at s x) v) (sym (at x)) ((given_eases n (slot_at s x) _ refl).1 (ap (λ (v : Slot). v.colour) (sym (at x)) ∙ o) (ap (λ (v : Slot). v.released) (sym (at x)) ∙ r));
    }

-- a member that is refurbished is in no set, and Orange only where it was
refurbished_eases : (f : Fate) (v : Slot) → ((refurbished f v).set ≡ None) × ((refurbished f v).colour ≡ Orange → v.colour ≡ Orange) × ((refurbished f v).colour ≡ Orange → (refurbished f v).released ≡ false → StaysExact v (refurbished f v))
refurbished_eases fates.Free v = (refl, (λ o. o), (λ o r. (r, λ k q. q)))
refurbished_eases fates.Root v = (refl, (λ o. cc), (λ o r. cc))
refurbished_eases _ v = (refl, (λ o. absurd (in_use_orange v.colour o)), (λ o r. absurd (in_use_orange v.colour o)))

-- the members of the last set are refurbished
pub less_refurbished : (s t : State) → IsKept s → LastRefurbished s t → TestsLess s t
less_refurbished s t k r =
    let n : ℕ = length s.sets - 1 in
    let first : Option ℕ = slice_get (last_set s.sets) 0 in
    let inside : (x : ℕ) → is_in n (slot_at s x).set ≡ true → slot_at t x ≡ refurbished (fate_at s first x) (slot_at s x) = λ x e. r.inside x (omega (arith, k.numbers n x, ap one e)) in
    let others : (x : ℕ) → is_in n (slot_at s x).set ≡ false → slot_at t x ≡ slot_at s x = λ x e. r.others x (omega (arith, k.numbers n x, ap one e)) in
    record {
      among = λ x h. omega (arith, h, ap (λ xss. times x (concat xss)) r.sets, times_taken x n s.sets);
      members = members_left s t n (λ x e. ap (λ (v : Slot). v.set) (inside x e) ∙ (refurbished_eases (fate_at s first x) (slot_at s x)).0) (λ x e. ap (λ (v : Slot). v.set) (others x e));
      orange = λ x o. elim (cases_Bool (is_in n (slot_at s x).set)) [
        | inl e ↦ (refurbished_eases (fate_at s first x) (slot_at s x)).1 (ap (λ (v : Slot). v.colour) (sym (inside x e)) ∙ o)
        | inr e ↦ ap (λ (v : Slot). v.colour) (sym (others x e)) ∙ o
      ];
      exact = λ x o u. elim (cases_Bool (is_in n (slot_at s x).set)) [
        | inl e ↦ subst (λ (v : Slot). StaysExact (slot_at s x) v) (sym (inside x e)) ((refurbished_eases (fate_at s first x) (slot_at s x)).2 (ap (λ (v : Slot). v.colour) (sym (inside x e)) ∙ o) (ap (λ (v : Slot). v.released) (sym (inside x e)) ∙ u))
        | inr e ↦ subst (λ (v : Slot). StaysExact (slot_at s x) v) (sym (others x e)) (ap (λ (v : Slot). v.released) (sym (others x e)) ∙ u, λ k q. q)
      ];
    }

-- the reference that came out is counted no more
less_down_if : (lowers : Bool) (s : State) (x : ℕ) → TestsLess s (down_if lowers s x)
less_down_if true s x = less_lowered s x
less_down_if false s x = less_decremented s x

pub less_taken_off : (lowers : Bool) (s : State) (target : Option ℕ) → TestsLess s (taken_off lowers s target)
less_taken_off lowers s None = less_same s
less_taken_off lowers s (Some x) = less_down_if (is_lowered lowers (slot_at s x).colour) s x

-- the first of the zeros is released
pub less_without_first : (zs : List ℕ) (s : State) → TestsLess s (without_first zs s)
less_without_first [] s = less_same s
less_without_first (z ∷ zs) s = less_on (less_released s z) (less_listed (with_slot s z (record (slot_at s z) { released = true })) (without_first (z ∷ zs) s) refl refl)

-- What a begun set and a loaded word do to the cyclic counts.
use Rattle.std.proofs.Common.{◌≡◌, ◌≢◌, ℕ, ◌+◌, ◌-◌, ◌<◌, Bool, true, false, eqb, cond, ◌&&◌, Option, Some, None, List, [], ◌∷◌, ◌++◌, length, get_or, refl, arith, sym, ◌∙◌, ap, inl, inr}
use Rattle.std.proofs.Math.ListN.{set}
use Rattle.std.proofs.lemmas.List.{length-set, length-map, get_or_past}
use Rattle.std.proofs.lemmas.List.Sums.{sum_by_push}
use Rattle.std.proofs.lemmas.Bool.{cases_lt, false≢true, eqb-true, ne_eqb, eq-eqb}
use Rattle.std.proofs.lemmas.Bool.Decides.{eqb_tells}
use Rattle.rec_word.specs.Word.{target_of, is_slot}
use Rattle.rec_counts.specs.declared.slot.Slot.{Slot}
use Rattle.rec_counts.specs.Counts.{State, slot_at, with_slot}
use Rattle.rec_counts.specs.Lists.{one, times}
use Rattle.rec_counts.specs.Slot.{absent, is_in}
use Rattle.rec_counts.proofs.Times.{times_at, one-some}
use Rattle.rec_counts.proofs.Keeping.{field_kept, less_at, map_at}
use Rattle.rec_sigma.specs.Prepare.{members_of, renewed, renewed_if, less_if, taken_off}
use Rattle.rec_word.specs.Load.{Load}
use Rattle.rec_sigma.specs.Prepared.{KeepsOthers, seen}

-- the set of a slot that is in the set of this number
pub in_set : (number : ℕ) (o : Option ℕ) → is_in number o ≡ true → o ≡ Some number
in_set number None e = cc
in_set number (Some m) e = ap Some (eqb-true m number e)

-- a slot in a set is in range
pub set_in_range : (s : State) (number x : ℕ) → is_in number (slot_at s x).set ≡ true → x < length s.slots
set_in_range s number x e = elim (cases_lt x (length s.slots)) [
  | inl l ↦ l
  | inr l ↦ absurd (false≢true (ap (λ (v : Slot). is_in number v.set) (sym (get_or_past s.slots x absent l)) ∙ e))
]

-- each slot is in the set whose number it has
abbrev pub Tells : State → Type 0
Tells s = (number x : ℕ) → times x (members_of s number) ≡ one (is_in number (slot_at s x).set)

-- the set of a member
pub member_set : (s : State) (number i : ℕ) → Tells s → i < length (members_of s number) → (slot_at s (get_or (members_of s number) i 0)).set ≡ Some number
member_set s number i k l =
    let x : ℕ = get_or (members_of s number) i 0 in
    in_set number (slot_at s x).set (one-some (is_in number (slot_at s x).set) (omega (arith, k number x, times_at (members_of s number) i l)))

-- in two sets at once is no slot
pub other_set : (n m : ℕ) → n ≢ m → is_in n (Some m) ≡ false
other_set n m d = ne_eqb m n (λ e. d (sym e))

pub set_either : (n m : ℕ) → is_in n (Some m) ≡ is_in m (Some n)
set_either n m = elim (eqb_tells m n) [ inl q ↦ rw q.1 refl | inr q ↦ q.0 ∙ sym (other_set m n q.1) ]

pub own_set : (n : ℕ) → is_in n (Some n) ≡ true
own_set n = eq-eqb n n refl

-- what a slot has once a set is begun
pub renewed_slot : (s : State) (number x : ℕ) → slot_at (renewed s number) x ≡ renewed_if (is_in number (slot_at s x).set) (slot_at s x)
renewed_slot s number x = map_at (λ (v : Slot). renewed_if (is_in number v.set) v) refl s.slots x

-- nothing but the cyclic count changes there
renewed_rest : (b : Bool) (v : Slot) → record (renewed_if b v) { cyclic = 0 } ≡ record v { cyclic = 0 }
renewed_rest true v = refl
renewed_rest false v = refl

-- of each slot no more than its cyclic count changes
slots_others : (s : State) (slots : List Slot) → ((x : ℕ) → get_or slots x absent ≡ record (slot_at s x) { cyclic = (get_or slots x absent).cyclic }) → length slots ≡ length s.slots → KeepsOthers s (record s { slots = slots })
slots_others s slots e l = record { slots = e; many = l; roots = refl; sets = refl; marked = refl; work = refl; zeros = refl; free = refl }

pub others_same : (s : State) → KeepsOthers s s
others_same s = slots_others s s.slots (λ x. refl) refl

pub others_on : {s t u : State} → KeepsOthers s t → KeepsOthers t u → KeepsOthers s u
others_on {s = s} {t = t} {u = u} k l = record {
  slots = λ x. l.slots x ∙ ap (λ (v : Slot). record v { cyclic = (slot_at u x).cyclic }) (k.slots x);
  many = l.many ∙ k.many;
  roots = l.roots ∙ k.roots;
  sets = l.sets ∙ k.sets;
  marked = l.marked ∙ k.marked;
  work = l.work ∙ k.work;
  zeros = l.zeros ∙ k.zeros;
  free = l.free ∙ k.free;
}

-- a word that was loaded
pub off_others : (number : ℕ) (s : State) (t : Option ℕ) → KeepsOthers s (taken_off number s t)
off_others number s None = others_same s
off_others number s (Some y) = go (is_in number (slot_at s y).set)
  where
    go : (b : Bool) → KeepsOthers s (less_if b s y)
    go false = others_same s
    go true =
        let v : Slot = record (slot_at s y) { cyclic = (slot_at s y).cyclic - 1 } in
        slots_others s (set s.slots y v) (λ x. ap (λ (w : Slot). record w { cyclic = (slot_at (with_slot s y v) x).cyclic }) (field_kept (λ (w : Slot). record w { cyclic = 0 }) s.slots y v refl x)) (length-set s.slots y v)

-- it takes one off the slot that it leads to, where that is in the set
pub off_cyclic : (number : ℕ) (s : State) (t : Option ℕ) (x : ℕ) → (slot_at (taken_off number s t) x).cyclic ≡ (slot_at s x).cyclic - one (is_slot x t && is_in number (slot_at s x).set)
off_cyclic number s None x = omega arith
off_cyclic number s (Some y) x = go (is_in number (slot_at s y).set) refl
  where
    go : (b : Bool) → is_in number (slot_at s y).set ≡ b → (slot_at (less_if b s y) x).cyclic ≡ (slot_at s x).cyclic - one (eqb x y && is_in number (slot_at s x).set)
    go true e = less_at (λ (w : Slot). w.cyclic) s.slots y (record (slot_at s y) { cyclic = (slot_at s y).cyclic - 1 }) refl refl x ∙ ap (λ n. (slot_at s x).cyclic - n) (elim (eqb_tells x y) [
      | inl q ↦ rw q.0 (sym (ap (λ z. one (is_in number (slot_at s z).set)) q.1 ∙ ap one e))
      | inr q ↦ rw q.0 refl
    ])
    go false e = elim (eqb_tells x y) [
      | inl q ↦ rw q.0 (omega (arith, ap (λ z. one (is_in number (slot_at s z).set)) q.1, ap one e))
      | inr q ↦ rw q.0 (omega arith)
    ]

-- a set that was begun
pub renewed_others : (s : State) (number : ℕ) → KeepsOthers s (renewed s number)
renewed_others s number =
    slots_others s (renewed s number).slots
    (λ x. ap (λ (w : Slot). record w { cyclic = (slot_at (renewed s number) x).cyclic }) (ap (λ (w : Slot). record w { cyclic = 0 }) (renewed_slot s number x) ∙ renewed_rest (is_in number (slot_at s x).set) (slot_at s x)))
    (length-map s.slots (λ (v : Slot). renewed_if (is_in number v.set) v))

pub seen-nil : (s : State) (number x : ℕ) → seen s number [] x ≡ 0
unfolding seen
seen-nil s number x = refl

pub seen_push : (s : State) (number : ℕ) (loads : List Load) (l : Load) (x : ℕ) → seen s number (loads ++ l ∷ []) x ≡ seen s number loads x + one (is_slot x (target_of l.word) && is_in number (slot_at s l.slot).set)
unfolding seen
seen_push s number loads l x = sum_by_push (λ (m : Load). cond (is_slot x (target_of m.word) && is_in number (slot_at s m.slot).set) 1 0) loads l

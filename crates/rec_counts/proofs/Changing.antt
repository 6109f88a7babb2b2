-- Slots that a list names are changed one after another.
use Rattle.std.proofs.Common.{◌≡◌, ℕ, ◌+◌, ◌<◌, ◌≤◌, Bool, true, eqb, ltb, List, length, take, get_or, arith, sym, ◌∙◌, ap, inl, inr}
use Rattle.std.proofs.Math.ListN.{set}
use Rattle.std.proofs.lemmas.List.{get_or-set_same, get_or-set_other, take_all, ext_get_or}
use Rattle.std.proofs.lemmas.Bool.{lt-ltb}
use Rattle.std.proofs.lemmas.Bool.Decides.{eqb_tells}
use Rattle.rec_counts.specs.declared.slot.Slot.{Slot}
use Rattle.rec_counts.specs.Counts.{State, slot_at}
use Rattle.rec_counts.specs.Lists.{one, times}
use Rattle.rec_counts.specs.Slot.{absent}
use Rattle.rec_counts.proofs.Times.{times_more}

-- one slot more is changed, by a change that changes nothing where it was made before
pub changed_more : (change : Bool → Slot → Slot) → ((b : Bool) (v : Slot) → change true (change b v) ≡ change true v) →
    (slots old : List Slot) (members : List ℕ) (i : ℕ) → i < length members → get_or members i 0 < length slots →
    ((x : ℕ) → get_or slots x absent ≡ change (ltb 0 (times x (take i members))) (get_or old x absent)) →
    (x : ℕ) → get_or (set slots (get_or members i 0) (change true (get_or slots (get_or members i 0) absent))) x absent ≡ change (ltb 0 (times x (take (i + 1) members))) (get_or old x absent)
changed_more change twice slots old members i l r h x =
    let m : ℕ = get_or members i 0 in
    elim (eqb_tells x m) [
      | inl q ↦ let t : one (eqb x m) ≡ 1 = ap one q.0 in
          let n : ltb 0 (times x (take (i + 1) members)) ≡ true = lt-ltb 0 (times x (take (i + 1) members)) (omega (arith, t, times_more x members i l)) in
          ap (λ y. get_or (set slots m (change true (get_or slots m absent))) y absent) q.1
          ∙ get_or-set_same slots m (change true (get_or slots m absent)) absent r
          ∙ ap (λ y. change true (get_or slots y absent)) (sym q.1) ∙ ap (change true) (h x)
          ∙ twice (ltb 0 (times x (take i members))) (get_or old x absent)
          ∙ ap (λ b. change b (get_or old x absent)) (sym n)
      | inr q ↦ let t : one (eqb x m) ≡ 0 = ap one q.0 in
          let n : times x (take (i + 1) members) ≡ times x (take i members) = omega (arith, t, times_more x members i l) in
          get_or-set_other slots m x (change true (get_or slots m absent)) absent q.1 ∙ h x ∙ ap (λ k. change (ltb 0 k) (get_or old x absent)) (sym n)
    ]

-- From s to t, those of the list before a place are changed, and nothing else.
pub record Changed (change : Bool → Slot → Slot) (members : List ℕ) (s t : State) (i : ℕ) : Type 0 where
  pub rest : t ≡ record s { slots = t.slots }
  pub many : length t.slots ≡ length s.slots
  pub slots : (x : ℕ) → slot_at t x ≡ change (ltb 0 (times x (take i members))) (slot_at s x)

-- all of them are changed
pub changed_all : (change : Bool → Slot → Slot) (members : List ℕ) (s t : State) (i : ℕ) (now : List Slot) → length members ≤ i → length now ≡ length s.slots →
    ((x : ℕ) → get_or now x absent ≡ change (ltb 0 (times x members)) (slot_at s x)) → Changed change members s t i → t ≡ record s { slots = now }
changed_all change members s t i now l n h d = d.rest ∙ ap {A = List Slot} {B = State} (λ slots. record s { slots = slots })
    (ext_get_or absent t.slots now (d.many ∙ sym n) (λ x m. d.slots x ∙ ap (λ xs. change (ltb 0 (times x xs)) (slot_at s x)) (take_all i members l) ∙ sym (h x)))

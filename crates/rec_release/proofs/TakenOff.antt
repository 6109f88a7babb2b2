-- What taking off a reference leaves, whether its target is lowered or decremented.
use Rattle.std.proofs.Common.{◌≡◌, ℕ, ◌+◌, ◌-◌, ◌<◌, ◌⊎◌, Bool, true, false, cond, eqb, Option, Some, None, List, [], ◌∷◌, ◌++◌, length, get_or, refl, arith, sym, ◌∙◌, ap, subst, inl, inr}
use Rattle.std.proofs.lemmas.List.{append-nil, length-set, get_or-set_same, get_or-set_other, set_past}
use Rattle.std.proofs.lemmas.List.Sums.{sum_by_push}
use Rattle.std.proofs.lemmas.Bool.{cases_lt}
use Rattle.std.proofs.lemmas.Bool.Decides.{eqb_tells}
use Rattle.rec_word.specs.Word.{is_slot, target_of}
use Rattle.rec_counts.specs.Colour.{is_green}
use Rattle.rec_counts.specs.declared.slot.Slot.{Slot}
use Rattle.rec_counts.specs.Counts.{State, slot_at, with_slot, decremented}
use Rattle.rec_counts.specs.Lists.{one, times}
use Rattle.rec_counts.specs.Rest.{AreZeros, KeepsRest}
use Rattle.rec_counts.specs.Slot.{absent, lowered}
use Rattle.rec_counts.proofs.Decrementing.{green_kept, buffered_kept, decremented_less, rest_decremented, unbuffered_before, zeros_from, zeros_kept, ZerosFrom}
use Rattle.rec_counts.proofs.Keeping.{field_kept, less_at}
use Rattle.rec_release.specs.Release.{IsReady}
use Rattle.rec_release.specs.Released.{leading}
use Rattle.rec_release.specs.TakenOff.{down_if, is_lowered, taken_off}

-- a slot after a write: it was written, or it is as it was
pub written : (s : State) (y : ℕ) (v : Slot) (x : ℕ) → ((x ≡ y) × (slot_at (with_slot s y v) x ≡ v)) ⊎ (slot_at (with_slot s y v) x ≡ slot_at s x)
written s y v x = elim (eqb_tells x y) [
  | inl q ↦ elim (cases_lt y (length s.slots)) [
    | inl l ↦ inl (q.1, ap (slot_at (with_slot s y v)) q.1 ∙ get_or-set_same s.slots y v absent l)
    | inr l ↦ inr (ap (λ slots. get_or slots x absent) (set_past s.slots y v l))
  ]
  | inr q ↦ inr (get_or-set_other s.slots y x v absent q.1)
]

-- what taking off leaves
pub record KeepsMost (s t : State) : Type 0 where
  pub slots : length t.slots ≡ length s.slots
  pub sets : t.sets ≡ s.sets
  pub marked : t.marked ≡ s.marked
  pub work : t.work ≡ s.work
  pub free : t.free ≡ s.free
  pub released : (x : ℕ) → (slot_at t x).released ≡ (slot_at s x).released
  pub set : (x : ℕ) → (slot_at t x).set ≡ (slot_at s x).set
  pub zeros : (more : List ℕ) × (t.zeros ≡ s.zeros ++ more)
  pub ready : AreZeros s → AreZeros t
  -- no slot leaves a buffer, and one that is released joins none
  pub buffered : (x : ℕ) → (slot_at s x).released ≡ true → (slot_at t x).buffered ≡ (slot_at s x).buffered
  pub unbuffered : (x : ℕ) → (slot_at t x).buffered ≡ false → (slot_at s x).buffered ≡ false
  pub green : (x : ℕ) → is_green (slot_at t x).colour ≡ is_green (slot_at s x).colour

down_count : (b : Bool) (s : State) (y x : ℕ) → (slot_at (down_if b s y) x).count ≡ (slot_at s x).count - one (eqb x y)
down_count true s y x = less_at (λ (v : Slot). v.count) s.slots y (lowered (slot_at s y)) refl refl x
down_count false s y x = decremented_less s y x

pub down_most : (b : Bool) (s : State) (y : ℕ) → KeepsMost s (down_if b s y)
down_most true s y =
    let v : Slot = lowered (slot_at s y) in
    let released : (x : ℕ) → (slot_at (with_slot s y v) x).released ≡ (slot_at s x).released = λ x. field_kept (λ (w : Slot). w.released) s.slots y v refl x in
    let buffered : (x : ℕ) → (slot_at (with_slot s y v) x).buffered ≡ (slot_at s x).buffered = λ x. field_kept (λ (w : Slot). w.buffered) s.slots y v refl x in
    record {
      slots = length-set s.slots y v;
      sets = refl;
      marked = refl;
      work = refl;
      free = refl;
      released = released;
      set = λ x. field_kept (λ (w : Slot). w.set) s.slots y v refl x;
      zeros = ([], sym (append-nil s.zeros));
      ready = λ a. record { once = a.once; none = λ x h. omega (arith, down_count true s y x, a.none x h); unreleased = λ x h. released x ∙ a.unreleased x h };
      buffered = λ x r. buffered x;
      unbuffered = λ x b. sym (buffered x) ∙ b;
      green = λ x. field_kept (λ (w : Slot). is_green w.colour) s.slots y v refl x;
    }
down_most false s y =
    let k : KeepsRest s (decremented s y) = rest_decremented s y in
    let z : ZerosFrom s y = zeros_from s y in
    record {
      slots = k.slots;
      sets = k.sets;
      marked = k.marked;
      work = k.work;
      free = k.free;
      released = k.released;
      set = k.set;
      zeros = (z.more, z.zeros);
      ready = zeros_kept s y;
      buffered = buffered_kept s y;
      unbuffered = unbuffered_before s y;
      green = green_kept s y;
    }

pub off_count : (lowers : Bool) (s : State) (t : Option ℕ) (x : ℕ) → (slot_at (taken_off lowers s t) x).count ≡ (slot_at s x).count - one (is_slot x t)
off_count lowers s None x = omega arith
off_count lowers s (Some y) x = down_count (is_lowered lowers (slot_at s y).colour) s y x

pub off_most : (lowers : Bool) (s : State) (t : Option ℕ) → KeepsMost s (taken_off lowers s t)
off_most lowers s None = record {
  slots = refl;
  sets = refl;
  marked = refl;
  work = refl;
  free = refl;
  released = λ x. refl;
  set = λ x. refl;
  zeros = ([], sym (append-nil s.zeros));
  ready = λ a. a;
  buffered = λ x r. refl;
  unbuffered = λ x b. b;
  green = λ x. refl;
}
off_most lowers s (Some y) = down_most (is_lowered lowers (slot_at s y).colour) s y

-- so the lists are ready for the next
pub ready_off : (lowers : Bool) (s : State) (t : Option ℕ) → IsReady s → IsReady (taken_off lowers s t)
ready_off lowers s t r =
    let k : KeepsMost s (taken_off lowers s t) = off_most lowers s t in
    record { zeros = k.ready r.zeros; free = λ x h. k.released x ∙ r.free x (subst (λ xs. 0 < times x xs) k.free h) }

-- the words that lead to a slot
pub leading-nil : (x : ℕ) → leading x [] ≡ 0
unfolding leading
leading-nil x = refl

pub leading_push : (x : ℕ) (words : List ℕ) (word : ℕ) → leading x (words ++ word ∷ []) ≡ leading x words + one (is_slot x (target_of word))
unfolding leading
leading_push x words word = sum_by_push (λ w. cond (is_slot x (target_of w)) 1 0) words word

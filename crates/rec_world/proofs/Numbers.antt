-- The numbers of listed slots: there are at most as many as slots, and one more slot gets the next number.
use Rattle.std.proofs.Common.{Option, None, Some, ◌≡◌, ℕ, ◌+◌, ◌<◌, ◌≤◌, inl, inr, true, false, List, [], ◌∷◌, ◌++◌, length, get_or, set, refl, sym, ◌∙◌, ap, arith, get_or-set_same, get_or-set_other, length-set}
use Rattle.std.proofs.lemmas.Bool.{cases_Bool, cases_lt, cases_eq}
use Rattle.std.proofs.lemmas.List.{get_or_past, get_or_default, length_push}
use Rattle.std.specs.Prelude.{unwrap_or, IfSome}
use Rattle.rec_model.specs.Reach.{is_in}
use Rattle.rec_model.specs.Listing.{number_in}
use Rattle.rec_model.proofs.Members.{distinct_below, IsDistinct-push, is_in-left, is_in-right, is_in-head}
use Rattle.rec_model.proofs.Positions.{number_in-pushed, number_in-kept, not_in-pushed}
use Rattle.rec_world.specs.Numbering.{number_of, HoldsNumbers}

-- a listed slot has its number
number_of-listed : (list : List ℕ) (slot : ℕ) → is_in slot list ≡ true → unwrap_or (number_of list slot) 0 ≡ number_in list slot
number_of-listed list slot h = rw h refl

-- another has 0
number_of-other : (list : List ℕ) (slot : ℕ) → is_in slot list ≡ false → unwrap_or (number_of list slot) 0 ≡ 0
number_of-other list slot h = rw h refl

-- a listed slot is one of the slots
below : (list by_slot : List ℕ) (capacity : ℕ) → HoldsNumbers list by_slot capacity → (slot : ℕ) → is_in slot list ≡ true → slot < length by_slot
below list by_slot capacity holds slot h = elim (cases_lt slot (length by_slot)) [
  | inl lt ↦ lt
  | inr ge ↦ let none : get_or by_slot slot 0 ≡ 0 = get_or_past by_slot slot 0 ge in
      absurd (let e : get_or by_slot slot 0 ≡ number_in list slot = holds.numbers slot ∙ number_of-listed list slot h in omega arith)
]

-- no more are listed than there are
pub few : (list by_slot : List ℕ) (capacity : ℕ) → HoldsNumbers list by_slot capacity → length list ≤ length by_slot
few list by_slot capacity holds = distinct_below list (length by_slot) holds.distinct (below list by_slot capacity holds)

-- a slot with number 0 isn't listed
unlisted : (list by_slot : List ℕ) (capacity slot : ℕ) → HoldsNumbers list by_slot capacity → get_or by_slot slot 0 ≡ 0 → is_in slot list ≡ false
unlisted list by_slot capacity slot holds zero = elim (cases_Bool (is_in slot list)) [
  | inr absent ↦ absent
  | inl there ↦ absurd (let e : get_or by_slot slot 0 ≡ number_in list slot = holds.numbers slot ∙ number_of-listed list slot there in omega arith)
]

-- the number of a slot that is pushed, and of the others
number_of-pushed : (list : List ℕ) (slot : ℕ) → is_in slot list ≡ false → unwrap_or (number_of (list ++ slot ∷ []) slot) 0 ≡ length list + 1
number_of-pushed list slot new =
    number_of-listed (list ++ slot ∷ []) slot (is_in-right slot list (slot ∷ []) (is_in-head slot [])) ∙ number_in-pushed list slot new

number_of-kept : (list : List ℕ) (slot other : ℕ) → (other ≡ slot → ⊥) → unwrap_or (number_of (list ++ slot ∷ []) other) 0 ≡ unwrap_or (number_of list other) 0
number_of-kept list slot other apart = elim (cases_Bool (is_in other list)) [
  | inl there ↦ number_of-listed (list ++ slot ∷ []) other (is_in-left other list (slot ∷ []) there) ∙ number_in-kept list slot other there ∙ sym (number_of-listed list other there)
  | inr absent ↦ number_of-other (list ++ slot ∷ []) other (not_in-pushed list slot other absent apart) ∙ sym (number_of-other list other absent)
]

-- the next number for a slot that isn't listed
holds_more : (list by_slot : List ℕ) (capacity slot : ℕ) → HoldsNumbers list by_slot capacity → slot < length by_slot → get_or by_slot slot 0 ≡ 0 → HoldsNumbers (list ++ slot ∷ []) (set by_slot slot (length list + 1)) capacity
holds_more list by_slot capacity slot holds in_range zero =
    let new : is_in slot list ≡ false = unlisted list by_slot capacity slot holds zero in
    record {
      room = rw length-set holds.room;
      in_range = rw length-set holds.in_range;
      distinct = IsDistinct-push list slot holds.distinct new;
      numbers = λ other. elim (cases_eq other slot) [
        | inl e ↦ rw e (rw get_or-set_same (sym (number_of-pushed list slot new)))
        | inr apart ↦ rw get_or-set_other (holds.numbers other ∙ sym (number_of-kept list slot other apart))
      ];
    }

-- so there was room
pub fewer : (list by_slot : List ℕ) (capacity slot : ℕ) → HoldsNumbers list by_slot capacity → slot < length by_slot → get_or by_slot slot 0 ≡ 0 → length list < length by_slot
fewer list by_slot capacity slot holds in_range zero =
    let more : length (list ++ slot ∷ []) ≤ length (set by_slot slot (length list + 1)) =
    few (list ++ slot ∷ []) (set by_slot slot (length list + 1)) capacity (holds_more list by_slot capacity slot holds in_range zero) in
    omega (arith, length_push list slot, length-set {A = ℕ}, more)

-- the number that was looked up
pub number_read : (by_slot : List ℕ) (slot index found : ℕ) → slot < length by_slot → index ≡ slot → found ≡ get_or by_slot index found → found ≡ 0 → get_or by_slot slot 0 ≡ 0
number_read by_slot slot index found within same read zero =
    get_or_default by_slot slot 0 found within ∙ ap (λ i. get_or by_slot i found) (sym same) ∙ sym read ∙ zero

-- the same where a slot was looked up, pushed and given the number of slots then listed
pub holds_pushed : (list by_slot pushed : List ℕ) (capacity room slot index found at number : ℕ) → HoldsNumbers list by_slot capacity → slot < length by_slot → index ≡ slot → found ≡ get_or by_slot index found → found ≡ 0 → pushed ≡ list ++ slot ∷ [] → room ≡ capacity → at ≡ slot → number ≡ length list + 1 → HoldsNumbers pushed (set by_slot at number) room
holds_pushed list by_slot pushed capacity room slot index found at number holds within same read zero e same_room same_at next =
    rw (e, same_room, same_at, next) (holds_more list by_slot capacity slot holds within (number_read by_slot slot index found within same read zero))

-- what a register names is one of the slots
pub named_slot : (target : Option ℕ) (slot slots count : ℕ) → IfSome target (λ s. s < slots) → target ≡ Some slot → count ≡ slots → slot < count
named_slot None slot slots count h is same = cc
named_slot (Some s) slot slots count h is same = let e : s ≡ slot = cc in omega arith

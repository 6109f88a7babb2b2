-- Each step of a walk passes one place, and leaves the others.
use Rattle.std.proofs.Common.{◌≡◌, ℕ, zero, suc, ◌+◌, ◌<◌, Bool, true, false, ltb, Option, None, Some, IfSome, List, [], ◌∷◌, ◌++◌, length, drop, take, get_or, refl, arith, sym, ◌∙◌, ap, drop-cons, add-one}
use Rattle.std.proofs.Math.ListN.{drop_of_length-le}
use Rattle.std.proofs.lemmas.Bool.{ltb-true, ltb-false}
use Rattle.rec_word.specs.Place.{place_of, places_from, places_of}
use Rattle.rec_word.proofs.FieldPlaces.{places_step, places_end}
use Rattle.rec_word.specs.declared.member.Member.{Member}
use Rattle.rec_word.specs.Walk.{behind, else_member, first_in, first_member, next_field_if, next_member, next_member_if, places_left, walked, HasWalked, IsOf}

-- where a walk over the slots stands, if it has not ended: at a field of a member of the list
pub record Stands (fields : ℕ) (slots : List ℕ) (at : Option Member) : Type 0 where
  pub field : IfSome at (λ (a : Member). a.field < fields)
  pub member : IfSome at (IsOf slots)

rest_from : (slots : List ℕ) (n : ℕ) → n < length slots → drop n slots ≡ get_or slots n 0 ∷ drop (n + 1) slots
rest_from slots n l = drop-cons slots n 0 l ∙ ap (λ m. get_or slots n 0 ∷ drop m slots) (sym (add-one n))

-- the first member has all places before it
pub first_stands : (fields : ℕ) (slots : List ℕ) → 0 < fields → Stands fields slots (first_in slots)
first_stands fields [] f = record { field = tt; member = tt }
first_stands fields (x ∷ xs) f = record { field = f; member = record { index = omega arith; slot = refl } }

pub first_left : (fields : ℕ) (slots : List ℕ) → places_left fields slots (first_in slots) ≡ places_of fields slots
first_left fields [] = refl
first_left fields (x ∷ xs) = refl

-- where no first member is due, there is none
pub first_none : (o : Option ℕ) → first_member o ≡ None → o ≡ None
first_none None e = refl
first_none (Some x) e = cc

-- the next member
next_stands_if : (b : Bool) (fields : ℕ) (slots : List ℕ) (a : Member) → ltb (a.index + 1) (length slots) ≡ b → 0 < fields → Stands fields slots (next_member_if b slots a)
next_stands_if true fields slots a t f = record { field = f; member = record { index = ltb-true (a.index + 1) (length slots) t; slot = refl } }
next_stands_if false fields slots a t f = record { field = tt; member = tt }

next_stands : (fields : ℕ) (slots : List ℕ) (a : Member) → 0 < fields → Stands fields slots (next_member slots a)
next_stands fields slots a f = next_stands_if (ltb (a.index + 1) (length slots)) fields slots a refl f

next_left_if : (b : Bool) (fields : ℕ) (slots : List ℕ) (a : Member) → ltb (a.index + 1) (length slots) ≡ b → places_of fields (drop (a.index + 1) slots) ≡ places_left fields slots (next_member_if b slots a)
next_left_if true fields slots a t = ap (places_of fields) (rest_from slots (a.index + 1) (ltb-true (a.index + 1) (length slots) t))
next_left_if false fields slots a t = ap (places_of fields) (drop_of_length-le slots (ltb-false (a.index + 1) (length slots) t))

-- the field behind
behind_stands_if : (b : Bool) (fields : ℕ) (slots : List ℕ) (a : Member) → ltb (a.field + 1) fields ≡ b → a.field < fields → IsOf slots a → Stands fields slots (else_member (next_field_if b a) slots a)
behind_stands_if true fields slots a t f h = record { field = ltb-true (a.field + 1) fields t; member = record { index = h.index; slot = h.slot } }
behind_stands_if false fields slots a t f h = next_stands fields slots a (omega (arith, f))

pub behind_stands : (fields : ℕ) (slots : List ℕ) (a : Member) → a.field < fields → IsOf slots a → Stands fields slots (behind fields slots a)
behind_stands fields slots a f h = behind_stands_if (ltb (a.field + 1) fields) fields slots a refl f h

behind_left_if : (b : Bool) (fields : ℕ) (slots : List ℕ) (a : Member) → ltb (a.field + 1) fields ≡ b → places_from fields a.slot (a.field + 1) ++ places_of fields (drop (a.index + 1) slots) ≡ places_left fields slots (else_member (next_field_if b a) slots a)
behind_left_if true fields slots a t = refl
behind_left_if false fields slots a t =
    ap (λ ps. ps ++ places_of fields (drop (a.index + 1) slots)) (places_end fields a.slot (a.field + 1) (ltb-false (a.field + 1) fields t))
    ∙ next_left_if (ltb (a.index + 1) (length slots)) fields slots a refl

-- this field's place, and those that are left behind it
pub behind_left : (fields : ℕ) (slots : List ℕ) (a : Member) → a.field < fields → places_left fields slots (Some a) ≡ place_of a.slot a.field fields ∷ places_left fields slots (behind fields slots a)
behind_left fields slots a f =
    ap (λ ps. ps ++ places_of fields (drop (a.index + 1) slots)) (places_step fields a.slot a.field f)
    ∙ ap (λ ps. place_of a.slot a.field fields ∷ ps) (behind_left_if (ltb (a.field + 1) fields) fields slots a refl)

walked_left : (steps fields : ℕ) (slots : List ℕ) (at : Option Member) → Stands fields slots at → walked fields slots steps at ≡ take steps (places_left fields slots at)
unfolding walked
walked_left zero fields slots at s = refl
walked_left (suc steps) fields slots None s = refl
walked_left (suc steps) fields slots (Some a) s =
    ap (λ ps. place_of a.slot a.field fields ∷ ps) (walked_left steps fields slots (behind fields slots a) (behind_stands fields slots a s.field s.member))
    ∙ sym (ap (take (suc steps)) (behind_left fields slots a s.field))

-- a whole walk
pub whole_walk : (fields : ℕ) (slots : List ℕ) (steps : ℕ) → 0 < fields → HasWalked fields slots steps
whole_walk fields slots steps f = walked_left steps fields slots (first_in slots) (first_stands fields slots f) ∙ ap (take steps) (first_left fields slots)

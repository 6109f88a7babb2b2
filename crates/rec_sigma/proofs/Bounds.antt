-- How much a preparation loads, and where.
use Rattle.std.proofs.Common.{get_or, ◌≡◌, ℕ, ◌-◌, ◌*◌, ◌<◌, ◌≤◌, Option, Some, None, IfSome, List, [], ◌∷◌, length, map, refl, arith, ◌∙◌, ap}
use Rattle.std.specs.List.{sum_by, concat}
use Rattle.std.proofs.Math.Nat.{mul-le-mul_left}
use Rattle.std.proofs.lemmas.List.{length-append, length-map}
use Rattle.std.proofs.lemmas.List.FromFn.{length-map-range_with_len}
use Rattle.rec_word.specs.Place.{place_of, places_from, places_of}
use Rattle.rec_word.proofs.FieldPlaces.{place_within}
use Rattle.rec_counts.specs.Counts.{State, IsKept, slot_at}
use Rattle.rec_counts.specs.Slot.{is_in}
use Rattle.rec_counts.proofs.Keeping.{members_once}
use Rattle.std.proofs.lemmas.List.Sums.{sum_by-cons}
use Rattle.rec_counts.specs.Lists.{times}
use Rattle.rec_counts.proofs.Times.{length-once, one-same, times-cons, one-some}
use Rattle.rec_sigma.specs.Judged.{SumsOutside}
use Rattle.rec_sigma.specs.declared.at.At.{At}
use Rattle.rec_sigma.specs.Prepare.{Machine, members_of, next_of, op_at, IsAtWork}
use Rattle.rec_sigma.specs.Prepared.{LoadsWithin, outside, PreparedTo, places_left}
use Rattle.rec_word.specs.Load.{Load, place_loaded}
use Rattle.rec_sigma.proofs.Cyclics.{in_set, own_set, set_in_range}
use Rattle.rec_sigma.proofs.Runs.{held_set}

-- so many slots have so many places
places_many : (fields : ℕ) (slots : List ℕ) → length (places_of fields slots) ≡ length slots * fields
places_many fields [] = omega arith
places_many fields (x ∷ xs) =
    let e : length (places_from fields x 0) ≡ fields - 0 = length-map-range_with_len (λ f. place_of x f fields) 0 (fields - 0) in
    omega (arith, length-append (places_from fields x 0) (places_of fields xs), e, places_many fields xs)

pub few_loads : (fields : ℕ) (before : State) (at : Option At) (after : State) (loads : List Load) → IsKept before → PreparedTo fields before at after loads → (length loads ≤ length (concat before.sets) * fields) × (length (concat before.sets) * fields ≤ length before.slots * fields)
few_loads fields before at after loads k p =
    let few : length (concat before.sets) ≤ length before.slots = length-once (length before.slots) (concat before.sets) (members_once k) in (
      omega (arith, ap length p.places, places_many fields (concat before.sets), length-append (map (place_loaded fields) loads) (places_left fields before.sets at), length-map loads (place_loaded fields)),
      omega (arith, mul-le-mul_left fields few),
    )

names_at : (at : Option At) (fields : ℕ) (s : State) → IsKept s → IsAtWork (record { fields = fields; at = at }) s → IfSome (op_at fields at) (LoadsWithin (length s.slots * fields))
names_at None fields s k w = tt
names_at (Some a) fields s k w =
    let l : a.member.slot < length s.slots = set_in_range s a.set a.member.slot (ap (λ o. is_in a.set o) (held_set s a k.numbers w.held) ∙ own_set a.set) in
    (place_of a.member.slot a.member.field fields, refl, place_within (length s.slots) fields a.member.slot a.member.field l w.field)

pub names_place : (m : Machine) (s : State) → IsKept s → IsAtWork m s → IfSome (next_of m) (LoadsWithin (length s.slots * m.fields))
unfolding next_of
names_place m s k w = names_at m.at m.fields s k w

-- sums of what agrees on a list are equal
sum_same : (f g : ℕ → ℕ) (xs : List ℕ) → ((y : ℕ) → 0 < times y xs → f y ≡ g y) → sum_by f xs ≡ sum_by g xs
sum_same f g [] h = refl
sum_same f g (x ∷ xs) h =
    omega (arith, sum_by-cons f x xs, sum_by-cons g x xs, h x (omega (arith, times-cons x x xs, one-same x)), sum_same f g xs (λ y t. h y (omega (arith, t, times-cons y x xs))))

pub sums_outside : (fields : ℕ) (before after : State) (loads : List Load) (number : ℕ) → IsKept before → SumsOutside fields before after loads number
sums_outside fields before after loads number k = λ p l.
    ap (λ sets. sum_by (λ x. (slot_at after x).cyclic) (get_or sets number [])) p.others.sets
    ∙ sum_same (λ x. (slot_at after x).cyclic) (λ x. outside before number loads x) (members_of before number)
    (λ x t. p.members number x l (in_set number (slot_at before x).set (one-some (is_in number (slot_at before x).set) (omega (arith, t, k.numbers number x)))))

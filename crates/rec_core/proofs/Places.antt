-- The places of fields among the words.
use Rattle.std.proofs.Common.{◌≡◌, ℕ, ◌+◌, ◌-◌, ◌*◌, ◌/◌, ◌<◌, ◌≤◌, arith, ap, ◌∙◌}
use Rattle.std.proofs.Math.Nat.{mul-le-mul_left}
use Rattle.std.proofs.lemmas.Nat.{div-mul-add}
use Rattle.rec_core.proofs.Common.{place_of}
use Rattle.rec_word.proofs.FieldPlaces as fields_places

-- a field of a slot is one of the words
pub place_within : (fields slots words slot f : ℕ) → words ≡ slots * fields → slot < slots → f < fields → place_of slot f fields < words
place_within fields slots words slot f places there in_range = omega (arith, places, fields_places.place_within slots fields slot f there in_range)

-- a place between a slot's first and the next slot's is of that slot
pub in_row : (slot fields p : ℕ) → slot * fields ≤ p → p < slot * fields + fields → p / fields ≡ slot
in_row slot fields p from to =
    let split : p ≡ slot * fields + (p - slot * fields) = omega arith in
    let inside : p - slot * fields < fields = omega arith in
    ap (λ q. q / fields) split ∙ div-mul-add slot fields (p - slot * fields) inside

-- a place of a slot is a place of the heap
pub within_row : (fields slots p : ℕ) → 0 < fields → p / fields < slots → p < slots * fields
within_row fields slots p some below =
    let m : p / fields + 1 ≤ slots = omega (arith, below) in
    omega (arith, mul-le-mul_left fields m)

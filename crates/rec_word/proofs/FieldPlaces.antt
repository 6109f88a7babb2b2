-- The places of fields: each is one of the heap's, no two fields have one place, and a slot's stand in order.
use Rattle.std.proofs.Common.{◌≡◌, ℕ, suc, ◌+◌, ◌-◌, ◌*◌, ◌/◌, ◌%◌, ◌<◌, ◌≤◌, ◌∙◌, [], ◌∷◌, map, arith, sym, ap}
use Rattle.std.specs.List.{range_with_len}
use Rattle.std.proofs.Math.Nat.{mul-le-mul_left}
use Rattle.std.proofs.lemmas.Nat.{div-mul-add, mod-mul-add}
use Rattle.rec_word.specs.Place.{place_of, places_from}

-- a field of a slot is one of the places
pub place_within : (slots fields slot field : ℕ) → slot < slots → field < fields → place_of slot field fields < slots * fields
place_within slots fields slot field there in_range =
    let next : fields * (slot + 1) ≤ fields * slots = mul-le-mul_left fields (omega arith) in
    omega (arith, next)

-- no two fields have one place: dividing by the number of fields gives the slot, and the rest is the field
pub one_place : (fields s t f g : ℕ) → f < fields → g < fields → place_of s f fields ≡ place_of t g fields → (s ≡ t) × (f ≡ g)
one_place fields s t f g in_s in_t same = (
  sym (div-mul-add s fields f in_s) ∙ ap (λ n. n / fields) same ∙ div-mul-add t fields g in_t,
  sym (mod-mul-add s fields f in_s) ∙ ap (λ n. n % fields) same ∙ mod-mul-add t fields g in_t,
)

-- the first of a slot's places, and the others
pub places_step : (fields slot field : ℕ) → field < fields → places_from fields slot field ≡ place_of slot field fields ∷ places_from fields slot (field + 1)
places_step fields slot field l =
    let e : fields - field ≡ suc (fields - (field + 1)) = omega arith in
    ap (λ n. map (λ f. place_of slot f fields) (range_with_len field n)) e

-- past the last field there are none
pub places_end : (fields slot field : ℕ) → fields ≤ field → places_from fields slot field ≡ []
places_end fields slot field l =
    let e : fields - field ≡ 0 = omega arith in
    ap (λ n. map (λ f. place_of slot f fields) (range_with_len field n)) e

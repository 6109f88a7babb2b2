-- The words of a slot, after a write.
use Rattle.std.proofs.Common.{◌≡◌, ◌≢◌, inl, inr, ℕ, ◌+◌, ◌-◌, ◌*◌, ◌<◌, ◌≤◌, zero, suc, List, [], ◌∷◌, slice_set, map, take, drop, replicate, refl, ap, ◌∙◌, arith}
use Rattle.std.proofs.Math.Nat.{mul-le-mul_left}
use Rattle.std.proofs.Math.Seq.{take-set-lt}
use Rattle.std.proofs.lemmas.Bool.{cases_lt}
use Rattle.std.proofs.lemmas.List.{drop-set-add, drop-set-lt, take-set-le}
use Rattle.rec_model.proofs.Common.{target_of, named, Field, null_field, Sight, words_of, field_of, sight_with_word}
use Rattle.rec_word.specs.Place.{place_of}

-- the slot's own words
pub words_of-set_same : (w : Sight) (slot f word : ℕ) → f < w.fields → words_of (sight_with_word w slot f word) slot ≡ slice_set (words_of w slot) f word
words_of-set_same w slot f word in_range =
    ap (take (slot * w.fields + w.fields - slot * w.fields)) (drop-set-add (slot * w.fields) w.words f word)
    ∙ take-set-lt (slot * w.fields + w.fields - slot * w.fields) (drop (slot * w.fields) w.words) f word (omega arith)

-- a write before the part that is read
cut_after : (words : List ℕ) (from many place word : ℕ) → place < from → take many (drop from (slice_set words place word)) ≡ take many (drop from words)
cut_after words from many place word before = ap (take many) (drop-set-lt from words place word before)

-- a write behind the part that is read
cut_before : (words : List ℕ) (from many place word : ℕ) → from + many ≤ place → take many (drop from (slice_set words place word)) ≡ take many (drop from words)
cut_before words from many place word behind =
    let is : place ≡ from + (place - from) = omega arith in
    ap (λ p. take many (drop from (slice_set words p word))) is
    ∙ ap (take many) (drop-set-add from words (place - from) word)
    ∙ take-set-le many (drop from words) (place - from) word (omega arith)

-- the words of another slot
pub words_of-set_other : (w : Sight) (slot f word s : ℕ) → f < w.fields → s ≢ slot → words_of (sight_with_word w slot f word) s ≡ words_of w s
words_of-set_other w slot f word s in_range other = elim (cases_lt s slot) [
  | inl before ↦
      let next : w.fields * (s + 1) ≤ w.fields * slot = mul-le-mul_left w.fields (omega arith) in
      cut_before w.words (s * w.fields) (s * w.fields + w.fields - s * w.fields) (place_of slot f w.fields) word (omega (arith, next))
  | inr behind ↦
      let next : w.fields * (slot + 1) ≤ w.fields * s = mul-le-mul_left w.fields (omega arith) in
      cut_after w.words (s * w.fields) (s * w.fields + w.fields - s * w.fields) (place_of slot f w.fields) word (omega (arith, next))
]

-- null words name nothing
pub named-nulls : (n : ℕ) → named (map target_of (replicate n 0)) ≡ []
named-nulls zero = refl
named-nulls (suc n) = named-nulls n

-- null fields, under any numbering
pub null_fields : (number : ℕ → ℕ) (n : ℕ) → replicate n null_field ≡ map (field_of number) (replicate n 0)
null_fields number zero = refl
null_fields number (suc n) = ap (λ (xs : List Field). null_field ∷ xs) (null_fields number n)

-- One bit of a word is changed, and the lowest bit of a word is found.
use Rattle.std.proofs.Common.{◌≡◌, ◌≢◌, inl, inr, ℕ, ◌+◌, ◌*◌, ◌/◌, ◌%◌, ◌^◌, ◌<◌, ◌==◌, if◌then◌else◌, Bool, List, length, get_or, slice_set, arith, sym, ap, subst, ◌∙◌}
use Rattle.std.specs.Prelude.{bit_and, bit_or}
use Rattle.std.specs.Int.{bit_at, bit_not, w64, trailing_zeros}
use Rattle.std.proofs.lemmas.Bool.{cases_eq, eq-eqb, ne_eqb}
use Rattle.std.proofs.lemmas.List.{get_or-set_same, get_or-set_other, get_or_default}
use Rattle.std.proofs.lemmas.Nat.Bits.{bit_at_set_same, bit_at_set_other, bit_at_clear_same, bit_at_clear_other, bit_at-trailing_zeros}
use Rattle.rec_index.specs.Sets.{bit, IsLowestIn}

-- A word of a set was replaced by one that has this bit instead at one place, and is the same at the others.
changed : (words : List ℕ) (i y b : ℕ) → i / 64 < length words → bit_at y (i % 64) ≡ b
    → ((k : ℕ) → k < 64 → k ≢ i % 64 → bit_at y k ≡ bit_at (get_or words (i / 64) 0) k)
    → (j : ℕ) → bit (slice_set words (i / 64) y) j ≡ (if j == i then b else bit words j)
changed words i y b there same other j =
    elim (cases_eq j i) [
      | inl is ↦
          ap (bit (slice_set words (i / 64) y)) is ∙ ap (λ x. bit_at x (i % 64)) (get_or-set_same words (i / 64) y 0 there) ∙ same
          ∙ sym (ap (λ (t : Bool). if t then b else bit words j) (eq-eqb j i is))
      | inr isnt ↦ elsewhere isnt ∙ sym (ap (λ (t : Bool). if t then b else bit words j) (ne_eqb j i isnt))
    ]
  where
    elsewhere : j ≢ i → bit (slice_set words (i / 64) y) j ≡ bit words j
    elsewhere isnt = elim (cases_eq (j / 64) (i / 64)) [
      | inl near ↦
          ap (λ k. bit_at (get_or (slice_set words (i / 64) y) k 0) (j % 64)) near ∙ ap (λ x. bit_at x (j % 64)) (get_or-set_same words (i / 64) y 0 there)
          ∙ other (j % 64) (omega arith) (λ e. isnt (omega arith)) ∙ ap (λ k. bit_at (get_or words k 0) (j % 64)) (sym near)
      | inr far ↦ ap (λ x. bit_at x (j % 64)) (get_or-set_other words (i / 64) (j / 64) y 0 far)
    ]

module _ (words now : List ℕ) (i x : ℕ) (is : words ≡ now) (there : i / 64 < length now) (read : x ≡ get_or words (i / 64) x) where
  within : i / 64 < length words
  within = subst (λ (ws : List ℕ). i / 64 < length ws) (sym is) there

  word : x ≡ get_or words (i / 64) 0
  word = read ∙ get_or_default words (i / 64) x 0 within

  -- `words[i / 64] |= 1 << (i % 64)`
  pub inserted : (j : ℕ) → bit (slice_set words (i / 64) (bit_or x (1 * 2 ^ (i % 64) % 2 ^ 64))) j ≡ (if j == i then 1 else bit now j)
  inserted j =
      changed words i (bit_or x (1 * 2 ^ (i % 64) % 2 ^ 64)) 1 within (bit_at_set_same w64 x (i % 64) (omega arith))
      (λ k low apart. bit_at_set_other w64 x (i % 64) (omega arith) k apart ∙ ap (λ n. bit_at n k) word) j
      ∙ ap (λ (ws : List ℕ). if j == i then 1 else bit ws j) is

  -- `words[i / 64] &= !(1 << (i % 64))`
  pub removed : (j : ℕ) → bit (slice_set words (i / 64) (bit_and x (bit_not w64 (1 * 2 ^ (i % 64) % 2 ^ 64)))) j ≡ (if j == i then 0 else bit now j)
  removed j =
      changed words i (bit_and x (bit_not w64 (1 * 2 ^ (i % 64) % 2 ^ 64))) 0 within (bit_at_clear_same w64 x (i % 64) (omega arith))
      (λ k low apart. bit_at_clear_other w64 x (i % 64) (omega arith) k low apart ∙ ap (λ n. bit_at n k) word) j
      ∙ ap (λ (ws : List ℕ). if j == i then 0 else bit ws j) is

-- the lowest member of a word that isn't 0
pub lowest_in : (words now : List ℕ) (word x : ℕ) → words ≡ now → word < length now → x ≡ get_or words word x → (x ≡ 0 → ⊥) → x < 2 ^ 64
    → IsLowestIn now word (64 * word + trailing_zeros w64 x)
lowest_in words now word x is there read some fits =
    let found = bit_at-trailing_zeros w64 x (omega (arith, some)) fits in
    let i : ℕ = 64 * word + trailing_zeros w64 x in
    let near : i / 64 ≡ word = omega (arith, found.0) in
    let place : i % 64 ≡ trailing_zeros w64 x = omega (arith, found.0) in
    let from : get_or now word 0 ≡ x =
    sym (read ∙ ap (λ (ws : List ℕ). get_or ws word x) is ∙ get_or_default now word x 0 there) in
    record {
      there = near;
      holds = ap (λ k. bit_at (get_or now k 0) (i % 64)) near ∙ ap (λ n. bit_at n (i % 64)) from ∙ ap (bit_at x) place ∙ found.1;
      lower = λ j same below.
          ap (λ k. bit_at (get_or now k 0) (j % 64)) same ∙ ap (λ n. bit_at n (j % 64)) from ∙ found.2 (j % 64) (omega arith);
    }

-- What a level tells of the one below, and where the lowest member is.
use Rattle.std.proofs.Common.{◌≡◌, ◌≢◌, inl, inr, ℕ, ◌/◌, ◌%◌, ◌<◌, ◌==◌, if◌then◌else◌, Bool, List, length, get_or, replicate, arith, refl, sym, ap, subst, ◌∙◌}
use Rattle.std.specs.Prelude.{min}
use Rattle.std.specs.Int.{bit_at}
use Rattle.std.proofs.lemmas.Bool.{cases_eq, cases_lt, eq-eqb, ne_eqb}
use Rattle.std.proofs.lemmas.List.{get_or_past, get_or-replicate, length-replicate}
use Rattle.std.proofs.lemmas.Nat.Bits.{bit_at-zero}
use Rattle.rec_index.specs.Inside.{IsWhole}
use Rattle.rec_index.specs.Sets.{bit, Tells, IsLowestIn, IsLowest}

-- a word that is 0 has no members
none_in : (words : List ℕ) (i : ℕ) → get_or words (i / 64) 0 ≡ 0 → bit words i ≡ 0
none_in words i empty = ap (λ x. bit_at x (i % 64)) empty ∙ bit_at-zero (i % 64)

-- a word with a member isn't 0
some_in : (words : List ℕ) (i : ℕ) → bit words i ≡ 1 → 0 < get_or words (i / 64) 0
some_in words i holds = elim (cases_eq (get_or words (i / 64) 0) 0) [
  | inl empty ↦ absurd (omega (arith, holds, none_in words i empty))
  | inr some ↦ omega (arith, some)
]

-- where a level has no member, the word below is 0
untold : (upper lower : List ℕ) (k : ℕ) → Tells upper lower → bit upper k ≡ 0 → get_or lower k 0 ≡ 0
untold upper lower k tells none = omega (arith, tells k, none)

-- it has the number of a member's word
pub told_of : (upper lower : List ℕ) (i : ℕ) → Tells upper lower → bit lower i ≡ 1 → bit upper (i / 64) ≡ 1
told_of upper lower i tells held = tells (i / 64) ∙ omega (arith, some_in lower i held)

-- One word changed, and the level above has its bit for it.
tells_changed : (upper upper_ lower lower_ : List ℕ) (g b : ℕ) → Tells upper lower → ((k : ℕ) → k ≢ g → get_or lower_ k 0 ≡ get_or lower k 0)
    → min 1 (get_or lower_ g 0) ≡ b → ((k : ℕ) → bit upper_ k ≡ (if k == g then b else bit upper k)) → Tells upper_ lower_
tells_changed upper upper_ lower lower_ g b tells others now above k = elim (cases_eq k g) [
  | inl is ↦
      above k ∙ ap (λ (t : Bool). if t then b else bit upper k) (eq-eqb k g is) ∙ sym now ∙ ap (λ j. min 1 (get_or lower_ j 0)) (sym is)
  | inr isnt ↦
      above k ∙ ap (λ (t : Bool). if t then b else bit upper k) (ne_eqb k g isnt) ∙ tells k ∙ ap (min 1) (sym (others k isnt))
]

-- a number was inserted, and the number of its word above
pub tells_inserted : (upper upper_ lower lower_ : List ℕ) (i : ℕ) → Tells upper lower → ((j : ℕ) → bit lower_ j ≡ (if j == i then 1 else bit lower j))
    → ((k : ℕ) → k ≢ i / 64 → get_or lower_ k 0 ≡ get_or lower k 0) → ((k : ℕ) → bit upper_ k ≡ (if k == i / 64 then 1 else bit upper k)) → Tells upper_ lower_
tells_inserted upper upper_ lower lower_ i tells holds others above =
    let here : bit lower_ i ≡ 1 = holds i ∙ ap (λ (t : Bool). if t then 1 else bit lower i) (eq-eqb i i refl) in
    tells_changed upper upper_ lower lower_ (i / 64) 1 tells others (omega (arith, some_in lower_ i here)) above

-- a number was removed, and its word is 0 then: so was the number of its word above
pub tells_emptied : (upper upper_ lower lower_ : List ℕ) (i : ℕ) → Tells upper lower → ((k : ℕ) → k ≢ i / 64 → get_or lower_ k 0 ≡ get_or lower k 0)
    → get_or lower_ (i / 64) 0 ≡ 0 → ((k : ℕ) → bit upper_ k ≡ (if k == i / 64 then 0 else bit upper k)) → Tells upper_ lower_
tells_emptied upper upper_ lower lower_ i tells others empty above = tells_changed upper upper_ lower lower_ (i / 64) 0 tells others (ap (min 1) empty) above

-- a member was removed, and its word isn't 0 then: the level above stays
pub tells_still : (upper lower lower_ : List ℕ) (i : ℕ) → Tells upper lower → bit lower i ≡ 1 → ((k : ℕ) → k ≢ i / 64 → get_or lower_ k 0 ≡ get_or lower k 0)
    → get_or lower_ (i / 64) 0 ≢ 0 → Tells upper lower_
tells_still upper lower lower_ i tells held others some =
    let was : bit upper (i / 64) ≡ 1 = told_of upper lower i tells held in
    tells_changed upper upper lower lower_ (i / 64) 1 tells others (omega (arith, some))
    (λ k. elim (cases_eq k (i / 64)) [
      | inl is ↦ ap (bit upper) is ∙ was ∙ sym (ap (λ (t : Bool). if t then 1 else bit upper k) (eq-eqb k (i / 64) is))
      | inr isnt ↦ sym (ap (λ (t : Bool). if t then 1 else bit upper k) (ne_eqb k (i / 64) isnt))
    ])

-- each word of an empty level is 0
zeros : (n i : ℕ) → get_or (replicate {A = ℕ} n 0) i 0 ≡ 0
zeros n i = elim (cases_lt i n) [
  | inl there ↦ get_or-replicate n i 0 0 there
  | inr past ↦ get_or_past (replicate {A = ℕ} n 0) i 0 (omega (arith, length-replicate {A = ℕ} n 0))
]

-- so it has no members
pub empty_holds : (words : List ℕ) (n i : ℕ) → words ≡ replicate n 0 → bit words i ≡ 0
empty_holds words n i is = ap (λ (ws : List ℕ). bit ws i) is ∙ none_in (replicate {A = ℕ} n 0) i (zeros n (i / 64))

-- empty levels
tells_empty : (n m : ℕ) → Tells (replicate {A = ℕ} n 0) (replicate {A = ℕ} m 0)
tells_empty n m k = none_in (replicate {A = ℕ} n 0) k (zeros n (k / 64)) ∙ sym (ap (min 1) (zeros m k))

-- The levels of an index.
module _ (slots words groups : List ℕ) (over_slots : Tells words slots) (over_words : Tells groups words) (one : length groups ≡ 1) where
  -- groups behind the first word are none
  no_group : (k : ℕ) → k / 64 ≢ 0 → bit groups k ≡ 0
  no_group k behind = none_in groups k (get_or_past groups (k / 64) 0 (omega (arith, one, behind)))

  -- no group, no slot
  pub none_at_all : get_or groups 0 0 ≡ 0 → (s : ℕ) → bit slots s ≡ 0
  none_at_all empty s = none_in slots s (untold words slots (s / 64) over_slots (none_in words (s / 64) (untold groups words (s / 64 / 64) over_words (no (s / 64 / 64)))))
    where
      no : (k : ℕ) → bit groups k ≡ 0
      no k = elim (cases_eq (k / 64) 0) [
        | inl is ↦ none_in groups k (ap (λ j. get_or groups j 0) is ∙ empty)
        | inr isnt ↦ no_group k isnt
      ]

  -- the lowest slot of the lowest word of the lowest group
  pub lowest_of : (group word slot : ℕ) → IsLowestIn groups 0 group → IsLowestIn words group word → IsLowestIn slots word slot → IsLowest slots slot
  lowest_of group word slot first second third = record { holds = third.holds; lower = lower }
    where
      lower_group : (k : ℕ) → k < group → bit groups k ≡ 0
      lower_group k below = first.lower k (omega (arith, first.there)) below

      lower_word : (k : ℕ) → k < word → bit words k ≡ 0
      lower_word k below = elim (cases_lt (k / 64) group) [
        | inl less ↦ none_in words k (untold groups words (k / 64) over_words (lower_group (k / 64) less))
        | inr more ↦ second.lower k (omega (arith, second.there)) below
      ]

      lower : (s : ℕ) → s < slot → bit slots s ≡ 0
      lower s below = elim (cases_lt (s / 64) word) [
        | inl less ↦ none_in slots s (untold words slots (s / 64) over_slots (lower_word (s / 64) less))
        | inr more ↦ third.lower s (omega (arith, third.there)) below
      ]

-- levels without a member are those of an empty index
pub empty_whole : (slots words groups : List ℕ) → slots ≡ replicate 1024 0 → words ≡ replicate 16 0 → groups ≡ replicate 1 0 → IsWhole (record { slots = slots; words = words; groups = groups })
empty_whole slots words groups no_slots no_words no_groups =
    record {
      words = subst (λ (ws : List ℕ). Tells ws slots) (sym no_words) (subst (Tells (replicate 16 0)) (sym no_slots) (tells_empty 16 1024));
      groups = subst (λ (ws : List ℕ). Tells ws words) (sym no_groups) (subst (Tells (replicate 1 0)) (sym no_words) (tells_empty 1 16));
      slots_length = ap length no_slots;
      words_length = ap length no_words;
      groups_length = ap length no_groups;
    }

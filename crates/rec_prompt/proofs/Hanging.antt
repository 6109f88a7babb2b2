-- What hangs on something hangs on something still where what it hung on does, and each field that led there leads there, or what it led
-- to hangs on something by itself.
use Rattle.std.proofs.Common.{◌≡◌, ◌⊎◌, inl, inr, ℕ, false, Bool, Option, None, Some, length, replicate, slice_index_or, sym, ap, ◌∙◌, arith}
use Rattle.std.proofs.Math.Nat.{mul-le-mul_right}
use Rattle.std.proofs.lemmas.Bool.{cases_Bool, cases_lt}
use Rattle.std.proofs.lemmas.List.{get_or_past, get_or-replicate, length-replicate}
use Rattle.rec_core.proofs.Common.{place_of, target_of, is_green, slot_at, State, HasGreens, IsSound, Sight, IsTaken, words_of, word_in, Core, sight, IsKept}
use Rattle.rec_model.proofs.Unfreed.{taken_or_free}
use Rattle.rec_prompt.specs.Cover.{Hangs, IsListed}
use Rattle.rec_prompt.specs.Cover.Hangs.{later, listed, behind}
use Rattle.rec_prompt.specs.Lost.{Leads}

-- the slot hangs on something, if it has to
abbrev pub IsHung : (w : Sight) (pending : ℕ → Type 0) (s : State) → (slot : ℕ) → Type 0
IsHung w pending s slot = IsTaken w slot → is_green (slot_at s slot).colour ≡ false → Hangs w pending s slot

-- what leads somewhere has to hang on something
abbrev pub LeadersCount : Sight → State → Type 0
LeadersCount w s = (from slot : ℕ) → Leads w from slot → IsTaken w from × (is_green (slot_at s from).colour ≡ false)

-- From one moment to another: what is pending or listed hangs on something then, and a field that leads on does so still, unless what it
-- leads to hangs on something then.
pub carried : (w u : Sight) (before after : ℕ → Type 0) (s t : State) → LeadersCount u t
    → ((slot : ℕ) → before slot → IsHung u after t slot)
    → ((slot : ℕ) → IsListed s slot → IsHung u after t slot)
    → ((from slot : ℕ) → Leads w from slot → Leads u from slot ⊎ IsHung u after t slot)
    → (slot : ℕ) → Hangs w before s slot → IsHung u after t slot
carried w u before after s t alive from_pending from_list edge slot (later is) = from_pending slot is
carried w u before after s t alive from_pending from_list edge slot (listed is) = from_list slot is
carried w u before after s t alive from_pending from_list edge slot (behind {from = from} path leads) = elim (edge from slot leads) [
  | inl still ↦
      let there = alive from slot still in
      λ taken plain. behind (carried w u before after s t alive from_pending from_list edge from path there.0 there.1) still
  | inr hung ↦ hung
]

-- the word of a free slot's field, and of a leaf's, is null
null_word : (n f : ℕ) → ◌≡◌ {A = ℕ} (slice_index_or (replicate n 0) f 0) 0
null_word n f = elim (cases_lt f n) [
  | inl inside ↦ get_or-replicate n f 0 0 inside
  | inr past ↦ let many : length (replicate {A = ℕ} n 0) ≡ n = length-replicate n 0 in get_or_past (replicate {A = ℕ} n 0) f 0 (omega (arith, past, many))
]

-- On a path of fields from what is pending.
pub data Trails (w : Sight) (pending : ℕ → Type 0) : (slot : ℕ) → Type 0 where
  first : {slot : ℕ} → pending slot → Trails w pending slot
  along : {from slot : ℕ} → Trails w pending from → Leads w from slot → Trails w pending slot

-- whatever holds of what is pending, and of what a field leads to from where it holds
pub all_on_trails : (w : Sight) (pending : ℕ → Type 0) (P : ℕ → Type 0) → ((slot : ℕ) → pending slot → P slot) → ((from slot : ℕ) → P from → Leads w from slot → P slot) → (slot : ℕ) → Trails w pending slot → P slot
all_on_trails w pending P at_first on slot (Trails.first is) = at_first slot is
all_on_trails w pending P at_first on slot (Trails.along {from = from} path leads) = on from slot (all_on_trails w pending P at_first on from path) leads

pub trails_hang : (w : Sight) (pending : ℕ → Type 0) (s : State) (slot : ℕ) → Trails w pending slot → Hangs w pending s slot
trails_hang w pending s = all_on_trails w pending (Hangs w pending s) (λ slot is. later is) (λ from slot hung leads. behind hung leads)

-- where what was pending is so still, and a field leads where it led or the target is pending
pub trails_stay : (w u : Sight) (before after : ℕ → Type 0) → ((slot : ℕ) → before slot → after slot) → ((from slot : ℕ) → Leads w from slot → Leads u from slot ⊎ after slot) → (slot : ℕ) → Trails w before slot → Trails u after slot
trails_stay w u before after still edge = all_on_trails w before (Trails u after) (λ slot is. Trails.first (still slot is))
    (λ from slot path leads. elim (edge from slot leads) [ inl there ↦ Trails.along path there | inr is ↦ Trails.first is ])

-- What leads somewhere in a sound heap in which just leaves are Green has to hang on something.
pub leaders_from : (w : Sight) (s : State) → IsSound w → HasGreens w.headers s → LeadersCount w s
leaders_from w s sound greens from slot (field, within, leads) = (there, plain)
  where
    null : words_of w from ≡ replicate w.fields 0 → ⊥
    null none =
        let zero : slice_index_or w.words (place_of from field w.fields) 0 ≡ 0 = sym (word_in w from field within) ∙ ap (λ ws. slice_index_or ws field 0) none ∙ null_word w.fields field in
        let not_so : ◌≡◌ {A = Option ℕ} None (Some slot) = sym (ap target_of zero) ∙ leads in
        cc

    there : IsTaken w from
    there = elim (taken_or_free w from) [
      | inl taken ↦ taken
      | inr free ↦ elim (cases_lt from (length w.headers)) [
        | inl below ↦ absurd (null (sound.free from below free))
        | inr past ↦
            let zero : slice_index_or w.words (place_of from field w.fields) 0 ≡ 0 = get_or_past w.words (place_of from field w.fields) 0 (omega (arith, sound.places, mul-le-mul_right w.fields past)) in
            let not_so : ◌≡◌ {A = Option ℕ} None (Some slot) = sym (ap target_of zero) ∙ leads in
            absurd (cc)
      ]
    ]

    plain : is_green (slot_at s from).colour ≡ false
    plain = elim (cases_Bool (is_green (slot_at s from).colour)) [ inr plain_ ↦ plain_ | inl green ↦ absurd (null (sound.leaves from (greens from green))) ]

-- so it is of every heap
pub leaders_count : {dated : Bool} → (w : Core) → IsKept dated w → LeadersCount (sight w) w.collector.counts
leaders_count w kept = leaders_from (sight w) w.collector.counts kept.sound kept.greens

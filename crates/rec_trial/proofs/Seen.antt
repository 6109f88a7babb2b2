-- What scanning and collecting learn of a word is the same whether a Green slot is seen or not, since it is neither Gray nor White.
use Rattle.std.proofs.Common.{◌≡◌, ◌≢◌, ℕ, ◌<◌, Bool, true, false, if◌then◌else◌, Option, None, Some, IfSome, length, refl, sym, ap, ◌∙◌}
use Rattle.std.proofs.lemmas.Bool.{false≢true}
use Rattle.rec_counts.specs.declared.colour.Colour.TheVariants.{Green}
use Rattle.rec_trial.specs.Moves.{blackened_if, joined_if}
use Rattle.rec_trial.specs.Rules.{seen_of}
use Rattle.rec_trial.proofs.Common.{target_of, Colour, Black, Purple, Gray, White, Orange, is_green, is_gray, is_white, State, slot_at, visible, visible_if, unreleased_within, learnt_at, Phase, Idle, Marking, Scanning, Collecting}

green_other : (c : Colour) → is_green c ≡ true → (is_gray c ≡ false) × (is_white c ≡ false)
green_other Green g = (refl, refl)
green_other Black g = absurd (false≢true g)
green_other Purple g = absurd (false≢true g)
green_other Gray g = absurd (false≢true g)
green_other White g = absurd (false≢true g)
green_other Orange g = absurd (false≢true g)

green_left : (p : Phase) → p ≢ Marking → (s : State) (x : ℕ) → is_green (slot_at s x).colour ≡ true → learnt_at p s (Some x) ≡ learnt_at p s None
green_left Idle other s x g = refl
green_left Marking other s x g = absurd (other refl)
green_left Scanning other s x g = ap (λ b. blackened_if b s x) (green_other (slot_at s x).colour g).0
green_left Collecting other s x g = ap (λ b. joined_if b s x) (green_other (slot_at s x).colour g).1

pub seen_alike : (p : Phase) → p ≢ Marking → (s : State) (word : ℕ) → learnt_at p s (target_of word) ≡ learnt_at p s (target_of (visible s word))
seen_alike p other s word = by (target_of word) refl
  where
    by_colour : (x : ℕ) (b : Bool) → is_green (slot_at s x).colour ≡ b → target_of word ≡ Some x → learnt_at p s (target_of word) ≡ learnt_at p s (target_of (if b then 0 else word))
    by_colour x false g e = refl
    by_colour x true g e = ap (learnt_at p s) e ∙ green_left p other s x g

    by : (t : Option ℕ) → target_of word ≡ t → learnt_at p s (target_of word) ≡ learnt_at p s (target_of (visible_if t s word))
    by None e = refl
    by (Some x) e = by_colour x (is_green (slot_at s x).colour) refl e

-- what is seen of the word's target is where a word leads that is seen
pub seen_target : (s : State) (word : ℕ) → seen_of s (target_of word) ≡ target_of (visible s word)
seen_target s word = by (target_of word) refl
  where
    by_colour : (x : ℕ) (b : Bool) → target_of word ≡ Some x → (if b then None else Some x) ≡ target_of (if b then 0 else word)
    by_colour x true e = refl
    by_colour x false e = sym e

    by : (t : Option ℕ) → target_of word ≡ t → seen_of s t ≡ target_of (visible_if t s word)
    by None e = sym e
    by (Some x) e = by_colour x (is_green (slot_at s x).colour) e

-- an unreleased slot is there
pub leads_within : (s : State) (t : Option ℕ) → IfSome t (λ x. (slot_at s x).released ≡ false) → IfSome t (λ x. x < length s.slots)
leads_within s None live = tt
leads_within s (Some x) live = unreleased_within s x live

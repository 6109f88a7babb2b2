-- What a trial sees of a word: it leads to no released slot and to no Green one, and where the word leads else.
use Rattle.std.proofs.Common.{◌≡◌, ◌≢◌, ℕ, Bool, true, false, if◌then◌else◌, Option, None, Some, IfSome, refl, sym, ap, subst, ◌∙◌, ◌<◌, length}
use Rattle.std.proofs.lemmas.Bool.{eq-eqb, eqb-true, false≢true, ne_eqb}
use Rattle.std.proofs.lemmas.Option.{same_Some}
use Rattle.rec_trial.proofs.Common.{target_of, is_slot, is_green, State, slot_at, LeadsToUnreleased, LeadsToVisible, visible, visible_if, unreleased_within}

visible_by : (s : State) (word x : ℕ) (b : Bool) → is_green (slot_at s x).colour ≡ b → target_of word ≡ Some x → (slot_at s x).released ≡ false → LeadsToVisible s (if b then 0 else word)
visible_by s word x true green is live = tt
visible_by s word x false green is live = subst (λ t. IfSome t (λ y. ((slot_at s y).released ≡ false) × (is_green (slot_at s y).colour ≡ false))) (sym is) (live, green)

visible_to : (s : State) (word : ℕ) (t : Option ℕ) → target_of word ≡ t → IfSome t (λ x. (slot_at s x).released ≡ false) → LeadsToVisible s (visible_if t s word)
visible_to s word None is live = subst (λ t. IfSome t (λ y. ((slot_at s y).released ≡ false) × (is_green (slot_at s y).colour ≡ false))) (sym is) tt
visible_to s word (Some x) is live = visible_by s word x (is_green (slot_at s x).colour) refl is live

pub visible_leads : (s : State) (word : ℕ) → LeadsToUnreleased s word → LeadsToVisible s (visible s word)
visible_leads s word live = visible_to s word (target_of word) refl live

-- so it leads to a slot that is there
within_by : (s : State) (t : Option ℕ) → IfSome t (λ x. ((slot_at s x).released ≡ false) × (is_green (slot_at s x).colour ≡ false)) → IfSome t (λ x. x < length s.slots)
within_by s None live = tt
within_by s (Some x) live = unreleased_within s x live.0

pub visible_within : (s : State) (word : ℕ) → LeadsToUnreleased s word → IfSome (target_of (visible s word)) (λ x. x < length s.slots)
visible_within s word live = within_by s (target_of (visible s word)) (visible_leads s word live)

-- the same where the same slots are Green
pub visible_same : (s t : State) → ((x : ℕ) → is_green (slot_at t x).colour ≡ is_green (slot_at s x).colour) → (word : ℕ) → visible t word ≡ visible s word
visible_same s t same word = by (target_of word)
  where
    by : (o : Option ℕ) → visible_if o t word ≡ visible_if o s word
    by None = refl
    by (Some x) = ap (λ b. if b then 0 else word) (same x)

-- it leads to a slot that isn't Green exactly where the word does,
pub seen_leads : (s : State) (word x : ℕ) → is_green (slot_at s x).colour ≡ false → is_slot x (target_of (visible s word)) ≡ is_slot x (target_of word)
seen_leads s word x other = by (target_of word) refl
  where
    by_colour : (y : ℕ) (b : Bool) → is_green (slot_at s y).colour ≡ b → target_of word ≡ Some y → is_slot x (target_of (if b then 0 else word)) ≡ is_slot x (target_of word)
    by_colour y false g e = refl
    by_colour y true g e =
        let apart : x ≢ y = λ same. false≢true (sym other ∙ (ap (λ z. is_green (slot_at s z).colour) same ∙ g)) in
        sym (ap (is_slot x) e ∙ ne_eqb x y apart)

    by : (t : Option ℕ) → target_of word ≡ t → is_slot x (target_of (visible_if t s word)) ≡ is_slot x (target_of word)
    by None e = refl
    by (Some y) e = by_colour y (is_green (slot_at s y).colour) refl e

-- so it leads there where the word does,
pub seen_where_led : (s : State) (word x : ℕ) → is_green (slot_at s x).colour ≡ false → target_of word ≡ Some x → target_of (visible s word) ≡ Some x
seen_where_led s word x other e = slot_target x (target_of (visible s word)) (seen_leads s word x other ∙ ap (is_slot x) e ∙ eq-eqb x x refl)
  where
    slot_target : (x : ℕ) (t : Option ℕ) → is_slot x t ≡ true → t ≡ Some x
    slot_target x None h = absurd (false≢true h)
    slot_target x (Some y) h = ap Some (sym (eqb-true x y h))

-- and where it leads, the word does, and the slot isn't Green
pub led_where_seen : (s : State) (word x : ℕ) → target_of (visible s word) ≡ Some x → (target_of word ≡ Some x) × (is_green (slot_at s x).colour ≡ false)
led_where_seen s word x e = by (target_of word) refl e
  where
    by_colour : (y : ℕ) (b : Bool) → is_green (slot_at s y).colour ≡ b → target_of word ≡ Some y → target_of (if b then 0 else word) ≡ Some x → (target_of word ≡ Some x) × (is_green (slot_at s x).colour ≡ false)
    by_colour y false g i h = (h, ap (λ z. is_green (slot_at s z).colour) (same_Some x y (sym h ∙ i)) ∙ g)
    by_colour y true g i h = let none : target_of 0 ≡ None = refl in let not_so : ◌≡◌ {A = Option ℕ} None (Some x) = sym none ∙ h in absurd (cc)

    by : (t : Option ℕ) → target_of word ≡ t → target_of (visible_if t s word) ≡ Some x → (target_of word ≡ Some x) × (is_green (slot_at s x).colour ≡ false)
    by None i h = let not_so : ◌≡◌ {A = Option ℕ} None (Some x) = sym i ∙ h in absurd (cc)
    by (Some y) i h = by_colour y (is_green (slot_at s y).colour) refl i h

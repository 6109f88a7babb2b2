-- What is within reach in a heap at rest: it has a count and was not given up, and a path to it uses no field of what was given up.
use Rattle.std.proofs.Common.{◌≡◌, ◌≢◌, inl, inr, ℕ, ◌+◌, ◌-◌, ◌<◌, ◌==◌, if◌then◌else◌, Bool, true, false, Option, Some, None, List, [], ◌∷◌, length, get_or, slice_index_or, sum_by, refl, sym, ap, ◌∙◌, arith, suc, ◌/◌, ◌%◌}
use Rattle.std.proofs.lemmas.Bool.{cases_lt, eq-eqb, false≢true}
use Rattle.std.proofs.lemmas.Bool.Decides.{eqb_tells}
use Rattle.std.proofs.lemmas.List.{get_or_default, get_or_past, get_or-set_other}
use Rattle.rec_model.specs.Pending.{word_in as pending_word}
use Rattle.rec_model.specs.Reach.IsReached.{root}
use Rattle.rec_model.proofs.Unfreed.{taken_within}
use Rattle.rec_counts.specs.Rest.{AreZeros}
use Rattle.rec_settle.specs.Settling.IsReachable.{held, along}
use Rattle.rec_core.proofs.TurnCases.{words_without}
use Rattle.rec_core.proofs.Counts.{counted_slot}
use Rattle.rec_core.proofs.Moves.{code_target, home_of}
use Rattle.rec_core.proofs.Places.{place_within}
use Rattle.rec_core.proofs.Reach.{reached_stays}
use Rattle.rec_settle.proofs.Rest.Rested.{named_root}
use Rattle.rec_core.proofs.Landed.{HasLanded}
use Rattle.rec_settle.proofs.Rest.FirstTrial.{emptied_landed, leaves_landed}
use Rattle.std.proofs.Math.Nat.{mod-lt, div-add-mod, mul_comm}
use Rattle.rec_core.proofs.Common.{place_of, target_of, is_slot, is_dead, home, node_of, fields_name_the_taken, get_or-le-sum_at, Slot, State, slot_at, one, times, one-same, times-nil, unreleased_within, set_there, named, IsApart, Core, sight, IsKept, code, pending, is_green, IsCleared, Parts, still}
use Rattle.rec_settle.specs.Resting.{AreCounted, IsHeldIn, SetsRest, holds, AreFound, AreWithinReach}
use Rattle.rec_settle.specs.Settling.{heap_sum, leading}

-- what a field leads to is counted
led_counted : (words : List ℕ) (place x : ℕ) → target_of (get_or words place 0) ≡ Some x → 0 < heap_sum words x
led_counted words place x e = elim (cases_lt place (length words)) [
  | inl inside ↦
      let here : leading x (get_or words place 0) ≡ 1 = ap (λ t. one (is_slot x t)) e ∙ one-same x in
      omega (arith, here, get_or-le-sum_at (λ p word. leading x word) words place 0 inside)
  | inr past ↦ let none : None ≡ Some x = ap target_of (sym (get_or_past words place 0 past)) ∙ e in cc
]

-- what is held, or led to, is counted
held_counted : (w : Core) (words : List ℕ) (s : State) (x : ℕ) → AreCounted w words s → x < w.config.slots → IsHeldIn w words x → 0 < (slot_at s x).count
held_counted w words s x counted below (held h) = omega (arith, counted x below, h)
held_counted w words s x counted below (along {n} from field within led) = omega (arith, counted x below, led_counted words (place_of n field w.config.fields) x led)

-- What is within reach has a count.
reached_counted : (w : Core) (words : List ℕ) (s : State) (x : ℕ) → AreCounted w words s → x < w.config.slots → ((IsHeldIn w words x → ⊥) → ⊥) → 0 < (slot_at s x).count
reached_counted w words s x counted below reached = elim (cases_lt 0 (slot_at s x).count) [
  | inl some ↦ some
  | inr none ↦ absurd (reached (λ h. omega (arith, none, held_counted w words s x counted below h)))
]

module _ (w : Core) (kept : IsKept true w) where
  open kept use {headers}

  -- a slot that is there, and was not given up
  abbrev IsAlive : ℕ → Type 0
  IsAlive x = (x < w.config.slots) × ((slot_at w.collector.counts x).released ≡ false)

  in_accounts : (x : ℕ) → x < w.config.slots → (pending w).released (x + 1) ≡ (slot_at w.collector.counts x).released
  in_accounts x below = ap (λ (v : Slot). v.released) (counted_slot w.collector.counts x (omega (arith, below, kept.collector.slots)))

  free_is : (x : ℕ) → slice_index_or w.headers x 0 ≡ 0 → (pending w).free (x + 1) ≡ true
  free_is x none = let at : x + 1 - 1 ≡ x = omega arith in ap (λ n. slice_index_or w.headers n 0 == 0) at ∙ eq-eqb (slice_index_or w.headers x 0) 0 none

  -- by the accounts
  not_dead : (x : ℕ) → is_dead (pending w) (x + 1) ≡ false → IsAlive x
  not_dead x is = go ((pending w).free (x + 1)) refl is
    where
      go : (free : Bool) → (pending w).free (x + 1) ≡ free → (if free then true else (pending w).released (x + 1)) ≡ false → IsAlive x
      go true f h = absurd (false≢true (sym h))
      go false f h = elim (cases_lt x w.config.slots) [
        | inl below ↦ (below, sym (in_accounts x below) ∙ h)
        | inr past ↦ absurd (false≢true (sym f ∙ free_is x (get_or_past w.headers x 0 (omega (arith, past, headers)))))
      ]

  -- a free slot
  free_alive : (x : ℕ) → (b : Bool) → (slice_index_or w.headers x 1 == 0) ≡ b → 0 < one b → IsAlive x
  free_alive x false e some = absurd (omega (arith, some))
  free_alive x true e some = elim (cases_lt x w.config.slots) [
    | inl below ↦ (below, sym (in_accounts x below) ∙ kept.accounted.apart (x + 1) (omega arith) (free_is x (none below)))
    | inr past ↦ absurd (false≢true (sym (ap (λ n. n == 0) (get_or_past w.headers x 1 (omega (arith, past, headers)))) ∙ e))
  ]
    where
      none : x < w.config.slots → slice_index_or w.headers x 0 ≡ 0
      none below = elim (eqb_tells (slice_index_or w.headers x 1) 0) [
        | inl q ↦ sym (get_or_default w.headers x 1 0 (omega (arith, below, headers))) ∙ q.1
        | inr q ↦ absurd (false≢true (sym q.0 ∙ e))
      ]

  -- what is held
  held_alive : (x : ℕ) → 0 < holds (sight w) x → IsAlive x
  held_alive x h = elim (cases_lt 0 (sum_by (named x) (sight w).registers)) [
    | inl some ↦ let stays = reached_stays w kept x (root x (named_root x (sight w).registers some)) in (omega (arith, taken_within (sight w) x stays.0, headers), stays.1)
    | inr none ↦ free_alive x (slice_index_or w.headers x 1 == 0) refl (omega (arith, h, none))
  ]

  place_there : (n field : ℕ) → n < w.config.slots → field < w.config.fields → place_of n field w.config.fields < length w.words
  place_there n field below within = place_within w.config.fields (length w.headers) (length w.words) n field kept.sound.places (omega (arith, below, headers)) within

  -- What is within reach is there, and was not given up.
  reached_alive : (x : ℕ) → IsHeldIn w w.words x → (x < w.config.slots) × ((slot_at w.collector.counts x).released ≡ false)
  reached_alive x (held h) = held_alive x h
  reached_alive x (along {n} from field within led) =
      let before : IsAlive n = reached_alive n from in
      let place : ℕ = place_of n field w.config.fields in
      let at_home : home w.config.fields place ≡ n + 1 = home_of n field w.config.fields within in
      let unreleased : (pending w).released (home w.config.fields place) ≡ false = ap (pending w).released at_home ∙ in_accounts n before.0 ∙ before.1 in
      let node : node_of (pending_word (pending w) place) ≡ x + 1 = sym (code_target (pending_word (pending w) place)) ∙ ap code led in
      not_dead x (ap (is_dead (pending w)) (sym node) ∙ fields_name_the_taken (pending w) kept.accounted place (place_there n field before.0 within) unreleased (omega (arith, node)))

  -- It stays within reach as a field of what was given up is emptied.
  pub reached_still : (slot field : ℕ) → field < w.config.fields → (slot_at w.collector.counts slot).released ≡ true → (x : ℕ) → IsHeldIn w w.words x → IsHeldIn w (words_without w slot field) x
  reached_still slot field within released x (held h) = held h
  reached_still slot field within released x (along {n} from f below led) =
      let alive : IsAlive n = reached_alive n from in
      let other : place_of n f w.config.fields ≢ place_of slot field w.config.fields
      = λ same.
      let own : n + 1 ≡ slot + 1 = sym (home_of n f w.config.fields below) ∙ ap (home w.config.fields) same ∙ home_of slot field w.config.fields within in
      let is : n ≡ slot = omega (arith, own) in
      false≢true (sym alive.1 ∙ ap (λ m. (slot_at w.collector.counts m).released) is ∙ released) in
      along (reached_still slot field within released n from) f below (ap target_of (get_or-set_other w.words (place_of slot field w.config.fields) (place_of n f w.config.fields) 0 0 other) ∙ led)

-- All zeros are Green where all that is neither released nor Green is within reach or a member of a set.
pub green_zeros_rest : (w : Core) (words left : List ℕ) (s : State) → length s.slots ≡ w.config.slots → AreZeros s → IsApart s → AreCounted w words s → SetsRest w words left s
    → (x : ℕ) → 0 < times x s.zeros → is_green (slot_at s x).colour ≡ true
green_zeros_rest w words left s many zeros apart counted rest x there = by (is_green (slot_at s x).colour) refl (slot_at s x).set refl
  where
    by : (b : Bool) → is_green (slot_at s x).colour ≡ b → (set : Option ℕ) → (slot_at s x).set ≡ set → b ≡ true
    by true g set e = refl
    by false g None e =
        let unreleased : (slot_at s x).released ≡ false = zeros.unreleased x there in
        let below : x < w.config.slots = omega (arith, unreleased_within s x unreleased, many) in
        absurd (omega (arith, zeros.none x there, reached_counted w words s x counted below (rest.found x unreleased g e)))
    by false g (Some i) e = absurd (omega (arith, there, (apart x (rest.unheld.back.orange x i e)).no_zero))

leading_later : (word : ℕ) (words : List ℕ) (x : ℕ) → 0 < heap_sum (word ∷ words) x → (0 < heap_sum words x → (place : ℕ) × (place < length words) × (target_of (get_or words place 0) ≡ Some x)) → leading x word ≡ 0
    → (place : ℕ) × (place < length (word ∷ words)) × (target_of (get_or (word ∷ words) place 0) ≡ Some x)
leading_later word words x some later none = let rest = later (omega (arith, some, none)) in (suc rest.0, omega (arith, rest.1), rest.2)

leading_by : (word : ℕ) (words : List ℕ) (x : ℕ) → 0 < heap_sum (word ∷ words) x → (0 < heap_sum words x → (place : ℕ) × (place < length words) × (target_of (get_or words place 0) ≡ Some x)) → (t : Option ℕ) → target_of word ≡ t
    → (place : ℕ) × (place < length (word ∷ words)) × (target_of (get_or (word ∷ words) place 0) ≡ Some x)
leading_by word words x some later None e = leading_later word words x some later (ap (λ o. one (is_slot x o)) e)
leading_by word words x some later (Some y) e = elim (eqb_tells x y) [
  | inl q ↦ (0, omega arith, e ∙ ap Some (sym q.1))
  | inr q ↦ leading_later word words x some later (ap (λ o. one (is_slot x o)) e ∙ ap one q.0)
]

-- what a sum over words counts is led to by one of them
some_leading : (words : List ℕ) (x : ℕ) → 0 < heap_sum words x → (place : ℕ) × (place < length words) × (target_of (get_or words place 0) ≡ Some x)
some_leading [] x some = absurd (omega (arith, some))
some_leading (word ∷ words) x some = leading_by word words x some (some_leading words x) (target_of word) refl

-- Where no set and no zero is left, every slot that isn't released is within reach: a Green one has a count, so a register names it, or
-- a field of a slot that is neither released nor Green leads to it.
pub within_all : {w : Core} {crossing words : List ℕ} {v : Parts} → HasLanded w crossing words (still v) → IsCleared v → v.counts.sets ≡ [] → AreCounted w words v.counts → AreFound w words v.counts → AreWithinReach w words v.counts
within_all {w} {crossing} {words} {v} l clear empty counted found x unreleased = by (is_green (slot_at s x).colour) refl
  where
    s : State
    s = v.counts

    in_none : (n : ℕ) → (slot_at s n).set ≡ None
    in_none n = go (slot_at s n).set refl
      where
        go : (set : Option ℕ) → (slot_at s n).set ≡ set → (slot_at s n).set ≡ None
        go None e = e
        go (Some i) e = absurd (omega (arith, set_there s i n l.counts e, ap length empty))

    by : (b : Bool) → is_green (slot_at s x).colour ≡ b → (IsHeldIn w words x → ⊥) → ⊥
    by false g not_held = found x unreleased g (in_none x) not_held
    by true g not_held =
        let below : x < w.config.slots = omega (arith, unreleased_within s x unreleased, l.slots) in
        let some : 0 < (slot_at s x).count = elim (cases_lt 0 (slot_at s x).count) [
          | inl is ↦ is
          | inr none ↦ absurd (omega (arith, clear.all_zeros x unreleased (omega (arith, none)) (λ o. false≢true (sym (ap is_green o) ∙ g)), ap (times x) clear.zeros, times-nil x))
        ] in
        elim (cases_lt 0 (holds (sight w) x)) [
          | inl h ↦ not_held (held h)
          | inr none ↦
              let led = some_leading words x (omega (arith, some, counted x below, none)) in
              let fields : ℕ = w.config.fields in
              let n : ℕ = led.0 / fields in
              let f : ℕ = led.0 % fields in
              let wide : 0 < fields = l.kept.config.some_fields in
              let at : place_of n f fields ≡ led.0 = ap (λ k. k + f) (mul_comm n fields) ∙ div-add-mod led.0 fields in
              let live : (slot_at s n).released ≡ false = alive led.0 led.1 led.2 (slot_at s n).released refl in
              let other : is_green (slot_at s n).colour ≡ false = open_leaf led.0 led.1 led.2 (is_green (slot_at s n).colour) refl in
              found n live other (in_none n) (λ from. not_held (along from f (mod-lt led.0 wide) (ap (λ k. target_of (get_or words k 0)) at ∙ led.2)))
        ]
      where
        alive : (place : ℕ) → place < length words → target_of (get_or words place 0) ≡ Some x → (b : Bool) → (slot_at s (place / w.config.fields)).released ≡ b → b ≡ false
        alive place inside leads false e = refl
        alive place inside leads true e = let no : None ≡ Some x = sym (emptied_landed l place inside e (times-nil place)) ∙ leads in absurd (cc)

        open_leaf : (place : ℕ) → place < length words → target_of (get_or words place 0) ≡ Some x → (b : Bool) → is_green (slot_at s (place / w.config.fields)).colour ≡ b → b ≡ false
        open_leaf place inside leads false e = refl
        open_leaf place inside leads true e = let no : None ≡ Some x = sym (leaves_landed l place inside e) ∙ leads in absurd (cc)

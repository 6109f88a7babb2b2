-- The turns to come, one after the other.
use Rattle.std.proofs.Common.{◌≡◌, ◌⊎◌, inl, inr, ℕ, ◌+◌, ◌-◌, ◌%◌, ◌<◌, zero, suc, List, [], ◌∷◌, Some, slice_index_or, slice_set, length, map, refl, sym, ap, ◌∙◌, arith}
use Rattle.std.specs.List.{slice_get}
use Rattle.std.proofs.lemmas.Bool.{eq-eqb, ne_eqb}
use Rattle.std.proofs.lemmas.Option.{slice_get_past}
use Rattle.rand_pcg.specs.Lcg.{Lcg}
use Rattle.rand_pcg.specs.Pcg.{pcg32}
use Rattle.rec_play.specs.declared.actor.Actor.{Actor}
use Rattle.rec_play.specs.declared.actor.Actor.TheVariants.{Mutator, Collector}
use Rattle.rec_play.specs.Playing.{unfinished, mutator_or_collector, actor_drawn, left_after_turn, drawn_from, by_mutator, Rest, to_come}
use Rattle.rec_play.proofs.Unfinished.{none_left, rest_first}

-- no turn is drawn where no mutator is unfinished
pub drawn_none : (turns : ℕ) (left : List ℕ) (generator : Lcg) → length (unfinished left) ≡ 0 → drawn_from turns left generator ≡ []
unfolding drawn_from
drawn_none zero left generator none = refl
drawn_none (suc turns) left generator none = rw (eq-eqb (length (unfinished left)) 0 none) refl

-- nor where all turns are drawn
pub drawn_nothing : (turns : ℕ) (left : List ℕ) (generator : Lcg) → turns ≡ 0 → drawn_from turns left generator ≡ []
unfolding drawn_from
drawn_nothing zero left generator none = refl
drawn_nothing (suc turns) left generator none = absurd (omega (arith, none))

-- a number is zero or more
pub zero_or_more : (n : ℕ) → (n ≡ 0) ⊎ (0 < n)
zero_or_more zero = inl refl
zero_or_more (suc n) = inr (omega arith)

-- else a word says whose the next turn is
pub drawn_one : (turns : ℕ) (left : List ℕ) (generator : Lcg) → 0 < length (unfinished left)
    → drawn_from (suc turns) left generator
    ≡ actor_drawn (unfinished left) (pcg32 generator).0 ∷ drawn_from turns (left_after_turn left (actor_drawn (unfinished left) (pcg32 generator).0)) (pcg32 generator).1
unfolding drawn_from
drawn_one turns left generator busy = rw (ne_eqb (length (unfinished left)) 0 (λ none. omega arith)) refl

drawn_next : (turns : ℕ) (left : List ℕ) (generator : Lcg) (actor : Actor) → 0 < turns → 0 < length (unfinished left) → actor_drawn (unfinished left) (pcg32 generator).0 ≡ actor
    → drawn_from turns left generator ≡ actor ∷ drawn_from (turns - 1) (left_after_turn left actor) (pcg32 generator).1
drawn_next zero left generator actor some busy is = absurd (omega (arith, some))
drawn_next (suc turns) left generator actor some busy is =
    let less : turns ≡ suc turns - 1 = omega arith in
    drawn_one turns left generator busy
    ∙ ap (λ a. a ∷ drawn_from turns (left_after_turn left a) (pcg32 generator).1) is ∙ ap (λ n. actor ∷ drawn_from n (left_after_turn left actor) (pcg32 generator).1) less

-- nothing comes where no mutator is unfinished
pub ended : (rest : Rest) → length (unfinished rest.left) ≡ 0 → to_come rest ≡ []
ended rest none =
    rw (drawn_none rest.turns rest.left rest.generator none) (ap (map (λ t. Mutator t)) (none_left 1 rest.left none))

-- a turn that is drawn comes first
drawn_comes : (rest : Rest) (actor : Actor) → 0 < rest.turns → 0 < length (unfinished rest.left) → actor_drawn (unfinished rest.left) (pcg32 rest.generator).0 ≡ actor
    → to_come rest ≡ actor ∷ to_come (record { left = left_after_turn rest.left actor; generator = (pcg32 rest.generator).1; turns = rest.turns - 1 })
drawn_comes rest actor some busy is = rw (drawn_next rest.turns rest.left rest.generator actor some busy is) refl

-- once all turns are drawn, the first unfinished mutator comes
first_comes : (rest : Rest) (i : ℕ) → rest.turns ≡ 0 → slice_get (unfinished rest.left) 0 ≡ Some (i + 1)
    → to_come rest ≡ Mutator (i + 1) ∷ to_come (record rest { left = slice_set rest.left i (slice_index_or rest.left i 0 - 1) })
first_comes rest i none first =
    let next : i + 1 ≡ 1 + i = omega arith in
    let left : List ℕ = slice_set rest.left i (slice_index_or rest.left i 0 - 1) in
    rw (drawn_nothing rest.turns rest.left rest.generator none, drawn_nothing rest.turns left rest.generator none)
    (ap (map (λ t. Mutator t)) (rest_first 1 rest.left i (first ∙ ap (λ t. Some t) next) ∙ ap (λ t. t ∷ by_mutator left) (sym next)))

-- the index of a mutator among all, by its number
numbered : (left : List ℕ) (i : ℕ) → left_after_turn left (Mutator (i + 1)) ≡ slice_set left i (slice_index_or left i 0 - 1)
numbered left i = ap (λ n. slice_set left n (slice_index_or left n 0 - 1)) (let same : i + 1 - 1 ≡ i = omega arith in same)

-- the place that a word names
abbrev place_of : Rest → ℕ
place_of rest = (pcg32 rest.generator).0 % (length (unfinished rest.left) + 1)

-- the collector's turn is drawn
collector_comes : (rest : Rest) (place : ℕ) → 0 < rest.turns → 0 < length (unfinished rest.left) → place ≡ place_of rest → place ≡ length (unfinished rest.left)
    → to_come rest ≡ Collector ∷ to_come (record rest { generator = (pcg32 rest.generator).1; turns = rest.turns - 1 })
collector_comes rest place some busy drawn last =
    drawn_comes rest Collector some busy
    (ap mutator_or_collector (slice_get_past (unfinished rest.left) (place_of rest) (omega arith)))

-- a mutator's turn is drawn
mutator_comes : (rest : Rest) (place i : ℕ) → 0 < rest.turns → 0 < length (unfinished rest.left) → place ≡ place_of rest → slice_get (unfinished rest.left) place ≡ Some (i + 1)
    → to_come rest ≡ Mutator (i + 1) ∷ to_come (record { left = slice_set rest.left i (slice_index_or rest.left i 0 - 1); generator = (pcg32 rest.generator).1; turns = rest.turns - 1 })
mutator_comes rest place i some busy drawn named =
    drawn_comes rest (Mutator (i + 1)) some busy (ap mutator_or_collector (ap (slice_get (unfinished rest.left)) (sym drawn) ∙ named))
    ∙ ap (λ left. Mutator (i + 1) ∷ to_come (record { left = left; generator = (pcg32 rest.generator).1; turns = rest.turns - 1 })) (numbered rest.left i)

-- after a draw, or none where all turns are drawn
pub record Drawn (before after : Rest) (place : ℕ) : Type 0 where
  pub drawn : 0 < before.turns → (place ≡ place_of before) × (after ≡ record before { generator = (pcg32 before.generator).1; turns = before.turns - 1 })
  pub no_more : before.turns ≡ 0 → (place ≡ 0) × (after ≡ before)

-- the mutators have left what they had
pub left_stays : (before after : Rest) (place : ℕ) → Drawn before after place → after.left ≡ before.left
left_stays before after place so = elim (zero_or_more before.turns) [
  | inl none ↦ ap (λ (r : Rest). r.left) (so.no_more none).1
  | inr some ↦ ap (λ (r : Rest). r.left) (so.drawn some).1
]

-- the collector comes where the place is past the mutators
pub collector_next : (before after : Rest) (place : ℕ) → Drawn before after place → 0 < length (unfinished before.left) → place ≡ length (unfinished before.left) → to_come before ≡ Collector ∷ to_come after
collector_next before after place so busy last = elim (zero_or_more before.turns) [
  | inl none ↦ absurd (let first : place ≡ 0 = (so.no_more none).0 in omega arith)
  | inr some ↦ collector_comes before place some busy (so.drawn some).0 last ∙ ap (λ r. Collector ∷ to_come r) (sym (so.drawn some).1)
]

-- and otherwise a mutator
pub mutator_next : (before after : Rest) (place i : ℕ) → Drawn before after place → 0 < length (unfinished before.left) → slice_get (unfinished before.left) place ≡ Some (i + 1)
    → to_come before ≡ Mutator (i + 1) ∷ to_come (record after { left = slice_set after.left i (slice_index_or after.left i 0 - 1) })
mutator_next before after place i so busy named = elim (zero_or_more before.turns) [
  | inl none ↦
      first_comes before i none (ap (slice_get (unfinished before.left)) (sym (so.no_more none).0) ∙ named)
      ∙ ap (λ (r : Rest). Mutator (i + 1) ∷ to_come (record r { left = slice_set r.left i (slice_index_or r.left i 0 - 1) })) (sym (so.no_more none).1)
  | inr some ↦
      mutator_comes before place i some busy (so.drawn some).0 named
      ∙ ap (λ (r : Rest). Mutator (i + 1) ∷ to_come (record r { left = slice_set r.left i (slice_index_or r.left i 0 - 1) })) (sym (so.drawn some).1)
]

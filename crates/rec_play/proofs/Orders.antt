-- Whom an order names how often.
use Rattle.std.proofs.Common.{◌≡◌, inl, inr, ℕ, ◌+◌, ◌-◌, ◌*◌, ◌%◌, ◌<◌, ◌≤◌, ◌==◌, zero, suc, List, [], ◌∷◌, ◌++◌, Option, None, Some, if◌then◌else◌, slice_index_or, slice_set, length, map, replicate, refl, sym, ap, subst, ◌∙◌, arith}
use Rattle.std.specs.List.{slice_get, sum}
use Rattle.std.proofs.lemmas.Bool.{eq-eqb, ne_eqb, cases_eq}
use Rattle.std.proofs.lemmas.List.{get_or-set_same, get_or-set_other, length-replicate, length-append}
use Rattle.std.proofs.lemmas.List.Elements.{filter_map-append}
use Rattle.std.proofs.lemmas.List.Folds.{sum_by-replicate}
use Rattle.std.proofs.lemmas.List.Sums.{sum_by-cons, sum_by-set}
use Rattle.rand_pcg.specs.Lcg.{Lcg}
use Rattle.rand_pcg.specs.Pcg.{pcg32}
use Rattle.rec_model.specs.Numbering.{times}
use Rattle.rec_model.proofs.Counted.{times-append, times-cons}
use Rattle.rec_play.specs.declared.actor.Actor.{Actor}
use Rattle.rec_play.specs.declared.actor.Actor.TheVariants.{Mutator, Collector}
use Rattle.rec_play.specs.Playing.{generator_of, unfinished, mutator_or_collector, actor_drawn, left_after_turn, left_after, drawn_from, drawn, number_of_actor, mutators_of, by_mutator, order, to_come, IsOrderFor}
use Rattle.rec_play.proofs.Unfinished.{IsDue, is_due, rest_from}
use Rattle.rec_play.proofs.Turns.{drawn_none, drawn_one, drawn_nothing, zero_or_more}

-- one where the numbers are the same
abbrev hit : (s t : ℕ) → ℕ
hit s t = if s == t then 1 else 0

-- a list of one number
times-own : (t n : ℕ) → times t (replicate n t) ≡ n
times-own t n =
    let is : times t (replicate n t) ≡ n * hit t t = sum_by-replicate (λ m. if m == t then 1 else 0) n t in
    let one : hit t t ≡ 1 = ap (λ b. if b then 1 else 0) (eq-eqb t t refl) in
    is ∙ ap (λ k. n * k) one ∙ omega arith

times-other : (t s n : ℕ) → (s ≡ t → ⊥) → times t (replicate n s) ≡ 0
times-other t s n other =
    let is : times t (replicate n s) ≡ n * hit s t = sum_by-replicate (λ m. if m == t then 1 else 0) n s in
    let none : hit s t ≡ 0 = ap (λ b. if b then 1 else 0) (ne_eqb s t other) in
    is ∙ ap (λ k. n * k) none ∙ omega arith

-- mutator by mutator, nobody below the first number
rest_below : (k t : ℕ) (left : List ℕ) → t < k → times t (rest_from k left) ≡ 0
rest_below k t [] below = refl
rest_below k t (n ∷ left) below =
    let own : times t (replicate n k) ≡ 0 = times-other t k n (λ is. omega arith) in
    let later : times t (rest_from (k + 1) left) ≡ 0 = rest_below (k + 1) t left (omega arith) in
    times-append t (replicate n k) (rest_from (k + 1) left) ∙ omega arith

-- and each as often as it has commands
rest_times : (k i : ℕ) (left : List ℕ) → times (k + i) (rest_from k left) ≡ slice_index_or left i 0
rest_times k i [] = refl
rest_times k zero (n ∷ left) =
    let same : k ≡ k + 0 = omega arith in
    let own : times (k + 0) (replicate n k) ≡ n = ap (λ t. times t (replicate n k)) (sym same) ∙ times-own k n in
    let later : times (k + 0) (rest_from (k + 1) left) ≡ 0 = rest_below (k + 1) (k + 0) left (omega arith) in
    times-append (k + 0) (replicate n k) (rest_from (k + 1) left) ∙ omega arith
rest_times k (suc i) (n ∷ left) =
    let same : k + 1 + i ≡ k + suc i = omega arith in
    let own : times (k + suc i) (replicate n k) ≡ 0 = times-other (k + suc i) k n (λ is. omega arith) in
    let later : times (k + suc i) (rest_from (k + 1) left) ≡ slice_index_or left i 0 = ap (λ t. times t (rest_from (k + 1) left)) (sym same) ∙ rest_times (k + 1) i left in
    times-append (k + suc i) (replicate n k) (rest_from (k + 1) left) ∙ omega arith

-- whom a word names is due, if it is a mutator
named_is : (named : Option ℕ) (t : ℕ) → mutator_or_collector named ≡ Mutator t → named ≡ Some t
named_is None t is = cc
named_is (Some s) t is = ap (λ n. Some n) (let same : s ≡ t = (cc) in same)

drawn_is_due : (left : List ℕ) (word t : ℕ) → actor_drawn (unfinished left) word ≡ Mutator t → IsDue 1 left t
drawn_is_due left word t is = is_due 1 left (word % (length (unfinished left) + 1)) t (named_is (slice_get (unfinished left) (word % (length (unfinished left) + 1))) t is)

-- one command more, one less left
turn_times : (left : List ℕ) (s t : ℕ) → IsDue 1 left s → 0 < t → hit s t + slice_index_or (left_after_turn left (Mutator s)) (t - 1) 0 ≡ slice_index_or left (t - 1) 0
turn_times left s t due positive =
    let v : ℕ = slice_index_or left (s - 1) 0 - 1 in
    let index : due.index ≡ s - 1 = omega (arith, due.is) in
    let there : s - 1 < length left = subst (λ n. n < length left) index due.there in
    let some : 0 < slice_index_or left (s - 1) 0 = subst (λ n. 0 < slice_index_or left n 0) index due.some in
    elim (cases_eq s t) [
      | inl same ↦
          let one : hit s t ≡ 1 = ap (λ b. if b then 1 else 0) (eq-eqb s t same) in
          let now : slice_index_or (slice_set left (s - 1) v) (t - 1) 0 ≡ v = ap (λ n. slice_index_or (slice_set left (s - 1) v) (n - 1) 0) (sym same) ∙ get_or-set_same left (s - 1) v 0 there in
          let here : slice_index_or left (s - 1) 0 ≡ slice_index_or left (t - 1) 0 = ap (λ n. slice_index_or left (n - 1) 0) same in
          omega arith
      | inr other ↦
          let none : hit s t ≡ 0 = ap (λ b. if b then 1 else 0) (ne_eqb s t other) in
          let now : slice_index_or (slice_set left (s - 1) v) (t - 1) 0 ≡ slice_index_or left (t - 1) 0
          = get_or-set_other left (s - 1) (t - 1) v 0 (λ same. other (let positive_s : s ≡ 1 + due.index = due.is in omega arith)) in
          omega arith
    ]

-- a turn before other turns
turn_first : (left : List ℕ) (actor : Actor) (actors : List Actor) (t : ℕ) → 0 < t → ((s : ℕ) → actor ≡ Mutator s → IsDue 1 left s)
    → times t (mutators_of actors) + slice_index_or (left_after (left_after_turn left actor) actors) (t - 1) 0 ≡ slice_index_or (left_after_turn left actor) (t - 1) 0
    → times t (mutators_of (actor ∷ actors)) + slice_index_or (left_after left (actor ∷ actors)) (t - 1) 0 ≡ slice_index_or left (t - 1) 0
turn_first left Collector actors t positive due later = later
turn_first left (Mutator s) actors t positive due later =
    let one : hit s t + slice_index_or (left_after_turn left (Mutator s)) (t - 1) 0 ≡ slice_index_or left (t - 1) 0 = turn_times left s t (due s refl) positive in
    let more : times t (s ∷ mutators_of actors) ≡ hit s t + times t (mutators_of actors) = times-cons t s (mutators_of actors) in
    omega arith

-- each mutator has the turns that are drawn, and what is left
drawn_times : (turns : ℕ) (left : List ℕ) (generator : Lcg) (t : ℕ) → 0 < t
    → times t (mutators_of (drawn_from turns left generator)) + slice_index_or (left_after left (drawn_from turns left generator)) (t - 1) 0 ≡ slice_index_or left (t - 1) 0
drawn_times zero left generator t positive = rw (drawn_nothing 0 left generator refl) (omega arith)
drawn_times (suc turns) left generator t positive =
    let actor : Actor = actor_drawn (unfinished left) (pcg32 generator).0 in
    elim (zero_or_more (length (unfinished left))) [
      | inl none ↦ rw (drawn_none (suc turns) left generator none) (omega arith)
      | inr busy ↦ rw (drawn_one turns left generator busy)
          (turn_first left actor (drawn_from turns (left_after_turn left actor) (pcg32 generator).1) t positive (drawn_is_due left (pcg32 generator).0)
          (drawn_times turns (left_after_turn left actor) (pcg32 generator).1 t positive))
    ]

-- and nobody else has one
nobody_first : (left : List ℕ) (actor : Actor) (actors : List Actor) → ((s : ℕ) → actor ≡ Mutator s → IsDue 1 left s) → times 0 (mutators_of actors) ≡ 0 → times 0 (mutators_of (actor ∷ actors)) ≡ 0
nobody_first left Collector actors due later = later
nobody_first left (Mutator s) actors due later =
    let own : IsDue 1 left s = due s refl in
    let none : hit s 0 ≡ 0 = ap (λ b. if b then 1 else 0) (ne_eqb s 0 (λ is. omega (arith, own.is))) in
    times-cons 0 s (mutators_of actors) ∙ omega arith

drawn_nobody : (turns : ℕ) (left : List ℕ) (generator : Lcg) → times 0 (mutators_of (drawn_from turns left generator)) ≡ 0
drawn_nobody zero left generator = rw (drawn_nothing 0 left generator refl) refl
drawn_nobody (suc turns) left generator =
    let actor : Actor = actor_drawn (unfinished left) (pcg32 generator).0 in
    elim (zero_or_more (length (unfinished left))) [
      | inl none ↦ rw (drawn_none (suc turns) left generator none) refl
      | inr busy ↦ rw (drawn_one turns left generator busy)
          (nobody_first left actor (drawn_from turns (left_after_turn left actor) (pcg32 generator).1) (drawn_is_due left (pcg32 generator).0)
          (drawn_nobody turns (left_after_turn left actor) (pcg32 generator).1))
    ]

-- an order names each mutator just as often as it has commands
pub order_names : (lengths : List ℕ) (seed turns : ℕ) → IsOrderFor lengths (order lengths seed turns)
order_names lengths seed turns =
    let left : List ℕ = left_after lengths (drawn lengths seed turns) in
    record {
      each = λ t positive.
          let rest : times t (by_mutator left) ≡ slice_index_or left (t - 1) 0 = (let same : t ≡ 1 + (t - 1) = omega arith in ap (λ n. times n (by_mutator left)) same ∙ rest_times 1 (t - 1) left) in
          let all : times t (mutators_of (drawn lengths seed turns)) + slice_index_or left (t - 1) 0 ≡ slice_index_or lengths (t - 1) 0 = drawn_times turns lengths (generator_of seed) t positive in
          times-append t (mutators_of (drawn lengths seed turns)) (by_mutator left) ∙ omega arith;
      nobody =
          let rest : times 0 (by_mutator left) ≡ 0 = rest_below 1 0 left (omega arith) in
          let first : times 0 (mutators_of (drawn lengths seed turns)) ≡ 0 = drawn_nobody turns lengths (generator_of seed) in
          times-append 0 (mutators_of (drawn lengths seed turns)) (by_mutator left) ∙ omega arith;
    }

-- a turn takes one command off all that is left
turn_sum : (left : List ℕ) (s : ℕ) → IsDue 1 left s → sum (left_after_turn left (Mutator s)) + 1 ≡ sum left
turn_sum left s due =
    let index : due.index ≡ s - 1 = omega (arith, due.is) in
    let there : s - 1 < length left = subst (λ n. n < length left) index due.there in
    let some : 0 < slice_index_or left (s - 1) 0 = subst (λ n. 0 < slice_index_or left n 0) index due.some in
    let set : sum (left_after_turn left (Mutator s)) + slice_index_or left (s - 1) 0 ≡ sum left + (slice_index_or left (s - 1) 0 - 1) = sum_by-set (λ n. n) left (s - 1) (slice_index_or left (s - 1) 0 - 1) 0 there in
    omega arith

length_first : (left : List ℕ) (actor : Actor) (actors : List Actor) → ((s : ℕ) → actor ≡ Mutator s → IsDue 1 left s)
    → length (mutators_of actors) + sum (left_after (left_after_turn left actor) actors) ≡ sum (left_after_turn left actor)
    → length (mutators_of (actor ∷ actors)) + sum (left_after left (actor ∷ actors)) ≡ sum left
length_first left Collector actors due later = later
length_first left (Mutator s) actors due later = let less : sum (left_after_turn left (Mutator s)) + 1 ≡ sum left = turn_sum left s (due s refl) in omega arith

-- as many turns as commands are drawn or left
drawn_length : (turns : ℕ) (left : List ℕ) (generator : Lcg) → length (mutators_of (drawn_from turns left generator)) + sum (left_after left (drawn_from turns left generator)) ≡ sum left
drawn_length zero left generator = rw (drawn_nothing 0 left generator refl) (omega arith)
drawn_length (suc turns) left generator =
    let actor : Actor = actor_drawn (unfinished left) (pcg32 generator).0 in
    elim (zero_or_more (length (unfinished left))) [
      | inl none ↦ rw (drawn_none (suc turns) left generator none) (omega arith)
      | inr busy ↦ rw (drawn_one turns left generator busy)
          (length_first left actor (drawn_from turns (left_after_turn left actor) (pcg32 generator).1) (drawn_is_due left (pcg32 generator).0)
          (drawn_length turns (left_after_turn left actor) (pcg32 generator).1))
    ]

rest_length : (k : ℕ) (left : List ℕ) → length (rest_from k left) ≡ sum left
rest_length k [] = refl
rest_length k (n ∷ left) =
    let later : length (rest_from (k + 1) left) ≡ sum left = rest_length (k + 1) left in
    let own : length (replicate n k) ≡ n = length-replicate n k in
    let all : length (replicate n k ++ rest_from (k + 1) left) ≡ length (replicate n k) + length (rest_from (k + 1) left) = length-append (replicate n k) (rest_from (k + 1) left) in
    let sums : sum (n ∷ left) ≡ n + sum left = sum_by-cons (λ m. m) n left in
    omega arith

-- an order is as long as there are commands
pub order_length : (lengths : List ℕ) (seed turns : ℕ) → length (order lengths seed turns) ≡ sum lengths
order_length lengths seed turns =
    let left : List ℕ = left_after lengths (drawn lengths seed turns) in
    let first : length (mutators_of (drawn lengths seed turns)) + sum left ≡ sum lengths = drawn_length turns lengths (generator_of seed) in
    let last : length (by_mutator left) ≡ sum left = rest_length 1 left in
    length-append (mutators_of (drawn lengths seed turns)) (by_mutator left) ∙ omega arith

-- no more turns are drawn than told
few_drawn : (turns : ℕ) (left : List ℕ) (generator : Lcg) → length (drawn_from turns left generator) ≤ turns
few_drawn zero left generator = rw (drawn_nothing 0 left generator refl) (omega arith)
few_drawn (suc turns) left generator =
    let actor : Actor = actor_drawn (unfinished left) (pcg32 generator).0 in
    elim (zero_or_more (length (unfinished left))) [
      | inl none ↦ rw (drawn_none (suc turns) left generator none) (omega arith)
      | inr busy ↦ rw (drawn_one turns left generator busy) (let later : length (drawn_from turns (left_after_turn left actor) (pcg32 generator).1) ≤ turns = few_drawn turns (left_after_turn left actor) (pcg32 generator).1 in omega arith)
    ]

pub drawn_few : (lengths : List ℕ) (seed turns : ℕ) → length (drawn lengths seed turns) ≤ turns
drawn_few lengths seed turns = few_drawn turns lengths (generator_of seed)

-- the mutators of their own turns
mutators_of-map : (ts : List ℕ) → mutators_of (map (λ t. Mutator t) ts) ≡ ts
mutators_of-map [] = refl
mutators_of-map (t ∷ ts) = ap (λ us. t ∷ us) (mutators_of-map ts)

-- the order is that of the turns to come at the start
pub order_comes : (lengths : List ℕ) (seed turns : ℕ) → mutators_of (to_come (record { left = lengths; generator = generator_of seed; turns = turns })) ≡ order lengths seed turns
order_comes lengths seed turns =
    let left : List ℕ = left_after lengths (drawn lengths seed turns) in
    filter_map-append number_of_actor (drawn lengths seed turns) (map (λ t. Mutator t) (by_mutator left))
    ∙ ap (λ ts. mutators_of (drawn lengths seed turns) ++ ts) (mutators_of-map (by_mutator left))

-- no turn drawn: mutator by mutator
pub order_undrawn : (lengths : List ℕ) (seed : ℕ) → order lengths seed 0 ≡ by_mutator lengths
order_undrawn lengths seed = ap (λ actors. mutators_of actors ++ by_mutator (left_after lengths actors)) (drawn_nothing 0 lengths (generator_of seed) refl)

-- how many turns are the collector's
abbrev pub collectors : List Actor → ℕ
collectors [] = 0
collectors (Mutator t ∷ actors) = collectors actors
collectors (Collector ∷ actors) = 1 + collectors actors

-- none of the remaining commands' turns is, and of the others no more than there are
none_of_mutators : (ts : List ℕ) → collectors (map (λ t. Mutator t) ts) ≡ 0
none_of_mutators [] = refl
none_of_mutators (t ∷ ts) = none_of_mutators ts

collectors_among : (actors : List Actor) (ts : List ℕ) → collectors (actors ++ map (λ t. Mutator t) ts) ≤ length actors
collectors_among [] ts = let none : collectors (map (λ t. Mutator t) ts) ≡ 0 = none_of_mutators ts in omega arith
collectors_among (Mutator t ∷ actors) ts = let rest : collectors (actors ++ map (λ t. Mutator t) ts) ≤ length actors = collectors_among actors ts in omega arith
collectors_among (Collector ∷ actors) ts = let rest : collectors (actors ++ map (λ t. Mutator t) ts) ≤ length actors = collectors_among actors ts in omega arith

-- so no more turns to come are the collector's than may be drawn
pub collectors_few : (lengths : List ℕ) (seed turns : ℕ) → collectors (to_come (record { left = lengths; generator = generator_of seed; turns = turns })) ≤ turns
collectors_few lengths seed turns =
    let few : length (drawn lengths seed turns) ≤ turns = drawn_few lengths seed turns in
    let among : collectors (to_come (record { left = lengths; generator = generator_of seed; turns = turns })) ≤ length (drawn lengths seed turns) =
    collectors_among (drawn lengths seed turns) (by_mutator (left_after lengths (drawn lengths seed turns))) in
    omega arith

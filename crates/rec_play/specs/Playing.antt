-- The playing rule: who has which turn, from how many commands each mutator has, a seed, and how many turns are drawn.
use Rattle.std.specs.Prelude.{◌≡◌, ℕ, zero, suc, ◌+◌, ◌-◌, ◌%◌, ◌<◌, ◌==◌, if◌then◌else◌, Option, None, Some, List, [], ◌∷◌, ◌++◌, length, map, replicate, slice_index_or, slice_set}
use Rattle.std.specs.List.{slice_get, filter_map, flat_map, enumerate_from}
use Rattle.rand_pcg.specs.Lcg.{Lcg, started, increment_of}
use Rattle.rand_pcg.specs.Pcg.{multiplier_64, pcg32}
use Rattle.rec_model.specs.Numbering.{times}
use Rattle.rec_play.specs.declared.actor.Actor.{Actor}
use Rattle.rec_play.specs.declared.actor.Actor.TheVariants.{Mutator, Collector}

-- the generator of the words, in stream 1
abbrev pub generator_of : (seed : ℕ) → Lcg
generator_of seed = started 64 multiplier_64 seed (increment_of 64 1)

-- the mutator, where it has commands left
abbrev pub if_unfinished : (t left : ℕ) → Option ℕ
if_unfinished t zero = None
if_unfinished t (suc left) = Some t

-- the mutators with commands left, in rising order, where so many are left to each; mutators are numbered from 1
abbrev pub unfinished : (left : List ℕ) → List ℕ
unfinished left = filter_map (λ p. if_unfinished p.0 p.1) (enumerate_from 1 left)

-- a mutator where there is one, else the collector
abbrev pub mutator_or_collector : Option ℕ → Actor
mutator_or_collector (Some t) = Mutator t
mutator_or_collector None = Collector

-- whom a word names: by its remainder one of the unfinished mutators, or after them the collector
abbrev pub actor_drawn : (unfinished : List ℕ) → (word : ℕ) → Actor
actor_drawn ts word = mutator_or_collector (slice_get ts (word % (length ts + 1)))

-- what the mutators have left after a turn: a mutator's turn is one command
abbrev pub left_after_turn : (left : List ℕ) → Actor → List ℕ
left_after_turn left (Mutator t) = slice_set left (t - 1) (slice_index_or left (t - 1) 0 - 1)
left_after_turn left Collector = left

-- what the mutators have left after some turns
abbrev pub left_after : (left : List ℕ) → List Actor → List ℕ
left_after left [] = left
left_after left (actor ∷ actors) = left_after (left_after_turn left actor) actors

-- The actors drawn from a generator on: a word a turn while a mutator is unfinished, and no more turns than told.
unfoldable pub drawn_from : (turns : ℕ) → (left : List ℕ) → Lcg → List Actor
drawn_from zero left generator = []
drawn_from (suc turns) left generator = if length (unfinished left) == 0 then [] else
    (let actor : Actor = actor_drawn (unfinished left) (pcg32 generator).0 in
    actor ∷ drawn_from turns (left_after_turn left actor) (pcg32 generator).1)

-- The actors that the rule draws, where the mutators have so many commands.
abbrev pub drawn : (lengths : List ℕ) → (seed turns : ℕ) → List Actor
drawn lengths seed turns = drawn_from turns lengths (generator_of seed)

-- the mutator whose turn it is
abbrev pub number_of_actor : Actor → Option ℕ
number_of_actor (Mutator t) = Some t
number_of_actor Collector = None

-- the mutators among the actors
abbrev pub mutators_of : List Actor → List ℕ
mutators_of = filter_map number_of_actor

-- all that is left, mutator by mutator
abbrev pub by_mutator : (left : List ℕ) → List ℕ
by_mutator left = flat_map (λ p. replicate p.1 p.0) (enumerate_from 1 left)

-- The mutators in the order of their commands: those drawn, and then the remaining commands mutator by mutator.
abbrev pub order : (lengths : List ℕ) → (seed turns : ℕ) → List ℕ
order lengths seed turns =
    mutators_of (drawn lengths seed turns) ++ by_mutator (left_after lengths (drawn lengths seed turns))

-- All turns: those drawn, and then the remaining commands mutator by mutator.
abbrev pub all_turns : (lengths : List ℕ) → (seed turns : ℕ) → List Actor
all_turns lengths seed turns =
    drawn lengths seed turns ++ map (λ t. Mutator t) (by_mutator (left_after lengths (drawn lengths seed turns)))

-- the rule in the middle: what each mutator has left, the generator, and how many turns may still be drawn
pub record Rest : Type 0 where
  pub left : List ℕ
  pub generator : Lcg
  pub turns : ℕ

-- the turns to come: those drawn, and then the remaining commands mutator by mutator
abbrev pub to_come : Rest → List Actor
to_come rest =
    drawn_from rest.turns rest.left rest.generator
    ++ map (λ t. Mutator t) (by_mutator (left_after rest.left (drawn_from rest.turns rest.left rest.generator)))

-- an order names each mutator just as often as it has commands, and nobody else
pub record IsOrderFor (lengths : List ℕ) (turns : List ℕ) : Type 0 where
  pub each : (t : ℕ) → 0 < t → times t turns ≡ slice_index_or lengths (t - 1) 0
  pub nobody : times 0 turns ≡ 0

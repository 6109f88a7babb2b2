-- The steps of a run, and what a function of one step comes to over all of them.
use Rattle.std.specs.Prelude.{ℕ, ◌==◌, if◌then◌else◌, List, [], ◌∷◌, flat_map}
use Rattle.rec_core.specs.Core.{Core}
use Rattle.rec_core.specs.Moves.{Move, after_move}

-- who makes a move: mutators are numbered from 1, and what none of them makes is of 0
abbrev pub maker : Move → ℕ
maker (Move.Begins t work from) = t
maker (Move.Steps t) = t
maker _ = 0

-- a move, and the state that it is made in
pub record Step : Type 0 where
  pub before : Core
  pub move : Move

-- the steps that some moves are from a state on
abbrev pub steps_of : Core → List Move → List Step
steps_of w [] = []
steps_of w (m ∷ ms) = record { before = w; move = m } ∷ steps_of (after_move w m) ms

-- what each step gives, in their order
abbrev pub over : {A : Type 0} → (Core → Move → List A) → Core → List Move → List A
over f w ms = flat_map (λ (s : Step). f s.before s.move) (steps_of w ms)

-- what a step gives that this actor makes: another's gives nothing
abbrev pub by_actor : {A : Type 0} → (x : ℕ) → (Core → Move → List A) → Core → Move → List A
by_actor x f w m = if maker m == x then f w m else []

-- each of these moves is such a one
abbrev pub Every : (Move → Type 0) → List Move → Type 0
Every P [] = Unit {0}
Every P (m ∷ ms) = P m × Every P ms

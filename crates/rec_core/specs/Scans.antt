-- What the steps of a mutator do and find over the moves of a run.
use Rattle.std.specs.Prelude.{◌≡◌, ◌≢◌, ℕ, List, [], ◌∷◌}
use Rattle.rec_word.specs.declared.op.Op.{Op}
use Rattle.rec_model.specs.declared.answer.Answer.{Answer}
use Rattle.rec_model.specs.declared.answer.Answer.TheVariants as answers
use Rattle.rec_mutator.specs.Next.{next_of}
use Rattle.rec_mutator.specs.Scans.{FailsScan}
use Rattle.rec_mutator.specs.Step.{IsStill}
use Rattle.rec_core.specs.Core.{mutator, Core}
use Rattle.rec_core.specs.Moves.{found_by, Move}
use Rattle.rec_core.specs.Run.{by_actor, Every, over}

-- the word that a move finds, where it is a step of a mutator
abbrev pub word_of : Core → Move → List ℕ
word_of w (Move.Steps t) = found_by w t ∷ []
word_of w _ = []

-- the words that the mutator's steps find over these moves, in order
abbrev pub words_over : Core → (t : ℕ) → List Move → List ℕ
words_over w t ms = over (by_actor t word_of) w ms

-- the operation of a move, where it is a step of a mutator
abbrev pub op_of : Core → Move → List Op
op_of w (Move.Steps t) = next_of (mutator w t) ∷ []
op_of w _ = []

-- the operations of the mutator's steps over these moves, in order
abbrev pub ops_over : Core → (t : ℕ) → List Move → List Op
ops_over w t ms = over (by_actor t op_of) w ms

-- the move begins no work of the mutator
abbrev pub BeginsNot : (t : ℕ) → Move → Type 0
BeginsNot t (Move.Begins s work from) = s ≢ t
BeginsNot t _ = Unit {0}

-- the mutator begins no work over these moves
abbrev pub BeginsNone : (t : ℕ) → List Move → Type 0
BeginsNone t ms = Every (BeginsNot t) ms

-- Where the steps of an allocation with this header were made over these moves, and one more at their end `v` answers it this: every probe
-- failed, once round from the slot with which it was begun. Full comes where the freed word was even and the same before and after the
-- probes, and Busy tells the two where it was not.
pub record FailsByProbes (w : Core) (t header : ℕ) (moves : List Move) (v : Core) (answer : Answer) : Type 0 where
  pub full : answer ≡ answers.Full → (before : ℕ) × FailsScan header w.config.slots (mutator w t).from before (ops_over w t moves) (words_over w t moves) × IsStill before (found_by v t)
  pub busy : (before after : ℕ) → answer ≡ answers.Busy before after → FailsScan header w.config.slots (mutator w t).from before (ops_over w t moves) (words_over w t moves) × (after ≡ found_by v t) × (IsStill before after → ⊥)

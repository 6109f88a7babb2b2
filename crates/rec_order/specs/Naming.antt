-- Which object each slot holds, along a run.
use Rattle.std.specs.Prelude.{◌≡◌, ℕ, ◌+◌, ◌==◌, if◌then◌else◌, true, false, List, fold, length}
use Rattle.rec_word.specs.declared.op.Op.{Op}
use Rattle.rec_word.specs.declared.op.Op.TheVariants.{ClaimHeader}
use Rattle.rec_model.specs.Heap.{Heap}
use Rattle.rec_model.specs.LegalOrder.{Line, is_birth}
use Rattle.rec_model.specs.Sight.{IsTaken}
use Rattle.rec_model.specs.Explained.{with_number}
use Rattle.rec_mutator.specs.Next.{next_of}
use Rattle.rec_core.specs.Core.{Core, sight, mutator}
use Rattle.rec_core.specs.Moves.{Move, found_by}
use Rattle.rec_core.specs.Run.{Step, steps_of}

-- which object each slot holds, and the number of the object that is born next
pub record Naming : Type 0 where
  pub number : ℕ → ℕ
  pub next : ℕ

-- the naming by which a heap stands for a world
abbrev pub naming_of : Heap → (ℕ → ℕ) → Naming
naming_of heap number = record { number = number; next = length heap.objects }

-- the naming of a newly opened heap: slot 0 holds object 0, and there is no other
abbrev pub first_naming : Naming
first_naming = record { number = λ slot. 0; next = 1 }

-- after the next object was born in this slot
abbrev pub born_in : Naming → (slot : ℕ) → Naming
born_in n slot = record { number = with_number n.number slot n.next; next = n.next + 1 }

-- after an operation of a mutator that found this word: a claim of a free slot is a birth
abbrev pub named_by : Naming → Op → (found : ℕ) → Naming
named_by n (ClaimHeader slot label) found = if found == 0 then born_in n slot else n
named_by n _ found = n

-- after a move
abbrev pub named_after : Naming → Core → Move → Naming
named_after n w (Move.Steps t) = named_by n (next_of (mutator w t)) (found_by w t)
named_after n w _ = n

-- after some moves
abbrev pub named_after_all : Naming → Core → List Move → Naming
named_after_all n w ms = fold (λ k (s : Step). named_after k s.before s.move) n (steps_of w ms)

-- How the naming goes on over a command that was answered so: a birth puts the next object into the slot that was free before and
-- is taken now; any other answer leaves the naming.
pub data NamesGoOn (before after : Core) (line : Line) (n : Naming) : Naming → Type 0 where
  born : (slot : ℕ) → is_birth line ≡ true → (IsTaken (sight before) slot → ⊥) → IsTaken (sight after) slot → NamesGoOn before after line n (born_in n slot)
  same : is_birth line ≡ false → NamesGoOn before after line n n

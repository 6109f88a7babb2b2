-- The list of an actor over a run, and the private record that a list makes up.
use Rattle.std.specs.Prelude.{ℕ, ◌+◌, ◌==◌, if◌then◌else◌, Option, Some, None, List, [], ◌∷◌, fold}
use Rattle.rec_word.specs.Mailbox.{crossing_word}
use Rattle.rec_word.specs.declared.mailbox.Mailbox.TheVariants.{Retired}
use Rattle.rec_word.specs.declared.op.Op.{Op}
use Rattle.rec_mutator.specs.Next.{next_of}
use Rattle.rec_mutator.specs.Private.{Private}
use Rattle.rec_mutator.specs.Took.{begun_of, took_of, step_of, spare}
use Rattle.rec_collector.specs.Private as collectors
use Rattle.rec_collector.specs.Next as collector_next
use Rattle.rec_collector.specs.Took as collector_took
use Rattle.rec_collector.specs.declared.phase.Phase.{Phase}
use Rattle.rec_collector.specs.declared.phase.Phase.TheVariants.{Looking}
use Rattle.rec_core.specs.Core.{Core, cells_of, box}
use Rattle.rec_core.specs.Moves.{Move, found_by}
use Rattle.rec_core.specs.Run.{by_actor, Every, over}
use Rattle.rec_core.specs.Cells.{cell, births_of}
use Rattle.rec_table.specs.declared.views.Beat.{Beat}
use Rattle.rec_table.specs.declared.views.Beat.TheVariants.{Begins, Saw, Took}

-- what the collector's turn records, by phase: where it took a mailbox, what that held
abbrev pub looked : Core → (found : ℕ) → Phase → Beat
looked w found (Looking t) = if found == crossing_word w.collector.epoch Retired then Took found (box w t) else Saw found
looked w found _ = Saw found

abbrev pub turn_at : Core → Option Op → List Beat
turn_at w None = []
turn_at w (Some op) = looked w (cell (cells_of w) op) w.collector.phase ∷ []

-- what its maker records of a move
abbrev pub beats_in : Core → Move → List Beat
beats_in w (Move.Begins t work from) = Begins (record { work = work; from = from }) ∷ []
beats_in w (Move.Steps t) = Saw (found_by w t) ∷ []
beats_in w Move.Turns = turn_at w (collector_next.next_of w.collector)
beats_in w Move.Offers = []

-- what an actor records of a run: mutators are numbered from 1, and 0 is the collector
abbrev pub beats_of : (x : ℕ) → Core → List Move → List Beat
beats_of x w ms = over (by_actor x beats_in) w ms

-- what a beat makes of a mutator's private record: the mailbox that it takes holds a spare
abbrev pub learnt : Private → Beat → Private
learnt p (Begins start) = begun_of p start.work start.from
learnt p (Saw word) = step_of p word (spare (took_of p word))
learnt p (Took word b) = p

-- and a list
abbrev pub told : Private → List Beat → Private
told p bs = fold learnt p bs

-- what a beat makes of the collector's record: only where it took a mailbox is a buffer swapped
abbrev pub gathered : collectors.Private → Beat → collectors.Private
gathered c (Begins start) = c
gathered c (Saw word) = collector_took.took_of c word
gathered c (Took word b) = collector_took.step_of c word b

abbrev pub gathered_all : collectors.Private → List Beat → collectors.Private
gathered_all c bs = fold gathered c bs

-- a move that doesn't offer the slots
abbrev pub OffersNone : Move → Type 0
OffersNone Move.Offers = ⊥
OffersNone m = Unit {0}

-- a run in which the slots are never offered
abbrev pub Offerless : List Move → Type 0
Offerless ms = Every OffersNone ms

-- the births of a list
abbrev births_in : Private → Beat → ℕ
births_in p (Saw word) = births_of (next_of p) word
births_in p _ = 0

abbrev pub births_told : Private → List Beat → ℕ
births_told p [] = 0
births_told p (b ∷ bs) = births_in p b + births_told (learnt p b) bs

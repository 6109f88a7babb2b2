-- What the moves of a run tell: answers, freed objects, and the begins and ends of sweeps.
use Rattle.std.specs.Prelude.{Option, Some, List, [], ◌∷◌, ◌++◌}
use Rattle.rec_word.specs.declared.op.Op.{Op}
use Rattle.rec_word.specs.declared.op.Op.TheVariants.{FreeHeader, AddFreed}
use Rattle.rec_model.specs.LegalOrder.{Event}
use Rattle.rec_collector.specs.Next as collector_next
use Rattle.rec_core.specs.RunAnswers.{told_in}
use Rattle.rec_core.specs.Core.{Core}
use Rattle.rec_core.specs.Moves.{Move, after_move}
use Rattle.rec_order.specs.Naming.{Naming, named_after}

-- what a turn of the collector tells, by its operation: that a sweep began or ended, or that the object of the freed slot was freed
abbrev pub swept_by : Naming → Option Op → List Event
swept_by n (Some AddFreed) = Event.Marks ∷ []
swept_by n (Some (FreeHeader slot)) = Event.Frees (n.number slot) ∷ []
swept_by n _ = []

-- what a move tells: a step that answers a command its line, a turn what it sweeps
abbrev pub events_in : Naming → Core → Move → List Event
events_in n w Move.Turns = swept_by n (collector_next.next_of w.collector)
events_in n w m = told_in w m

-- what some moves tell, in their order
abbrev pub events_of : Naming → Core → List Move → List Event
events_of n w [] = []
events_of n w (m ∷ ms) = events_in n w m ++ events_of (named_after n w m) (after_move w m) ms
